use Rattle.inventory_laws.proofs.ClassLaws as classes
use Rattle.inventory_laws.proofs.Facts.{facts_of}
use Rattle.inventory_laws.proofs.MadeRows.{can_reuse, can_stores}
use Rattle.inventory_laws.proofs.PoolLaws as pools
use Rattle.inventory_laws.proofs.StoreCounts as counts
use Rattle.inventory_laws.proofs.VolumeLaws as volumes
use Rattle.inventory_laws.proofs.by_kind.stores_by_kind.Goals as goal

pub returns-clause-class_defined : goal.returns-clause-class_defined
returns-clause-class_defined c j class capacity v valid tied legal sizes = classes.class_defined j class capacity v valid tied legal sizes

pub returns-clause-class_deleted : goal.returns-clause-class_deleted
returns-clause-class_deleted c j class capacity v valid tied legal sizes = classes.class_deleted j class capacity v valid tied legal sizes

pub returns-clause-pool_defined : goal.returns-clause-pool_defined
returns-clause-pool_defined c j name class kind rule v valid tied legal sizes = pools.pool_defined j name class kind rule v valid tied legal sizes

pub returns-clause-pool_deleted : goal.returns-clause-pool_deleted
returns-clause-pool_deleted c j name class kind rule v valid tied legal sizes fit = pools.pool_deleted j name class kind rule v valid tied legal sizes fit

pub returns-clause-volume_defined : goal.returns-clause-volume_defined
returns-clause-volume_defined c j name number file capacity access v valid tied legal sizes fit = volumes.volume_defined j name number file capacity access v valid tied legal sizes fit

pub returns-clause-volume_updated : goal.returns-clause-volume_updated
returns-clause-volume_updated c j name number file capacity access v valid tied legal sizes = volumes.volume_updated j name number file capacity access v valid tied legal sizes

pub returns-clause-volume_deleted : goal.returns-clause-volume_deleted
returns-clause-volume_deleted c j name number file capacity access v valid tied legal sizes = volumes.volume_deleted j name number file capacity access v valid tied legal sizes

pub returns-clause-stores_counted : goal.returns-clause-stores_counted
returns-clause-stores_counted c j x v valid legal new = counts.stores_counted x v (facts_of v valid) legal new

pub returns-clause-stores_less : goal.returns-clause-stores_less
returns-clause-stores_less c x v old = counts.stores_take x v old

pub returns-clause-reused_less : goal.returns-clause-reused_less
returns-clause-reused_less c file v = counts.reuse_takes file v

pub returns-clause-stores_made : goal.returns-clause-stores_made
returns-clause-stores_made c j x v facts legal fit = can_stores x v facts legal fit

pub returns-clause-reused_made : goal.returns-clause-reused_made
returns-clause-reused_made c j file v facts legal = can_reuse file v facts legal
