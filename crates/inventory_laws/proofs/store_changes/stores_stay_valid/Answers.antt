use Rattle.inventory_laws.proofs.Joined.{stores_change, rings_stay}
use Rattle.inventory_laws.proofs.Numbers.{numbers_stay}
use Rattle.inventory_laws.proofs.VolumeLaws.{volume_reused}
use Rattle.inventory_laws.proofs.store_changes.stores_stay_valid.Goals as goal

pub returns-clause-changes : goal.returns-clause-changes
returns-clause-changes c j change v valid tied legal sizes fit = stores_change j change v valid tied legal sizes fit

pub returns-clause-rings : goal.returns-clause-rings
returns-clause-rings c j change v valid tied legal sizes fit apart = rings_stay j change v valid tied legal sizes fit apart

pub returns-clause-numbers : goal.returns-clause-numbers
returns-clause-numbers c change v valid apart = numbers_stay change v valid apart

pub returns-clause-reuse : goal.returns-clause-reuse
returns-clause-reuse c j file v valid tied legal sizes = volume_reused j file v valid tied legal sizes
