use Rattle.inventory_rules.specs.Copies.{added, change_copy}
use Rattle.inventory_rules.specs.Versions.{held_too, inserted}
use Rattle.inventory_laws.proofs.VolumeItems.{drops_kept, moved_kept, moves_kept, removes_kept, versions_kept}
use Rattle.inventory_laws.proofs.Keeping.{put_kept}
use Rattle.inventory_laws.proofs.volume_steps.items_change_clients.Goals as goal

pub returns-clause-backed_up : goal.returns-clause-backed_up
returns-clause-backed_up c filespace item v = put_kept item.object item.segments (inserted filespace item v)

pub returns-clause-held : goal.returns-clause-held
returns-clause-held c filespace item v = put_kept item.object item.segments (held_too filespace item v)

pub returns-clause-added : goal.returns-clause-added
returns-clause-added c item v = put_kept item.object item.segments (change_copy item.object (added item v) v)

pub returns-clause-put_moved : goal.returns-clause-put_moved
returns-clause-put_moved c items v = moved_kept items v

pub returns-clause-moved : goal.returns-clause-moved
returns-clause-moved c item v = moves_kept item v

pub returns-clause-dropped : goal.returns-clause-dropped
returns-clause-dropped c item v = drops_kept item v

pub returns-clause-removed : goal.returns-clause-removed
returns-clause-removed c step object v = removes_kept step object v

pub returns-clause-versions : goal.returns-clause-versions
returns-clause-versions c n v w k f = versions_kept n v w k f
