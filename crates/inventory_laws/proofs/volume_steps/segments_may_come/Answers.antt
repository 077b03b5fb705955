use Rattle.inventory_laws.proofs.Coming.{come_swapped, moved_copies_come, new_copies_come, new_held_come, new_versions_come}
use Rattle.inventory_laws.proofs.VolumeItems.{moved_come, puts_come}
use Rattle.inventory_laws.proofs.volume_steps.segments_may_come.Goals as goal

pub returns-clause-new_versions : goal.returns-clause-new_versions
returns-clause-new_versions c items v h = new_versions_come items v h

pub returns-clause-new_held : goal.returns-clause-new_held
returns-clause-new_held c items v h = new_held_come items v h

pub returns-clause-new_copies : goal.returns-clause-new_copies
returns-clause-new_copies c items v h = new_copies_come items v h

pub returns-clause-moved : goal.returns-clause-moved
returns-clause-moved c items v h = moved_copies_come items v h

pub returns-clause-put : goal.returns-clause-put
returns-clause-put c p object n segments v rest f m = puts_come p object n segments v rest f m

pub returns-clause-put_moved : goal.returns-clause-put_moved
returns-clause-put_moved c p items v rest f m = moved_come p items v rest f m

pub returns-clause-swap : goal.returns-clause-swap
returns-clause-swap c a b p v w rest same r m = come_swapped a b p v w rest same r m
