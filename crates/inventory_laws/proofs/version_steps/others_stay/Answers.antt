use Rattle.inventory_rules.specs.inventory_rows.object_rows.Rows.{rows_cleared, rows_without}
use Rattle.inventory_laws.proofs.Leaves.{cleared, other_after, without}
use Rattle.inventory_laws.proofs.Others.{objects_copied, other_copied, place_stays}
use Rattle.inventory_laws.proofs.version_steps.others_stay.Goals as goal

pub returns-clause-copied : goal.returns-clause-copied
returns-clause-copied c object other step v h = other_copied object other step v h

pub returns-clause-objects : goal.returns-clause-objects
returns-clause-objects c object step v = objects_copied object step v

pub returns-clause-expired : goal.returns-clause-expired
returns-clause-expired c n filespace object other path v old f there under ne = other_after n object other old v (rows_cleared filespace path object) there (cleared n filespace object path v old f there under) ne

pub returns-clause-discarded : goal.returns-clause-discarded
returns-clause-discarded c n object other v old f o there ne = other_after n object other old v (rows_without object) there (without n object v old f o there) ne

pub returns-clause-places : goal.returns-clause-places
returns-clause-places c filespace object other path v h = place_stays filespace object other path v h
