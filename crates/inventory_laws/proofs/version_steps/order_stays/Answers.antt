use Rattle.inventory_rules.specs.inventory_rows.object_rows.Rows.{rows_cleared, rows_without}
use Rattle.inventory_laws.proofs.Leaves.{cleared, ordered_after, without}
use Rattle.inventory_laws.proofs.Ordered.{ordered_change, ordered_copy, ordered_held, ordered_inserted}
use Rattle.inventory_laws.proofs.version_steps.order_stays.Goals as goal

pub returns-clause-copied : goal.returns-clause-copied
returns-clause-copied c object step v o = ordered_copy object step v o

pub returns-clause-grouped : goal.returns-clause-grouped
returns-clause-grouped c filespace path step v o = ordered_change filespace path step v o

pub returns-clause-expired : goal.returns-clause-expired
returns-clause-expired c n filespace object path v old f there under o = ordered_after n object old v (rows_cleared filespace path object) (cleared n filespace object path v old f there under) o

pub returns-clause-discarded : goal.returns-clause-discarded
returns-clause-discarded c n object v old f there o = ordered_after n object old v (rows_without object) (without n object v old f o there) o

pub returns-clause-stored : goal.returns-clause-stored
returns-clause-stored c filespace item v o = ordered_inserted filespace item v o

pub returns-clause-held : goal.returns-clause-held
returns-clause-held c filespace item v o = ordered_held filespace item v o
