use Rattle.inventory_rules.specs.inventory_rows.object_rows.Rows.{rows_cleared, rows_without}
use Rattle.inventory_laws.proofs.GroupSteps.{gone, rebound}
use Rattle.inventory_laws.proofs.Leaves.{cleared, facts_after, order_after, without}
use Rattle.inventory_laws.proofs.version_steps.groups_change.Goals as goal

pub returns-clause-expired : goal.returns-clause-expired
returns-clause-expired c n filespace object path v old f there under =
    let g = cleared n filespace object path v old f there under in
    (facts_after n object old v (rows_cleared filespace path object) g, order_after n object old v (rows_cleared filespace path object) g)

pub returns-clause-discarded : goal.returns-clause-discarded
returns-clause-discarded c n object v old f o there =
    let g = without n object v old f o there in
    (facts_after n object old v (rows_without object) g, order_after n object old v (rows_without object) g)

pub returns-clause-gone : goal.returns-clause-gone
returns-clause-gone c n filespace object path v f = gone n filespace object path v f

pub returns-clause-rebound : goal.returns-clause-rebound
returns-clause-rebound c n filespace path class v f = rebound n filespace path class v f
