use Rattle.std.proofs.Common.{subst, List, ℕ}
use Rattle.std.specs.Cmp.{nat_cmp_total}
use Rattle.std.specs.Ordering.{nat_cmp}
use Rattle.inventory_rows.specs.object_rows.declared.held_object.HeldRow.{HeldRow}
use Rattle.db_losses.specs.Losses.{helds_left}
use Rattle.db_losses.proofs.Building.{Building, building_behind, building_next}
use Rattle.db_losses.proofs.Each.{held_first, held_one}
use Rattle.db_losses.proofs.left.helds_left.Goals as goal

pub put_held-requires : goal.put_held-requires
put_held-requires c =
    let made = helds_left c.args.losses.now in
    building_behind nat_cmp_total made c.args.held.now.entries (c.in-Some.object.now, c.in-Some.row.now) c.next.new.self c.held.out.entries
    (subst (λ (left : List (ℕ × HeldRow)). Building nat_cmp made c.args.held.now.entries left c.held.out.entries) c.in-Some.ensures.steps c.held.invariant)

pub held-preserved : goal.held-preserved
held-preserved c =
    let made = helds_left c.args.losses.now in
    building_next nat_cmp_total made c.args.held.now.entries (held_first c.args.losses.now) (held_one c.args.losses.now) (c.in-Some.object.now, c.in-Some.row.now) c.next.new.self c.held.out.entries c.put_held.new.out.entries c.in_ok-put_held.ensures.put
    (subst (λ (left : List (ℕ × HeldRow)). Building nat_cmp made c.args.held.now.entries left c.held.out.entries) c.in-Some.ensures.steps c.held.invariant)
