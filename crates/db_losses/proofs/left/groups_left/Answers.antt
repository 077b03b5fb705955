use Rattle.std.proofs.Common.{subst, List, ℕ}
use Rattle.std.specs.Cmp.Lexicographic.{nat_list_cmp_total, slice_cmp}
use Rattle.std.specs.Ordering.{nat_cmp}
use Rattle.inventory_rows.specs.version_groups.declared.group.Group.{Group}
use Rattle.db_losses.specs.Losses.{groups_left}
use Rattle.db_losses.proofs.Building.{Building, building_behind, building_next}
use Rattle.db_losses.proofs.Each.{group_first, group_one}
use Rattle.db_losses.proofs.left.groups_left.Goals as goal

pub put_group-requires : goal.put_group-requires
put_group-requires c =
    let made = groups_left c.args.losses.now in
    building_behind nat_list_cmp_total made c.args.groups.now.entries (c.in-Some.path.now, c.in-Some.group.now) c.next.new.self c.groups.out.entries
    (subst (λ (left : List (List ℕ × Group)). Building (slice_cmp nat_cmp) made c.args.groups.now.entries left c.groups.out.entries) c.in-Some.ensures.steps c.groups.invariant)

pub groups-preserved : goal.groups-preserved
groups-preserved c =
    let made = groups_left c.args.losses.now in
    building_next nat_list_cmp_total made c.args.groups.now.entries (group_first c.args.losses.now) (group_one c.args.losses.now) (c.in-Some.path.now, c.in-Some.group.now) c.next.new.self c.groups.out.entries c.put_group.new.out.entries c.in_ok-put_group.ensures.put
    (subst (λ (left : List (List ℕ × Group)). Building (slice_cmp nat_cmp) made c.args.groups.now.entries left c.groups.out.entries) c.in-Some.ensures.steps c.groups.invariant)
