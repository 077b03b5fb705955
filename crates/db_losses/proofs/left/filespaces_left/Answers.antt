use Rattle.std.proofs.Common.{subst, List, ℕ, refl, map}
use Rattle.std.specs.Cmp.{nat_cmp_total}
use Rattle.std.specs.Ordering.{nat_cmp}
use Rattle.inventory_rows.specs.version_groups.declared.groups.Filespace.{Filespace}
use Rattle.db_losses.specs.Losses.{filespace_left}
use Rattle.db_losses.proofs.Building.{Building, building_behind, building_next}
use Rattle.db_losses.proofs.Each.{filespace_one}
use Rattle.db_losses.proofs.left.filespaces_left.Goals as goal

pub put_filespace-requires : goal.put_filespace-requires
put_filespace-requires c =
    let made = map (filespace_left c.args.losses.now) in
    building_behind nat_cmp_total made c.args.filespaces.now.entries (c.in-Some.number.now, c.in-Some.filespace.now) c.next.new.self c.filespaces.out.entries
    (subst (λ (left : List (ℕ × Filespace)). Building nat_cmp made c.args.filespaces.now.entries left c.filespaces.out.entries) c.in-Some.ensures.steps c.filespaces.invariant)

pub filespaces-preserved : goal.filespaces-preserved
filespaces-preserved c =
    let made = map (filespace_left c.args.losses.now) in
    building_next nat_cmp_total made c.args.filespaces.now.entries (λ e rest. refl) (filespace_one c.args.losses.now) (c.in-Some.number.now, c.in-Some.filespace.now) c.next.new.self c.filespaces.out.entries c.put_filespace.new.out.entries c.in_ok-put_filespace.ensures.put
    (subst (λ (left : List (ℕ × Filespace)). Building nat_cmp made c.args.filespaces.now.entries left c.filespaces.out.entries) c.in-Some.ensures.steps c.filespaces.invariant)
