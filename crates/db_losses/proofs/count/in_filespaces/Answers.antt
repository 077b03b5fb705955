use Rattle.std.proofs.Common.{◌≡◌, ◌+◌, ℕ, List, ap, length, subst, arith}
use Rattle.inventory_rows.specs.version_groups.declared.groups.Filespace.{Filespace}
use Rattle.inventory_rows.specs.version_groups.declared.group.Group.{Group}
use Rattle.inventory_rows.specs.object_rows.Filespaces.{versions_in, versions_of}
use Rattle.db_losses.specs.Losses.{copies_in}
use Rattle.db_losses.proofs.Counts.{copies_joined}
use Rattle.db_losses.proofs.count.in_filespaces.Goals as goal

pub filespaces-preserved : goal.filespaces-preserved
filespaces-preserved c =
    let rest = c.next.new.self in
    let inv = subst (λ (left : List (ℕ × Filespace)). c.filespaces.count + length (copies_in (versions_of left)) ≡ length (copies_in (versions_of c.args.filespaces.now.entries))) c.in-Some.ensures.steps c.filespaces.invariant in
    let joined = copies_joined (versions_in c.in-Some.filespace.now.groups) (versions_of rest) in
    let here = c.in_groups-count.ensures in
    let same = ap (λ (l : List (List ℕ × Group)). length (copies_in (versions_in l))) c.as_map.ensures.value in
    omega (arith, inv, joined, here, same)
