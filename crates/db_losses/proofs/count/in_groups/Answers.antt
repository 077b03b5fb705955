use Rattle.std.proofs.Common.{◌≡◌, ◌+◌, ℕ, List, ap, length, subst, arith}
use Rattle.inventory_rows.specs.version_groups.declared.group.Group.{Group}
use Rattle.inventory_rows.specs.version_groups.declared.versions.Version.{Version}
use Rattle.inventory_rows.specs.object_rows.Filespaces.{versions_in}
use Rattle.db_losses.specs.Losses.{copies_in}
use Rattle.db_losses.proofs.Counts.{copies_joined}
use Rattle.db_losses.proofs.count.in_groups.Goals as goal

pub groups-preserved : goal.groups-preserved
groups-preserved c =
    let rest = c.next.new.self in
    let inv = subst (λ (left : List (List ℕ × Group)). c.groups.count + length (copies_in (versions_in left)) ≡ length (copies_in (versions_in c.args.groups.now.entries))) c.in-Some.ensures.steps c.groups.invariant in
    let joined = copies_joined (c.in-Some.group.now.versions) (versions_in rest) in
    let here = c.in_versions-count.ensures in
    let same = ap (λ (l : List Version). length (copies_in l)) c.as_slice.ensures.value in
    omega (arith, inv, joined, here, same)
