use Rattle.std.proofs.Common.{◌≡◌, ℕ, List, Bool, subst}
use Rattle.inventory_rows.specs.version_groups.declared.group.Group.{Group}
use Rattle.inventory_rows.specs.version_groups.declared.versions.Version.{Version}
use Rattle.inventory_bytes.specs.Segments.{filled, of_groups, of_versions, Fills}
use Rattle.inventory_bytes.proofs.Filling.{goes_on, stops}
use Rattle.inventory_bytes.proofs.segments.put_groups.Goals as goal

pub returns-then-not-branch : goal.returns-then-not-branch
returns-then-not-branch c =
    stops (of_versions c.in-Some.group.now.versions) (of_groups c.next.new.self) (of_groups c.args.groups.now.entries) c.args.volumes.now.entries c.groups.volumes.entries
    (subst (λ (left : List (List ℕ × Group)). filled (of_groups left) c.groups.volumes.entries ≡ filled (of_groups c.args.groups.now.entries) c.args.volumes.now.entries) c.in-Some.ensures.steps c.groups.invariant)
    (subst (λ (b : Bool). Fills b c.groups.volumes.entries c.put_versions.new.volumes.entries (of_versions c.in-Some.group.now.versions)) c.if-not-branch.true
    (subst (λ (t : List (Version)). Fills c.in_ok-put_versions.field-0 c.groups.volumes.entries c.put_versions.new.volumes.entries (of_versions t)) c.as_slice.ensures.value c.in_ok-put_versions.ensures))

pub groups-preserved : goal.groups-preserved
groups-preserved c =
    goes_on (of_versions c.in-Some.group.now.versions) (of_groups c.next.new.self) (of_groups c.args.groups.now.entries) c.args.volumes.now.entries c.groups.volumes.entries c.put_versions.new.volumes.entries
    (subst (λ (left : List (List ℕ × Group)). filled (of_groups left) c.groups.volumes.entries ≡ filled (of_groups c.args.groups.now.entries) c.args.volumes.now.entries) c.in-Some.ensures.steps c.groups.invariant)
    (subst (λ (b : Bool). Fills b c.groups.volumes.entries c.put_versions.new.volumes.entries (of_versions c.in-Some.group.now.versions)) c.if-not-branch.false
    (subst (λ (t : List (Version)). Fills c.in_ok-put_versions.field-0 c.groups.volumes.entries c.put_versions.new.volumes.entries (of_versions t)) c.as_slice.ensures.value c.in_ok-put_versions.ensures))
