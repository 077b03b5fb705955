use Rattle.std.proofs.Common.{ℕ, List, Bool, Ok, subst}
use Rattle.std.specs.Ordering.{nat_cmp}
use Rattle.version_groups.specs.declared.group.Group.{Group}
use Rattle.version_groups.specs.declared.versions.Version.{Version}
use Rattle.object_rows.specs.Build.{Builds}
use Rattle.object_rows.specs.Places.{listed_at, listed_in}
use Rattle.object_rows.proofs.Builds.{Progress, step_part, stop_part}
use Rattle.object_rows.proofs.build.add_groups.Goals as goal

pub returns-then-not-branch : goal.returns-then-not-branch
returns-then-not-branch c =
    stop_part nat_cmp c.args.places.now.entries c.groups.places.entries c.add_versions.new.places.entries (listed_in c.args.number c.args.groups.now.entries) (listed_at c.args.number c.in-Some.path.now c.in-Some.group.now.versions) (listed_in c.args.number c.next.new.self)
    (subst (λ (left : List (List ℕ × Group)). Progress nat_cmp c.args.places.now.entries c.groups.places.entries (listed_in c.args.number c.args.groups.now.entries) (listed_in c.args.number left)) c.in-Some.ensures.steps c.groups.invariant)
    (subst (λ (b : Bool). Builds nat_cmp (Ok b) c.groups.places.entries c.add_versions.new.places.entries (listed_at c.args.number c.in-Some.path.now c.in-Some.group.now.versions)) c.if-not-branch.true
    (subst (λ (t : List Version). Builds nat_cmp (Ok c.in_ok-add_versions.field-0) c.groups.places.entries c.add_versions.new.places.entries (listed_at c.args.number c.in-Some.path.now t)) c.as_slice.ensures.value c.in_ok-add_versions.ensures))

pub groups-preserved : goal.groups-preserved
groups-preserved c =
    step_part nat_cmp c.args.places.now.entries c.groups.places.entries c.add_versions.new.places.entries (listed_in c.args.number c.args.groups.now.entries) (listed_at c.args.number c.in-Some.path.now c.in-Some.group.now.versions) (listed_in c.args.number c.next.new.self)
    (subst (λ (left : List (List ℕ × Group)). Progress nat_cmp c.args.places.now.entries c.groups.places.entries (listed_in c.args.number c.args.groups.now.entries) (listed_in c.args.number left)) c.in-Some.ensures.steps c.groups.invariant)
    (subst (λ (b : Bool). Builds nat_cmp (Ok b) c.groups.places.entries c.add_versions.new.places.entries (listed_at c.args.number c.in-Some.path.now c.in-Some.group.now.versions)) c.if-not-branch.false
    (subst (λ (t : List Version). Builds nat_cmp (Ok c.in_ok-add_versions.field-0) c.groups.places.entries c.add_versions.new.places.entries (listed_at c.args.number c.in-Some.path.now t)) c.as_slice.ensures.value c.in_ok-add_versions.ensures))
