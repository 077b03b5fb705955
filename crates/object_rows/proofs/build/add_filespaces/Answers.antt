use Rattle.std.proofs.Common.{ℕ, List, Bool, Ok, subst}
use Rattle.std.specs.Ordering.{nat_cmp}
use Rattle.version_groups.specs.declared.group.Group.{Group}
use Rattle.version_groups.specs.declared.groups.Filespace.{Filespace}
use Rattle.object_rows.specs.Build.{Builds}
use Rattle.object_rows.specs.Places.{listed, listed_in}
use Rattle.object_rows.proofs.Builds.{Progress, step_part, stop_part}
use Rattle.object_rows.proofs.build.add_filespaces.Goals as goal

pub returns-then-not-branch : goal.returns-then-not-branch
returns-then-not-branch c =
    stop_part nat_cmp c.args.places.now.entries c.filespaces.places.entries c.add_groups.new.places.entries (listed c.args.filespaces.now.entries) (listed_in c.in-Some.number.now c.in-Some.filespace.now.groups) (listed c.next.new.self)
    (subst (λ (left : List (ℕ × Filespace)). Progress nat_cmp c.args.places.now.entries c.filespaces.places.entries (listed c.args.filespaces.now.entries) (listed left)) c.in-Some.ensures.steps c.filespaces.invariant)
    (subst (λ (b : Bool). Builds nat_cmp (Ok b) c.filespaces.places.entries c.add_groups.new.places.entries (listed_in c.in-Some.number.now c.in-Some.filespace.now.groups)) c.if-not-branch.true
    (subst (λ (t : List (List ℕ × Group)). Builds nat_cmp (Ok c.in_ok-add_groups.field-0) c.filespaces.places.entries c.add_groups.new.places.entries (listed_in c.in-Some.number.now t)) c.as_map.ensures.value c.in_ok-add_groups.ensures))

pub filespaces-preserved : goal.filespaces-preserved
filespaces-preserved c =
    step_part nat_cmp c.args.places.now.entries c.filespaces.places.entries c.add_groups.new.places.entries (listed c.args.filespaces.now.entries) (listed_in c.in-Some.number.now c.in-Some.filespace.now.groups) (listed c.next.new.self)
    (subst (λ (left : List (ℕ × Filespace)). Progress nat_cmp c.args.places.now.entries c.filespaces.places.entries (listed c.args.filespaces.now.entries) (listed left)) c.in-Some.ensures.steps c.filespaces.invariant)
    (subst (λ (b : Bool). Builds nat_cmp (Ok b) c.filespaces.places.entries c.add_groups.new.places.entries (listed_in c.in-Some.number.now c.in-Some.filespace.now.groups)) c.if-not-branch.false
    (subst (λ (t : List (List ℕ × Group)). Builds nat_cmp (Ok c.in_ok-add_groups.field-0) c.filespaces.places.entries c.add_groups.new.places.entries (listed_in c.in-Some.number.now t)) c.as_map.ensures.value c.in_ok-add_groups.ensures))
