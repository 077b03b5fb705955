use Rattle.std.proofs.Common.{◌≡◌, ℕ, List, Bool, subst}
use Rattle.inventory_rows.specs.version_groups.declared.group.Group.{Group}
use Rattle.inventory_rows.specs.version_groups.declared.groups.Filespace.{Filespace}
use Rattle.inventory_bytes.specs.Segments.{filled, of_filespaces, of_groups, Fills}
use Rattle.inventory_bytes.proofs.Filling.{goes_on, stops}
use Rattle.inventory_bytes.proofs.segments.put_filespaces.Goals as goal

pub returns-then-not-branch : goal.returns-then-not-branch
returns-then-not-branch c =
    stops (of_groups c.in-Some.filespace.now.groups) (of_filespaces c.next.new.self) (of_filespaces c.args.filespaces.now.entries) c.args.volumes.now.entries c.filespaces.volumes.entries
    (subst (λ (left : List (ℕ × Filespace)). filled (of_filespaces left) c.filespaces.volumes.entries ≡ filled (of_filespaces c.args.filespaces.now.entries) c.args.volumes.now.entries) c.in-Some.ensures.steps c.filespaces.invariant)
    (subst (λ (b : Bool). Fills b c.filespaces.volumes.entries c.put_groups.new.volumes.entries (of_groups c.in-Some.filespace.now.groups)) c.if-not-branch.true
    (subst (λ (t : List (List ℕ × Group)). Fills c.in_ok-put_groups.field-0 c.filespaces.volumes.entries c.put_groups.new.volumes.entries (of_groups t)) c.as_map.ensures.value c.in_ok-put_groups.ensures))

pub filespaces-preserved : goal.filespaces-preserved
filespaces-preserved c =
    goes_on (of_groups c.in-Some.filespace.now.groups) (of_filespaces c.next.new.self) (of_filespaces c.args.filespaces.now.entries) c.args.volumes.now.entries c.filespaces.volumes.entries c.put_groups.new.volumes.entries
    (subst (λ (left : List (ℕ × Filespace)). filled (of_filespaces left) c.filespaces.volumes.entries ≡ filled (of_filespaces c.args.filespaces.now.entries) c.args.volumes.now.entries) c.in-Some.ensures.steps c.filespaces.invariant)
    (subst (λ (b : Bool). Fills b c.filespaces.volumes.entries c.put_groups.new.volumes.entries (of_groups c.in-Some.filespace.now.groups)) c.if-not-branch.false
    (subst (λ (t : List (List ℕ × Group)). Fills c.in_ok-put_groups.field-0 c.filespaces.volumes.entries c.put_groups.new.volumes.entries (of_groups t)) c.as_map.ensures.value c.in_ok-put_groups.ensures))
