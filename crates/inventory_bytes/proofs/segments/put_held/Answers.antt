use Rattle.std.proofs.Common.{◌≡◌, ℕ, List, Bool, subst}
use Rattle.inventory_rows.specs.object_rows.declared.held_object.HeldRow.{HeldRow}
use Rattle.inventory_rows.specs.object_rows.HeldRows.{held_versions}
use Rattle.inventory_rows.specs.version_groups.declared.copies.CopyRow.{CopyRow}
use Rattle.inventory_bytes.specs.Segments.{filled, of_copies, of_versions, Fills}
use Rattle.inventory_bytes.proofs.Filling.{goes_on, stops}
use Rattle.inventory_bytes.proofs.segments.put_held.Goals as goal

pub returns-then-not-branch : goal.returns-then-not-branch
returns-then-not-branch c =
    let version = c.in-Some.row.now.held.version in
    stops (of_copies version.object version.copies) (of_versions (held_versions c.next.new.self)) (of_versions (held_versions c.args.held.now.entries)) c.args.volumes.now.entries c.held.volumes.entries
    (subst (λ (left : List (ℕ × HeldRow)). filled (of_versions (held_versions left)) c.held.volumes.entries ≡ filled (of_versions (held_versions c.args.held.now.entries)) c.args.volumes.now.entries) c.in-Some.ensures.steps c.held.invariant)
    (subst (λ (b : Bool). Fills b c.held.volumes.entries c.put_copies.new.volumes.entries (of_copies version.object version.copies)) c.if-not-branch.true
    (subst (λ (t : List CopyRow). Fills c.in_ok-put_copies.field-0 c.held.volumes.entries c.put_copies.new.volumes.entries (of_copies version.object t)) c.as_slice.ensures.value c.in_ok-put_copies.ensures))

pub held-preserved : goal.held-preserved
held-preserved c =
    let version = c.in-Some.row.now.held.version in
    goes_on (of_copies version.object version.copies) (of_versions (held_versions c.next.new.self)) (of_versions (held_versions c.args.held.now.entries)) c.args.volumes.now.entries c.held.volumes.entries c.put_copies.new.volumes.entries
    (subst (λ (left : List (ℕ × HeldRow)). filled (of_versions (held_versions left)) c.held.volumes.entries ≡ filled (of_versions (held_versions c.args.held.now.entries)) c.args.volumes.now.entries) c.in-Some.ensures.steps c.held.invariant)
    (subst (λ (b : Bool). Fills b c.held.volumes.entries c.put_copies.new.volumes.entries (of_copies version.object version.copies)) c.if-not-branch.false
    (subst (λ (t : List CopyRow). Fills c.in_ok-put_copies.field-0 c.held.volumes.entries c.put_copies.new.volumes.entries (of_copies version.object t)) c.as_slice.ensures.value c.in_ok-put_copies.ensures))
