use Rattle.std.proofs.Common.{◌≡◌, ◌+◌, List, ◌∷◌, drop, Bool, sym, ap, subst, ◌∙◌}
use Rattle.kinds.specs.declared.segment.Segment.{Segment}
use Rattle.inventory_rows.specs.version_groups.declared.copies.CopyRow.{CopyRow}
use Rattle.inventory_rows.proofs.of_version_groups.Lists.{drop_at}
use Rattle.inventory_bytes.specs.Segments.{filled, of_segments, of_copies, Fills}
use Rattle.inventory_bytes.proofs.Filling.{goes_on, stops}
use Rattle.inventory_bytes.proofs.segments.put_copies.Goals as goal

pub returns-then-not-branch : goal.returns-then-not-branch
returns-then-not-branch c =
    let left : drop c.copies.copy-index c.args.copies.now ≡ c.copy-item.result ∷ drop (c.copies.copy-index + 1) c.args.copies.now =
    drop_at c.args.copies.now c.copies.copy-index c.copy-item.result c.copies-test.true ∙ ap (λ (x : CopyRow). x ∷ drop (c.copies.copy-index + 1) c.args.copies.now) (sym c.copy-item.is) in
    stops (of_segments c.args.object c.copy-item.result.segments) (of_copies c.args.object (drop (c.copies.copy-index + 1) c.args.copies.now)) (of_copies c.args.object c.args.copies.now) c.args.volumes.now.entries c.copies.volumes.entries
    (subst (λ (xs : List CopyRow). filled (of_copies c.args.object xs) c.copies.volumes.entries ≡ filled (of_copies c.args.object c.args.copies.now) c.args.volumes.now.entries) left c.copies.invariant)
    (subst (λ (b : Bool). Fills b c.copies.volumes.entries c.put_segments.new.volumes.entries (of_segments c.args.object c.copy-item.result.segments)) c.if-not-branch.true
    (subst (λ (t : List Segment). Fills c.in_ok-put_segments.field-0 c.copies.volumes.entries c.put_segments.new.volumes.entries (of_segments c.args.object t)) c.as_slice.ensures.value c.in_ok-put_segments.ensures))

pub copies-preserved : goal.copies-preserved
copies-preserved c =
    let left : drop c.copies.copy-index c.args.copies.now ≡ c.copy-item.result ∷ drop (c.copies.copy-index + 1) c.args.copies.now =
    drop_at c.args.copies.now c.copies.copy-index c.copy-item.result c.copies-test.true ∙ ap (λ (x : CopyRow). x ∷ drop (c.copies.copy-index + 1) c.args.copies.now) (sym c.copy-item.is) in
    goes_on (of_segments c.args.object c.copy-item.result.segments) (of_copies c.args.object (drop (c.copies.copy-index + 1) c.args.copies.now)) (of_copies c.args.object c.args.copies.now) c.args.volumes.now.entries c.copies.volumes.entries c.put_segments.new.volumes.entries
    (subst (λ (xs : List CopyRow). filled (of_copies c.args.object xs) c.copies.volumes.entries ≡ filled (of_copies c.args.object c.args.copies.now) c.args.volumes.now.entries) left c.copies.invariant)
    (subst (λ (b : Bool). Fills b c.copies.volumes.entries c.put_segments.new.volumes.entries (of_segments c.args.object c.copy-item.result.segments)) c.if-not-branch.false
    (subst (λ (t : List Segment). Fills c.in_ok-put_segments.field-0 c.copies.volumes.entries c.put_segments.new.volumes.entries (of_segments c.args.object t)) c.as_slice.ensures.value c.in_ok-put_segments.ensures))
