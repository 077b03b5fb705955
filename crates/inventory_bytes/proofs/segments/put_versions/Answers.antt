use Rattle.std.proofs.Common.{◌≡◌, ◌+◌, List, ◌∷◌, drop, Bool, sym, ap, subst, ◌∙◌}
use Rattle.inventory_rows.specs.version_groups.declared.copies.CopyRow.{CopyRow}
use Rattle.inventory_rows.specs.version_groups.declared.versions.Version.{Version}
use Rattle.inventory_rows.proofs.of_version_groups.Lists.{drop_at}
use Rattle.inventory_bytes.specs.Segments.{filled, of_copies, of_versions, Fills}
use Rattle.inventory_bytes.proofs.Filling.{goes_on, stops}
use Rattle.inventory_bytes.proofs.segments.put_versions.Goals as goal

pub returns-then-not-branch : goal.returns-then-not-branch
returns-then-not-branch c =
    let left : drop c.versions.version-index c.args.versions.now ≡ c.version-item.result ∷ drop (c.versions.version-index + 1) c.args.versions.now =
    drop_at c.args.versions.now c.versions.version-index c.version-item.result c.versions-test.true ∙ ap (λ (x : Version). x ∷ drop (c.versions.version-index + 1) c.args.versions.now) (sym c.version-item.is) in
    stops (of_copies c.version-item.result.object c.version-item.result.copies) (of_versions (drop (c.versions.version-index + 1) c.args.versions.now)) (of_versions c.args.versions.now) c.args.volumes.now.entries c.versions.volumes.entries
    (subst (λ (xs : List Version). filled (of_versions xs) c.versions.volumes.entries ≡ filled (of_versions c.args.versions.now) c.args.volumes.now.entries) left c.versions.invariant)
    (subst (λ (b : Bool). Fills b c.versions.volumes.entries c.put_copies.new.volumes.entries (of_copies c.version-item.result.object c.version-item.result.copies)) c.if-not-branch.true
    (subst (λ (t : List CopyRow). Fills c.in_ok-put_copies.field-0 c.versions.volumes.entries c.put_copies.new.volumes.entries (of_copies c.version-item.result.object t)) c.as_slice.ensures.value c.in_ok-put_copies.ensures))

pub versions-preserved : goal.versions-preserved
versions-preserved c =
    let left : drop c.versions.version-index c.args.versions.now ≡ c.version-item.result ∷ drop (c.versions.version-index + 1) c.args.versions.now =
    drop_at c.args.versions.now c.versions.version-index c.version-item.result c.versions-test.true ∙ ap (λ (x : Version). x ∷ drop (c.versions.version-index + 1) c.args.versions.now) (sym c.version-item.is) in
    goes_on (of_copies c.version-item.result.object c.version-item.result.copies) (of_versions (drop (c.versions.version-index + 1) c.args.versions.now)) (of_versions c.args.versions.now) c.args.volumes.now.entries c.versions.volumes.entries c.put_copies.new.volumes.entries
    (subst (λ (xs : List Version). filled (of_versions xs) c.versions.volumes.entries ≡ filled (of_versions c.args.versions.now) c.args.volumes.now.entries) left c.versions.invariant)
    (subst (λ (b : Bool). Fills b c.versions.volumes.entries c.put_copies.new.volumes.entries (of_copies c.version-item.result.object c.version-item.result.copies)) c.if-not-branch.false
    (subst (λ (t : List CopyRow). Fills c.in_ok-put_copies.field-0 c.versions.volumes.entries c.put_copies.new.volumes.entries (of_copies c.version-item.result.object t)) c.as_slice.ensures.value c.in_ok-put_copies.ensures))
