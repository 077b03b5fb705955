use Rattle.std.proofs.Common.{◌≡◌, ◌+◌, ℕ, List, ◌∷◌, cond, drop, Some, sym, ap, subst, ◌∙◌}
use Rattle.std.specs.Cmp.{nat_cmp_total}
use Rattle.std.specs.Map.{lookup}
use Rattle.std.specs.Ordering.{nat_cmp}
use Rattle.version_groups.specs.declared.versions.Version.{Version}
use Rattle.version_groups.proofs.Lists.{drop_at}
use Rattle.object_rows.specs.Filespaces.{at_number}
use Rattle.object_rows.specs.Places.{listed_at}
use Rattle.object_rows.proofs.Builds.{Progress, step_one, stop_one}
use Rattle.object_rows.proofs.Kept.{none_from}
use Rattle.object_rows.proofs.build.add_versions.Goals as goal

pub returns-then-contains_key : goal.returns-then-contains_key
returns-then-contains_key c =
    let left : drop c.versions.version-index c.args.versions.now ≡ c.version-item.result ∷ drop (c.versions.version-index + 1) c.args.versions.now =
    drop_at c.args.versions.now c.versions.version-index c.version-item.result c.versions-test.true ∙ ap (λ (v : Version). v ∷ drop (c.versions.version-index + 1) c.args.versions.now) (sym c.version-item.is) in
    stop_one nat_cmp_total (c.version-item.result.object, record { filespace = c.args.number; path = c.args.path.now }) c.args.places.now.entries c.versions.places.entries (listed_at c.args.number c.args.path.now c.args.versions.now)
    (listed_at c.args.number c.args.path.now (drop (c.versions.version-index + 1) c.args.versions.now))
    (subst (λ (vs : List Version). Progress nat_cmp c.args.places.now.entries c.versions.places.entries (listed_at c.args.number c.args.path.now c.args.versions.now) (listed_at c.args.number c.args.path.now vs)) left c.versions.invariant)
    (sym c.contains_key.ensures ∙ c.if-contains_key.true)

pub versions-preserved : goal.versions-preserved
versions-preserved c =
    let left : drop c.versions.version-index c.args.versions.now ≡ c.version-item.result ∷ drop (c.versions.version-index + 1) c.args.versions.now =
    drop_at c.args.versions.now c.versions.version-index c.version-item.result c.versions-test.true ∙ ap (λ (v : Version). v ∷ drop (c.versions.version-index + 1) c.args.versions.now) (sym c.version-item.is) in
    step_one nat_cmp_total (c.version-item.result.object, record { filespace = c.args.number; path = c.args.path.now }) c.args.places.now.entries c.versions.places.entries c.insert.new.self.entries (listed_at c.args.number c.args.path.now c.args.versions.now)
    (listed_at c.args.number c.args.path.now (drop (c.versions.version-index + 1) c.args.versions.now))
    (subst (λ (vs : List Version). Progress nat_cmp c.args.places.now.entries c.versions.places.entries (listed_at c.args.number c.args.path.now c.args.versions.now) (listed_at c.args.number c.args.path.now vs)) left c.versions.invariant)
    (none_from (lookup (at_number c.version-item.result.object) c.versions.places.entries) (sym c.contains_key.ensures ∙ c.if-contains_key.false))
    (λ q. c.in_ok-insert.ensures.updates.0 q ∙ ap (λ (t : List ℕ). cond (at_number c.version-item.result.object q) (Some (record { filespace = c.args.number; path = t })) (lookup (at_number q) c.versions.places.entries)) c.in_ok-clone.ensures.cases)
    c.in_ok-insert.field-0 c.in_ok-insert.ensures.old c.in_ok-insert.ensures.len
