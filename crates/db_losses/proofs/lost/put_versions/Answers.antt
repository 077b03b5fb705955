use Rattle.std.proofs.Common.{refl}
use Rattle.inventory_rows.specs.version_groups.declared.versions.Version.{Version}
use Rattle.std.proofs.Common.{List, ℕ, ◌∷◌, []}
use Rattle.inventory_effects.proofs.Loops.{last, next}
use Rattle.db_losses.specs.declared.lost.Lost.{Lost}
use Rattle.db_losses.specs.Lost.{all_put, lost_in_versions}
use Rattle.db_losses.proofs.Losing.{version_next}
use Rattle.db_losses.proofs.lost.put_versions.Goals as goal

pub versions-preserved : goal.versions-preserved
versions-preserved c =
    let losses = c.args.losses.now in
    let node = c.args.node.now in
    let space = c.args.filespace.now in
    let path = c.args.path.now in
    next (λ (x : Version) (s : List (ℕ × Lost)). all_put (lost_in_versions losses node space path (x ∷ [])) s) (λ (xs : List Version) (s : List (ℕ × Lost)). all_put (lost_in_versions losses node space path xs) s)
    (λ x xs s. version_next losses node space path x xs s) c.args.versions.now c.versions.version-index c.version-item.result c.versions.out.entries c.put_version.new.out.entries _ c.versions-test.true c.version-item.is c.in_ok-put_version.ensures.put c.versions.invariant

pub returns-clause-put : goal.returns-clause-put
returns-clause-put c =
    let losses = c.args.losses.now in
    let node = c.args.node.now in
    let space = c.args.filespace.now in
    let path = c.args.path.now in
    last (λ (x : Version) (s : List (ℕ × Lost)). all_put (lost_in_versions losses node space path (x ∷ [])) s) (λ (xs : List Version) (s : List (ℕ × Lost)). all_put (lost_in_versions losses node space path xs) s)
    (λ s. refl) c.args.versions.now c.versions.version-index c.versions.out.entries _ c.versions-test.false c.versions.invariant
