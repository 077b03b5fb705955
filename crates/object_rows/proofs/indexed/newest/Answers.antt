use Rattle.std.proofs.Common.{◌≡◌, ◌≤◌, List, [], ◌∷◌, length, get_or, Option, Some, sym, refl, ap, subst, ◌∙◌, arith}
use Rattle.version_groups.specs.declared.group.Group.{Group}
use Rattle.version_groups.specs.declared.groups.Filespace.{Filespace}
use Rattle.version_groups.specs.declared.versions.Version.{Version}
use Rattle.version_groups.specs.Groups as grouped
use Rattle.object_rows.specs.Filespaces.{groups_in}
use Rattle.object_rows.specs.Rows.{NewestIs}
use Rattle.object_rows.proofs.indexed.newest.Goals as goal

newest_is : (vs : List Version) (d : Version) → 1 ≤ length vs → d ≡ get_or vs 0 d → NewestIs (Some d.object) vs
newest_is [] d l h = absurd (omega arith)
newest_is (v ∷ vs) d l h = (v, vs, refl, ap (λ (w : Version). w.object) (sym h))

pub returns-in-len1-up : goal.returns-in-len1-up
returns-in-len1-up c =
    subst (NewestIs (Some c.newest-item.result.object))
    (c.as_slice.ensures.value
    ∙ ap (λ (o : Option Group). grouped.versions_in o) c.in-Some-get.ensures
    ∙ ap (λ (o : Option Filespace). grouped.versions_at c.args.path.now (groups_in o)) c.in-Some.ensures.value)
    (newest_is c.as_slice.result.now c.newest-item.result c.in-len1-up.len_at_least c.newest-item.is)
