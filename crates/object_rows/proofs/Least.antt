-- The least of some numbers, found in parts.
use Rattle.std.proofs.Common.{◌≡◌, ℕ, ◌+◌, ◌<◌, List, [], ◌∷◌, ◌++◌, length, get_or, drop, map, Option, Some, None, refl, sym, ap, ◌∙◌}
use Rattle.std.proofs.lemmas.List.{map-append}
use Rattle.version_groups.specs.declared.group.Group.{Group}
use Rattle.version_groups.specs.declared.versions.Version.{Version}
use Rattle.version_groups.proofs.Lists.{drop_at}
use Rattle.version_groups.specs.kinds.Least.{lesser}
use Rattle.version_groups.proofs.of_kinds.LeastLaws.{lesser_assoc}
use Rattle.object_rows.specs.Changes.{least, least_object}
use Rattle.object_rows.specs.Filespaces.{versions_in}

pub least-append : (ns ms : List ℕ) → least (ns ++ ms) ≡ lesser (least ns) (least ms)
least-append [] ms = refl
least-append (n ∷ ns) ms = ap (lesser (Some n)) (least-append ns ms) ∙ sym (lesser_assoc (Some n) (least ns) (least ms))

-- one version more
pub least_more : (found : Option ℕ) (vs : List Version) (i : ℕ) (d : Version) (all : Option ℕ) → i < length vs → lesser found (least (map (λ (v : Version). v.object) (drop i vs))) ≡ all
    → lesser (lesser found (Some (get_or vs i d).object)) (least (map (λ (v : Version). v.object) (drop (i + 1) vs))) ≡ all
least_more found vs i d all l h =
    lesser_assoc found (Some (get_or vs i d).object) (least (map (λ (v : Version). v.object) (drop (i + 1) vs)))
    ∙ sym (ap (λ ws. lesser found (least (map (λ (v : Version). v.object) ws))) (drop_at vs i d l)) ∙ h

-- one group more
pub least_group_more : (found : Option ℕ) (g : List ℕ × Group) (gs : List (List ℕ × Group)) → lesser (lesser found (least (map (λ (v : Version). v.object) g.1.versions))) (least_object gs) ≡ lesser found (least_object (g ∷ gs))
least_group_more found g gs =
    lesser_assoc found (least (map (λ (v : Version). v.object) g.1.versions)) (least_object gs)
    ∙ ap (lesser found) (sym (ap least (map-append (λ (v : Version). v.object) g.1.versions (versions_in gs)) ∙ least-append (map (λ (v : Version). v.object) g.1.versions) (map (λ (v : Version). v.object) (versions_in gs))))

is_there : (n : ℕ) (o : Option ℕ) → lesser (Some n) o ≡ None → ⊥
is_there n None h = absurd (cc)
is_there n (Some m) h = absurd (cc)

-- there is a least number of each list but the empty one
pub least_of_none : (vs : List Version) → least (map (λ (v : Version). v.object) vs) ≡ None → vs ≡ []
least_of_none [] h = refl
least_of_none (v ∷ vs) h = absurd (is_there v.object (least (map (λ (w : Version). w.object) vs)) h)
