-- The volumes that are seen, as they are noted one after the other.
use Rattle.std.proofs.Common.{◌≡◌, ℕ, List, [], ◌∷◌, ◌++◌, refl, sym, ap, subst, ◌∙◌, append_assoc}
use Rattle.std.specs.List.Sorted.{IsStrictlySortedBy}
use Rattle.std.specs.Map.{keys_of}
use Rattle.std.specs.Ordering.{nat_cmp}
use Rattle.pool_rows.specs.volume_rows.declared.volume.Volume.{Volume}
use Rattle.pool_rows.specs.pool_tables.Rows.{with_row}
use Rattle.pool_rows.proofs.of_pool_tables.Ascending.{last_row}
use Rattle.space.specs.declared.site.Site.{Site}
use Rattle.space.specs.Volumes.{site_of, seen}

keys_of-seen : (volumes : List (ℕ × Volume)) → keys_of (seen volumes) ≡ keys_of volumes
keys_of-seen [] = refl
keys_of-seen (f ∷ volumes) = ap (λ (ks : List ℕ). f.0 ∷ ks) (keys_of-seen volumes)

-- one volume more is noted
pub seen_next : (xs new : List (ℕ × Site)) (file : ℕ) (v : Volume) (ys it all : List (ℕ × Volume)) → it ≡ (file, v) ∷ ys → xs ++ seen it ≡ seen all → IsStrictlySortedBy nat_cmp (keys_of all) → new ≡ with_row file (site_of v) xs → new ++ seen ys ≡ seen all
seen_next xs new file v ys it all first whole sorted put =
    let e : xs ++ (file, site_of v) ∷ seen ys ≡ seen all = ap (λ (r : List (ℕ × Volume)). xs ++ seen r) (sym first) ∙ whole in
    let ascend : IsStrictlySortedBy nat_cmp (keys_of (xs ++ (file, site_of v) ∷ seen ys)) =
    subst (λ (ks : List ℕ). IsStrictlySortedBy nat_cmp ks) (sym (ap (λ (r : List (ℕ × Site)). keys_of r) e ∙ keys_of-seen all)) sorted in
    let at = last_row xs file (site_of v) (seen ys) ascend in
    ap (λ (r : List (ℕ × Site)). r ++ seen ys) (put ∙ at.0) ∙ append_assoc xs ((file, site_of v) ∷ []) (seen ys) ∙ e
