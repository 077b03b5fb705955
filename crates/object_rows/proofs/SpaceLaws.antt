-- The index of places once a filespace is defined or deleted.
use Rattle.std.proofs.Common.{◌≡◌, ℕ, Bool, true, false, cond, List, [], ◌∷◌, Some, None, refl, sym, ap, subst, ◌∙◌}
use Rattle.std.specs.BTreeMap.{insert_entry}
use Rattle.std.specs.List.Sorted.{IsStrictlySortedBy}
use Rattle.std.specs.Map.{keys_of, remove_entry}
use Rattle.std.specs.Ordering.{match_ordering, nat_cmp}
use Rattle.std.specs.declared.cmp.Ordering.TheVariants.{Less, Equal, Greater}
use Rattle.version_groups.specs.declared.group.Group.{Group}
use Rattle.version_groups.specs.declared.groups.Filespace.{Filespace}
use Rattle.version_groups.specs.Groups.{AreByPath}
use Rattle.object_rows.specs.declared.place.Place.{Place}
use Rattle.object_rows.specs.Changes.{least_object}
use Rattle.object_rows.specs.Filespaces.{at_number, filespace_at, versions_in}
use Rattle.object_rows.specs.Index.{IsIndex}
use Rattle.object_rows.specs.Places.{AreAllOrderly, AreOrderly, Indexed, listed, listed_in}
use Rattle.object_rows.proofs.Least.{least_of_none}
use Rattle.object_rows.proofs.Splices.{Splices, flatten-remove_entry, splice_new, splice_same}
use Rattle.object_rows.proofs.Stands.{keys-listed_in, numbers}

orderly-insert : (fs : List (ℕ × Filespace)) (n : ℕ) (f : Filespace) → AreAllOrderly fs → AreOrderly f.groups → AreAllOrderly (insert_entry nat_cmp fs n f)
orderly-insert [] n f a h = (h, tt)
orderly-insert (e ∷ fs) n f a h =
    elim (nat_cmp n e.0) as (λ r. AreAllOrderly (match_ordering r ((n, f) ∷ e ∷ fs) ((e.0, f) ∷ fs) (e ∷ insert_entry nat_cmp fs n f))) [
      | Less ↦ (h, a)
      | Equal ↦ (h, a.1)
      | Greater ↦ (a.0, orderly-insert fs n f a.1 h)
    ]

orderly-remove : (test : ℕ → Bool) (fs : List (ℕ × Filespace)) → AreAllOrderly fs → AreAllOrderly (remove_entry test fs)
orderly-remove test [] a = a
orderly-remove test (e ∷ fs) a = elim (test e.0) as (λ b. AreAllOrderly (cond b fs (e ∷ remove_entry test fs))) [ true ↦ a.1 | false ↦ (a.0, orderly-remove test fs a.1) ]

no_groups : AreByPath []
unfolding IsStrictlySortedBy
no_groups = tt

pub space_defined : (places : List (ℕ × Place)) (fs new : List (ℕ × Filespace)) (n : ℕ) (f : Filespace) → Indexed places fs → filespace_at n fs ≡ None → f.groups ≡ [] → new ≡ insert_entry nat_cmp fs n f → IsStrictlySortedBy nat_cmp (keys_of new) → Indexed places new
space_defined places fs new n f i free empty entries sorted =
    let s : Splices [] (listed_in n f.groups) (listed fs) (listed (insert_entry nat_cmp fs n f)) = splice_new (λ (m : ℕ) (x : Filespace). listed_in m x.groups) nat_cmp n f fs free in
    let same : listed new ≡ listed fs = ap listed entries ∙ splice_same (subst (λ (gs : List (List ℕ × Group)). Splices [] (listed_in n gs) (listed fs) (listed (insert_entry nat_cmp fs n f))) empty s) in
    record {
      index = subst (IsIndex nat_cmp places) (sym same) i.index;
      by_number = sorted;
      orderly = subst AreAllOrderly (sym entries) (orderly-insert fs n f i.orderly (subst AreOrderly (sym empty) (no_groups, refl)));
    }

no_keys : (xs : List (ℕ × Place)) → keys_of xs ≡ [] → xs ≡ []
no_keys [] h = refl
no_keys (x ∷ xs) h = absurd (cc)

pub space_deleted : (places : List (ℕ × Place)) (fs new : List (ℕ × Filespace)) (n : ℕ) (f : Filespace) → Indexed places fs → filespace_at n fs ≡ Some f → least_object f.groups ≡ None → new ≡ remove_entry (at_number n) fs → IsStrictlySortedBy nat_cmp (keys_of new) → Indexed places new
space_deleted places fs new n f i there unused entries sorted =
    let same : listed new ≡ listed fs =
    ap listed entries ∙ flatten-remove_entry (λ (m : ℕ) (x : Filespace). listed_in m x.groups) (at_number n) fs f there (λ m. no_keys (listed_in m f.groups) (keys-listed_in m f.groups ∙ ap numbers (least_of_none (versions_in f.groups) unused))) in
    record {
      index = subst (IsIndex nat_cmp places) (sym same) i.index;
      by_number = sorted;
      orderly = subst AreAllOrderly (sym entries) (orderly-remove (at_number n) fs i.orderly);
    }
