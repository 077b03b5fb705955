-- The index of places after each change.
use Rattle.std.proofs.Common.{◌≡◌, ◌⊎◌, ℕ, ◌+◌, Bool, true, false, cond, List, [], ◌∷◌, ◌++◌, length, Option, Some, None, Result, Ok, refl, sym, ap, subst, ◌∙◌, ⊎_elim}
use Rattle.std.proofs.lemmas.Bool.{false≢true}
use Rattle.std.specs.Cmp.{nat_cmp_total}
use Rattle.std.specs.List.Sorted.{IsStrictlySortedBy}
use Rattle.std.specs.Map.{keys_of, lookup}
use Rattle.std.specs.Option.{is_some}
use Rattle.std.specs.Ordering.{nat_cmp}
use Rattle.version_groups.specs.kinds.declared.refusal.Refusal.{Refusal}
use Rattle.version_groups.specs.declared.copies.CopyChange.{CopyChange}
use Rattle.version_groups.specs.declared.group.Group.{Group}
use Rattle.version_groups.specs.declared.group.GroupChange.{GroupChange}
use Rattle.version_groups.specs.declared.group.GroupChange.TheVariants.{Remove, Undo}
use Rattle.version_groups.specs.declared.groups.Filespace.{Filespace}
use Rattle.version_groups.specs.declared.versions.Version.{Version}
use Rattle.version_groups.specs.Groups.{groups_after, groups_altered, groups_with, versions_after}
use Rattle.version_groups.specs.Versions.{has_object, are_distinct, undone}
use Rattle.object_rows.specs.declared.place.Place.{Place}
use Rattle.object_rows.specs.Filespaces.{at_number, filespaces_after, filespaces_altered_at, filespaces_with, versions_at, versions_of}
use Rattle.object_rows.specs.Index.{IsIndex}
use Rattle.object_rows.specs.Places.{AreAllOrderly, Indexed, listed, listed_at}
use Rattle.object_rows.specs.Rows.{filespaces_cleared}
use Rattle.object_rows.proofs.IndexLaws.{index-back, index-fewer, index-more}
use Rattle.object_rows.proofs.Splices.{Splices, splice_in, splice_same}
use Rattle.object_rows.proofs.Stands.{distinct-listed, has-listed}
use Rattle.object_rows.proofs.Steps.{alter_of, change_of, keys-within, listed-without_object, named_in, put_of, versions-within, within}
use Rattle.object_rows.proofs.VersionLists.{parted}

-- ---- no object comes or goes
pub indexed_same : (places : List (ℕ × Place)) (fs new : List (ℕ × Filespace)) → Indexed places fs → listed new ≡ listed fs → keys_of new ≡ keys_of fs → AreAllOrderly new → Indexed places new
indexed_same places fs new i same keys orderly = record {
  index = subst (IsIndex nat_cmp places) (sym same) i.index;
  by_number = subst (IsStrictlySortedBy nat_cmp) (sym keys) i.by_number;
  orderly = orderly;
}

keys_after : (n : ℕ) (path : List ℕ) (change : GroupChange) (fs new : List (ℕ × Filespace)) → filespaces_after n path change fs ≡ Ok new → keys_of new ≡ keys_of fs
keys_after n path change fs new h = keys-within n (groups_after path change) fs new (within n (groups_after path change) fs new h)

pub indexed_change : (places : List (ℕ × Place)) (n : ℕ) (path : List ℕ) (change : GroupChange) (fs new : List (ℕ × Filespace)) → Indexed places fs → (new ≡ fs) ⊎ (filespaces_after n path change fs ≡ Ok new) → AreAllOrderly new
    → listed_at n path (versions_after change (versions_at n path fs)) ≡ listed_at n path (versions_at n path fs) → Indexed places new
indexed_change places n path change fs new i h orderly same =
    ⊎_elim (λ stays. subst (Indexed places) (sym stays) i)
    (λ said. indexed_same places fs new i
    (splice_same (subst (λ (t : List (ℕ × Place)). Splices (listed_at n path (versions_at n path fs)) t (listed fs) (listed new)) same (change_of n path change fs new said)))
    (keys_after n path change fs new said) orderly)
    h

pub indexed_alter : (places : List (ℕ × Place)) (n : ℕ) (path : List ℕ) (k : ℕ) (change : CopyChange) (fs new : List (ℕ × Filespace)) → Indexed places fs → (new ≡ fs) ⊎ (filespaces_altered_at n path k change fs ≡ Ok new) → AreAllOrderly new → Indexed places new
indexed_alter places n path k change fs new i h orderly =
    ⊎_elim (λ stays. subst (Indexed places) (sym stays) i)
    (λ said. indexed_same places fs new i (alter_of n path k change fs new said) (keys-within n (groups_altered path k change) fs new (within n (groups_altered path k change) fs new said)) orderly)
    h

-- ---- an object comes
pub none_from : {V : Type 0} (o : Option V) → is_some o ≡ false → o ≡ None
none_from None h = refl
none_from (Some v) h = absurd (false≢true (sym h))

pub unlisted : (places : List (ℕ × Place)) (fs : List (ℕ × Filespace)) (k : ℕ) → Indexed places fs → has_object k (versions_of fs) ≡ false → lookup (at_number k) places ≡ None
unlisted places fs k i new = i.index.found k ∙ none_from (lookup (at_number k) (listed fs)) (has-listed k fs ∙ new)

pub indexed_put : (places more : List (ℕ × Place)) (n : ℕ) (path class : List ℕ) (v : Version) (fs new : List (ℕ × Filespace)) → Indexed places fs → has_object v.object (versions_of fs) ≡ false → filespaces_with n path class v fs ≡ Ok new → AreAllOrderly new
    → ((q : ℕ) → lookup (at_number q) more ≡ cond (at_number v.object q) (Some (record { filespace = n; path = path })) (lookup (at_number q) places))
    → (was : Option Place) → was ≡ lookup (at_number v.object) places → length more ≡ length places + cond (is_some was) 0 1 → Indexed more new
indexed_put places more n path class v fs new i fresh said orderly put was had long =
    let by : List (List ℕ × Group) → Result (List (List ℕ × Group)) Refusal = λ groups. Ok (groups_with path class v groups) in
    record {
      index = index-more nat_cmp_total (v.object, record { filespace = n; path = path }) places more (listed fs) (listed new) i.index (unlisted places fs v.object i fresh) (put_of n path class v fs new i.orderly said) put was had long;
      by_number = subst (IsStrictlySortedBy nat_cmp) (sym (keys-within n by fs new (within n by fs new said))) i.by_number;
      orderly = orderly;
    }

-- what was put into the index and is taken out again
pub indexed_back : (places more fewer : List (ℕ × Place)) (k : ℕ) (place : Place) (fs : List (ℕ × Filespace)) → Indexed places fs → has_object k (versions_of fs) ≡ false
    → ((q : ℕ) → lookup (at_number q) more ≡ cond (at_number k q) (Some place) (lookup (at_number q) places))
    → (was : Option Place) → was ≡ lookup (at_number k) places → length more ≡ length places + cond (is_some was) 0 1
    → ((q : ℕ) → lookup (at_number q) fewer ≡ cond (at_number k q) None (lookup (at_number q) more))
    → (taken : Option Place) → taken ≡ lookup (at_number k) more → length fewer + cond (is_some taken) 1 0 ≡ length more → Indexed fewer fs
indexed_back places more fewer k place fs i fresh put was had long took taken there short =
    record {
      index = index-back nat_cmp_total (k, place) places more fewer (listed fs) i.index (unlisted places fs k i fresh) put was had long took taken there short;
      by_number = i.by_number;
      orderly = i.orderly;
    }

-- ---- an object goes
pub distinct_at : (n : ℕ) (path : List ℕ) (fs : List (ℕ × Filespace)) → are_distinct (versions_of fs) ≡ true → are_distinct (versions_at n path fs) ≡ true
distinct_at n path fs d =
    let s : Splices (versions_at n path fs) (versions_at n path fs) (versions_of fs) (versions_of fs) = versions-within n path fs in
    (parted (versions_at n path fs) s.after (parted s.before (versions_at n path fs ++ s.after) (ap are_distinct (sym s.was) ∙ d)).behind).front

pub indexed_fewer : (places fewer : List (ℕ × Place)) (n : ℕ) (path : List ℕ) (change : GroupChange) (k : ℕ) (fs new : List (ℕ × Filespace)) → Indexed places fs → filespaces_after n path change fs ≡ Ok new → AreAllOrderly new
    → Splices ((k, record { filespace = n; path = path }) ∷ []) [] (listed_at n path (versions_at n path fs)) (listed_at n path (versions_after change (versions_at n path fs)))
    → ((q : ℕ) → lookup (at_number q) fewer ≡ cond (at_number k q) None (lookup (at_number q) places))
    → (taken : Option Place) → taken ≡ lookup (at_number k) places → length fewer + cond (is_some taken) 1 0 ≡ length places → Indexed fewer new
indexed_fewer places fewer n path change k fs new i said orderly s took taken there short = record {
  index = index-fewer nat_cmp_total (k, record { filespace = n; path = path }) places fewer (listed fs) (listed new) i.index (splice_in s (change_of n path change fs new said)) took taken there short;
  by_number = subst (IsStrictlySortedBy nat_cmp) (sym (keys_after n path change fs new said)) i.by_number;
  orderly = orderly;
}

pub indexed_remove : (places fewer : List (ℕ × Place)) (n : ℕ) (path : List ℕ) (k : ℕ) (fs new : List (ℕ × Filespace)) → Indexed places fs → filespaces_after n path (Remove k) fs ≡ Ok new → AreAllOrderly new
    → ((q : ℕ) → lookup (at_number q) fewer ≡ cond (at_number k q) None (lookup (at_number q) places))
    → (taken : Option Place) → taken ≡ lookup (at_number k) places → length fewer + cond (is_some taken) 1 0 ≡ length places → Indexed fewer new
indexed_remove places fewer n path k fs new i said orderly took taken there short =
    indexed_fewer places fewer n path (Remove k) k fs new i said orderly
    (listed-without_object n path k (versions_at n path fs) (distinct_at n path fs (distinct-listed fs i.index.distinct)) (named_in n path (Remove k) fs new said)) took taken there short

listed-undone : (n : ℕ) (path : List ℕ) (active : Bool) (v : Version) (vs : List Version) → listed_at n path (undone active (v ∷ vs)) ≡ listed_at n path vs
listed-undone n path active v [] = elim active as (λ b. listed_at n path (undone b (v ∷ [])) ≡ []) [ true ↦ refl | false ↦ refl ]
listed-undone n path active v (w ∷ vs) = elim active as (λ b. listed_at n path (undone b (v ∷ w ∷ vs)) ≡ listed_at n path (w ∷ vs)) [ true ↦ refl | false ↦ refl ]

pub indexed_undo : (places fewer : List (ℕ × Place)) (n : ℕ) (path class : List ℕ) (active : Bool) (k : ℕ) (fs new : List (ℕ × Filespace)) → Indexed places fs → filespaces_after n path (Undo class active) fs ≡ Ok new → AreAllOrderly new
    → (newest : Version) (older : List Version) → versions_at n path fs ≡ newest ∷ older → newest.object ≡ k
    → ((q : ℕ) → lookup (at_number q) fewer ≡ cond (at_number k q) None (lookup (at_number q) places))
    → (taken : Option Place) → taken ≡ lookup (at_number k) places → length fewer + cond (is_some taken) 1 0 ≡ length places → Indexed fewer new
indexed_undo places fewer n path class active k fs new i said orderly newest older have named took taken there short =
    indexed_fewer places fewer n path (Undo class active) k fs new i said orderly
    (subst (λ (vs : List Version). Splices ((k, record { filespace = n; path = path }) ∷ []) [] (listed_at n path vs) (listed_at n path (undone active vs))) (sym have)
    (record {
      before = [];
      after = listed_at n path older;
      was = ap (λ m. (m, record { filespace = n; path = path }) ∷ listed_at n path older) named;
      becomes = listed-undone n path active newest older;
    }))
    took taken there short

-- the object goes from the place that the index has for it
pub indexed_cleared : (places fewer : List (ℕ × Place)) (k : ℕ) (fs new : List (ℕ × Filespace)) → Indexed places fs → filespaces_cleared k (lookup (at_number k) places) fs ≡ Ok new → AreAllOrderly new
    → ((q : ℕ) → lookup (at_number q) fewer ≡ cond (at_number k q) None (lookup (at_number q) places))
    → (taken : Option Place) → taken ≡ lookup (at_number k) places → length fewer + cond (is_some taken) 1 0 ≡ length places → Indexed fewer new
indexed_cleared places fewer k fs new i said orderly took taken there short = go (lookup (at_number k) places) said where
  go : (o : Option Place) → filespaces_cleared k o fs ≡ Ok new → Indexed fewer new
  go None h = absurd (cc)
  go (Some place) h = indexed_remove places fewer place.filespace place.path k fs new i h orderly took taken there short
