-- What the list of places says of the versions, and where the place that is found by an object's number leads.
use Rattle.std.proofs.Common.{◌≡◌, ℕ, Bool, true, false, cond, eqb, ◌||◌, List, [], ◌∷◌, ◌++◌, map, Option, Some, None, Ordering, refl, sym, ap, ◌∙◌}
use Rattle.std.proofs.lemmas.Bool.{false≢true, and_from, and_parts, eq-eqb, ne_eqb}
use Rattle.std.proofs.lemmas.List.{map-append}
use Rattle.std.proofs.lemmas.Map.{lookup-none}
use Rattle.std.proofs.lemmas.Map.Entries.{none_past_head}
use Rattle.std.proofs.lemmas.Map.Keys.{IsDistinct-from_sorted, sorted_tail}
use Rattle.std.proofs.lemmas.Map.Lookups.{exact_unsigned, exact_bytes}
use Rattle.std.specs.BTreeMap.{is_at}
use Rattle.std.specs.Cmp.{IsTotalOrder, eq_by_cmp_equiv, tied_itself, nat_cmp_total}
use Rattle.std.specs.Cmp.Lexicographic.{slice_cmp, nat_list_cmp_total}
use Rattle.std.specs.List.Sorted.{IsStrictlySortedBy}
use Rattle.std.specs.Map.{keys_of, lookup}
use Rattle.std.specs.Option.{is_some}
use Rattle.std.specs.Ordering.{is_eq, nat_cmp}
use Rattle.std.specs.declared.cmp.Ordering.TheVariants.{Less, Equal, Greater}
use Rattle.version_groups.specs.declared.group.Group.{Group}
use Rattle.version_groups.specs.declared.groups.Filespace.{Filespace}
use Rattle.version_groups.specs.declared.versions.Version.{Version}
use Rattle.version_groups.specs.Groups.{AreByPath, at_path, group_at}
use Rattle.version_groups.specs.Versions.{has_object, are_distinct, version_of}
use Rattle.version_groups.proofs.Lists.{are_of_others, of_others}
use Rattle.object_rows.specs.declared.place.Place.{Place}
use Rattle.object_rows.specs.Filespaces.{at_number, filespace_at, versions_in, versions_of}
use Rattle.object_rows.specs.Index.{AreDistinct}
use Rattle.object_rows.specs.Places.{AreAllOrderly, listed, listed_at, listed_in}
use Rattle.object_rows.proofs.VersionLists.{none_of_others, version_of-front, version_of-behind}

pub equal : (r : Ordering) → is_eq r ≡ true → r ≡ Equal
equal Less h = absurd (false≢true h)
equal Equal h = refl
equal Greater h = absurd (false≢true h)

pub same_number : (n m : ℕ) → at_number n m ≡ true → n ≡ m
same_number n m h = exact_unsigned n m (equal (nat_cmp n m) h)

pub same_path : (p q : List ℕ) → at_path p q ≡ true → p ≡ q
same_path p q h = exact_bytes p q (equal (slice_cmp nat_cmp p q) h)

pub at_itself : (n : ℕ) → at_number n n ≡ true
at_itself n = ap is_eq (tied_itself nat_cmp_total n)

pub path_itself : (p : List ℕ) → at_path p p ≡ true
path_itself p = ap is_eq (tied_itself nat_list_cmp_total p)

pub other_number : (n m : ℕ) → at_number n m ≡ false → n ≡ m → ⊥
other_number n m h e = false≢true (sym h ∙ ap (at_number n) (sym e) ∙ at_itself n)

pub at-eqb : (k n : ℕ) → at_number k n ≡ eqb n k
at-eqb k n =
    elim (at_number k n) as (λ b. at_number k n ≡ b → b ≡ eqb n k) [
      | true ↦ λ h. sym (eq-eqb n k (sym (same_number k n h)))
      | false ↦ λ h. sym (ne_eqb n k (λ e. other_number k n h (sym e)))
    ] refl

-- ---- the numbers of the places are those of the versions
abbrev pub numbers : List Version → List ℕ
numbers vs = map (λ (v : Version). v.object) vs

pub keys-listed_at : (n : ℕ) (p : List ℕ) (vs : List Version) → keys_of (listed_at n p vs) ≡ numbers vs
keys-listed_at n p [] = refl
keys-listed_at n p (v ∷ vs) = ap (λ t. v.object ∷ t) (keys-listed_at n p vs)

keys_joined : (xs ys : List (ℕ × Place)) (vs ws : List Version) → keys_of xs ≡ numbers vs → keys_of ys ≡ numbers ws → keys_of (xs ++ ys) ≡ numbers (vs ++ ws)
keys_joined xs ys vs ws a b =
    map-append (λ (e : ℕ × Place). e.0) xs ys ∙ ap (λ t. t ++ keys_of ys) a ∙ ap (λ t. numbers vs ++ t) b ∙ sym (map-append (λ (v : Version). v.object) vs ws)

pub keys-listed_in : (n : ℕ) (groups : List (List ℕ × Group)) → keys_of (listed_in n groups) ≡ numbers (versions_in groups)
keys-listed_in n [] = refl
keys-listed_in n (g ∷ groups) = keys_joined (listed_at n g.0 g.1.versions) (listed_in n groups) g.1.versions (versions_in groups) (keys-listed_at n g.0 g.1.versions) (keys-listed_in n groups)

pub keys-listed : (fs : List (ℕ × Filespace)) → keys_of (listed fs) ≡ numbers (versions_of fs)
keys-listed [] = refl
keys-listed (f ∷ fs) = keys_joined (listed_in f.0 f.1.groups) (listed fs) (versions_in f.1.groups) (versions_of fs) (keys-listed_in f.0 f.1.groups) (keys-listed fs)

pub has-keys : (k : ℕ) (xs : List (ℕ × Place)) (vs : List Version) → keys_of xs ≡ numbers vs → is_some (lookup (at_number k) xs) ≡ has_object k vs
has-keys k [] [] h = refl
has-keys k [] (v ∷ vs) h = absurd (cc)
has-keys k (x ∷ xs) [] h = absurd (cc)
has-keys k (x ∷ xs) (v ∷ vs) h =
    let head : x.0 ≡ v.object = cc in
    let rest : keys_of xs ≡ numbers vs = cc in
    ap (λ b. is_some (cond b (Some x.1) (lookup (at_number k) xs))) (at-eqb k x.0 ∙ ap (λ t. eqb t k) head)
    ∙ elim (eqb v.object k) as (λ b. is_some (cond b (Some x.1) (lookup (at_number k) xs)) ≡ (b || has_object k vs)) [
      | true ↦ refl
      | false ↦ has-keys k xs vs rest
    ]

pub has-listed : (k : ℕ) (fs : List (ℕ × Filespace)) → is_some (lookup (at_number k) (listed fs)) ≡ has_object k (versions_of fs)
has-listed k fs = has-keys k (listed fs) (versions_of fs) (keys-listed fs)

distinct_numbers : (xs : List (ℕ × Place)) (vs : List Version) → keys_of xs ≡ numbers vs → AreDistinct nat_cmp xs → are_distinct vs ≡ true
distinct_numbers [] [] h d = refl
distinct_numbers [] (v ∷ vs) h d = absurd (cc)
distinct_numbers (x ∷ xs) [] h d = absurd (cc)
distinct_numbers (x ∷ xs) (v ∷ vs) h d =
    let head : x.0 ≡ v.object = cc in
    let rest : keys_of xs ≡ numbers vs = cc in
    and_from (are_of_others v.object vs) (are_distinct vs)
    (of_others v.object vs (ap (λ n. has_object n vs) (sym head) ∙ sym (has-keys x.0 xs vs rest) ∙ ap is_some d.0))
    (distinct_numbers xs vs rest d.1)

pub distinct-listed : (fs : List (ℕ × Filespace)) → AreDistinct nat_cmp (listed fs) → are_distinct (versions_of fs) ≡ true
distinct-listed fs d = distinct_numbers (listed fs) (versions_of fs) (keys-listed fs) d

none_of : {V : Type 0} (o : Option V) → is_some o ≡ false → o ≡ None
none_of None h = refl
none_of (Some v) h = absurd (false≢true (sym h))

distinct_places : (xs : List (ℕ × Place)) (vs : List Version) → keys_of xs ≡ numbers vs → are_distinct vs ≡ true → AreDistinct nat_cmp xs
distinct_places [] vs h d = tt
distinct_places (x ∷ xs) [] h d = absurd (cc)
distinct_places (x ∷ xs) (v ∷ vs) h d =
    let head : x.0 ≡ v.object = cc in
    let rest : keys_of xs ≡ numbers vs = cc in
    let ds : (are_of_others v.object vs ≡ true) × (are_distinct vs ≡ true) = and_parts (are_of_others v.object vs) (are_distinct vs) d in
    (none_of (lookup (at_number x.0) xs) (has-keys x.0 xs vs rest ∙ ap (λ n. has_object n vs) head ∙ none_of_others v.object vs ds.0), distinct_places xs vs rest ds.1)

pub listed-distinct : (fs : List (ℕ × Filespace)) → are_distinct (versions_of fs) ≡ true → AreDistinct nat_cmp (listed fs)
listed-distinct fs d = distinct_places (listed fs) (versions_of fs) (keys-listed fs) d

-- ---- a search of joined lists
pub lookup-behind : {K V : Type 0} (test : K → Bool) (xs ys : List (K × V)) → lookup test xs ≡ None → lookup test (xs ++ ys) ≡ lookup test ys
lookup-behind test [] ys h = refl
lookup-behind test (x ∷ xs) ys h =
    elim (test x.0) as (λ b. cond b (Some x.1) (lookup test xs) ≡ None → cond b (Some x.1) (lookup test (xs ++ ys)) ≡ lookup test ys) [
      | true ↦ λ t. absurd (cc)
      | false ↦ λ t. lookup-behind test xs ys t
    ] h

lookup-first : {K V : Type 0} (test : K → Bool) (xs ys : List (K × V)) (v : V) → lookup test xs ≡ Some v → lookup test (xs ++ ys) ≡ Some v
lookup-first test [] ys v h = absurd (cc)
lookup-first test (x ∷ xs) ys v h =
    elim (test x.0) as (λ b. cond b (Some x.1) (lookup test xs) ≡ Some v → cond b (Some x.1) (lookup test (xs ++ ys)) ≡ Some v) [
      | true ↦ λ t. t
      | false ↦ λ t. lookup-first test xs ys v t
    ] h

-- an entry that isn't the first of its map: no search that finds it stops at the first
pub passed : {K V : Type 0} {R : K → K → Ordering} (o : IsTotalOrder R) (k : K) (e : K × V) (es : List (K × V)) (v : V) → IsStrictlySortedBy R (keys_of (e ∷ es)) → lookup (is_at (R k)) es ≡ Some v → lookup (is_at (R k)) (e ∷ es) ≡ Some v
passed {K} {V} {R} o k e es v sorted h =
    elim (is_eq (R k e.0)) as (λ b. is_eq (R k e.0) ≡ b → cond b (Some e.1) (lookup (is_at (R k)) es) ≡ Some v) [
      | true ↦ λ same.
          let none : lookup (is_at (R k)) es ≡ None = lookup-none (is_at (R k)) es (none_past_head (eq_by_cmp_equiv o) k e es (IsDistinct-from_sorted R (keys_of (e ∷ es)) sorted) same) in
          absurd (cc)
      | false ↦ λ _. h
    ] refl

-- ---- where a place leads
placed_at : (k n : ℕ) (p : List ℕ) (vs : List Version) (place : Place) → lookup (at_number k) (listed_at n p vs) ≡ Some place → place ≡ record { filespace = n; path = p }
placed_at k n p [] place h = absurd (cc)
placed_at k n p (v ∷ vs) place h =
    elim (at_number k v.object) as (λ b. cond b (Some (record { filespace = n; path = p })) (lookup (at_number k) (listed_at n p vs)) ≡ Some place → place ≡ record { filespace = n; path = p }) [
      | true ↦ λ t. cc
      | false ↦ λ t. placed_at k n p vs place t
    ] h

-- the object's version is one of a path's, and a search of all versions of the filespace finds it there
pub record StandsIn (k n : ℕ) (place : Place) (groups : List (List ℕ × Group)) : Type 0 where
  pub group : Group
  pub there : group_at place.path groups ≡ Some group
  pub number : place.filespace ≡ n
  pub has : has_object k group.versions ≡ true
  pub found : version_of k (versions_in groups) ≡ version_of k group.versions

pub stands_in : (k n : ℕ) (groups : List (List ℕ × Group)) (place : Place) → AreByPath groups → lookup (at_number k) (listed_in n groups) ≡ Some place → StandsIn k n place groups
stands_in k n [] place sorted h = absurd (cc)
stands_in k n (e ∷ es) place sorted h =
    elim (lookup (at_number k) (listed_at n e.0 e.1.versions)) as (λ o. lookup (at_number k) (listed_at n e.0 e.1.versions) ≡ o → StandsIn k n place (e ∷ es)) [
      | Some q ↦ λ here.
          let first : lookup (at_number k) (listed_in n (e ∷ es)) ≡ Some q = lookup-first (at_number k) (listed_at n e.0 e.1.versions) (listed_in n es) q here in
          let same : q ≡ place = cc in
          let at : place ≡ record { filespace = n; path = e.0 } = sym same ∙ placed_at k n e.0 e.1.versions q here in
          let has : has_object k e.1.versions ≡ true = sym (has-keys k (listed_at n e.0 e.1.versions) e.1.versions (keys-listed_at n e.0 e.1.versions)) ∙ ap is_some here in
          record {
            group = e.1;
            there = ap (λ (p : Place). group_at p.path (e ∷ es)) at ∙ ap (λ b. cond b (Some e.1) (group_at e.0 es)) (path_itself e.0);
            number = ap (λ (p : Place). p.filespace) at;
            has = has;
            found = version_of-front k e.1.versions (versions_in es) has;
          }
      | None ↦ λ none.
          let w : StandsIn k n place es = stands_in k n es place (sorted_tail (slice_cmp nat_cmp) e.0 (keys_of es) sorted) (sym (lookup-behind (at_number k) (listed_at n e.0 e.1.versions) (listed_in n es) none) ∙ h) in
          let not_here : has_object k e.1.versions ≡ false = sym (has-keys k (listed_at n e.0 e.1.versions) e.1.versions (keys-listed_at n e.0 e.1.versions)) ∙ ap is_some none in
          record {
            group = w.group;
            there = passed nat_list_cmp_total place.path e es w.group sorted w.there;
            number = w.number;
            has = w.has;
            found = version_of-behind k e.1.versions (versions_in es) not_here ∙ w.found;
          }
    ] refl

-- the same for all filespaces
pub record Stands (k : ℕ) (place : Place) (fs : List (ℕ × Filespace)) : Type 0 where
  pub filespace : Filespace
  pub there : filespace_at place.filespace fs ≡ Some filespace
  pub orderly : AreByPath filespace.groups
  pub group : Group
  pub group_there : group_at place.path filespace.groups ≡ Some group
  pub has : has_object k group.versions ≡ true
  pub found : version_of k (versions_of fs) ≡ version_of k group.versions

pub stands : (k : ℕ) (fs : List (ℕ × Filespace)) (place : Place) → IsStrictlySortedBy nat_cmp (keys_of fs) → AreAllOrderly fs → lookup (at_number k) (listed fs) ≡ Some place → Stands k place fs
stands k [] place sorted orderly h = absurd (cc)
stands k (e ∷ es) place sorted orderly h =
    elim (lookup (at_number k) (listed_in e.0 e.1.groups)) as (λ o. lookup (at_number k) (listed_in e.0 e.1.groups) ≡ o → Stands k place (e ∷ es)) [
      | Some q ↦ λ here.
          let first : lookup (at_number k) (listed (e ∷ es)) ≡ Some q = lookup-first (at_number k) (listed_in e.0 e.1.groups) (listed es) q here in
          let same : q ≡ place = cc in
          let w : StandsIn k e.0 place e.1.groups = stands_in k e.0 e.1.groups place orderly.0.0 (here ∙ ap Some same) in
          let has : has_object k (versions_in e.1.groups) ≡ true = sym (has-keys k (listed_in e.0 e.1.groups) (versions_in e.1.groups) (keys-listed_in e.0 e.1.groups)) ∙ ap is_some here in
          record {
            filespace = e.1;
            there = ap (λ n. filespace_at n (e ∷ es)) w.number ∙ ap (λ b. cond b (Some e.1) (filespace_at e.0 es)) (at_itself e.0);
            orderly = orderly.0.0;
            group = w.group;
            group_there = w.there;
            has = w.has;
            found = version_of-front k (versions_in e.1.groups) (versions_of es) has ∙ w.found;
          }
      | None ↦ λ none.
          let w : Stands k place es = stands k es place (sorted_tail nat_cmp e.0 (keys_of es) sorted) orderly.1 (sym (lookup-behind (at_number k) (listed_in e.0 e.1.groups) (listed es) none) ∙ h) in
          let not_here : has_object k (versions_in e.1.groups) ≡ false = sym (has-keys k (listed_in e.0 e.1.groups) (versions_in e.1.groups) (keys-listed_in e.0 e.1.groups)) ∙ ap is_some none in
          record {
            filespace = w.filespace;
            there = passed nat_cmp_total place.filespace e es w.filespace sorted w.there;
            orderly = w.orderly;
            group = w.group;
            group_there = w.group_there;
            has = w.has;
            found = version_of-behind k (versions_in e.1.groups) (versions_of es) not_here ∙ w.found;
          }
    ] refl

-- an object that has no place has no version
pub missing : (k : ℕ) (fs : List (ℕ × Filespace)) → lookup (at_number k) (listed fs) ≡ None → has_object k (versions_of fs) ≡ false
missing k fs h = sym (has-listed k fs) ∙ ap is_some h
