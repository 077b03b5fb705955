-- Lists of rows from which one goes, to which one comes, and of which one changes.
use Rattle.std.proofs.Common.{◌≡◌, ℕ, ◌≤◌, ◌<◌, Bool, true, false, cond, not, ◌&&◌, eqb, leb, ltb, List, [], ◌∷◌, ◌++◌, map, Option, Some, None, Ordering, is_some, is_none, refl, sym, ap, ◌∙◌, arith, le-leb, leb-true, lt-ltb, ltb-true, eqb-true, eq-eqb, ne_eqb}
use Rattle.std.proofs.lemmas.List.Folds.{list_all-append}
use Rattle.std.proofs.lemmas.Bool.{true≢false, false_from_ne_true, not-true}
use Rattle.std.specs.BTreeMap.{is_at, insert_entry}
use Rattle.std.specs.List.{list_all, flat_map}
use Rattle.std.specs.Map.{keys_of, lookup, remove_entry, set_value}
use Rattle.std.specs.Ordering.{is_eq, match_ordering, nat_cmp}
use Rattle.std.specs.declared.cmp.Ordering.TheVariants.{Less, Equal, Greater}
use Rattle.inventory_rules.specs.inventory_rows.version_groups.Entries.{all_later}
use Rattle.inventory_rules.proofs.of_inventory_rows.of_object_rows.Stands.{at_itself, same_number}
use Rattle.inventory_laws.proofs.Facts.{both, first, rest}

-- ---- tests

pub le_then : (a b c : ℕ) → leb a b ≡ true → leb b c ≡ true → leb a c ≡ true
le_then a b c h k = le-leb a c (omega (arith, leb-true a b h, leb-true b c k))

pub lt_then : (a b c : ℕ) → ltb a b ≡ true → b ≤ c → ltb a c ≡ true
lt_then a b c h k = lt-ltb a c (omega (arith, ltb-true a b h))

-- ---- lists

pub list_all-mono : {A : Type 0} (p q : A → Bool) → ((a : A) → p a ≡ true → q a ≡ true) → (xs : List A) → list_all p xs ≡ true → list_all q xs ≡ true
list_all-mono p q f [] h = refl
list_all-mono p q f (x ∷ xs) h = both _ _ (f x (first _ _ h)) (list_all-mono p q f xs (rest _ _ h))

pub list_all-joined : {A : Type 0} (p : A → Bool) (xs ys : List A) → list_all p xs ≡ true → list_all p ys ≡ true → list_all p (xs ++ ys) ≡ true
list_all-joined p [] ys h k = k
list_all-joined p (x ∷ xs) ys h k = both _ _ (first _ _ h) (list_all-joined p xs ys (rest _ _ h) k)

-- the elements of the first list are some of the second one's, in their order
pub data AreLeft {A : Type 0} : List A → List A → Type 0 where
  empty : AreLeft [] []
  kept : {x : A} {new old : List A} → AreLeft new old → AreLeft (x ∷ new) (x ∷ old)
  gone : {x : A} {new old : List A} → AreLeft new old → AreLeft new (x ∷ old)

pub left-all : {A : Type 0} (xs : List A) → AreLeft xs xs
left-all [] = empty
left-all (x ∷ xs) = kept (left-all xs)

pub left-remove_entry : {K X : Type 0} (test : K → Bool) (es : List (K × X)) → AreLeft (remove_entry test es) es
left-remove_entry test [] = empty
left-remove_entry test (e ∷ es) = elim (test e.0) as (λ b. AreLeft (cond b es (e ∷ remove_entry test es)) (e ∷ es)) [ true ↦ gone (left-all es) | false ↦ kept (left-remove_entry test es) ]

pub left-map : {A B : Type 0} (f : A → B) {new old : List A} → AreLeft new old → AreLeft (map f new) (map f old)
left-map f empty = empty
left-map f (kept s) = kept (left-map f s)
left-map f (gone s) = gone (left-map f s)

pub left-behind : {A : Type 0} (front : List A) {new old : List A} → AreLeft new old → AreLeft (front ++ new) (front ++ old)
left-behind [] s = s
left-behind (x ∷ front) s = kept (left-behind front s)

pub list_all-left : {A : Type 0} (p : A → Bool) {new old : List A} → AreLeft new old → list_all p old ≡ true → list_all p new ≡ true
list_all-left p empty h = h
list_all-left p (kept s) h = both _ _ (first _ _ h) (list_all-left p s (rest _ _ h))
list_all-left p (gone s) h = list_all-left p s (rest _ _ h)

pub all_later-left : {A : Type 0} (r : A → A → Bool) {new old : List A} → AreLeft new old → all_later r old ≡ true → all_later r new ≡ true
all_later-left r empty h = h
all_later-left r (kept {x = x} s) h = both _ _ (list_all-left (r x) s (first _ _ h)) (all_later-left r s (rest _ _ h))
all_later-left r (gone s) h = all_later-left r s (rest _ _ h)

-- the second list is the first one with x at some place
pub data Adds {A : Type 0} (x : A) : List A → List A → Type 0 where
  here : {old : List A} → Adds x old (x ∷ old)
  later : {y : A} {old new : List A} → Adds x old new → Adds x (y ∷ old) (y ∷ new)

pub adds-insert_entry : {K X : Type 0} (R : K → K → Ordering) (k : K) (v : X) (es : List (K × X)) → lookup (is_at (R k)) es ≡ None → Adds (k, v) es (insert_entry R es k v)
adds-insert_entry R k v [] h = here
adds-insert_entry R k v (e ∷ es) h =
    elim (R k e.0) as (λ r. cond (is_eq r) (Some e.1) (lookup (is_at (R k)) es) ≡ None → Adds (k, v) (e ∷ es) (match_ordering r ((k, v) ∷ e ∷ es) ((e.0, v) ∷ es) (e ∷ insert_entry R es k v))) [
      | Less ↦ λ _. here
      | Equal ↦ λ t. absurd (cc)
      | Greater ↦ λ t. later (adds-insert_entry R k v es t)
    ] h

pub adds-map : {A B : Type 0} (f : A → B) {x : A} {old new : List A} → Adds x old new → Adds (f x) (map f old) (map f new)
adds-map f here = here
adds-map f (later s) = later (adds-map f s)

pub adds-behind : {A : Type 0} (front : List A) {x : A} {old new : List A} → Adds x old new → Adds x (front ++ old) (front ++ new)
adds-behind [] s = s
adds-behind (y ∷ front) s = later (adds-behind front s)

pub list_all-adds : {A : Type 0} (p : A → Bool) {x : A} {old new : List A} → Adds x old new → list_all p old ≡ true → p x ≡ true → list_all p new ≡ true
list_all-adds p here h k = both _ _ k h
list_all-adds p (later s) h k = both _ _ (first _ _ h) (list_all-adds p s (rest _ _ h) k)

pub all_later-adds : {A : Type 0} (r : A → A → Bool) → ((a b : A) → r a b ≡ r b a) → {x : A} {old new : List A} → Adds x old new → list_all (r x) old ≡ true → all_later r old ≡ true → all_later r new ≡ true
all_later-adds r swap here a l = both _ _ a l
all_later-adds r swap {x} (later {y = y} s) a l = both _ _ (list_all-adds (r y) s (first _ _ l) (swap y x ∙ first _ _ a)) (all_later-adds r swap s (rest _ _ a) (rest _ _ l))

-- ---- maps

pub list_all-insert_entry : {K X : Type 0} (p : K × X → Bool) (R : K → K → Ordering) (k : K) (v : X) (es : List (K × X)) → ((x : K) → is_at (R k) x ≡ true → p (x, v) ≡ true) → is_at (R k) k ≡ true → list_all p es ≡ true → list_all p (insert_entry R es k v) ≡ true
list_all-insert_entry p R k v [] f i h = both _ _ (f k i) refl
list_all-insert_entry p R k v (e ∷ es) f i h =
    elim (R k e.0) as (λ r. R k e.0 ≡ r → list_all p (match_ordering r ((k, v) ∷ e ∷ es) ((e.0, v) ∷ es) (e ∷ insert_entry R es k v)) ≡ true) [
      | Less ↦ λ _. both _ _ (f k i) h
      | Equal ↦ λ same. both _ _ (f e.0 (ap is_eq same)) (rest _ _ h)
      | Greater ↦ λ _. both _ _ (first _ _ h) (list_all-insert_entry p R k v es f i (rest _ _ h))
    ] refl

pub list_all-set_value : {K X : Type 0} (p : K × X → Bool) (test : K → Bool) (es : List (K × X)) (w : X) → ((x : K) → test x ≡ true → p (x, w) ≡ true) → list_all p es ≡ true → list_all p (set_value test es w) ≡ true
list_all-set_value p test [] w f h = refl
list_all-set_value p test (e ∷ es) w f h =
    elim (test e.0) as (λ b. test e.0 ≡ b → list_all p (cond b ((e.0, w) ∷ es) (e ∷ set_value test es w)) ≡ true) [
      | true ↦ λ yes. both _ _ (f e.0 yes) (rest _ _ h)
      | false ↦ λ _. both _ _ (first _ _ h) (list_all-set_value p test es w f (rest _ _ h))
    ] refl

-- the row that is found passes, as each row does
pub passes-lookup : {K X : Type 0} (p : K × X → Bool) (test : K → Bool) (es : List (K × X)) (x : X) → list_all p es ≡ true → lookup test es ≡ Some x → (k : K) × (test k ≡ true) × (p (k, x) ≡ true)
passes-lookup p test [] x a h = absurd (cc)
passes-lookup p test (e ∷ es) x a h =
    elim (test e.0) as (λ b. test e.0 ≡ b → cond b (Some e.1) (lookup test es) ≡ Some x → (k : _) × (test k ≡ true) × (p (k, x) ≡ true)) [
      | true ↦ λ yes t. let same : e.1 ≡ x = cc in (e.0, yes, ap (λ y. p (e.0, y)) (sym same) ∙ first _ _ a)
      | false ↦ λ _ t. passes-lookup p test es x (rest _ _ a) t
    ] refl h

pub map-set_value : {K X B : Type 0} (f : X → B) (test : K → Bool) (es : List (K × X)) (x w : X) → lookup test es ≡ Some x → f w ≡ f x → map (λ e. f e.1) (set_value test es w) ≡ map (λ e. f e.1) es
map-set_value f test [] x w h same = refl
map-set_value f test (e ∷ es) x w h same =
    elim (test e.0) as (λ b. cond b (Some e.1) (lookup test es) ≡ Some x → map (λ d. f d.1) (cond b ((e.0, w) ∷ es) (e ∷ set_value test es w)) ≡ f e.1 ∷ map (λ d. f d.1) es) [
      | true ↦ λ t. let there : e.1 ≡ x = cc in ap (λ y. y ∷ map (λ d. f d.1) es) (same ∙ ap f (sym there))
      | false ↦ λ t. ap (λ ys. f e.1 ∷ ys) (map-set_value f test es x w t same)
    ] h

-- what is found is found once a row is inserted, too
pub found-insert_entry : {K X : Type 0} (u : K → Bool) (R : K → K → Ordering) (k : K) (v : X) (es : List (K × X)) → is_some (lookup u es) ≡ true → is_some (lookup u (insert_entry R es k v)) ≡ true
found-insert_entry u R k v [] h = absurd (cc)
found-insert_entry u R k v (e ∷ es) h =
    elim (R k e.0) as (λ r. is_some (lookup u (match_ordering r ((k, v) ∷ e ∷ es) ((e.0, v) ∷ es) (e ∷ insert_entry R es k v))) ≡ true) [
      | Less ↦ elim (u k) as (λ b. is_some (cond b (Some v) (lookup u (e ∷ es))) ≡ true) [ true ↦ refl | false ↦ h ]
      | Equal ↦ elim (u e.0) as (λ b. is_some (cond b (Some e.1) (lookup u es)) ≡ true → is_some (cond b (Some v) (lookup u es)) ≡ true) [ true ↦ λ _. refl | false ↦ λ t. t ] h
      | Greater ↦ elim (u e.0) as (λ b. is_some (cond b (Some e.1) (lookup u es)) ≡ true → is_some (cond b (Some e.1) (lookup u (insert_entry R es k v))) ≡ true) [ true ↦ λ _. refl | false ↦ λ t. found-insert_entry u R k v es t ] h
    ]

pub found-set_value : {K X : Type 0} (u test : K → Bool) (es : List (K × X)) (w : X) → is_some (lookup u (set_value test es w)) ≡ is_some (lookup u es)
found-set_value u test [] w = refl
found-set_value u test (e ∷ es) w =
    elim (test e.0) as (λ b. is_some (lookup u (cond b ((e.0, w) ∷ es) (e ∷ set_value test es w))) ≡ is_some (lookup u (e ∷ es))) [
      | true ↦ elim (u e.0) as (λ b. is_some (cond b (Some w) (lookup u es)) ≡ is_some (cond b (Some e.1) (lookup u es))) [ true ↦ refl | false ↦ refl ]
      | false ↦ elim (u e.0) as (λ b. is_some (cond b (Some e.1) (lookup u (set_value test es w))) ≡ is_some (cond b (Some e.1) (lookup u es))) [ true ↦ refl | false ↦ found-set_value u test es w ]
    ]

-- another row than the one that goes is found as before
pub found-remove_entry : {K X : Type 0} (u test : K → Bool) → ((k : K) → test k ≡ true → u k ≡ false) → (es : List (K × X)) → lookup u (remove_entry test es) ≡ lookup u es
found-remove_entry u test apart [] = refl
found-remove_entry u test apart (e ∷ es) =
    elim (test e.0) as (λ b. test e.0 ≡ b → lookup u (cond b es (e ∷ remove_entry test es)) ≡ cond (u e.0) (Some e.1) (lookup u es)) [
      | true ↦ λ yes. sym (ap (λ b. cond b (Some e.1) (lookup u es)) (apart e.0 yes))
      | false ↦ λ _. ap (λ o. cond (u e.0) (Some e.1) o) (found-remove_entry u test apart es)
    ] refl

-- ---- rows by number

pub not_at : (k n : ℕ) → eqb k n ≡ false → is_at (nat_cmp k) n ≡ false
not_at k n h = false_from_ne_true (is_at (nat_cmp k) n) (λ t. true≢false (sym (eq-eqb k n (same_number k n t)) ∙ h))

pub swap : (a b : ℕ) → eqb a b ≡ eqb b a
swap a b =
    elim (eqb b a) as (λ t. eqb b a ≡ t → eqb a b ≡ t) [
      | true ↦ λ h. eq-eqb a b (sym (eqb-true b a h))
      | false ↦ λ h. ne_eqb a b (λ same. true≢false (sym (eq-eqb b a (sym same)) ∙ h))
    ] refl

-- a key that is one number isn't another one
pub not_at_other : (x n k : ℕ) → not (eqb x n) ≡ true → is_at (nat_cmp n) k ≡ true → is_at (nat_cmp x) k ≡ false
not_at_other x n k other at = not_at x k (ap (eqb x) (sym (same_number n k at)) ∙ not-true (eqb x n) other)

-- no row has the number
pub none_at : {X : Type 0} (k : ℕ) (es : List (ℕ × X)) → list_all (λ n. not (eqb k n)) (keys_of es) ≡ true → lookup (is_at (nat_cmp k)) es ≡ None
none_at k [] h = refl
none_at k (e ∷ es) h =
    elim (eqb k e.0) as (λ b. eqb k e.0 ≡ b → not b ≡ true → cond (is_at (nat_cmp k) e.0) (Some e.1) (lookup (is_at (nat_cmp k)) es) ≡ None) [
      | true ↦ λ _ t. absurd (cc)
      | false ↦ λ no _. ap (λ b. cond b (Some e.1) (lookup (is_at (nat_cmp k)) es)) (not_at k e.0 no) ∙ none_at k es (rest _ _ h)
    ] refl (first _ _ h)

pub apart_from : {X : Type 0} (k : ℕ) (es : List (ℕ × X)) → is_none (lookup (is_at (nat_cmp k)) es) ≡ true → list_all (λ n. not (eqb k n)) (keys_of es) ≡ true
apart_from k [] h = refl
apart_from k (e ∷ es) h =
    elim (is_at (nat_cmp k) e.0) as (λ b. is_at (nat_cmp k) e.0 ≡ b → is_none (cond b (Some e.1) (lookup (is_at (nat_cmp k)) es)) ≡ true → (not (eqb k e.0) && list_all (λ n. not (eqb k n)) (keys_of es)) ≡ true) [
      | true ↦ λ _ t. absurd (cc)
      | false ↦ λ no t. both _ _ (ap not (ne_eqb k e.0 (λ same. true≢false (sym (at_itself k) ∙ ap (is_at (nat_cmp k)) same ∙ no)))) (apart_from k es t)
    ] refl h

below_ne : (n bound : ℕ) → ltb n bound ≡ true → eqb bound n ≡ false
below_ne n bound h = ne_eqb bound n (λ same. absurd (let b : n < bound = ltb-true n bound h in omega (arith, b, same)))

-- numbers below a bound aren't the bound
pub below-apart : (least bound : ℕ) (ns : List ℕ) → list_all (λ n. leb least n && ltb n bound) ns ≡ true → list_all (λ n. not (eqb bound n)) ns ≡ true
below-apart least bound ns h =
    list_all-mono (λ n. leb least n && ltb n bound) (λ n. not (eqb bound n)) (λ n t. ap not (below_ne n bound (rest _ _ t))) ns h

pub bound-grows : (least bound more : ℕ) → bound ≤ more → (ns : List ℕ) → list_all (λ n. leb least n && ltb n bound) ns ≡ true → list_all (λ n. leb least n && ltb n more) ns ≡ true
bound-grows least bound more le ns h = list_all-mono (λ n. leb least n && ltb n bound) (λ n. leb least n && ltb n more) (λ n t. both _ _ (first _ _ t) (lt_then n bound more (rest _ _ t) le)) ns h

-- ---- more on lists

pub list_all-same : {A : Type 0} (p q : A → Bool) → ((a : A) → p a ≡ q a) → (xs : List A) → list_all p xs ≡ list_all q xs
list_all-same p q f [] = refl
list_all-same p q f (x ∷ xs) = ap (λ b. b && list_all p xs) (f x) ∙ ap (λ b. q x && b) (list_all-same p q f xs)

-- where one test and another hold of each element, so does what follows from both
pub list_all-two : {A : Type 0} (p q r : A → Bool) → ((a : A) → p a ≡ true → q a ≡ true → r a ≡ true) → (xs : List A) → list_all p xs ≡ true → list_all q xs ≡ true → list_all r xs ≡ true
list_all-two p q r f [] h k = refl
list_all-two p q r f (x ∷ xs) h k = both _ _ (f x (first _ _ h) (first _ _ k)) (list_all-two p q r f xs (rest _ _ h) (rest _ _ k))

pub list_all-flat_map : {A B : Type 0} (p : B → Bool) (f : A → List B) (xs : List A) → list_all p (flat_map f xs) ≡ list_all (λ x. list_all p (f x)) xs
list_all-flat_map p f [] = refl
list_all-flat_map p f (x ∷ xs) = list_all-append p (f x) (flat_map f xs) ∙ ap (λ b. list_all p (f x) && b) (list_all-flat_map p f xs)

-- an element that holds nothing adds nothing
pub flat_map-adds : {A B : Type 0} (f : A → List B) {x : A} {old new : List A} → Adds x old new → f x ≡ [] → flat_map f new ≡ flat_map f old
flat_map-adds f {old = old} here none = ap (λ l. l ++ flat_map f old) none
flat_map-adds f (later {y = y} s) none = ap (λ l. f y ++ l) (flat_map-adds f s none)

pub nothing : {X : Type 0} (o : Option X) → is_none o ≡ true → o ≡ None
nothing None h = refl
nothing (Some x) h = absurd (cc)
