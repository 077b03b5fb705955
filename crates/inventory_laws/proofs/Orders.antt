-- Lists with the same elements: which lists have them, and what is the same for both.
use Rattle.std.proofs.Common.{◌≡◌, Bool, true, false, cond, ◌&&◌, List, [], ◌∷◌, ◌++◌, map, refl, sym, ap, subst, ◌∙◌, append_assoc, append-nil}
use Rattle.std.specs.List.{list_all, flat_map, filter}
use Rattle.std.proofs.lemmas.List.{map-append}
use Rattle.std.proofs.lemmas.List.Concat.{flat_map-append}
use Rattle.inventory_rules.specs.inventory_rows.version_groups.Entries.{all_later, is_nil}
use Rattle.inventory_rules.specs.Reordered.{Picks, IsReordered}

-- ---- one element

pub picks_first : {A : Type 0} (x : A) (xs : List A) → Picks x (x ∷ xs) xs
picks_first x xs = record { before = []; after = xs; was = refl; becomes = refl }

pub picks_later : {A : Type 0} (y x : A) (xs ys : List A) → Picks x xs ys → Picks x (y ∷ xs) (y ∷ ys)
picks_later y x xs ys p = record {
  before = y ∷ p.before;
  after = p.after;
  was = ap (λ l. y ∷ l) p.was;
  becomes = ap (λ l. y ∷ l) p.becomes;
}

picks_before : {A : Type 0} (x : A) (xs ys zs : List A) → Picks x xs ys → Picks x (xs ++ zs) (ys ++ zs)
picks_before x xs ys zs p = record {
  before = p.before;
  after = p.after ++ zs;
  was = ap (λ l. l ++ zs) p.was ∙ append_assoc p.before (x ∷ p.after) zs;
  becomes = ap (λ l. l ++ zs) p.becomes ∙ append_assoc p.before p.after zs;
}

picks_there : {A : Type 0} (x : A) (xs ys : List A) → Picks x (xs ++ x ∷ ys) (xs ++ ys)
picks_there x xs ys = record { before = xs; after = ys; was = refl; becomes = refl }

head_same : {A : Type 0} (x y : A) (xs ys : List A) → x ∷ xs ≡ y ∷ ys → x ≡ y
head_same x y xs ys h = cc

tail_same : {A : Type 0} (x y : A) (xs ys : List A) → x ∷ xs ≡ y ∷ ys → xs ≡ ys
tail_same x y xs ys h = cc

-- ---- reflexive, symmetric, transitive

pub reordered_itself : {A : Type 0} (xs : List A) → IsReordered xs xs
reordered_itself [] = refl
reordered_itself (x ∷ xs) = (xs, picks_first x xs, reordered_itself xs)

put_in : {A : Type 0} (x : A) (before after ys : List A) → IsReordered (before ++ after) ys → IsReordered (before ++ x ∷ after) (x ∷ ys)
put_in x [] after ys r = (ys, picks_first x ys, r)
put_in x (b ∷ before) after ys r = (x ∷ r.0, picks_later x b ys r.0 r.1, put_in x before after r.0 r.2)

pub reordered_back : {A : Type 0} (xs ys : List A) → IsReordered xs ys → IsReordered ys xs
reordered_back [] ys h = subst (λ l. IsReordered l []) (sym h) refl
reordered_back {A} (x ∷ xs) ys r =
    let p : Picks x ys r.0 = r.1 in
    let back : IsReordered r.0 xs = reordered_back xs r.0 r.2 in
    let whole : IsReordered (p.before ++ x ∷ p.after) (x ∷ xs) = put_in x p.before p.after xs (subst (λ l. IsReordered l xs) p.becomes back) in
    subst (λ l. IsReordered l (x ∷ xs)) (sym p.was) whole

-- two elements are taken out, one after the other, in either order
record Both {A : Type 0} (x b : A) (all left : List A) : Type 0 where
  between : List A
  first : Picks x all between
  second : Picks b between left

two_out : {A : Type 0} (x b : A) (bs cs ds es : List A) → bs ++ cs ≡ ds ++ x ∷ es → Both x b (bs ++ b ∷ cs) (ds ++ es)
two_out x b [] cs ds es h = record {
  between = b ∷ (ds ++ es);
  first = picks_later b x cs (ds ++ es) (record { before = ds; after = es; was = h; becomes = refl });
  second = picks_first b (ds ++ es);
}
two_out {A} x b (c ∷ bs) cs [] es h = record {
  between = bs ++ b ∷ cs;
  first = subst (λ (y : A). Picks x (y ∷ (bs ++ b ∷ cs)) (bs ++ b ∷ cs)) (sym (head_same c x (bs ++ cs) es h)) (picks_first x (bs ++ b ∷ cs));
  second = record { before = bs; after = cs; was = refl; becomes = sym (tail_same c x (bs ++ cs) es h) };
}
two_out {A} x b (c ∷ bs) cs (d ∷ ds) es h =
    let same : c ≡ d = head_same c d (bs ++ cs) (ds ++ x ∷ es) h in
    let both : Both x b (bs ++ b ∷ cs) (ds ++ es) = two_out x b bs cs ds es (tail_same c d (bs ++ cs) (ds ++ x ∷ es) h) in
    record {
      between = c ∷ both.between;
      first = picks_later c x (bs ++ b ∷ cs) both.between both.first;
      second = subst (λ (y : A). Picks b (c ∷ both.between) (y ∷ (ds ++ es))) same (picks_later c b both.between (ds ++ es) both.second);
    }

either_order : {A : Type 0} (x b : A) (all one left : List A) → Picks b all one → Picks x one left → Both x b all left
either_order {A} x b all one left p q =
    let both : Both x b (p.before ++ b ∷ p.after) (q.before ++ q.after) = two_out x b p.before p.after q.before q.after (sym p.becomes ∙ q.was) in
    subst (λ (l : List A). Both x b l left) (sym p.was) (subst (λ (l : List A). Both x b (p.before ++ b ∷ p.after) l) (sym q.becomes) both)

to_front : {A : Type 0} (x : A) (before after zs : List A) → IsReordered (before ++ x ∷ after) zs → IsReordered (x ∷ (before ++ after)) zs
to_front x [] after zs r = r
to_front x (b ∷ before) after zs r =
    let t = to_front x before after r.0 r.2 in
    let both : Both x b zs t.0 = either_order x b zs r.0 t.0 r.1 t.1 in
    (both.between, both.first, (t.0, both.second, t.2))

pub reordered_then : {A : Type 0} (xs ys zs : List A) → IsReordered xs ys → IsReordered ys zs → IsReordered xs zs
reordered_then [] ys zs h s = subst (λ l. IsReordered l zs) h s
reordered_then {A} (x ∷ xs) ys zs r s =
    let p : Picks x ys r.0 = r.1 in
    let t : IsReordered (x ∷ (p.before ++ p.after)) zs = to_front x p.before p.after zs (subst (λ (l : List A). IsReordered l zs) p.was s) in
    let u : IsReordered r.0 t.0 = subst (λ (l : List A). IsReordered l t.0) (sym p.becomes) t.2 in
    (t.0, t.1, reordered_then xs r.0 t.0 r.2 u)

-- ---- kept by what is done to both lists

pub reordered_cons : {A : Type 0} (x : A) (xs ys : List A) → IsReordered xs ys → IsReordered (x ∷ xs) (x ∷ ys)
reordered_cons x xs ys r = (ys, picks_first x ys, r)

pub reordered_behind : {A : Type 0} (zs xs ys : List A) → IsReordered xs ys → IsReordered (zs ++ xs) (zs ++ ys)
reordered_behind [] xs ys r = r
reordered_behind (z ∷ zs) xs ys r = reordered_cons z (zs ++ xs) (zs ++ ys) (reordered_behind zs xs ys r)

pub reordered_before : {A : Type 0} (xs ys zs : List A) → IsReordered xs ys → IsReordered (xs ++ zs) (ys ++ zs)
reordered_before {A} [] ys zs h = subst (λ (l : List A). IsReordered zs (l ++ zs)) (sym h) (reordered_itself zs)
reordered_before (x ∷ xs) ys zs r = (r.0 ++ zs, picks_before x ys r.0 zs r.1, reordered_before xs r.0 zs r.2)

pub reordered_swap : {A : Type 0} (xs ys : List A) → IsReordered (xs ++ ys) (ys ++ xs)
reordered_swap {A} [] ys = subst (λ (l : List A). IsReordered ys l) (sym (append-nil ys)) (reordered_itself ys)
reordered_swap (x ∷ xs) ys = (ys ++ xs, picks_there x ys xs, reordered_swap xs ys)

-- one element comes to the front
pub reordered_front : {A : Type 0} (xs : List A) (y : A) (ys : List A) → IsReordered (xs ++ y ∷ ys) (y ∷ (xs ++ ys))
reordered_front xs y ys = put_in y xs ys (xs ++ ys) (reordered_itself (xs ++ ys))

-- a list comes to the front
pub reordered_first : {A : Type 0} (xs ys zs : List A) → IsReordered (xs ++ (ys ++ zs)) (ys ++ (xs ++ zs))
reordered_first {A} xs ys zs =
    subst (λ (l : List A). IsReordered (xs ++ (ys ++ zs)) l) (append_assoc ys xs zs)
    (subst (λ (l : List A). IsReordered l ((ys ++ xs) ++ zs)) (append_assoc xs ys zs) (reordered_before (xs ++ ys) (ys ++ xs) zs (reordered_swap xs ys)))

picks-map : {A B : Type 0} (f : A → B) (x : A) (xs ys : List A) → Picks x xs ys → Picks (f x) (map f xs) (map f ys)
picks-map f x xs ys p = record {
  before = map f p.before;
  after = map f p.after;
  was = ap (map f) p.was ∙ map-append f p.before (x ∷ p.after);
  becomes = ap (map f) p.becomes ∙ map-append f p.before p.after;
}

pub reordered-map : {A B : Type 0} (f : A → B) (xs ys : List A) → IsReordered xs ys → IsReordered (map f xs) (map f ys)
reordered-map f [] ys h = ap (map f) h
reordered-map f (x ∷ xs) ys r = (map f r.0, picks-map f x ys r.0 r.1, reordered-map f xs r.0 r.2)

pub filter-append : {A : Type 0} (test : A → Bool) (xs ys : List A) → filter test (xs ++ ys) ≡ filter test xs ++ filter test ys
filter-append test [] ys = refl
filter-append {A} test (x ∷ xs) ys =
    ap (λ (l : List A). cond (test x) (x ∷ l) l) (filter-append test xs ys)
    ∙ elim (test x) as (λ b. cond b (x ∷ (filter test xs ++ filter test ys)) (filter test xs ++ filter test ys) ≡ cond b (x ∷ filter test xs) (filter test xs) ++ filter test ys) [ true ↦ refl | false ↦ refl ]

pub reordered-filter : {A : Type 0} (test : A → Bool) (xs ys : List A) → IsReordered xs ys → IsReordered (filter test xs) (filter test ys)
reordered-filter test [] ys h = ap (filter test) h
reordered-filter {A} test (x ∷ xs) ys r =
    let p : Picks x ys r.0 = r.1 in
    let rest : IsReordered (filter test xs) (filter test p.before ++ filter test p.after) =
    subst (λ (l : List A). IsReordered (filter test xs) l) (ap (filter test) p.becomes ∙ filter-append test p.before p.after) (reordered-filter test xs r.0 r.2) in
    let whole : filter test ys ≡ filter test p.before ++ cond (test x) (x ∷ filter test p.after) (filter test p.after) = ap (filter test) p.was ∙ filter-append test p.before (x ∷ p.after) in
    subst (λ (l : List A). IsReordered (cond (test x) (x ∷ filter test xs) (filter test xs)) l) (sym whole) (go (test x) (filter test xs) (filter test p.before) (filter test p.after) rest)
  where
    go : (b : Bool) (us vs ws : List A) → IsReordered us (vs ++ ws) → IsReordered (cond b (x ∷ us) us) (vs ++ cond b (x ∷ ws) ws)
    go true us vs ws s = (vs ++ ws, picks_there x vs ws, s)
    go false us vs ws s = s

pub reordered-flat_map : {A B : Type 0} (f : A → List B) (xs ys : List A) → IsReordered xs ys → IsReordered (flat_map f xs) (flat_map f ys)
reordered-flat_map f [] ys h = ap (flat_map f) h
reordered-flat_map {A} {B} f (x ∷ xs) ys r =
    let p : Picks x ys r.0 = r.1 in
    let rest : IsReordered (f x ++ flat_map f xs) (f x ++ (flat_map f p.before ++ flat_map f p.after)) =
    reordered_behind (f x) (flat_map f xs) (flat_map f p.before ++ flat_map f p.after)
    (subst (λ (l : List B). IsReordered (flat_map f xs) l) (ap (flat_map f) p.becomes ∙ flat_map-append f p.before p.after) (reordered-flat_map f xs r.0 r.2)) in
    let whole : flat_map f ys ≡ flat_map f p.before ++ (f x ++ flat_map f p.after) = ap (flat_map f) p.was ∙ flat_map-append f p.before (x ∷ p.after) in
    subst (λ (l : List B). IsReordered (f x ++ flat_map f xs) l) (sym whole)
    (reordered_then (f x ++ flat_map f xs) (f x ++ (flat_map f p.before ++ flat_map f p.after)) (flat_map f p.before ++ (f x ++ flat_map f p.after)) rest
    (reordered_first (f x) (flat_map f p.before) (flat_map f p.after)))

-- ---- what is the same for both lists

-- a function by recursion whose steps may be made in any order
module _ {A R : Type 0} (F : List A → R) (step : A → R → R) (unfolds : (x : A) (xs : List A) → F (x ∷ xs) ≡ step x (F xs)) (commutes : (x y : A) (r : R) → step x (step y r) ≡ step y (step x r)) where
  moved : (x : A) (before after : List A) → step x (F (before ++ after)) ≡ F (before ++ x ∷ after)
  moved x [] after = sym (unfolds x after)
  moved x (b ∷ before) after =
      ap (step x) (unfolds b (before ++ after)) ∙ commutes x b (F (before ++ after)) ∙ ap (step b) (moved x before after) ∙ sym (unfolds b (before ++ x ∷ after))

  pub same_by_steps : (xs ys : List A) → IsReordered xs ys → F xs ≡ F ys
  same_by_steps [] ys h = ap F (sym h)
  same_by_steps (x ∷ xs) ys r =
      unfolds x xs ∙ ap (step x) (same_by_steps xs r.0 r.2) ∙ ap (λ l. step x (F l)) r.1.becomes ∙ moved x r.1.before r.1.after ∙ ap F (sym r.1.was)

and_turns : (a b c : Bool) → (a && (b && c)) ≡ (b && (a && c))
and_turns true b c = refl
and_turns false true c = refl
and_turns false false c = refl

pub list_all-reordered : {A : Type 0} (p : A → Bool) (xs ys : List A) → IsReordered xs ys → list_all p xs ≡ list_all p ys
list_all-reordered p xs ys r = same_by_steps (list_all p) (λ x b. p x && b) (λ x l. refl) (λ x y b. and_turns (p x) (p y) b) xs ys r

pub is_nil-reordered : {A : Type 0} (xs ys : List A) → IsReordered xs ys → is_nil xs ≡ is_nil ys
is_nil-reordered xs ys r = same_by_steps is_nil (λ x b. false) (λ x l. refl) (λ x y b. refl) xs ys r

and_four : (p q s t : Bool) → ((p && q) && (s && t)) ≡ ((p && s) && (q && t))
and_four true true s t = refl
and_four true false true t = refl
and_four true false false t = refl
and_four false q s t = refl

pub list_all-there : {A : Type 0} (p : A → Bool) (x : A) (before after : List A) → list_all p (before ++ x ∷ after) ≡ (p x && list_all p (before ++ after))
list_all-there p x [] after = refl
list_all-there p x (b ∷ before) after = ap (λ t. p b && t) (list_all-there p x before after) ∙ and_turns (p b) (p x) (list_all p (before ++ after))

all_later-there : {A : Type 0} (r : A → A → Bool) → ((x y : A) → r x y ≡ r y x) → (x : A) (before after : List A) → all_later r (before ++ x ∷ after) ≡ (list_all (r x) (before ++ after) && all_later r (before ++ after))
all_later-there r flips x [] after = refl
all_later-there r flips x (b ∷ before) after =
    ap (λ t. list_all (r b) (before ++ x ∷ after) && t) (all_later-there r flips x before after)
    ∙ ap (λ t. t && (list_all (r x) (before ++ after) && all_later r (before ++ after))) (list_all-there (r b) x before after ∙ ap (λ t. t && list_all (r b) (before ++ after)) (flips b x))
    ∙ and_four (r x b) (list_all (r b) (before ++ after)) (list_all (r x) (before ++ after)) (all_later r (before ++ after))

pub all_later-reordered : {A : Type 0} (r : A → A → Bool) → ((x y : A) → r x y ≡ r y x) → (xs ys : List A) → IsReordered xs ys → all_later r xs ≡ all_later r ys
all_later-reordered r flips [] ys h = ap (all_later r) (sym h)
all_later-reordered {A} r flips (x ∷ xs) ys s =
    let p : Picks x ys s.0 = s.1 in
    ap (λ t. t && all_later r xs) (list_all-reordered (r x) xs s.0 s.2)
    ∙ ap (λ t. list_all (r x) s.0 && t) (all_later-reordered r flips xs s.0 s.2)
    ∙ ap (λ (l : List A). list_all (r x) l && all_later r l) p.becomes
    ∙ sym (all_later-there r flips x p.before p.after)
    ∙ ap (all_later r) (sym p.was)
