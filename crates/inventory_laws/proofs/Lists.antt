-- Lists in which one element comes or goes, and tests of all their elements.
use Rattle.std.proofs.Common.{◌≡◌, suc, Bool, true, false, cond, ◌&&◌, List, [], ◌∷◌, ◌++◌, map, length, Some, None, refl, sym, ap, subst, ◌∙◌, append_assoc}
use Rattle.std.specs.List.{list_all, list_any, flat_map, filter, AllByRecursion}
use Rattle.std.specs.Map.{lookup, remove_entry}
use Rattle.std.specs.BTreeMap.{insert_entry, is_at}
use Rattle.std.specs.Ordering.{is_eq, match_ordering}
use Rattle.std.specs.declared.cmp.Ordering.{Ordering}
use Rattle.std.specs.declared.cmp.Ordering.TheVariants.{Less, Equal, Greater}
use Rattle.std.proofs.lemmas.Bool.{and_parts, and_from, or_parts}
use Rattle.std.proofs.lemmas.List.{map-append}
use Rattle.std.proofs.lemmas.Option.{same_Some}
use Rattle.inventory_rules.specs.inventory_rows.version_groups.Entries.{all_later}
use Rattle.inventory_rules.specs.Reordered.{Picks}

-- ---- tests of all elements

pub all_of : {A : Type 0} (p : A → Bool) (xs : List A) → list_all p xs ≡ true → AllByRecursion (λ x. p x ≡ true) xs
all_of p [] h = tt
all_of p (x ∷ xs) h = let t = and_parts (p x) (list_all p xs) h in (t.0, all_of p xs t.1)

pub all_from : {A : Type 0} (p : A → Bool) (xs : List A) → AllByRecursion (λ x. p x ≡ true) xs → list_all p xs ≡ true
all_from p [] h = refl
all_from p (x ∷ xs) h = and_from (p x) (list_all p xs) h.0 (all_from p xs h.1)

-- what passes one test passes another
pub all_also : {A : Type 0} (p q : A → Bool) (xs : List A) → ((x : A) → p x ≡ true → q x ≡ true) → list_all p xs ≡ true → list_all q xs ≡ true
all_also p q [] up h = refl
all_also p q (x ∷ xs) up h = let t = and_parts (p x) (list_all p xs) h in and_from (q x) (list_all q xs) (up x t.0) (all_also p q xs up t.1)

-- each element passes one test as it does another
pub all_alike : {A : Type 0} (p q : A → Bool) (xs : List A) → AllByRecursion (λ x. p x ≡ q x) xs → list_all p xs ≡ list_all q xs
all_alike p q [] h = refl
all_alike p q (x ∷ xs) h = ap (λ b. b && list_all p xs) h.0 ∙ ap (λ b. q x && b) (all_alike p q xs h.1)

pub filter_alike : {A : Type 0} (p q : A → Bool) (xs : List A) → AllByRecursion (λ x. p x ≡ q x) xs → filter p xs ≡ filter q xs
filter_alike p q [] h = refl
filter_alike {A} p q (x ∷ xs) h = ap (λ b. cond b (x ∷ filter p xs) (filter p xs)) h.0 ∙ ap (λ (l : List A). cond (q x) (x ∷ l) l) (filter_alike p q xs h.1)

pub each_any : {A : Type 0} (P : A → Type 0) (xs : List A) → ((x : A) → P x) → AllByRecursion P xs
each_any P [] h = tt
each_any P (x ∷ xs) h = (h x, each_any P xs h)

pub each_also : {A : Type 0} (P Q : A → Type 0) (xs : List A) → ((x : A) → P x → Q x) → AllByRecursion P xs → AllByRecursion Q xs
each_also P Q [] up h = tt
each_also P Q (x ∷ xs) up h = (up x h.0, each_also P Q xs up h.1)

pub each_both : {A : Type 0} (P Q R : A → Type 0) (xs : List A) → ((x : A) → P x → Q x → R x) → AllByRecursion P xs → AllByRecursion Q xs → AllByRecursion R xs
each_both P Q R [] up h t = tt
each_both P Q R (x ∷ xs) up h t = (up x h.0 t.0, each_both P Q R xs up h.1 t.1)

pub each_joined : {A : Type 0} (P : A → Type 0) (xs ys : List A) → AllByRecursion P (xs ++ ys) → AllByRecursion P xs × AllByRecursion P ys
each_joined P [] ys h = (tt, h)
each_joined P (x ∷ xs) ys h = let t = each_joined P xs ys h.1 in ((h.0, t.0), t.1)

pub each_mapped : {A B : Type 0} (P : B → Type 0) (f : A → B) (xs : List A) → AllByRecursion P (map f xs) → AllByRecursion (λ x. P (f x)) xs
each_mapped P f [] h = tt
each_mapped P f (x ∷ xs) h = (h.0, each_mapped P f xs h.1)

-- what holds of each element of the lists that are joined
pub each_within : {A B C : Type 0} (P : C → Type 0) (f : A → B → C) (g : A → List B) (xs : List A) → AllByRecursion P (flat_map (λ x. map (f x) (g x)) xs) → AllByRecursion (λ x. AllByRecursion (λ y. P (f x y)) (g x)) xs
each_within P f g [] h = tt
each_within P f g (x ∷ xs) h = let t = each_joined P (map (f x) (g x)) (flat_map (λ x. map (f x) (g x)) xs) h in (each_mapped P (f x) (g x) t.0, each_within P f g xs t.1)

-- a test that no element passes
pub none_of : {A : Type 0} (p : A → Bool) (xs : List A) → list_any p xs ≡ false → AllByRecursion (λ x. p x ≡ false) xs
none_of p [] h = tt
none_of p (x ∷ xs) h = let t = or_parts (p x) (list_any p xs) h in (t.0, none_of p xs t.1)

-- ---- one element comes or goes

here : {A : Type 0} (x : A) (before after : List A) → Picks x (before ++ (x ∷ after)) (before ++ after)
here x before after = record { before = before; after = after; was = refl; becomes = refl }

behind : {A : Type 0} (e x : A) (old new : List A) → Picks x old new → Picks x (e ∷ old) (e ∷ new)
behind {A} e x old new p = record { before = e ∷ p.before; after = p.after; was = ap (λ (l : List A). e ∷ l) p.was; becomes = ap (λ (l : List A). e ∷ l) p.becomes }

pub picks_map : {A B : Type 0} (f : A → B) (x : A) (old new : List A) → Picks x old new → Picks (f x) (map f old) (map f new)
picks_map f x old new p = record {
  before = map f p.before;
  after = map f p.after;
  was = ap (map f) p.was ∙ map-append f p.before (x ∷ p.after);
  becomes = ap (map f) p.becomes ∙ map-append f p.before p.after;
}

pub picks_joined : {A : Type 0} (x : A) (old new ys : List A) → Picks x old new → Picks x (old ++ ys) (new ++ ys)
picks_joined {A} x old new ys p = record {
  before = p.before;
  after = p.after ++ ys;
  was = ap (λ (l : List A). l ++ ys) p.was ∙ append_assoc p.before (x ∷ p.after) ys;
  becomes = ap (λ (l : List A). l ++ ys) p.becomes ∙ append_assoc p.before p.after ys;
}

longer_at : {A : Type 0} (x : A) (b a : List A) → length (b ++ (x ∷ a)) ≡ suc (length (b ++ a))
longer_at x [] a = refl
longer_at x (y ∷ b) a = ap suc (longer_at x b a)

pub longer : {A : Type 0} (x : A) (old new : List A) → Picks x old new → length old ≡ suc (length new)
longer x old new p = ap length p.was ∙ longer_at x p.before p.after ∙ ap (λ l. suc (length l)) (sym p.becomes)

each_left_at : {A : Type 0} (P : A → Type 0) (x : A) (b a : List A) → AllByRecursion P (b ++ (x ∷ a)) → AllByRecursion P (b ++ a)
each_left_at P x [] a h = h.1
each_left_at P x (y ∷ b) a h = (h.0, each_left_at P x b a h.1)

pub each_left : {A : Type 0} (P : A → Type 0) (x : A) (old new : List A) → Picks x old new → AllByRecursion P old → AllByRecursion P new
each_left {A} P x old new p h = subst (λ (l : List A). AllByRecursion P l) (sym p.becomes) (each_left_at P x p.before p.after (subst (λ (l : List A). AllByRecursion P l) p.was h))

each_with_at : {A : Type 0} (P : A → Type 0) (x : A) (b a : List A) → P x → AllByRecursion P (b ++ a) → AllByRecursion P (b ++ (x ∷ a))
each_with_at P x [] a new h = (new, h)
each_with_at P x (y ∷ b) a new h = (h.0, each_with_at P x b a new h.1)

pub each_with : {A : Type 0} (P : A → Type 0) (x : A) (old new : List A) → Picks x old new → P x → AllByRecursion P new → AllByRecursion P old
each_with {A} P x old new p at h = subst (λ (l : List A). AllByRecursion P l) (sym p.was) (each_with_at P x p.before p.after at (subst (λ (l : List A). AllByRecursion P l) p.becomes h))

pub all_left : {A : Type 0} (p : A → Bool) (x : A) (old new : List A) → Picks x old new → list_all p old ≡ true → list_all p new ≡ true
all_left p x old new picks h = all_from p new (each_left (λ y. p y ≡ true) x old new picks (all_of p old h))

pub all_with : {A : Type 0} (p : A → Bool) (x : A) (old new : List A) → Picks x old new → p x ≡ true → list_all p new ≡ true → list_all p old ≡ true
all_with p x old new picks at h = all_from p old (each_with (λ y. p y ≡ true) x old new picks at (all_of p new h))

later_left_at : {A : Type 0} (r : A → A → Bool) (x : A) (b a : List A) → all_later r (b ++ (x ∷ a)) ≡ true → all_later r (b ++ a) ≡ true
later_left_at r x [] a h = (and_parts (list_all (r x) a) (all_later r a) h).1
later_left_at r x (y ∷ b) a h =
    let t = and_parts (list_all (r y) (b ++ (x ∷ a))) (all_later r (b ++ (x ∷ a))) h in
    and_from (list_all (r y) (b ++ a)) (all_later r (b ++ a)) (all_left (r y) x (b ++ (x ∷ a)) (b ++ a) (here x b a) t.0) (later_left_at r x b a t.1)

pub later_left : {A : Type 0} (r : A → A → Bool) (x : A) (old new : List A) → Picks x old new → all_later r old ≡ true → all_later r new ≡ true
later_left r x old new p h = ap (all_later r) p.becomes ∙ later_left_at r x p.before p.after (ap (all_later r) (sym p.was) ∙ h)

later_with_at : {A : Type 0} (r : A → A → Bool) (flips : (a b : A) → r a b ≡ r b a) (x : A) (b a : List A) → list_all (r x) (b ++ a) ≡ true → all_later r (b ++ a) ≡ true → all_later r (b ++ (x ∷ a)) ≡ true
later_with_at r flips x [] a h t = and_from (list_all (r x) a) (all_later r a) h t
later_with_at r flips x (y ∷ b) a h t =
    let p = and_parts (r x y) (list_all (r x) (b ++ a)) h in
    let q = and_parts (list_all (r y) (b ++ a)) (all_later r (b ++ a)) t in
    and_from (list_all (r y) (b ++ (x ∷ a))) (all_later r (b ++ (x ∷ a))) (all_with (r y) x (b ++ (x ∷ a)) (b ++ a) (here x b a) (flips y x ∙ p.0) q.0) (later_with_at r flips x b a p.1 q.1)

pub later_with : {A : Type 0} (r : A → A → Bool) (flips : (a b : A) → r a b ≡ r b a) (x : A) (old new : List A) → Picks x old new → list_all (r x) new ≡ true → all_later r new ≡ true → all_later r old ≡ true
later_with r flips x old new p h t =
    ap (all_later r) p.was ∙ later_with_at r flips x p.before p.after (ap (list_all (r x)) (sym p.becomes) ∙ h) (ap (all_later r) (sym p.becomes) ∙ t)

-- ---- entries of a map

-- a value comes under a key that is free
pub came : {K X : Type 0} (cmp : K → K → Ordering) (k : K) (v : X) (es : List (K × X)) → lookup (is_at (cmp k)) es ≡ None → Picks (k, v) (insert_entry cmp es k v) es
came cmp k v [] absent = record { before = []; after = []; was = refl; becomes = refl }
came {K} {X} cmp k v (e ∷ es) absent =
    elim (cmp k e.0) as (λ o. cond (is_eq o) (Some e.1) (lookup (is_at (cmp k)) es) ≡ None → Picks (k, v) (match_ordering o ((k, v) ∷ e ∷ es) ((e.0, v) ∷ es) (e ∷ insert_entry cmp es k v)) (e ∷ es)) [
      | Less ↦ λ _. here (k, v) [] (e ∷ es)
      | Equal ↦ λ h. absurd cc
      | Greater ↦ λ h. behind e (k, v) (insert_entry cmp es k v) es (came cmp k v es h)
    ] absent

first_goes : {K X : Type 0} (e : K × X) (es : List (K × X)) (v : X) → Some e.1 ≡ Some v → Picks (e.0, v) (e ∷ es) es
first_goes {K} {X} e es v h = record { before = []; after = es; was = ap (λ (x : X). (e.0, x) ∷ es) (same_Some e.1 v h); becomes = refl }

-- the first value whose key passes goes
pub went : {K X : Type 0} (test : K → Bool) (es : List (K × X)) (v : X) → lookup test es ≡ Some v → (q : K) × (test q ≡ true) × Picks (q, v) es (remove_entry test es)
went test [] v there = absurd cc
went {K} {X} test (e ∷ es) v there =
    elim (test e.0) as (λ b. test e.0 ≡ b → cond b (Some e.1) (lookup test es) ≡ Some v → (q : K) × (test q ≡ true) × Picks (q, v) (e ∷ es) (cond b es (e ∷ remove_entry test es))) [
      | true ↦ λ t s. (e.0, t, first_goes e es v s)
      | false ↦ λ t s. let w = went test es v s in (w.0, w.1, behind e (w.0, v) es (remove_entry test es) w.2)
    ] refl there

lookup_left_at : {K X : Type 0} (test : K → Bool) (x : K × X) (b a : List (K × X)) → test x.0 ≡ false → lookup test (b ++ (x ∷ a)) ≡ lookup test (b ++ a)
lookup_left_at test x [] a off = ap (λ t. cond t (Some x.1) (lookup test a)) off
lookup_left_at test x (y ∷ b) a off = ap (λ r. cond (test y.0) (Some y.1) r) (lookup_left_at test x b a off)

-- what is found under other keys stays
pub lookup_left : {K X : Type 0} (test : K → Bool) (x : K × X) (old new : List (K × X)) → Picks x old new → test x.0 ≡ false → lookup test old ≡ lookup test new
lookup_left test x old new p off = ap (lookup test) p.was ∙ lookup_left_at test x p.before p.after off ∙ ap (lookup test) (sym p.becomes)
