-- What a table weighs: its rows, and what each of them has.
use Rattle.std.proofs.Common.{◌≡◌, ℕ, ◌+◌, ◌≤◌, Bool, true, false, cond, List, [], ◌∷◌, length, map, Some, None, refl, sym, ap, ◌∙◌, arith}
use Rattle.std.specs.BTreeMap.{insert_entry, is_at}
use Rattle.std.specs.List.{filter, sum_by}
use Rattle.std.specs.Map.{lookup, set_value, remove_entry}
use Rattle.std.specs.Ordering.{match_ordering, is_eq}
use Rattle.std.specs.declared.cmp.Ordering.{Ordering}
use Rattle.std.specs.declared.cmp.Ordering.TheVariants.{Less, Equal, Greater}
use Rattle.std.proofs.lemmas.List.Sums.{sum_by-cons}
use Rattle.std.proofs.lemmas.Option.{same_Some}

abbrev pub weigh : {X : Type 0} → (X → ℕ) → List X → ℕ
weigh f xs = length xs + sum_by f xs

pub weigh-cons : {X : Type 0} (f : X → ℕ) (x : X) (xs : List X) → weigh f (x ∷ xs) ≡ 1 + (f x + weigh f xs)
weigh-cons f x xs = omega (arith, sum_by-cons f x xs)

-- the same of a table of rows under keys
abbrev pub rows : {K X : Type 0} → (X → ℕ) → List (K × X) → ℕ
rows f es = weigh (λ e. f e.1) es

pub rows-cons : {K X : Type 0} (f : X → ℕ) (e : K × X) (es : List (K × X)) → rows f (e ∷ es) ≡ 1 + (f e.1 + rows f es)
rows-cons f e es = weigh-cons (λ x. f x.1) e es

-- ---- a row comes, changes or goes

behind_new : {K X : Type 0} (f : X → ℕ) (e : K × X) (xs ys : List (K × X)) (b : ℕ) → rows f xs ≡ 1 + (b + rows f ys) → rows f (e ∷ xs) ≡ 1 + (b + rows f (e ∷ ys))
behind_new f e xs ys b h = omega (arith, h, rows-cons f e xs, rows-cons f e ys)

pub rows-inserted : {K X : Type 0} (f : X → ℕ) (cmp : K → K → Ordering) (es : List (K × X)) (k : K) (v : X) → lookup (is_at (cmp k)) es ≡ None → rows f (insert_entry cmp es k v) ≡ 1 + (f v + rows f es)
rows-inserted f cmp [] k v absent = rows-cons f (k, v) []
rows-inserted {K} {X} f cmp (e ∷ es) k v absent =
    elim (cmp k e.0) as (λ o. cond (is_eq o) (Some e.1) (lookup (is_at (cmp k)) es) ≡ None → rows f (match_ordering o ((k, v) ∷ e ∷ es) ((e.0, v) ∷ es) (e ∷ insert_entry cmp es k v)) ≡ 1 + (f v + rows f (e ∷ es))) [
      | Less ↦ λ h. rows-cons f (k, v) (e ∷ es)
      | Equal ↦ λ h. absurd cc
      | Greater ↦ λ h. behind_new f e (insert_entry cmp es k v) es (f v) (rows-inserted f cmp es k v h)
    ] absent

first_set : {K X : Type 0} (f : X → ℕ) (k : K) (x w : X) (es : List (K × X)) → rows f ((k, w) ∷ es) + f x ≡ rows f ((k, x) ∷ es) + f w
first_set f k x w es = omega (arith, rows-cons f (k, w) es, rows-cons f (k, x) es)

behind_set : {K X : Type 0} (f : X → ℕ) (e : K × X) (xs ys : List (K × X)) (b d : ℕ) → rows f xs + b ≡ rows f ys + d → rows f (e ∷ xs) + b ≡ rows f (e ∷ ys) + d
behind_set f e xs ys b d h = omega (arith, h, rows-cons f e xs, rows-cons f e ys)

pub rows-set : {K X : Type 0} (f : X → ℕ) (test : K → Bool) (es : List (K × X)) (v w : X) → lookup test es ≡ Some v → rows f (set_value test es w) + f v ≡ rows f es + f w
rows-set f test [] v w h = absurd cc
rows-set {K} {X} f test (e ∷ es) v w h =
    elim (test e.0) as (λ b. cond b (Some e.1) (lookup test es) ≡ Some v → rows f (cond b ((e.0, w) ∷ es) (e ∷ set_value test es w)) + f v ≡ rows f (e ∷ es) + f w) [
      | true ↦ λ s. ap (λ (x : X). rows f ((e.0, w) ∷ es) + f x) (sym (same_Some e.1 v s)) ∙ first_set f e.0 e.1 w es
      | false ↦ λ s. behind_set f e (set_value test es w) es (f v) (f w) (rows-set f test es v w s)
    ] h

-- a row that becomes no heavier
pub less_set : (w x k y : ℕ) → w + x ≡ k + y → y ≤ x → w ≤ k
less_set w x k y h g = omega (arith, h, g)

first_gone : {K X : Type 0} (f : X → ℕ) (e : K × X) (es : List (K × X)) → rows f es ≤ rows f (e ∷ es)
first_gone f e es = omega (arith, rows-cons f e es)

behind_fewer : {K X : Type 0} (f : X → ℕ) (e : K × X) (xs ys : List (K × X)) → rows f xs ≤ rows f ys → rows f (e ∷ xs) ≤ rows f (e ∷ ys)
behind_fewer f e xs ys h = omega (arith, h, rows-cons f e xs, rows-cons f e ys)

pub rows-removed : {K X : Type 0} (f : X → ℕ) (test : K → Bool) (es : List (K × X)) → rows f (remove_entry test es) ≤ rows f es
rows-removed f test [] = omega arith
rows-removed f test (e ∷ es) =
    elim (test e.0) as (λ b. rows f (cond b es (e ∷ remove_entry test es)) ≤ rows f (e ∷ es)) [
      | true ↦ first_gone f e es
      | false ↦ behind_fewer f e (remove_entry test es) es (rows-removed f test es)
    ]

-- ---- a list

lighter : {X : Type 0} (f : X → ℕ) (x : X) (xs ys : List X) → weigh f xs ≤ weigh f ys → (b : Bool) → weigh f (cond b (x ∷ xs) xs) ≤ weigh f (x ∷ ys)
lighter f x xs ys h true = omega (arith, h, weigh-cons f x xs, weigh-cons f x ys)
lighter f x xs ys h false = omega (arith, h, weigh-cons f x ys)

pub weigh-filter : {X : Type 0} (f : X → ℕ) (p : X → Bool) (xs : List X) → weigh f (filter p xs) ≤ weigh f xs
weigh-filter f p [] = omega arith
weigh-filter f p (x ∷ xs) = lighter f x (filter p xs) xs (weigh-filter f p xs) (p x)

-- rows that each weigh what they did
pub rows-map : {K X : Type 0} (f : X → ℕ) (g : X → X) → ((x : X) → f (g x) ≡ f x) → (es : List (K × X)) → rows f (map (λ e. (e.0, g e.1)) es) ≡ rows f es
rows-map f g same [] = refl
rows-map {K} {X} f g same (e ∷ es) =
    let one : f (g e.1) ≡ f e.1 = same e.1 in
    let more : rows f (map (λ (x : K × X). (x.0, g x.1)) es) ≡ rows f es = rows-map f g same es in
    rows-cons f (e.0, g e.1) (map (λ (x : K × X). (x.0, g x.1)) es) ∙ ap (λ n. 1 + (n + rows f (map (λ (x : K × X). (x.0, g x.1)) es))) one ∙ ap (λ n. 1 + (f e.1 + n)) more ∙ sym (rows-cons f e es)

-- how many rows there are
pub rows-length : {K X : Type 0} (es : List (K × X)) → rows (λ (x : X). 0) es ≡ length es
rows-length [] = refl
rows-length {K} {X} (e ∷ es) = let more : rows (λ (x : X). 0) es ≡ length es = rows-length es in omega (arith, more, rows-cons (λ (x : X). 0) e es)

pub length-inserted : {K X : Type 0} (cmp : K → K → Ordering) (es : List (K × X)) (k : K) (v : X) → lookup (is_at (cmp k)) es ≡ None → length (insert_entry cmp es k v) ≡ 1 + length es
length-inserted {K} {X} cmp es k v absent =
    omega (arith, rows-inserted (λ (x : X). 0) cmp es k v absent, rows-length es, rows-length (insert_entry cmp es k v))

pub length-set : {K X : Type 0} (test : K → Bool) (es : List (K × X)) (w : X) → length (set_value test es w) ≡ length es
length-set test [] w = refl
length-set test (e ∷ es) w =
    elim (test e.0) as (λ b. length (cond b ((e.0, w) ∷ es) (e ∷ set_value test es w)) ≡ length (e ∷ es)) [
      | true ↦ refl
      | false ↦ omega (arith, length-set test es w)
    ]

pub length-removed : {K X : Type 0} (test : K → Bool) (es : List (K × X)) → length (remove_entry test es) ≤ length es
length-removed {K} {X} test es = omega (arith, rows-removed (λ (x : X). 0) test es, rows-length es, rows-length (remove_entry test es))
