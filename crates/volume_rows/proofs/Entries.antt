-- A sum over the entries of a map, each with its key, after one of them came, went or took another value.
use Rattle.std.proofs.Common.{◌≡◌, ℕ, ◌+◌, Bool, true, false, cond, List, [], ◌∷◌, Option, Some, None, refl, sym, ap, ◌∙◌, arith}
use Rattle.std.specs.List.{sum_by}
use Rattle.std.specs.Map.{lookup, set_value, remove_entry}
use Rattle.std.specs.BTreeMap.{insert_entry, is_at}
use Rattle.std.specs.declared.cmp.Ordering.{Ordering}
use Rattle.std.specs.declared.cmp.Ordering.TheVariants.{Less, Equal, Greater}
use Rattle.std.specs.Ordering.{match_ordering, is_eq}
use Rattle.std.proofs.lemmas.List.Sums.{sum_by-cons}
use Rattle.std.proofs.lemmas.Option.{same_Some}

after_one : {A : Type 0} (f : A → ℕ) (e : A) (xs ys : List A) (b d : ℕ) → sum_by f xs + b ≡ sum_by f ys + d → sum_by f (e ∷ xs) + b ≡ sum_by f (e ∷ ys) + d
after_one f e xs ys b d h = rw (sum_by-cons f e xs, sum_by-cons f e ys) (omega (arith, h))

after_one_gone : {A : Type 0} (f : A → ℕ) (e : A) (xs ys : List A) (b : ℕ) → sum_by f xs + b ≡ sum_by f ys → sum_by f (e ∷ xs) + b ≡ sum_by f (e ∷ ys)
after_one_gone f e xs ys b h = rw (sum_by-cons f e xs, sum_by-cons f e ys) (omega (arith, h))

first_changed : {A : Type 0} (f : A → ℕ) (e g : A) (xs : List A) → sum_by f (g ∷ xs) + f e ≡ sum_by f (e ∷ xs) + f g
first_changed f e g xs = rw (sum_by-cons f e xs, sum_by-cons f g xs) (omega arith)

first_gone : {A : Type 0} (f : A → ℕ) (e : A) (xs : List A) → sum_by f xs + f e ≡ sum_by f (e ∷ xs)
first_gone f e xs = rw (sum_by-cons f e xs) (omega arith)

behind_one : {A : Type 0} (f : A → ℕ) (e : A) (xs ys : List A) (b : ℕ) → sum_by f xs ≡ b + sum_by f ys → sum_by f (e ∷ xs) ≡ b + sum_by f (e ∷ ys)
behind_one f e xs ys b h = rw (sum_by-cons f e xs, sum_by-cons f e ys) (omega (arith, h))

pub sum_by-inserted : {K X : Type 0} (f : K × X → ℕ) (cmp : K → K → Ordering) (es : List (K × X)) (k : K) (v : X) → lookup (is_at (cmp k)) es ≡ None → sum_by f (insert_entry cmp es k v) ≡ f (k, v) + sum_by f es
sum_by-inserted f cmp [] k v absent = omega arith
sum_by-inserted {K} {X} f cmp (e ∷ es) k v absent =
    elim (cmp k e.0) as (λ o. cond (is_eq o) (Some e.1) (lookup (is_at (cmp k)) es) ≡ None → sum_by f (match_ordering o ((k, v) ∷ e ∷ es) ((e.0, v) ∷ es) (e ∷ insert_entry cmp es k v)) ≡ f (k, v) + sum_by f (e ∷ es)) [
      | Less ↦ λ h. sum_by-cons f (k, v) (e ∷ es)
      | Equal ↦ λ h. absurd cc
      | Greater ↦ λ h. behind_one f e (insert_entry cmp es k v) es (f (k, v)) (sum_by-inserted f cmp es k v h)
    ] absent

pub sum_by-set : {K X : Type 0} (f : K × X → ℕ) (test : K → Bool) (k : K) (same : (q : K) → test q ≡ true → q ≡ k) (es : List (K × X)) (v w : X) → lookup test es ≡ Some v → sum_by f (set_value test es w) + f (k, v) ≡ sum_by f es + f (k, w)
sum_by-set f test k same [] v w h = absurd cc
sum_by-set {K} {X} f test k same (e ∷ es) v w h =
    elim (test e.0) as (λ b. test e.0 ≡ b → cond b (Some e.1) (lookup test es) ≡ Some v → sum_by f (cond b ((e.0, w) ∷ es) (e ∷ set_value test es w)) + f (k, v) ≡ sum_by f (e ∷ es) + f (k, w)) [
      | true ↦ λ t s.
          let here : e ≡ (k, v) = ap (λ (q : K). (q, e.1)) (same e.0 t) ∙ ap (λ (x : X). (k, x)) (same_Some e.1 v s) in
          let there : f (e.0, w) ≡ f (k, w) = ap (λ (q : K). f (q, w)) (same e.0 t) in
          let first : f e ≡ f (k, v) = ap f here in
          rw (← first, ← there) (first_changed f e (e.0, w) es)
      | false ↦ λ t s. after_one f e (set_value test es w) es (f (k, v)) (f (k, w)) (sum_by-set f test k same es v w s)
    ] refl h

pub sum_by-removed : {K X : Type 0} (f : K × X → ℕ) (test : K → Bool) (k : K) (same : (q : K) → test q ≡ true → q ≡ k) (es : List (K × X)) (v : X) → lookup test es ≡ Some v → sum_by f (remove_entry test es) + f (k, v) ≡ sum_by f es
sum_by-removed f test k same [] v h = absurd cc
sum_by-removed {K} {X} f test k same (e ∷ es) v h =
    elim (test e.0) as (λ b. test e.0 ≡ b → cond b (Some e.1) (lookup test es) ≡ Some v → sum_by f (cond b es (e ∷ remove_entry test es)) + f (k, v) ≡ sum_by f (e ∷ es)) [
      | true ↦ λ t s.
          let here : e ≡ (k, v) = ap (λ (q : K). (q, e.1)) (same e.0 t) ∙ ap (λ (x : X). (k, x)) (same_Some e.1 v s) in
          let first : f e ≡ f (k, v) = ap f here in
          rw (← first) (first_gone f e es)
      | false ↦ λ t s. after_one_gone f e (remove_entry test es) es (f (k, v)) (sum_by-removed f test k same es v s)
    ] refl h

-- what was put at a key that was free is found there, and taken away again
pub lookup-inserted : {K X : Type 0} (cmp : K → K → Ordering) (itself : (q : K) → cmp q q ≡ Equal) (es : List (K × X)) (k : K) (v : X) → lookup (is_at (cmp k)) es ≡ None → lookup (is_at (cmp k)) (insert_entry cmp es k v) ≡ Some v
lookup-inserted cmp itself [] k v absent = rw (itself k) refl
lookup-inserted {K} {X} cmp itself (e ∷ es) k v absent =
    elim (cmp k e.0) as (λ o. cmp k e.0 ≡ o → cond (is_eq o) (Some e.1) (lookup (is_at (cmp k)) es) ≡ None → lookup (is_at (cmp k)) (match_ordering o ((k, v) ∷ e ∷ es) ((e.0, v) ∷ es) (e ∷ insert_entry cmp es k v)) ≡ Some v) [
      | Less ↦ λ t h. rw (itself k) refl
      | Equal ↦ λ t h. absurd cc
      | Greater ↦ λ t h. rw t (lookup-inserted cmp itself es k v h)
    ] refl absent

pub remove_entry-inserted : {K X : Type 0} (cmp : K → K → Ordering) (itself : (q : K) → cmp q q ≡ Equal) (es : List (K × X)) (k : K) (v : X) → lookup (is_at (cmp k)) es ≡ None → remove_entry (is_at (cmp k)) (insert_entry cmp es k v) ≡ es
remove_entry-inserted cmp itself [] k v absent = rw (itself k) refl
remove_entry-inserted {K} {X} cmp itself (e ∷ es) k v absent =
    elim (cmp k e.0) as (λ o. cmp k e.0 ≡ o → cond (is_eq o) (Some e.1) (lookup (is_at (cmp k)) es) ≡ None → remove_entry (is_at (cmp k)) (match_ordering o ((k, v) ∷ e ∷ es) ((e.0, v) ∷ es) (e ∷ insert_entry cmp es k v)) ≡ e ∷ es) [
      | Less ↦ λ t h. rw (itself k) refl
      | Equal ↦ λ t h. absurd cc
      | Greater ↦ λ t h. rw t (ap (λ (r : List (K × X)). e ∷ r) (remove_entry-inserted cmp itself es k v h))
    ] refl absent

-- what is written over a value is found in its place, and the value written back gives the entries back
pub lookup-set : {K X : Type 0} (test : K → Bool) (es : List (K × X)) (v w : X) → lookup test es ≡ Some v → lookup test (set_value test es w) ≡ Some w
lookup-set test [] v w h = absurd cc
lookup-set {K} {X} test (e ∷ es) v w h =
    elim (test e.0) as (λ b. test e.0 ≡ b → cond b (Some e.1) (lookup test es) ≡ Some v → lookup test (cond b ((e.0, w) ∷ es) (e ∷ set_value test es w)) ≡ Some w) [
      | true ↦ λ t s. rw t refl
      | false ↦ λ t s. rw t (lookup-set test es v w s)
    ] refl h

pub set_value-set : {K X : Type 0} (test : K → Bool) (es : List (K × X)) (v w : X) → lookup test es ≡ Some v → set_value test (set_value test es w) v ≡ es
set_value-set test [] v w h = refl
set_value-set {K} {X} test (e ∷ es) v w h =
    elim (test e.0) as (λ b. test e.0 ≡ b → cond b (Some e.1) (lookup test es) ≡ Some v → set_value test (cond b ((e.0, w) ∷ es) (e ∷ set_value test es w)) v ≡ e ∷ es) [
      | true ↦ λ t s. rw t (ap (λ (x : X). (e.0, x) ∷ es) (sym (same_Some e.1 v s)))
      | false ↦ λ t s. rw t (ap (λ (r : List (K × X)). e ∷ r) (set_value-set test es v w s))
    ] refl h

-- nothing is written where nothing is found
pub set_value-absent : {K X : Type 0} (test : K → Bool) (es : List (K × X)) (w : X) → lookup test es ≡ None → set_value test es w ≡ es
set_value-absent test [] w h = refl
set_value-absent {K} {X} test (e ∷ es) w h =
    elim (test e.0) as (λ b. cond b (Some e.1) (lookup test es) ≡ None → cond b ((e.0, w) ∷ es) (e ∷ set_value test es w) ≡ e ∷ es) [
      | true ↦ λ s. absurd cc
      | false ↦ λ s. ap (λ (r : List (K × X)). e ∷ r) (set_value-absent test es w s)
    ] h
