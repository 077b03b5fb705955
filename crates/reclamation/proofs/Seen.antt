-- A copy that was tried before, or is listed, is tried once.
use Rattle.std.proofs.Common.{◌≡◌, ◌⊎◌, inl, inr, ℕ, ◌+◌, ◌<◌, ◌≤◌, ◌||◌, not, Bool, true, false, List, [], ◌∷◌, ◌++◌, append_assoc, length, map, drop, get_or, refl, sym, ap, ap₂, subst, ◌∙◌}
use Rattle.std.proofs.lemmas.Bool.{eqb-true, false≢true}
use Rattle.std.proofs.lemmas.List.{append-nil, drop_all}
use Rattle.std.specs.BTreeMap.{is_at}
use Rattle.std.specs.BTreeSet.{insert_key}
use Rattle.std.specs.List.{list_any}
use Rattle.std.specs.Ordering.{is_eq, match_ordering, nat_cmp, ordering_then}
use Rattle.std.specs.declared.cmp.Ordering.{Ordering}
use Rattle.std.specs.declared.cmp.Ordering.TheVariants.{Less, Equal, Greater}
use Rattle.inventory_rows.proofs.of_object_rows.Stands.{at-eqb}
use Rattle.inventory_rows.proofs.of_version_groups.Lists.{drop_at}
use Rattle.inventory_work.specs.declared.lines.CopyLine.{CopyLine}
use Rattle.inventory_work.specs.Lists.{only}
use Rattle.copy_runs.specs.declared.wanted.Wanted.{Wanted}
use Rattle.copy_runs.specs.Wanting.{IsIn}
use Rattle.copy_runs.proofs.Outcomes.{in-before, in-behind}
use Rattle.reclamation.specs.Moving.{moving}
use Rattle.reclamation.specs.Tried.{Key, fresh, is_tried, key_cmp, key_of, seen, with_tried}

-- ---- keys

-- the key is one of those that were tried
abbrev pub has_key : List Key → Key → Bool
has_key tried k = list_any (is_at (key_cmp k)) tried

-- the line has this key
abbrev pub SameKey : CopyLine → Key → Type 0
SameKey l k = (l.object ≡ k.0) × (l.pool ≡ k.1) × (l.placed ≡ k.2)

-- one of the lines has it
abbrev pub HasFresh : List CopyLine → Key → Type 0
HasFresh lines k = (l : CopyLine) × IsIn l lines × SameKey l k

then-first : (x y : Ordering) → is_eq (ordering_then x y) ≡ true → is_eq x ≡ true
then-first Less y h = absurd (false≢true h)
then-first Equal y h = refl
then-first Greater y h = absurd (false≢true h)

then-next : (x y : Ordering) → is_eq (ordering_then x y) ≡ true → is_eq y ≡ true
then-next Less y h = absurd (false≢true h)
then-next Equal y h = h
then-next Greater y h = absurd (false≢true h)

same-number : (a b : ℕ) → is_at (nat_cmp a) b ≡ true → b ≡ a
same-number a b h = eqb-true b a (sym (at-eqb a b) ∙ h)

same-key : (k : Key) (l : CopyLine) → is_at (key_cmp k) (key_of l) ≡ true → SameKey l k
same-key k l h =
    let front = then-first (ordering_then (nat_cmp k.0 l.object) (nat_cmp k.1 l.pool)) (nat_cmp k.2 l.placed) h in (
      same-number k.0 l.object (then-first (nat_cmp k.0 l.object) (nat_cmp k.1 l.pool) front),
      same-number k.1 l.pool (then-next (nat_cmp k.0 l.object) (nat_cmp k.1 l.pool) front),
      same-number k.2 l.placed (then-next (ordering_then (nat_cmp k.0 l.object) (nat_cmp k.1 l.pool)) (nat_cmp k.2 l.placed) h),
    )

tried-key : (tried : List Key) (l : CopyLine) (k : Key) → SameKey l k → is_tried tried l ≡ true → has_key tried k ≡ true
tried-key tried l k same h =
    subst (λ (n : ℕ). has_key tried (k.0, k.1, n) ≡ true) same.2
    (subst (λ (n : ℕ). has_key tried (k.0, n, l.placed) ≡ true) same.1
    (subst (λ (n : ℕ). has_key tried (n, l.pool, l.placed) ≡ true) same.0 h))

-- ---- one more

either : (a b : Bool) → (a || b) ≡ true → (a ≡ true) ⊎ (b ≡ true)
either true b h = inl refl
either false b h = inr h

any-inserted : (p : Key → Bool) (cmp : Key → Key → Ordering) (ks : List Key) (k : Key) → list_any p (insert_key cmp ks k) ≡ true → (list_any p ks ≡ true) ⊎ (p k ≡ true)
any-inserted p cmp [] k h = elim (either (p k) false h) as (λ _. (list_any p [] ≡ true) ⊎ (p k ≡ true)) [
  | inl it ↦ inr it
  | inr none ↦ absurd (false≢true none)
]
any-inserted p cmp (x ∷ xs) k h =
    elim (cmp k x) as (λ o. list_any p (match_ordering o (k ∷ x ∷ xs) (x ∷ xs) (x ∷ insert_key cmp xs k)) ≡ true → (list_any p (x ∷ xs) ≡ true) ⊎ (p k ≡ true)) [
      | Less ↦ λ t. elim (either (p k) (list_any p (x ∷ xs)) t) as (λ _. (list_any p (x ∷ xs) ≡ true) ⊎ (p k ≡ true)) [ inl it ↦ inr it | inr others ↦ inl others ]
      | Equal ↦ λ t. inl t
      | Greater ↦ λ t. elim (either (p x) (list_any p (insert_key cmp xs k)) t) as (λ _. (list_any p (x ∷ xs) ≡ true) ⊎ (p k ≡ true)) [
        | inl it ↦ inl (ap (λ b. b || list_any p xs) it)
        | inr others ↦ elim (any-inserted p cmp xs k others) as (λ _. (list_any p (x ∷ xs) ≡ true) ⊎ (p k ≡ true)) [
          | inl it ↦ inl (behind (p x) (list_any p xs) it)
          | inr it ↦ inr it
        ]
      ]
    ] h where
      behind : (a b : Bool) → b ≡ true → (a || b) ≡ true
      behind true b t = refl
      behind false b t = t

-- ---- each is tried

only-in : (b : Bool) (l : CopyLine) → b ≡ true → IsIn l (only b l)
only-in true l h = inl refl
only-in false l h = absurd (false≢true h)

abbrev Was : List Key → List CopyLine → Key → Type 0
Was tried lines k = (has_key tried k ≡ true) ⊎ HasFresh lines k

-- this one is tried now, or was before
one-tried : (tried : List Key) (y : CopyLine) (ys : List CopyLine) (k : Key) → SameKey y k → Was tried (fresh tried (y ∷ ys)) k
one-tried tried y ys k same =
    elim (is_tried tried y) as (λ b. is_tried tried y ≡ b → Was tried (fresh tried (y ∷ ys)) k) [
      | true ↦ λ t. inl (tried-key tried y k same t)
      | false ↦ λ t. inr (y, in-before y (only (not (is_tried tried y)) y) (fresh (with_tried tried y) ys) (only-in (not (is_tried tried y)) y (ap not t)), same)
    ] refl

step-back : (tried : List Key) (y : CopyLine) (ys : List CopyLine) (k : Key) → Was (with_tried tried y) (fresh (with_tried tried y) ys) k → Was tried (fresh tried (y ∷ ys)) k
step-back tried y ys k (inl h) = elim (any-inserted (is_at (key_cmp k)) key_cmp tried (key_of y) h) as (λ _. Was tried (fresh tried (y ∷ ys)) k) [
  | inl was ↦ inl was
  | inr now ↦ one-tried tried y ys k (same-key k y now)
]
step-back tried y ys k (inr h) = inr (h.0, in-behind h.0 (only (not (is_tried tried y)) y) (fresh (with_tried tried y) ys) h.1, h.2)

-- a copy that is listed is tried with these, or was tried before
pub listed-tried : (tried : List Key) (lines : List CopyLine) (l : CopyLine) (k : Key) → IsIn l lines → SameKey l k → (has_key tried k ≡ true) ⊎ HasFresh (fresh tried lines) k
listed-tried tried [] l k h same = absurd h
listed-tried tried (y ∷ ys) l k (inl h) same = one-tried tried y ys k (subst (λ (x : CopyLine). SameKey x k) (sym h) same)
listed-tried tried (y ∷ ys) l k (inr h) same = step-back tried y ys k (listed-tried (with_tried tried y) ys l k h same)

-- a copy that was tried behind these is one of them, or was tried before
pub seen-tried : (tried : List Key) (lines : List CopyLine) (k : Key) → has_key (seen tried lines) k ≡ true → (has_key tried k ≡ true) ⊎ HasFresh (fresh tried lines) k
seen-tried tried [] k h = inl h
seen-tried tried (y ∷ ys) k h = step-back tried y ys k (seen-tried (with_tried tried y) ys k h)

-- ---- the copies that are wanted, one line after the other

map-append : {A B : Type 0} (f : A → B) (xs ys : List A) → map f (xs ++ ys) ≡ map f xs ++ map f ys
map-append f [] ys = refl
map-append {B = B} f (x ∷ xs) ys = ap (λ (zs : List B). f x ∷ zs) (map-append f xs ys)

split : (lines : List CopyLine) (i : ℕ) (line : CopyLine) → i < length lines → line ≡ get_or lines i line → drop i lines ≡ line ∷ drop (i + 1) lines
split lines i line l is = drop_at lines i line l ∙ ap (λ (y : CopyLine). y ∷ drop (i + 1) lines) (sym is)

pub wanted-next : (to : ℕ) (now next : List Key) (lines : List CopyLine) (i : ℕ) (line : CopyLine) (items more all : List Wanted) → i < length lines → line ≡ get_or lines i line
    → more ≡ items ++ map (moving to) (only (not (is_tried now line)) line) → next ≡ with_tried now line → items ++ map (moving to) (fresh now (drop i lines)) ≡ all
    → more ++ map (moving to) (fresh next (drop (i + 1) lines)) ≡ all
wanted-next to now next lines i line items more all l is written tried all_are =
    let this : List CopyLine = only (not (is_tried now line)) line in
    let others : List CopyLine = fresh (with_tried now line) (drop (i + 1) lines) in
    ap₂ (λ (ws : List Wanted) (ks : List Key). ws ++ map (moving to) (fresh ks (drop (i + 1) lines))) written tried
    ∙ append_assoc items (map (moving to) this) (map (moving to) others)
    ∙ ap (λ (ws : List Wanted). items ++ ws) (sym (map-append (moving to) this others))
    ∙ ap (λ (ls : List CopyLine). items ++ map (moving to) (fresh now ls)) (sym (split lines i line l is))
    ∙ all_are

pub seen-next : (now next all : List Key) (lines : List CopyLine) (i : ℕ) (line : CopyLine) → i < length lines → line ≡ get_or lines i line → next ≡ with_tried now line → seen now (drop i lines) ≡ all
    → seen next (drop (i + 1) lines) ≡ all
seen-next now next all lines i line l is tried all_are =
    ap (λ (ks : List Key). seen ks (drop (i + 1) lines)) tried ∙ ap (seen now) (sym (split lines i line l is)) ∙ all_are

pub wanted-last : (to : ℕ) (now : List Key) (lines : List CopyLine) (i : ℕ) (items all : List Wanted) → length lines ≤ i → items ++ map (moving to) (fresh now (drop i lines)) ≡ all → items ≡ all
wanted-last to now lines i items all l all_are =
    sym (append-nil items) ∙ ap (λ (ls : List CopyLine). items ++ map (moving to) (fresh now ls)) (sym (drop_all i lines l)) ∙ all_are

pub seen-last : (now all : List Key) (lines : List CopyLine) (i : ℕ) → length lines ≤ i → seen now (drop i lines) ≡ all → now ≡ all
seen-last now all lines i l all_are = ap (seen now) (sym (drop_all i lines l)) ∙ all_are
