-- Pairs of rows of which one test is asked, where the rows stand in another order or some of them are one entry.
use Rattle.std.proofs.Common.{◌≡◌, Bool, true, false, ◌&&◌, cond, List, [], ◌∷◌, Some, None, refl, ap, ◌∙◌}
use Rattle.std.specs.BTreeMap.{insert_entry, is_at}
use Rattle.std.specs.List.{list_all}
use Rattle.std.specs.Map.{lookup, set_value}
use Rattle.std.specs.Ordering.{is_eq, match_ordering}
use Rattle.std.specs.declared.cmp.Ordering.{Ordering}
use Rattle.std.specs.declared.cmp.Ordering.TheVariants.{Less, Equal, Greater}
use Rattle.inventory_rows.specs.version_groups.Entries.{all_later}

-- ---- tests
swapped : (a b c : Bool) → (a && (b && c)) ≡ (b && (a && c))
swapped true true c = refl
swapped true false c = refl
swapped false true c = refl
swapped false false c = refl

twice : (a b : Bool) → (a && b) ≡ (a && (a && b))
twice true b = refl
twice false b = refl

pub assoc : (a b c : Bool) → ((a && b) && c) ≡ (a && (b && c))
assoc true b c = refl
assoc false b c = refl

crossed : (a b c d : Bool) → ((a && b) && (c && d)) ≡ ((a && c) && (b && d))
crossed true b c d = swapped b c d
crossed false b c d = refl

never : (a : Bool) → (a && false) ≡ false
never true = refl
never false = refl

-- ---- an entry more
pub list_all-inserted : {K X : Type 0} (p : K × X → Bool) (cmp : K → K → Ordering) (es : List (K × X)) (k : K) (v : X) → lookup (is_at (cmp k)) es ≡ None → list_all p (insert_entry cmp es k v) ≡ (p (k, v) && list_all p es)
list_all-inserted p cmp [] k v absent = refl
list_all-inserted {K} {X} p cmp (e ∷ es) k v absent =
    elim (cmp k e.0) as (λ o. cond (is_eq o) (Some e.1) (lookup (is_at (cmp k)) es) ≡ None → list_all p (match_ordering o ((k, v) ∷ e ∷ es) ((e.0, v) ∷ es) (e ∷ insert_entry cmp es k v)) ≡ (p (k, v) && list_all p (e ∷ es))) [
      | Less ↦ λ h. refl
      | Equal ↦ λ h. absurd cc
      | Greater ↦ λ h. ap (λ b. p e && b) (list_all-inserted p cmp es k v h) ∙ swapped (p e) (p (k, v)) (list_all p es)
    ] absent

pub all_later-inserted : {K X : Type 0} (r : K × X → K × X → Bool) (flips : (a b : K × X) → r a b ≡ r b a) (cmp : K → K → Ordering) (es : List (K × X)) (k : K) (v : X) → lookup (is_at (cmp k)) es ≡ None
    → all_later r (insert_entry cmp es k v) ≡ (list_all (r (k, v)) es && all_later r es)
all_later-inserted r flips cmp [] k v absent = refl
all_later-inserted {K} {X} r flips cmp (e ∷ es) k v absent =
    elim (cmp k e.0) as (λ o. cond (is_eq o) (Some e.1) (lookup (is_at (cmp k)) es) ≡ None → all_later r (match_ordering o ((k, v) ∷ e ∷ es) ((e.0, v) ∷ es) (e ∷ insert_entry cmp es k v)) ≡ (list_all (r (k, v)) (e ∷ es) && all_later r (e ∷ es))) [
      | Less ↦ λ h. refl
      | Equal ↦ λ h. absurd cc
      | Greater ↦ λ h.
          ap (λ b. b && all_later r (insert_entry cmp es k v)) (list_all-inserted (r e) cmp es k v h)
          ∙ ap (λ b. (r e (k, v) && list_all (r e) es) && b) (all_later-inserted r flips cmp es k v h)
          ∙ crossed (r e (k, v)) (list_all (r e) es) (list_all (r (k, v)) es) (all_later r es)
          ∙ ap (λ b. (b && list_all (r (k, v)) es) && (list_all (r e) es && all_later r es)) (flips e (k, v))
    ] absent

-- ---- an entry that is there
pub there : {K X : Type 0} (p : K → Bool) (test : K → Bool) (k : K) (same : (q : K) → test q ≡ true → q ≡ k) (es : List (K × X)) (v : X) → lookup test es ≡ Some v → list_all (λ e. p e.0) es ≡ (p k && list_all (λ e. p e.0) es)
there p test k same [] v h = absurd cc
there {K} {X} p test k same (e ∷ es) v h =
    elim (test e.0) as (λ b. test e.0 ≡ b → cond b (Some e.1) (lookup test es) ≡ Some v → (p e.0 && list_all (λ (d : K × X). p d.0) es) ≡ (p k && (p e.0 && list_all (λ (d : K × X). p d.0) es))) [
      | true ↦ λ t s. twice (p e.0) (list_all (λ (d : K × X). p d.0) es) ∙ ap (λ q. p q && (p e.0 && list_all (λ (d : K × X). p d.0) es)) (same e.0 t)
      | false ↦ λ t s. ap (λ b. p e.0 && b) (there p test k same es v s) ∙ swapped (p e.0) (p k) (list_all (λ (d : K × X). p d.0) es)
    ] refl h

pub list_all-set_value : {K X : Type 0} (p : K → Bool) (test : K → Bool) (es : List (K × X)) (w : X) → list_all (λ e. p e.0) (set_value test es w) ≡ list_all (λ e. p e.0) es
list_all-set_value p test [] w = refl
list_all-set_value {K} {X} p test (e ∷ es) w =
    elim (test e.0) as (λ b. list_all (λ (d : K × X). p d.0) (cond b ((e.0, w) ∷ es) (e ∷ set_value test es w)) ≡ (p e.0 && list_all (λ (d : K × X). p d.0) es)) [
      | true ↦ refl
      | false ↦ ap (λ b. p e.0 && b) (list_all-set_value p test es w)
    ]

pub fails_there : {K X : Type 0} (p : X → Bool) (test : K → Bool) (es : List (K × X)) (v w : X) → lookup test es ≡ Some v → p w ≡ false → list_all (λ e. p e.1) (set_value test es w) ≡ false
fails_there p test [] v w h f = absurd cc
fails_there {K} {X} p test (e ∷ es) v w h f =
    elim (test e.0) as (λ b. cond b (Some e.1) (lookup test es) ≡ Some v → list_all (λ (d : K × X). p d.1) (cond b ((e.0, w) ∷ es) (e ∷ set_value test es w)) ≡ false) [
      | true ↦ λ s. ap (λ b. b && list_all (λ (d : K × X). p d.1) es) f
      | false ↦ λ s. ap (λ b. p e.1 && b) (fails_there p test es v w s f) ∙ never (p e.1)
    ] h
