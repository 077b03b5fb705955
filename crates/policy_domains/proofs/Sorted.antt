-- Entries in the ascending order of their keys stay so where one goes and where one comes to its place.
use Rattle.std.proofs.Common.{◌≡◌, Bool, true, false, cond, List, [], ◌∷◌, Ordering, refl, ap, ◌∙◌}
use Rattle.std.specs.BTreeMap.{insert_entry}
use Rattle.std.specs.Cmp.{IsTotalOrder}
use Rattle.std.specs.List.{AllByRecursion}
use Rattle.std.specs.List.Sorted.{IsStrictlySortedBy}
use Rattle.std.specs.Map.{keys_of, remove_entry}
use Rattle.std.specs.Ordering.{match_ordering, ordering_reverse}
use Rattle.std.specs.declared.cmp.Ordering.TheVariants.{Less, Equal, Greater}

all-remove : {K X : Type 0} (P : K → Type 0) (test : K → Bool) (es : List (K × X)) → AllByRecursion P (keys_of es) → AllByRecursion P (keys_of (remove_entry test es))
all-remove P test [] h = h
all-remove P test (e ∷ es) h = elim (test e.0) as (λ b. AllByRecursion P (keys_of (cond b es (e ∷ remove_entry test es)))) [ true ↦ h.1 | false ↦ (h.0, all-remove P test es h.1) ]

all-insert : {K X : Type 0} (P : K → Type 0) (R : K → K → Ordering) (k : K) (v : X) (es : List (K × X)) → P k → AllByRecursion P (keys_of es) → AllByRecursion P (keys_of (insert_entry R es k v))
all-insert P R k v [] p h = (p, tt)
all-insert P R k v (e ∷ es) p h =
    elim (R k e.0) as (λ r. AllByRecursion P (keys_of (match_ordering r ((k, v) ∷ e ∷ es) ((e.0, v) ∷ es) (e ∷ insert_entry R es k v)))) [
      | Less ↦ (p, h)
      | Equal ↦ h
      | Greater ↦ (h.0, all-insert P R k v es p h.1)
    ]

all_above : {K : Type 0} {R : K → K → Ordering} (o : IsTotalOrder R) (k e : K) (ks : List K) → R k e ≡ Less → AllByRecursion (λ y. R e y ≡ Less) ks → AllByRecursion (λ y. R k y ≡ Less) ks
all_above o k e [] l h = tt
all_above o k e (y ∷ ks) l h = (o.trans k e y l h.0, all_above o k e ks l h.1)

pub sorted-remove : {K X : Type 0} (R : K → K → Ordering) (test : K → Bool) (es : List (K × X)) → IsStrictlySortedBy R (keys_of es) → IsStrictlySortedBy R (keys_of (remove_entry test es))
unfolding IsStrictlySortedBy
sorted-remove R test [] h = h
sorted-remove R test (e ∷ es) h =
    elim (test e.0) as (λ b. IsStrictlySortedBy R (keys_of (cond b es (e ∷ remove_entry test es)))) [
      | true ↦ h.1
      | false ↦ (all-remove (λ y. R e.0 y ≡ Less) test es h.0, sorted-remove R test es h.1)
    ]

pub sorted-insert : {K X : Type 0} {R : K → K → Ordering} (o : IsTotalOrder R) (k : K) (v : X) (es : List (K × X)) → IsStrictlySortedBy R (keys_of es) → IsStrictlySortedBy R (keys_of (insert_entry R es k v))
unfolding IsStrictlySortedBy
sorted-insert o k v [] h = (tt, tt)
sorted-insert {K} {X} {R} o k v (e ∷ es) h =
    elim (R k e.0) as (λ r. R k e.0 ≡ r → IsStrictlySortedBy R (keys_of (match_ordering r ((k, v) ∷ e ∷ es) ((e.0, v) ∷ es) (e ∷ insert_entry R es k v)))) [
      | Less ↦ λ below. ((below, all_above o k e.0 (keys_of es) below h.0), h)
      | Equal ↦ λ _. h
      | Greater ↦ λ above. (all-insert (λ y. R e.0 y ≡ Less) R k v es (o.antisymm e.0 k ∙ ap ordering_reverse above) h.0, sorted-insert o k v es h.1)
    ] refl
