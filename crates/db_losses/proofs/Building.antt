-- A map that is built from another one's entries, in their order.
use Rattle.std.proofs.Common.{◌≡◌, ◌⊎◌, inl, inr, List, [], ◌∷◌, ◌++◌, refl, sym, ap, subst, ◌∙◌, append_assoc, append-nil}
use Rattle.std.specs.BTreeMap.{insert_entry}
use Rattle.std.specs.Cmp.{IsTotalOrder}
use Rattle.std.specs.List.{AllByRecursion}
use Rattle.std.specs.List.Sorted.{IsStrictlySortedBy}
use Rattle.std.specs.Map.{keys_of}
use Rattle.std.specs.Ordering.{match_ordering, ordering_reverse}
use Rattle.std.specs.declared.cmp.Ordering.{Ordering}
use Rattle.std.specs.declared.cmp.Ordering.TheVariants.{Greater, Less}
use Rattle.db_losses.specs.Behind.{IsBehind}

pub insert_last : {K V : Type 0} (cmp : K → K → Ordering) (out : List (K × V)) (k : K) (v : V) → IsBehind cmp k out → insert_entry cmp out k v ≡ out ++ (k, v) ∷ []
insert_last cmp [] k v behind = refl
insert_last {K} {V} cmp (e ∷ out) k v behind =
    subst (λ (o : Ordering). match_ordering o ((k, v) ∷ e ∷ out) ((e.0, v) ∷ out) (e ∷ insert_entry cmp out k v) ≡ e ∷ (out ++ (k, v) ∷ [])) (sym behind.0) (ap (λ (l : List (K × V)). e ∷ l) (insert_last cmp out k v behind.1))

all_middle : {K : Type 0} (P : K → Type 0) (ks : List K) (k : K) (rest : List K) → AllByRecursion P (ks ++ k ∷ rest) → P k
all_middle P [] k rest all = all.0
all_middle P (x ∷ ks) k rest all = all_middle P ks k rest all.1

all_without : {K : Type 0} (P : K → Type 0) (ks : List K) (k : K) (rest : List K) → AllByRecursion P (ks ++ k ∷ rest) → AllByRecursion P (ks ++ rest)
all_without P [] k rest all = all.1
all_without P (x ∷ ks) k rest all = (all.0, all_without P ks k rest all.1)

keys_joined : {K V : Type 0} (xs ys : List (K × V)) → keys_of (xs ++ ys) ≡ keys_of xs ++ keys_of ys
keys_joined [] ys = refl
keys_joined {K} (x ∷ xs) ys = ap (λ (l : List K). x.0 ∷ l) (keys_joined xs ys)

module _ {K : Type 0} {cmp : K → K → Ordering} (total : IsTotalOrder cmp) where
  turned : (a b : K) → cmp a b ≡ Less → cmp b a ≡ Greater
  turned a b h = total.antisymm b a ∙ ap ordering_reverse h

  sorted_behind : (ks : List K) (k : K) (rest : List K) → IsStrictlySortedBy cmp (ks ++ k ∷ rest) → AllByRecursion (λ x. cmp k x ≡ Greater) ks
  unfolding IsStrictlySortedBy
  sorted_behind [] k rest sorted = tt
  sorted_behind (x ∷ ks) k rest sorted = (turned x k (all_middle (λ y. cmp x y ≡ Less) ks k rest sorted.0), sorted_behind ks k rest sorted.1)

  sorted_without : (ks : List K) (k : K) (rest : List K) → IsStrictlySortedBy cmp (ks ++ k ∷ rest) → IsStrictlySortedBy cmp (ks ++ rest)
  unfolding IsStrictlySortedBy
  sorted_without [] k rest sorted = sorted.1
  sorted_without (x ∷ ks) k rest sorted = (all_without (λ y. cmp x y ≡ Less) ks k rest sorted.0, sorted_without ks k rest sorted.1)

-- Of a map's entries these are left; what is made of those in front of them stands in the new map, whose keys stand before theirs.
pub record Building {K V : Type 0} (cmp : K → K → Ordering) (made : List (K × V) → List (K × V)) (all rest out : List (K × V)) : Type 0 where
  pub order : IsStrictlySortedBy cmp (keys_of out ++ keys_of rest)
  pub whole : out ++ made rest ≡ made all

-- what is made of one entry: nothing, or one with its key
abbrev pub IsMadeOne : {K V : Type 0} → (List (K × V) → List (K × V)) → K × V → Type 0
IsMadeOne {K} {V} made e = (made (e ∷ []) ≡ []) ⊎ ((v : V) × (made (e ∷ []) ≡ (e.0, v) ∷ []))

module _ {K V : Type 0} {cmp : K → K → Ordering} (total : IsTotalOrder cmp) (made : List (K × V) → List (K × V)) (all : List (K × V)) where
  pub building_none : IsStrictlySortedBy cmp (keys_of all) → Building cmp made all all []
  building_none sorted = record { order = sorted; whole = refl }

  pub building_behind : (e : K × V) (rest out : List (K × V)) → Building cmp made all (e ∷ rest) out → IsBehind cmp e.0 out
  building_behind e rest out b = sorted_behind total (keys_of out) e.0 (keys_of rest) b.order

  pub building_next : ((e : K × V) (rest : List (K × V)) → made (e ∷ rest) ≡ made (e ∷ []) ++ made rest) → ((e : K × V) → IsMadeOne made e) → (e : K × V) (rest out new : List (K × V)) → new ≡ out ++ made (e ∷ []) → Building cmp made all (e ∷ rest) out → Building cmp made all rest new
  building_next first one e rest out new is b = record {
    order = go (one e);
    whole = ap (λ (l : List (K × V)). l ++ made rest) is ∙ append_assoc out (made (e ∷ [])) (made rest) ∙ ap (λ (l : List (K × V)). out ++ l) (sym (first e rest)) ∙ b.whole;
  }
    where
      go : IsMadeOne made e → IsStrictlySortedBy cmp (keys_of new ++ keys_of rest)
      go (inl none) = subst (λ (l : List (K × V)). IsStrictlySortedBy cmp (keys_of l ++ keys_of rest)) (sym (is ∙ ap (λ (l : List (K × V)). out ++ l) none ∙ append-nil out)) (sorted_without total (keys_of out) e.0 (keys_of rest) b.order)
      go (inr some) =
          subst (IsStrictlySortedBy cmp) (sym (
          ap (λ (l : List (K × V)). keys_of l ++ keys_of rest) (is ∙ ap (λ (l : List (K × V)). out ++ l) some.1)
          ∙ ap (λ (l : List K). l ++ keys_of rest) (keys_joined out ((e.0, some.0) ∷ [])) ∙ append_assoc (keys_of out) (e.0 ∷ []) (keys_of rest)))
          b.order

  pub building_done : made [] ≡ [] → (out : List (K × V)) → Building cmp made all [] out → out ≡ made all
  building_done none out b = sym (append-nil out) ∙ ap (λ (l : List (K × V)). out ++ l) (sym none) ∙ b.whole
