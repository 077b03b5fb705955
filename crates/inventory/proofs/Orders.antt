-- What the order of the rows gives.
use Rattle.std.proofs.Common.{◌≡◌, ℕ, true, false, not, List, [], ◌∷◌, refl, ap, ◌∙◌, arith}
use Rattle.std.specs.Prelude.{◌==◌, eqb}
use Rattle.std.proofs.lemmas.Bool.{eqb-true}
use Rattle.std.specs.List.{list_all, AllByRecursion}
use Rattle.std.specs.List.Sorted.{IsStrictlySortedBy}
use Rattle.std.specs.Map.{keys_of}
use Rattle.std.specs.Ordering.{nat_cmp}
use Rattle.std.specs.declared.cmp.Ordering.TheVariants.{Less}
use Rattle.entries.specs.declared.change.Change.{Change}
use Rattle.inventory_rows.specs.State.{Inv}
use Rattle.inventory_rules.specs.Valid.{are_apart}
use Rattle.inventory_laws.proofs.Facts.{both}
use Rattle.inventory_rules.specs.Transactions.{IsOrderedFor}
use Rattle.inventory_laws.proofs.Every.{ordered_for}
use Rattle.inventory_rows.specs.Ascending.{AreAscending}
use Rattle.inventory.specs.Legal.{IsAscending}

other : (k n : ℕ) → nat_cmp k n ≡ Less → not (k == n) ≡ true
other k n h = elim (eqb k n) as (λ b. eqb k n ≡ b → not b ≡ true) [
  | true ↦ λ same. absurd (let t : nat_cmp k k ≡ Less = ap (nat_cmp k) (eqb-true k n same) ∙ h in grind (arith, t))
  | false ↦ λ _. refl
] refl

others : (k : ℕ) (ks : List ℕ) → AllByRecursion (λ n. nat_cmp k n ≡ Less) ks → list_all (λ n. not (k == n)) ks ≡ true
others k [] h = refl
others k (n ∷ ks) h = both (not (k == n)) (list_all (λ n. not (k == n)) ks) (other k n h.0) (others k ks h.1)

sorted_apart : (ks : List ℕ) → IsStrictlySortedBy nat_cmp ks → are_apart ks ≡ true
unfolding IsStrictlySortedBy
sorted_apart [] h = refl
sorted_apart (k ∷ ks) h = both (list_all (λ n. not (k == n)) ks) (are_apart ks) (others k ks h.0) (sorted_apart ks h.1)

pub ascending : (v : Inv) → AreAscending v → IsAscending v
ascending v a = record {
  rows = record { by_number = a.filespaces; by_path = a.paths };
  pools = sorted_apart (keys_of v.stores.pools) a.pools;
}

pub counted : (c : Change) (v : Inv) → AreAscending v → IsOrderedFor c v
counted c v a = ordered_for c v (a.sets, a.paths)
