-- What a transaction leaves is within the bound that rose by what it brings.
use Rattle.std.proofs.Common.{◌≡◌, ℕ, ◌+◌, ◌≤◌, Bool, true, false, cond, min, nat_le, [], Option, Some, None, IfSome, Result, Ok, Err, refl, sym, subst, arith}
use Rattle.std.proofs.lemmas.Bool.{leb-true}
use Rattle.std.proofs.lemmas.Option.{same_Some}
use Rattle.entries.specs.declared.change.Change.{Change}
use Rattle.inventory_laws.proofs.Facts.{facts_of}
use Rattle.inventory_rows.specs.Items.{count_items, most_items}
use Rattle.inventory_rows.specs.State.{Inv}
use Rattle.inventory_rules.specs.Transactions.{effect, causes, brings_items, items_added, refused, IsOrderedFor}
use Rattle.inventory_rules.specs.Journal.{Journal}
use Rattle.inventory_rules.specs.Valid.{is_valid}
use Rattle.inventory_effects.proofs.Ways.{same_Ok}
use Rattle.kinds.specs.Answers.{Becomes}
use Rattle.kinds.specs.declared.refusal.Refusal.{Refusal}
use Rattle.inventory_laws.proofs.Every.{adds, others}
use Rattle.inventory_sizes.specs.Room.{sum_within}
use Rattle.inventory_rows.specs.Ascending.{AreAscending}
use Rattle.inventory.proofs.Nothing.{IsFree, is_free}
use Rattle.inventory.proofs.Orders.{counted}

-- no more items than there were, but for those that come
items_more : (j : Journal) (c : Change) (v : Inv) → is_valid v ≡ true → IsOrderedFor c v → causes j c v ≡ [] → count_items (effect c v) ≤ count_items v + items_added c v
items_more j c v valid o free = go (brings_items c) refl where
  go : (b : Bool) → brings_items c ≡ b → count_items (effect c v) ≤ count_items v + items_added c v
  go true b = omega (arith, adds j c v valid o free b)
  go false b = omega (arith, others c v valid b)

-- a database that is valid is counted in whole
pub items_counted : (v : Inv) → is_valid v ≡ true → min (count_items v) most_items ≡ count_items v
items_counted v valid = let few : count_items v ≤ most_items = leb-true (count_items v) most_items (facts_of v valid).few_items in omega (arith, few)

-- what the bound is then, where it may be so much
risen : (known more most n : ℕ) → sum_within known more most ≡ Some n → n ≡ known + more
risen known more most n h = go (nat_le (known + more) most) h where
  go : (b : Bool) → cond b (Some (known + more)) None ≡ Some n → n ≡ known + more
  go true k = sym (same_Some (known + more) n k)
  go false k = absurd cc

-- the rows became what the transaction makes of them
pub made : {A : Type 0} (r : Result A Refusal) (x : A) (c : Change) (old new : Inv) → r ≡ Ok x → Becomes {A = A} r old new (Ok (effect c old)) → new ≡ effect c old
made {A} r x c old new is becomes = go r is becomes where
  go : (s : Result A Refusal) → s ≡ Ok x → Becomes {A = A} s old new (Ok (effect c old)) → new ≡ effect c old
  go (Ok y) e b = sym (same_Ok (effect c old) new b)
  go (Err y) e b = absurd cc

-- so the bound that rose is one of what the rows became
pub all_within : {A : Type 0} (j : Journal) (c : Change) (r : Result A Refusal) (x : A) (v w : Inv) → is_valid v ≡ true → AreAscending v → refused j c v ≡ None → (known : ℕ) → count_items v ≤ known → r ≡ Ok x → Becomes {A = A} r v w (Ok (effect c v))
    → (o : Option ℕ) → o ≡ sum_within known (items_added c v) most_items → IfSome o (λ n. count_items w ≤ n)
all_within j c r x v w valid order legal known within is becomes None raised = tt
all_within j c r x v w valid order legal known within is becomes (Some n) raised =
    let free : IsFree j c v = is_free j c v legal in
    let items : count_items (effect c v) ≤ count_items v + items_added c v = items_more j c v valid (counted c v order) free.causes in
    let higher : n ≡ known + items_added c v = risen known (items_added c v) most_items n (sym raised) in
    let enough : count_items (effect c v) ≤ n = omega (arith, items, within, higher) in
    subst (λ (u : Inv). count_items u ≤ n) (sym (made r x c v w is becomes)) enough
