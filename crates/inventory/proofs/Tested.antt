-- What the tests made before a transaction refuse is what the rules refuse.
use Rattle.std.proofs.Common.{◌≡◌, ◌+◌, ◌≤◌, ◌^◌, Bool, true, false, cond, List, [], ◌∷◌, ◌++◌, Option, Some, None, refl, sym, ap, ◌∙◌, arith}
use Rattle.std.specs.Prelude.{nat_le, nat_lt}
use Rattle.std.specs.Map.{keys_of}
use Rattle.std.proofs.lemmas.Bool.{le-leb, leb-true, ltb-true}
use Rattle.kinds.specs.Refusals.{foremost, place_of, sooner_of, unless}
use Rattle.kinds.specs.declared.change.PolicyChange.{PolicyChange}
use Rattle.kinds.specs.declared.change.PolicyChange.TheVariants as policy
use Rattle.kinds.specs.declared.change.DefineOrDelete.TheVariants as two
use Rattle.kinds.specs.declared.change.Verb.TheVariants as verb
use Rattle.kinds.specs.declared.refusal.Refusal.{Refusal}
use Rattle.kinds.specs.declared.refusal.Refusal.TheVariants as refusal
use Rattle.entries.specs.declared.change.Change.{Change}
use Rattle.entries.specs.declared.change.Change.TheVariants as change
use Rattle.inventory_rows.specs.Items.{count_items, most_items}
use Rattle.inventory_rows.specs.State.{Inv}
use Rattle.inventory_rules.specs.Common.{full_at, one_if}
use Rattle.inventory_rules.specs.Held.{IsTied}
use Rattle.inventory_rules.specs.Journal.{Journal}
use Rattle.inventory_rules.specs.Ordered.{IsOrdered}
use Rattle.inventory_rules.specs.Policy.{is_new_policy, policy_added}
use Rattle.inventory_rules.specs.Transactions.{brings_items, causes, effect, items_added, items_gone, parts_fit, refused, sizes_refused, then_valid, IsDayOf, IsOrderedFor}
use Rattle.inventory_rules.specs.Valid.{are_apart, is_valid}
use Rattle.inventory_laws.proofs.Every.{fits, others, stays}
use Rattle.inventory_laws.proofs.Facts.{facts_of, first, rest}
use Rattle.inventory_laws.proofs.Fitting.{fitting}
use Rattle.inventory_sizes.specs.Sizes.{has_item_room}
use Rattle.inventory_rows.specs.Ascending.{AreAscending}
use Rattle.inventory.specs.Legal.{IsAscending, sizes, tested}
use Rattle.inventory.proofs.Nothing.{none_of}
use Rattle.inventory.proofs.Orders.{ascending, counted}
use Rattle.inventory.proofs.Sooner.{are_sooner, is_sooner, sooner_causes}

-- ---- sizes behind causes

-- what is refused where a size isn't within its bound, or the other isn't
abbrev sized : Bool → Bool → List Refusal
sized a b = unless a refusal.InventoryFull ++ unless b refusal.InventoryFull

not_behind : (e : Refusal) → is_sooner e ≡ true → sooner_of (Some e) (Some refusal.InventoryFull) ≡ Some e
not_behind e h = go (nat_lt (place_of refusal.InventoryFull) (place_of e)) refl where
  go : (b : Bool) → nat_lt (place_of refusal.InventoryFull) (place_of e) ≡ b → Some (cond b refusal.InventoryFull e) ≡ Some e
  go true is = absurd (omega (arith, leb-true (place_of e) (place_of refusal.InventoryFull) h, ltb-true (place_of refusal.InventoryFull) (place_of e) is))
  go false is = refl

first_stays : (e : Refusal) (a b : Bool) → is_sooner e ≡ true → sooner_of (Some e) (foremost (sized a b)) ≡ Some e
first_stays e true true h = refl
first_stays e true false h = not_behind e h
first_stays e false true h = not_behind e h
first_stays e false false h = not_behind e h

-- causes that come sooner are answered whatever the sizes are
before_sizes : (e : Refusal) (es : List Refusal) (a b : Bool) → are_sooner (e ∷ es) ≡ true → foremost (e ∷ (es ++ sized a b)) ≡ foremost (e ∷ es)
before_sizes e [] a b h = first_stays e a b (first (is_sooner e) true h)
before_sizes e (f ∷ es) a b h = ap (sooner_of (Some e)) (before_sizes f es a b (rest (is_sooner e) (are_sooner (f ∷ es)) h))

-- where there is a cause, nothing is asked of the database afterwards
any_end : (e : Refusal) (o : Option Refusal) (p q : Bool) → then_valid (sooner_of (Some e) o) p ≡ then_valid (sooner_of (Some e) o) q
any_end e None p q = refl
any_end e (Some f) p q = refl

same_end : (o : Option Refusal) (p q : Bool) → (o ≡ None → p ≡ q) → then_valid o p ≡ then_valid o q
same_end (Some e) p q same = refl
same_end None p q same = ap (then_valid None) (same refl)

-- ---- what brings no items

no_policy_added : (c : PolicyChange) (v : Inv) → is_new_policy c ≡ false → policy_added c v.domains ≡ 0
no_policy_added (policy.Domain verb.Define domain days) v b = absurd cc
no_policy_added (policy.Set two.Define domain set) v b = absurd cc
no_policy_added (policy.Class two.Define domain set class) v b = absurd cc
no_policy_added (policy.Activate domain set) v b = absurd cc
no_policy_added _ v b = refl

none_added : (c : Change) (v : Inv) → brings_items c ≡ false → items_added c v ≡ 0
none_added (change.Policy c) v b = no_policy_added c v b
none_added (change.Object c) v b = ap one_if b
none_added (change.Pool c) v b = ap one_if b
none_added (change.Backup c) v b = absurd cc
none_added (change.Hold c) v b = absurd cc
none_added (change.Move c) v b = absurd cc
none_added (change.Copy c) v b = absurd cc
none_added (change.DbBegin file after) v b = absurd cc
none_added _ v b = refl

-- so nothing is refused for its size, neither by a count before it nor by one afterwards
room_for_none : (c : Change) (v : Inv) → is_valid v ≡ true → brings_items c ≡ false → has_item_room c v ≡ nat_le (count_items (effect c v)) most_items
room_for_none c v valid b =
    let few : count_items v ≤ most_items = leb-true (count_items v) most_items (facts_of v valid).few_items in
    le-leb (count_items v + items_added c v) (most_items + items_gone c v) (omega (arith, few, none_added c v b)) ∙ sym (le-leb (count_items (effect c v)) most_items (omega (arith, few, others c v valid b)))

-- ---- the tests and the rules

-- where the count before a transaction leaves room exactly where the one afterwards is small enough, the sizes refuse alike
same_sizes : (c : Change) (v : Inv) → has_item_room c v ≡ nat_le (count_items (effect c v)) most_items → sizes c v ≡ sizes_refused c v
same_sizes c v same = ap (λ b. unless b refusal.InventoryFull ++ full_at v.number (2 ^ 62)) same

agree : (p q : Bool) → (p ≡ true → q ≡ true) → (q ≡ true → p ≡ true) → p ≡ q
agree true q f g = sym (f refl)
agree false true f g = g refl
agree false false f g = refl

module _ (j : Journal) (c : Change) (v : Inv) (valid : is_valid v ≡ true) where
  abbrev Alike : List Refusal → Type 0
  Alike es = then_valid (foremost (es ++ sizes c v)) (parts_fit c v) ≡ then_valid (foremost (es ++ sizes_refused c v)) (is_valid (effect c v))

  alike_causes : (e : Refusal) (es : List Refusal) → causes j c v ≡ e ∷ es → (b : Bool) → brings_items c ≡ b → Alike (e ∷ es)
  alike_causes e es is true b =
      let sooner : are_sooner (e ∷ es) ≡ true = sym (ap are_sooner is) ∙ sooner_causes j c v b in
      ap (λ (o : Option Refusal). then_valid o (parts_fit c v)) (before_sizes e es (has_item_room c v) (nat_lt (v.number + 1) (2 ^ 62)) sooner)
      ∙ any_end e (foremost es) (parts_fit c v) (is_valid (effect c v))
      ∙ sym (ap (λ (o : Option Refusal). then_valid o (is_valid (effect c v))) (before_sizes e es (nat_le (count_items (effect c v)) most_items) (nat_lt (v.number + 1) (2 ^ 62)) sooner))
  alike_causes e es is false b =
      ap (λ (s : List Refusal). then_valid (foremost (e ∷ (es ++ s))) (parts_fit c v)) (same_sizes c v (room_for_none c v valid b))
      ∙ any_end e (foremost (es ++ sizes_refused c v)) (parts_fit c v) (is_valid (effect c v))

  alike_none : IsTied v → IsOrdered v → are_apart (keys_of v.stores.pools) ≡ true → IsDayOf c → IsOrderedFor c v → causes j c v ≡ [] → Alike []
  alike_none tied rows apart day order free =
      ap (λ (s : List Refusal). then_valid (foremost s) (parts_fit c v)) (same_sizes c v (sym (fits j c v valid order free)))
      ∙ same_end (foremost (sizes_refused c v)) (parts_fit c v) (is_valid (effect c v))
      (λ none. agree (parts_fit c v) (is_valid (effect c v)) (λ fit. (stays j c v valid tied rows apart day free (none_of (sizes_refused c v) none) fit).0)
      (λ after. fitting j c v valid tied rows apart free after))

  pub tested_alike : IsTied v → AreAscending v → IsDayOf c → tested j c v ≡ refused j c v
  unfolding tested refused
  tested_alike tied order day = go (causes j c v) refl where
    go : (es : List Refusal) → causes j c v ≡ es → Alike es
    go [] is = let up : IsAscending v = ascending v order in alike_none tied up.rows up.pools day (counted c v order) is
    go (e ∷ es) is = alike_causes e es is (brings_items c) refl
