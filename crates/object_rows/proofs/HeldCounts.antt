-- The counts of the held objects, after each change.
use Rattle.std.proofs.Common.{◌≡◌, ℕ, ◌+◌, true, cond, List, Some, None, Result, Ok, Err, refl, sym, ap, subst, ◌∙◌, arith}
use Rattle.std.proofs.lemmas.Map.{lookup-remove_entry}
use Rattle.std.proofs.lemmas.Map.Entries.{sum_by-insert_entry, sum_by-set_value, sum_by-remove_entry}
use Rattle.std.proofs.lemmas.Map.Keys.{IsDistinct-from_sorted}
use Rattle.std.specs.BTreeMap.{insert_entry}
use Rattle.std.specs.Cmp.{eq_by_cmp_equiv, nat_cmp_total}
use Rattle.std.specs.Map.{keys_of, set_value, remove_entry}
use Rattle.std.specs.Ordering.{eq_by_cmp, nat_cmp}
use Rattle.version_groups.specs.kinds.declared.refusal.Refusal.{Refusal}
use Rattle.version_groups.specs.declared.copies.CopyChange.{CopyChange}
use Rattle.version_groups.specs.declared.copies.CopyRow.{CopyRow}
use Rattle.version_groups.specs.Copies.{copies_after}
use Rattle.version_groups.specs.Entries.{on_ok, if_found}
use Rattle.version_groups.proofs.Maps.{lookup-new, lookup-set}
use Rattle.object_rows.specs.declared.held_object.HeldRow.{HeldRow}
use Rattle.object_rows.specs.declared.tally.Tally.{Tally}
use Rattle.object_rows.specs.Filespaces.{at_number}
use Rattle.object_rows.specs.HeldRows.{AreHeld, held_altered_at, held_at, row_altered, weigh_held, weigh_row}
use Rattle.object_rows.specs.Items.{items_of_held, items_with}
use Rattle.object_rows.specs.Tally.{Counts, CountsEach, ExchangesHeld, IsCountedHeld, Owes, OwesEach, placed_in}
use Rattle.object_rows.proofs.Counts.{settled, settled_each}
use Rattle.object_rows.proofs.Stands.{at_itself}

-- what left and what came
pub counted_held_after : (k : ℕ) (held new : List (ℕ × HeldRow)) (was left now : Tally) → ExchangesHeld k held new
    → ((total : ℕ) → Counts total was.items → Owes (weigh_row items_with (held_at k held)) total left.items)
    → ((owed total : ℕ) → Owes owed total left.items → Owes owed (total + weigh_row items_with (held_at k new)) now.items)
    → ((total : ℕ → ℕ) → CountsEach total was.pools → OwesEach (λ pool. weigh_row (placed_in pool) (held_at k held)) total left.pools)
    → ((owed total : ℕ → ℕ) → OwesEach owed total left.pools → OwesEach owed (λ pool. total pool + weigh_row (placed_in pool) (held_at k new)) now.pools)
    → IsCountedHeld was held → IsCountedHeld now new
counted_held_after k held new was left now e leaves enters leaves_each enters_each i = record {
  items =
      let out : ℕ = weigh_row items_with (held_at k held) in
      let in_ : ℕ = weigh_row items_with (held_at k new) in
      settled now.items (items_of_held new) (items_of_held held) out in_ (e items_with) (enters out (items_of_held held) (leaves (items_of_held held) i.items));
  pools =
      let out : ℕ → ℕ = λ pool. weigh_row (placed_in pool) (held_at k held) in
      let in_ : ℕ → ℕ = λ pool. weigh_row (placed_in pool) (held_at k new) in
      let before : ℕ → ℕ = λ pool. weigh_held (placed_in pool) held in
      settled_each now.pools (λ pool. weigh_held (placed_in pool) new) before out in_ (λ pool. e (placed_in pool)) (enters_each out before (leaves_each before i.pools));
}

pub nothing_exchanged_held : (k : ℕ) (held new : List (ℕ × HeldRow)) → new ≡ held → ExchangesHeld k held new
nothing_exchanged_held k held new same = subst (ExchangesHeld k held) (sym same) (λ of. refl)

abbrev weight : (List CopyRow → ℕ) → HeldRow → ℕ
weight of r = of r.held.version.copies

-- a row comes
pub put_exchanges_held : (held new : List (ℕ × HeldRow)) (k : ℕ) (r : HeldRow) → AreHeld held → held_at k held ≡ None → insert_entry nat_cmp held k r ≡ new → ExchangesHeld k held new
put_exchanges_held held new k r h absent is =
    subst (ExchangesHeld k held) is
    (λ of. sum_by-insert_entry (weight of) nat_cmp_total held k r h.sorted ∙ ap (λ o. weigh_held of held + weigh_row of o) (sym (lookup-new nat_cmp_total k r held absent)))

one_number : (k x y : ℕ) → at_number k x ≡ true → at_number k y ≡ eq_by_cmp nat_cmp x y
one_number k x y h = (eq_by_cmp_equiv nat_cmp_total).congr k x y h

pub removed_row : (k : ℕ) (held : List (ℕ × HeldRow)) → AreHeld held → held_at k (remove_entry (at_number k) held) ≡ None
removed_row k held h =
    lookup-remove_entry (eq_by_cmp_equiv nat_cmp_total) (at_number k) (one_number k) k held (IsDistinct-from_sorted nat_cmp (keys_of held) h.sorted)
    ∙ ap (λ b. cond b None (held_at k held)) (at_itself k)

and_nothing : (a b : ℕ) → a ≡ b → a ≡ b + 0
and_nothing a b h = omega (arith, h)

-- a row goes, where there is one
pub take_exchanges_held : (held new : List (ℕ × HeldRow)) (k : ℕ) → AreHeld held → new ≡ remove_entry (at_number k) held → ExchangesHeld k held new
take_exchanges_held held new k h is =
    subst (ExchangesHeld k held) (sym is)
    (λ of. and_nothing (weigh_held of (remove_entry (at_number k) held) + weigh_row of (held_at k held)) (weigh_held of held) (sum_by-remove_entry (weight of) (at_number k) held)
    ∙ ap (λ o. weigh_held of held + weigh_row of o) (sym (removed_row k held h)))

set_exchanges : (held : List (ℕ × HeldRow)) (k : ℕ) (r q : HeldRow) → held_at k held ≡ Some r → ExchangesHeld k held (set_value (at_number k) held q)
set_exchanges held k r q there of =
    ap (λ o. weigh_held of (set_value (at_number k) held q) + weigh_row of o) there
    ∙ sum_by-set_value (weight of) (at_number k) held r q there
    ∙ ap (λ o. weigh_held of held + weigh_row of o) (sym (lookup-set (at_number k) r q held there))

-- the copies of a row change
pub alter_exchanges_held : (held new : List (ℕ × HeldRow)) (k : ℕ) (change : CopyChange) → held_altered_at k change held ≡ Ok new → ExchangesHeld k held new
alter_exchanges_held held new k change said =
    elim (held_at k held) as (λ o. held_at k held ≡ o → if_found o (λ r. on_ok (set_value (at_number k) held) (row_altered change r)) ≡ Ok new → ExchangesHeld k held new) [
      | None ↦ λ _ t. absurd (cc)
      | Some r ↦ λ there t. go r there (copies_after change r.held.version.copies) t
    ] refl said
  where
    go : (r : HeldRow) → held_at k held ≡ Some r → (said : Result (List CopyRow) Refusal)
        → on_ok (set_value (at_number k) held) (on_ok (λ copies. record r { held = record (r.held) { version = record (r.held.version) { copies = copies } } }) said) ≡ Ok new → ExchangesHeld k held new
    go r there (Ok copies) t =
        let q : HeldRow = record r { held = record (r.held) { version = record (r.held.version) { copies = copies } } } in
        let made : set_value (at_number k) held q ≡ new = cc in
        subst (ExchangesHeld k held) made (set_exchanges held k r q there)
    go r there (Err e) t = absurd (cc)
