-- A file number that a volume of the run has had is given to no other.
use Rattle.std.proofs.Common.{◌≡◌, inl, inr, ℕ, ◌<◌, ◌≤◌, ◌&&◌, true, false, cond, List, [], ◌∷◌, drop, Option, None, Some, is_none, is_some, refl, sym, ap, subst, ◌∙◌, arith}
use Rattle.std.specs.Prelude.{nat_le, nat_lt}
use Rattle.std.specs.BTreeMap.{is_at}
use Rattle.std.specs.List.{AllByRecursion}
use Rattle.std.specs.Map.{keys_of}
use Rattle.std.specs.Option.{option_map}
use Rattle.std.specs.Ordering.{nat_cmp}
use Rattle.std.proofs.lemmas.Bool.{and_parts, false≢true, ltb-true}
use Rattle.entries.specs.declared.change.Change.{Change}
use Rattle.entries.specs.declared.entry.Entry.{Entry}
use Rattle.inventory_rows.specs.volume_rows.declared.volume.Volume.{Volume}
use Rattle.inventory_rows.specs.pool_tables.Rows.{row_at}
use Rattle.inventory_rows.specs.State.{Inv}
use Rattle.inventory_rules.specs.Transactions.{effect}
use Rattle.inventory_rules.specs.Valid.{lie_in}
use Rattle.inventory_rows.proofs.of_pool_tables.Counting.{at_is}
use Rattle.inventory_laws.proofs.Absent.{none_is as is_nothing}
use Rattle.inventory_laws.proofs.Facts.{facts_of}
use Rattle.inventory_laws.proofs.Origins.{contained_holds}
use Rattle.inventory_laws.proofs.Rising.{draws_on}
use Rattle.contents.proofs.Segments.{front_lies}
use Rattle.machine.specs.State.{Core, after, inventory}
use Rattle.hall.specs.Covered.{IsVolume, NumbersAreDrawn, inv_at}
use Rattle.hall.specs.Good.{IsLawful}
use Rattle.hall.proofs.Databases.{after_parts, valid_at}
use Rattle.hall.proofs.Joining.{IsDrawnFile, Joins, behind}
use Rattle.hall.proofs.VolumesStay.{volume_new}

found_below : {V : Type 0} (least bound k : ℕ) (rows : List (ℕ × V)) → lie_in least bound (keys_of rows) ≡ true → is_some (row_at k rows) ≡ true → k < bound
found_below least bound k [] all h = absurd (false≢true h)
found_below {V} least bound k (e ∷ rows) all h =
    let parts = and_parts (nat_le least e.0 && nat_lt e.0 bound) (lie_in least bound (keys_of rows)) all in
    elim (is_at (nat_cmp k) e.0) as (λ b. is_at (nat_cmp k) e.0 ≡ b → is_some (cond b (Some e.1) (row_at k rows)) ≡ true → k < bound) [
      | true ↦ λ at _. subst (λ n. n < bound) (sym (at_is k e.0 at)) (ltb-true e.0 bound (and_parts (nat_le least e.0) (nat_lt e.0 bound) parts.0).1)
      | false ↦ λ at there. found_below least bound k rows parts.1 there
    ] refl h

rises_file : (v : Inv) (es : List Entry) → v.next_file ≤ (after v es).next_file
rises_file v [] = omega arith
rises_file v (e ∷ es) = let one = (draws_on e.change v).file in let rest = rises_file (effect e.change v) es in omega (arith, one, rest)

module _ (c : Core) (l : IsLawful c) where
  below_now : (k : ℕ) → (inv_at k c).next_file ≤ (inventory c).next_file
  below_now k = subst (λ v. (inv_at k c).next_file ≤ v.next_file) (after_parts k c.base c.journal) (rises_file (inv_at k c) (drop k c.journal))

  -- a volume of the run has a number below the one that is drawn next
  pub drawn_before : (k file : ℕ) → is_some (row_at file (inv_at k c).stores.volumes) ≡ true → file < (inventory c).next_file
  drawn_before k file there =
      let v = inv_at k c in
      let low : file < v.next_file = found_below 4 v.next_file file v.stores.volumes (front_lies 4 v.next_file (keys_of v.stores.volumes) (keys_of v.backups) (facts_of v (valid_at c l k)).files_drawn) there in
      let up = below_now k in
      omega (arith, low, up)

  module _ (actor : ℕ) (x : Change) (numbers : List ℕ) (j : Joins actor x numbers c) (n : NumbersAreDrawn c) where
    not_drawn : (k file : ℕ) → is_some (row_at file (inv_at k c).stores.volumes) ≡ true → is_none (row_at file (inventory c).stores.volumes) ≡ true → (pool : ℕ) → IsDrawnFile actor numbers c file pool → ⊥
    not_drawn k file was none pool (inl high) = let low = drawn_before k file was in let top = n.next_file.1 in omega (arith, high, low, top)
    not_drawn k file was none pool (inr own) =
        let volume : IsVolume c file = subst (IsVolume c) own.4 (contained_holds (λ r. IsVolume c r.file) own.0.place.segments own.2 own.3
        (contained_holds (λ t. AllByRecursion (λ r. IsVolume c r.file) t.place.segments) c.tickets own.0 own.1.there n.files)) in
        false≢true (sym (ap is_some ((volume.3 none).1 k)) ∙ was)

    -- it doesn't come again
    pub not_again : (k file : ℕ) → is_some (row_at file (inv_at k c).stores.volumes) ≡ true → is_none (row_at file (inventory c).stores.volumes) ≡ true
        → is_none (row_at file (behind actor x numbers c).stores.volumes) ≡ true
    not_again k file was none = go (row_at file (behind actor x numbers c).stores.volumes) refl where
      bare : is_some (option_map (λ (w : Volume). w.pool) (row_at file (inventory c).stores.volumes)) ≡ false
      bare = ap (λ (o : Option Volume). is_some (option_map (λ (w : Volume). w.pool) o)) (is_nothing (row_at file (inventory c).stores.volumes) none)

      go : (o : Option Volume) → row_at file (behind actor x numbers c).stores.volumes ≡ o → is_none (row_at file (behind actor x numbers c).stores.volumes) ≡ true
      go None at = ap is_none at
      go (Some volume) at = absurd (not_drawn k file was none volume.pool
          (j.files file volume.pool (volume_new file x (inventory c) volume.pool bare (ap (λ (o : Option Volume). option_map (λ (w : Volume). w.pool) o) at))))
