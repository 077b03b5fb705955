-- How long the bytes of a database are at most.
use Rattle.std.proofs.Common.{◌≡◌, ℕ, ◌+◌, ◌*◌, ◌^◌, ◌≤◌, ◌<◌, true, List, [], ◌∷◌, length, refl, ap, arith}
use Rattle.std.proofs.lemmas.Bool.{leb-true}
use Rattle.std.specs.Int.{w32, w64}
use Rattle.std.specs.List.{sum_by}
use Rattle.std.specs.Prelude.{nat_le}
use Rattle.fields.specs.Editions.{second_form}
use Rattle.fields.specs.FieldLaws.{wide32, wide64}
use Rattle.inventory_bytes.specs.Payload.{clients, fields_of, held_objects, inv_with, number_fields, numbers, numbers_with, payload, stores, stores_with, store_fields, unheld, unheld_volumes, unnumbered, with_number}
use Rattle.inventory_rows.specs.Items.{count_items, items_of_filespace, most_items}
use Rattle.inventory_rows.specs.State.{Inv}
use Rattle.inventory_rows.specs.object_rows.declared.held_object.HeldRow.{HeldRow}
use Rattle.inventory_rows.specs.object_rows.Items.{items_of_held, items_with}
use Rattle.inventory_rows.specs.volume_rows.declared.volume.Volume.{Volume}
use Rattle.inventory_bytes.proofs.ClientRows.{day_within, items_of_more, nodes_within, filespaces_within, held_within}
use Rattle.inventory_bytes.proofs.PolicyRows.{domains_within}
use Rattle.inventory_bytes.proofs.Spelled.{unheld_spelled}
use Rattle.inventory_bytes.proofs.Spellings.{IsWithin, marked_within, number_within, pair_within, viewed_within, weakened}
use Rattle.inventory_bytes.proofs.StoreRows.{classes_within, pools_within, volumes_within, backups_within}

numbers_within : IsWithin numbers (λ _. 36)
unfolding numbers
numbers_within = viewed_within numbers_with number_fields (pair_within (number_within w64 wide64) (pair_within day_within (pair_within (number_within w32 wide32)
    (pair_within (number_within w32 wide32) (pair_within (number_within w32 wide32) (pair_within (number_within w32 wide32) (number_within w64 wide64)))))))

-- k bytes for each item, which is more than a row takes with its key and the counts of its lists
module _ {k : ℕ} (large : 4000 ≤ k) where
  clients_within : IsWithin (clients second_form) (λ c. 8 + k * (length c.0 + (length c.1 + sum_by (λ f. items_of_filespace f.1) c.1)))
  unfolding clients
  clients_within = weakened (pair_within (nodes_within large) (filespaces_within large)) (λ c. omega arith)

  stores_within : IsWithin (stores second_form) (λ s. 12 + k * (length s.classes + (length s.pools + length s.volumes)))
  unfolding stores
  stores_within = weakened (viewed_within stores_with store_fields (pair_within (classes_within large) (pair_within (pools_within large) (volumes_within large)))) (λ s. omega arith)

  held_objects_within : IsWithin (held_objects second_form) (λ hs. 4 + k * items_of_held hs)
  unfolding held_objects
  held_objects_within = held_within large

  payload_within : IsWithin (payload second_form) (λ v. 69 + k * count_items v)
  unfolding payload
  payload_within =
      weakened (marked_within 2 (viewed_within inv_with fields_of (pair_within numbers_within (pair_within (domains_within large) (pair_within clients_within (pair_within stores_within (pair_within (backups_within large) held_objects_within)))))))
      (λ v. omega arith)

same_count : (vs : List (ℕ × Volume)) → length (unheld_volumes vs) ≡ length vs
same_count [] = refl
same_count (v ∷ vs) = omega (arith, same_count vs)

same_items : (hs : List (ℕ × HeldRow)) → items_of_held (unnumbered hs) ≡ items_of_held hs
same_items [] = refl
same_items (h ∷ hs) =
    let first : items_of_held (unnumbered (h ∷ hs)) ≡ items_with h.1.held.version.copies + items_of_held (unnumbered hs) = items_of_more (h.0, with_number 0 h.1) (unnumbered hs) in
    omega (arith, first, items_of_more h hs, same_items hs)

pub short : (v : Inv) → (payload second_form).Fits (unheld v) → nat_le (count_items v) most_items ≡ true → length ((payload second_form).spell v) < 2 ^ 36
short v fits few =
    let whole = (payload_within {k = 4000} (omega arith)).bound (unheld v) fits in
    omega (arith, ap length (unheld_spelled second_form v), whole, same_count v.stores.volumes, same_items v.clients.held, leb-true (count_items v) most_items few)
