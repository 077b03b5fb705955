-- Held objects have a spelling without their numbers.
use Rattle.std.proofs.Common.{◌≡◌, ℕ, ◌<◌, true, List, [], ◌∷◌, length, Option, Some, None, is_none, refl, sym, ap, arith}
use Rattle.std.specs.Prelude.{◌==◌}
use Rattle.std.specs.List.{AllByRecursion}
use Rattle.std.proofs.lemmas.Bool.{and_parts}
use Rattle.inventory_rows.specs.object_rows.declared.held_object.HeldRow.{HeldRow}
use Rattle.inventory_rows.specs.object_rows.HeldRows.{are_held_rows, is_held_row}
use Rattle.inventory_rows.specs.object_rows.Items.{items_of_held}
use Rattle.inventory_rows.specs.Items.{items_of_version}
use Rattle.inventory_bytes.specs.ClientForms.{held_bytes, held_fields, held_row}
use Rattle.inventory_bytes.specs.Payload.{with_number}
use Rattle.inventory_bytes.proofs.ClientRows.{items_of_each, items_of_more}

abbrev with_since : HeldRow → Option ℕ → HeldRow
with_since row since = record row { held = record (row.held) { version = record (row.held.version) { since = since } } }

pub row_fits : (row : HeldRow) → row.held.version.since ≡ None → held_bytes.Fits (held_fields row) → held_row.Fits (with_number 0 row)
unfolding held_row
row_fits row none fits = (fits, ap (λ (since : Option ℕ). Some (with_since (with_number 0 row) since)) (sym none))

none_is : (since : Option ℕ) → is_none since ≡ true → since ≡ None
none_is None so = refl
none_is (Some day) so = absurd (cc)

-- held objects are within their bounds
pub rows_within : (bound : ℕ) (hs : List (ℕ × HeldRow)) → are_held_rows hs ≡ true → items_of_held hs < bound → AllByRecursion (λ h. (items_of_version h.1.held.version < bound) × (h.1.held.version.since ≡ None)) hs
rows_within bound [] so few = tt
rows_within bound (h ∷ hs) so few =
    let parts = and_parts (is_held_row h) (are_held_rows hs) so in
    let own = and_parts (h.1.held.version.object == h.0) (is_none h.1.held.version.since) parts.0 in
    ((omega (arith, few, items_of_more h hs), none_is h.1.held.version.since own.1), rows_within bound hs parts.1 (omega (arith, few, items_of_more h hs)))

pub rows_few : (bound : ℕ) (hs : List (ℕ × HeldRow)) → items_of_held hs < bound → length hs < bound
rows_few bound hs few = omega (arith, few, items_of_each hs)
