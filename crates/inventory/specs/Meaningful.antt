-- The inventory keeps the laws of a database.
use Rattle.std.proofs.Common.{◌≡◌, ℕ, ◌+◌, ◌^◌, ◌<◌, ◌&&◌, true, List, [], ◌∷◌, refl}
use Rattle.std.proofs.lemmas.Bool.{ltb-true}
use Rattle.std.specs.List.{list_all}
use Rattle.std.specs.Prelude.{is_some, length, drop}
use Rattle.entries.specs.declared.change.Change.{Change}
use Rattle.entries.specs.Meaning.{IsMeaning, form_byte}
use Rattle.inventory_rules.specs.Facts.{Facts}
use Rattle.inventory_laws.proofs.Facts.{both, facts_of, first, rest}
use Rattle.fields.specs.Editions.{Edition, first_form, second_form}
use Rattle.inventory_bytes.specs.Payload.{payload}
use Rattle.inventory_bytes.proofs.Decoded.{alone}
use Rattle.inventory_rows.specs.version_groups.declared.groups.Filespace.{Filespace}
use Rattle.inventory_rows.specs.object_rows.Filespaces.{filespace_at}
use Rattle.inventory_rows.specs.object_rows.HeldRows.{are_held_rows, is_held_row}
use Rattle.inventory_rows.specs.object_rows.declared.held_object.HeldRow.{HeldRow}
use Rattle.inventory_rows.specs.State.{Inv}
use Rattle.inventory_rules.specs.Transactions.{effect}
use Rattle.inventory_bytes.proofs.WholeSize.{short as payload_short}
use Rattle.inventory.specs.Meant.{IsInventory, meaning}

next : (v : Inv) (c : Change) → (effect c v).number ≡ v.number + 1
unfolding effect
next v c = refl

few : (v : Inv) → IsInventory second_form v → v.number < 2 ^ 62
few v i = ltb-true v.number (2 ^ 62) (facts_of v i.valid).number_bounded

short : (v : Inv) → IsInventory second_form v → length ((payload second_form).spell v) < 2 ^ 36
short v i = payload_short v i.fits (facts_of v i.valid).few_items

-- a spelling begins with the number of its form
pub begins : (form : Edition) (v : Inv) → (rest : List ℕ) × ((payload form).spell v ≡ form_byte form ∷ rest)
unfolding payload
begins first_form v = (drop 1 ((payload first_form).spell v), refl)
begins second_form v = (drop 1 ((payload second_form).spell v), refl)

-- each held object stands under its number
are_numbered : (filespaces : List (ℕ × Filespace)) (held : List (ℕ × HeldRow)) → list_all (λ h. is_held_row h && is_some (filespace_at h.1.filespace filespaces)) held ≡ true → are_held_rows held ≡ true
are_numbered filespaces [] h = refl
are_numbered filespaces (e ∷ held) h = both _ _ (first _ _ (first _ _ h)) (are_numbered filespaces held (rest _ _ h))

pub held_stand : (v : Inv) → Facts v → are_held_rows v.clients.held ≡ true
held_stand v f = are_numbered v.clients.filespaces v.clients.held f.held_cite

pub is_meaning : IsMeaning meaning
is_meaning = record {
  next = λ v e. next v e.change;
  one = λ form v w a b same. alone form ((payload form).spell v) v w b.fits (held_stand w (facts_of w b.valid)) b.tied same a.fits (held_stand v (facts_of v a.valid)) a.tied refl;
  begins = λ form v i. begins form v;
  short = short;
  few = few;
}
