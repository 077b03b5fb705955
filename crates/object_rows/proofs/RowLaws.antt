-- What a change of the filespaces is for all rows.
use Rattle.std.proofs.Common.{◌≡◌, ℕ, true, false, cond, List, length, Some, None, Result, Ok, Err, sym, ap, subst, ◌∙◌}
use Rattle.std.specs.Prelude.{nat_le}
use Rattle.std.proofs.lemmas.Bool.{false≢true}
use Rattle.std.proofs.lemmas.List.{length-map}
use Rattle.std.specs.Option.{is_some}
use Rattle.version_groups.specs.kinds.Answers.{Becomes}
use Rattle.version_groups.specs.kinds.declared.refusal.Refusal.{Refusal}
use Rattle.version_groups.specs.kinds.declared.refusal.Refusal.TheVariants.{InventoryFull}
use Rattle.version_groups.specs.declared.groups.Filespace.{Filespace}
use Rattle.version_groups.specs.declared.versions.Version.{Version}
use Rattle.version_groups.specs.Entries.{if_found}
use Rattle.version_groups.proofs.Altered.{Becomes-lift}
use Rattle.object_rows.specs.declared.place.Place.{Place}
use Rattle.object_rows.specs.declared.held_object.HeldObject.{HeldObject}
use Rattle.object_rows.specs.declared.held_object.HeldRow.{HeldRow}
use Rattle.object_rows.specs.Filespaces.{filespace_at, filespaces_with, versions_of}
use Rattle.object_rows.specs.HeldRows.{held_with}
use Rattle.object_rows.specs.Places.{Indexed, listed}
use Rattle.object_rows.specs.Rows.{Rows, kept_of, most_kept, rows_holding, rows_with, with_filespaces, with_held}
use Rattle.object_rows.proofs.Stands.{keys-listed}

pub length-listed : (fs : List (ℕ × Filespace)) → length (listed fs) ≡ length (versions_of fs)
length-listed fs = sym (length-map (listed fs) (λ (e : ℕ × Place). e.0)) ∙ ap length (keys-listed fs) ∙ length-map (versions_of fs) (λ (v : Version). v.object)

-- the index has as many entries as versions are kept
pub length-places : (places : List (ℕ × Place)) (fs : List (ℕ × Filespace)) → Indexed places fs → length places ≡ length (versions_of fs)
length-places places fs i = i.index.count ∙ length-listed fs

pub rows_full : (n : ℕ) (path class : List ℕ) (v : Version) (rows : Rows) → is_some (filespace_at n rows.filespaces) ≡ true → nat_le most_kept (length (kept_of rows)) ≡ true → rows_with n path class v rows ≡ Err InventoryFull
rows_full n path class v rows there full =
    elim (filespace_at n rows.filespaces) as (λ o. is_some o ≡ true → if_found o (λ _. cond (nat_le most_kept (length (kept_of rows))) (Err InventoryFull) (with_filespaces rows (filespaces_with n path class v rows.filespaces))) ≡ Err InventoryFull) [
      | None ↦ λ h. absurd (false≢true h)
      | Some f ↦ λ _. ap (λ b. cond b (Err InventoryFull) (with_filespaces rows (filespaces_with n path class v rows.filespaces))) full
    ] there

pub rows_room : (n : ℕ) (path class : List ℕ) (v : Version) (rows : Rows) → is_some (filespace_at n rows.filespaces) ≡ true → nat_le most_kept (length (kept_of rows)) ≡ false → rows_with n path class v rows ≡ with_filespaces rows (filespaces_with n path class v rows.filespaces)
rows_room n path class v rows there room =
    elim (filespace_at n rows.filespaces) as (λ o. is_some o ≡ true → if_found o (λ _. cond (nat_le most_kept (length (kept_of rows))) (Err InventoryFull) (with_filespaces rows (filespaces_with n path class v rows.filespaces))) ≡ with_filespaces rows (filespaces_with n path class v rows.filespaces)) [
      | None ↦ λ h. absurd (false≢true h)
      | Some f ↦ λ _. ap (λ b. cond b (Err InventoryFull) (with_filespaces rows (filespaces_with n path class v rows.filespaces))) room
    ] there

-- a version that is put where there is room
pub becomes_rows : {A : Type 0} (r : Result A Refusal) (n : ℕ) (path class : List ℕ) (v : Version) (rows : Rows) (new : List (ℕ × Filespace)) → is_some (filespace_at n rows.filespaces) ≡ true → nat_le most_kept (length (kept_of rows)) ≡ false
    → Becomes {A = A} r rows.filespaces new (filespaces_with n path class v rows.filespaces) → Becomes {A = A} r rows (record { nodes = rows.nodes; filespaces = new; held = rows.held }) (rows_with n path class v rows)
becomes_rows {A} r n path class v rows new there room h =
    subst (λ (said : Result Rows Refusal). Becomes {A = A} r rows (record { nodes = rows.nodes; filespaces = new; held = rows.held }) said) (sym (rows_room n path class v rows there room))
    (Becomes-lift {A = A} r rows.filespaces new (filespaces_with n path class v rows.filespaces) (λ (t : List (ℕ × Filespace)). record { nodes = rows.nodes; filespaces = t; held = rows.held }) h)

pub holding_full : (n : ℕ) (it : HeldObject) (rows : Rows) → is_some (filespace_at n rows.filespaces) ≡ true → nat_le most_kept (length (kept_of rows)) ≡ true → rows_holding n it rows ≡ Err InventoryFull
holding_full n it rows there full =
    elim (filespace_at n rows.filespaces) as (λ o. is_some o ≡ true → if_found o (λ _. cond (nat_le most_kept (length (kept_of rows))) (Err InventoryFull) (with_held rows (Ok (held_with n it rows.held)))) ≡ Err InventoryFull) [
      | None ↦ λ h. absurd (false≢true h)
      | Some f ↦ λ _. ap (λ b. cond b (Err InventoryFull) (with_held rows (Ok (held_with n it rows.held)))) full
    ] there

holding_room : (n : ℕ) (it : HeldObject) (rows : Rows) → is_some (filespace_at n rows.filespaces) ≡ true → nat_le most_kept (length (kept_of rows)) ≡ false → rows_holding n it rows ≡ with_held rows (Ok (held_with n it rows.held))
holding_room n it rows there room =
    elim (filespace_at n rows.filespaces) as (λ o. is_some o ≡ true → if_found o (λ _. cond (nat_le most_kept (length (kept_of rows))) (Err InventoryFull) (with_held rows (Ok (held_with n it rows.held)))) ≡ with_held rows (Ok (held_with n it rows.held))) [
      | None ↦ λ h. absurd (false≢true h)
      | Some f ↦ λ _. ap (λ b. cond b (Err InventoryFull) (with_held rows (Ok (held_with n it rows.held)))) room
    ] there

-- an object that is held where there is room
pub becomes_holding : {A : Type 0} (r : Result A Refusal) (n : ℕ) (it : HeldObject) (rows : Rows) (new : List (ℕ × HeldRow)) → is_some (filespace_at n rows.filespaces) ≡ true → nat_le most_kept (length (kept_of rows)) ≡ false
    → Becomes {A = A} r rows.held new (Ok (held_with n it rows.held)) → Becomes {A = A} r rows (record { nodes = rows.nodes; filespaces = rows.filespaces; held = new }) (rows_holding n it rows)
becomes_holding {A} r n it rows new there room h =
    subst (λ (said : Result Rows Refusal). Becomes {A = A} r rows (record { nodes = rows.nodes; filespaces = rows.filespaces; held = new }) said) (sym (holding_room n it rows there room))
    (Becomes-lift {A = A} r rows.held new (Ok (held_with n it rows.held)) (λ (t : List (ℕ × HeldRow)). record { nodes = rows.nodes; filespaces = rows.filespaces; held = t }) h)
