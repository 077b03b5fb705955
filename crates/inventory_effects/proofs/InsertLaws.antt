-- An object that came can be undone.
use Rattle.std.proofs.Common.{◌≡◌, ◌⊎◌, inl, inr, ◌<◌, ℕ, Bool, true, false, cond, not, List, [], ◌∷◌, length, Option, Some, None, Result, Ok, Err, refl, sym, ap, subst, ◌∙◌, arith}
use Rattle.std.specs.List.{list_all}
use Rattle.std.specs.Map.{lookup, set_value}
use Rattle.std.specs.Option.{is_some}
use Rattle.std.specs.Prelude.{nat_le}
use Rattle.std.proofs.lemmas.Bool.{false≢true, and_parts}
use Rattle.kinds.specs.declared.refusal.Refusal.{Refusal}
use Rattle.kinds.specs.declared.refusal.Refusal.TheVariants.{InventoryFull, Memory}
use Rattle.entries.specs.change_items.declared.items.NewHeldObject.{NewHeldObject}
use Rattle.entries.specs.change_items.declared.items.NewVersion.{NewVersion}
use Rattle.inventory_rows.specs.version_groups.declared.group.Group.{Group}
use Rattle.inventory_rows.specs.version_groups.declared.group.GroupChange.TheVariants as groups
use Rattle.inventory_rows.specs.version_groups.declared.groups.Filespace.{Filespace}
use Rattle.inventory_rows.specs.version_groups.declared.versions.Version.{Version}
use Rattle.inventory_rows.specs.version_groups.Entries.{on_ok, if_found}
use Rattle.inventory_rows.specs.version_groups.Groups as group
use Rattle.inventory_rows.specs.version_groups.Groups.{WasSo}
use Rattle.inventory_rows.specs.version_groups.Versions.{has_active, is_empty, superseded}
use Rattle.inventory_rows.specs.object_rows.declared.held_object.HeldObject.{HeldObject}
use Rattle.inventory_rows.specs.object_rows.HeldRows.{held_with}
use Rattle.inventory_rows.specs.object_rows.Filespaces.{at_number, filespace_after, filespace_at, filespaces_with, group_at, groups_in, versions_at}
use Rattle.inventory_rows.specs.object_rows.Places.{are_all_full, are_full}
use Rattle.inventory_rows.specs.object_rows.Rows.{Rows, kept_of, most_kept, rows_after, rows_holding, rows_with, rows_without, with_filespaces, with_held, UndoGivesBack}
use Rattle.inventory_rows.specs.State.{Inv}
use Rattle.inventory_rules.specs.Common.{or_same}
use Rattle.inventory_rules.specs.Versions.{after_object, held_too, new_held, new_version, CanInsert, inserted}
use Rattle.inventory_effects.specs.Undoing.{KeepsWay}
use Rattle.inventory_effects.specs.declared.undo.Undo.{Undo}
use Rattle.inventory_effects.specs.declared.undo.Undo.TheVariants as undo
use Rattle.inventory_effects.proofs.Ways.{keeps_step, same_Ok}

-- ---- each path's group has a version
all_found : {K X : Type 0} (p : X → Bool) (test : K → Bool) (es : List (K × X)) (x : X) → list_all (λ e. p e.1) es ≡ true → lookup test es ≡ Some x → p x ≡ true
all_found p test [] x a f = absurd (cc)
all_found p test (e ∷ es) x a f =
    let both : (p e.1 ≡ true) × (list_all (λ g. p g.1) es ≡ true) = and_parts (p e.1) (list_all (λ g. p g.1) es) a in
    elim (test e.0) as (λ b. cond b (Some e.1) (lookup test es) ≡ Some x → p x ≡ true) [
      | true ↦ λ g. let same : e.1 ≡ x = cc in ap p (sym same) ∙ both.0
      | false ↦ λ g. all_found p test es x both.1 g
    ] f

not_true : (b : Bool) → not b ≡ true → b ≡ false
not_true true h = absurd (false≢true h)
not_true false h = refl

full-found : (n : ℕ) (path : List ℕ) (fs : List (ℕ × Filespace)) (g : Group) → are_all_full fs ≡ true → group_at n path fs ≡ Some g → is_empty g.versions ≡ false
full-found n path fs g full h = go (filespace_at n fs) refl h where
  go : (o : Option Filespace) → filespace_at n fs ≡ o → group.group_at path (groups_in o) ≡ Some g → is_empty g.versions ≡ false
  go None found h = absurd (cc)
  go (Some f) found h =
      not_true (is_empty g.versions)
      (all_found (λ (x : Group). not (is_empty x.versions)) (group.at_path path) f.groups g (all_found (λ (x : Filespace). are_full x.groups) (at_number n) fs f full found) h)

pub was_so : (n : ℕ) (path : List ℕ) (fs : List (ℕ × Filespace)) (g : Group) (class : List ℕ) (active : Bool) → are_all_full fs ≡ true → Some g ≡ group_at n path fs → class ≡ g.class → active ≡ has_active g.versions → WasSo class active (group_at n path fs)
was_so n path fs g class active full found c a =
    subst (WasSo class active) found (c, a, full-found n path fs g full (sym found))

-- ---- the version that comes
rows_are : (n : ℕ) (path class : List ℕ) (version : Version) (old rows : Rows) → is_some (filespace_at n old.filespaces) ≡ true → nat_le most_kept (length (kept_of old)) ≡ false → rows_with n path class version old ≡ Ok rows
    → rows ≡ record old { filespaces = or_same old.filespaces (filespaces_with n path class version old.filespaces) }
rows_are n path class version old rows there room said =
    go (filespace_at n old.filespaces) (nat_le most_kept (length (kept_of old))) (filespaces_with n path class version old.filespaces) there room said where
      go : (o : Option Filespace) (b : Bool) (r : Result (List (ℕ × Filespace)) Refusal) → is_some o ≡ true → b ≡ false → if_found o (λ _. cond b (Err InventoryFull) (with_filespaces old r)) ≡ Ok rows
          → rows ≡ record old { filespaces = or_same old.filespaces r }
      go None b r t f h = absurd (false≢true t)
      go (Some x) true r t f h = absurd (false≢true (sym f))
      go (Some x) false (Ok new) t f h = sym (same_Ok (record old { filespaces = new }) rows h)
      go (Some x) false (Err e) t f h = absurd (cc)

never_refused : (n : ℕ) (path class : List ℕ) (version : Version) (old : Rows) (e : Refusal) → is_some (filespace_at n old.filespaces) ≡ true → nat_le most_kept (length (kept_of old)) ≡ false → rows_with n path class version old ≡ Err e → ⊥
never_refused n path class version old e there room said =
    go (filespace_at n old.filespaces) (nat_le most_kept (length (kept_of old))) there room said where
      go : (o : Option Filespace) (b : Bool) → is_some o ≡ true → b ≡ false
          → if_found o (λ _. cond b (Err InventoryFull) (with_filespaces old (if_found o (λ x. on_ok (set_value (at_number n) old.filespaces) (filespace_after (λ groups. Ok (group.groups_with path class version groups)) x))))) ≡ Err e → ⊥
      go None b t f h = false≢true t
      go (Some x) true t f h = false≢true (sym f)
      go (Some x) false t f h = cc

pub refused_for_memory : (n : ℕ) (path class : List ℕ) (version : Version) (old : Rows) (e : Refusal) → is_some (filespace_at n old.filespaces) ≡ true → nat_le most_kept (length (kept_of old)) ≡ false → (e ≡ Memory) ⊎ (rows_with n path class version old ≡ Err e) → e ≡ Memory
refused_for_memory n path class version old e there room (inl m) = m
refused_for_memory n path class version old e there room (inr h) = absurd (never_refused n path class version old e there room h)

positive : (vs rest : List Version) (v : Version) → vs ≡ v ∷ rest → 0 < length vs
positive vs rest v h = let e : length vs ≡ length (v ∷ rest) = ap length h in omega arith

pub inserted_goes : (filespace : ℕ) (item : NewVersion) (v : Inv) (path class : List ℕ) (active : Bool) (rows : Rows) (next : ℕ) (version : Version) (log more : List Undo)
    → CanInsert filespace item.object v → version ≡ new_version v item → next ≡ after_object item.object v → path ≡ item.path → WasSo class active (group_at filespace item.path v.clients.filespaces)
    → (let a : Result (List Undo) Refusal = Ok (undo.Version filespace path class active v.next_object ∷ log) in a ≡ Ok more)
    → rows_with filespace item.path item.class version v.clients ≡ Ok rows
    → versions_at filespace item.path rows.filespaces ≡ version ∷ superseded version.stored (versions_at filespace item.path v.clients.filespaces)
    → UndoGivesBack filespace item.path v.clients rows
    → (record v { clients = rows; next_object = next } ≡ inserted filespace item v) × KeepsWay log v more (record v { clients = rows; next_object = next })
inserted_goes filespace item v path class active rows next version log more can is drawn same was pushed said newest back = (
  ap (λ (r : Rows). record v { clients = r; next_object = next }) (rows_are filespace item.path item.class version v.clients rows can.there can.room said)
      ∙ ap (λ (w : Version). record v { clients = record v.clients { filespaces = or_same v.clients.filespaces (filespaces_with filespace item.path item.class w v.clients.filespaces) }; next_object = next }) is
      ∙ ap (λ (n : ℕ). record v { clients = record v.clients { filespaces = or_same v.clients.filespaces (filespaces_with filespace item.path item.class (new_version v item) v.clients.filespaces) }; next_object = n }) drawn,
  keeps_step (undo.Version filespace path class active v.next_object) log more v (record v { clients = rows; next_object = next }) pushed
      (subst (λ (p : List ℕ). 0 < length (versions_at filespace p rows.filespaces)) (sym same) (positive (versions_at filespace item.path rows.filespaces) (superseded version.stored (versions_at filespace item.path v.clients.filespaces)) version newest))
      (ap (λ (p : List ℕ). record v { clients = or_same rows (rows_after filespace p (groups.Undo class active) rows) }) same
      ∙ ap (λ (r : Result Rows Refusal). record v { clients = or_same rows r }) (back class active was)),
)

-- ---- the object that is held from now on
holds_are : (n : ℕ) (it : HeldObject) (old rows : Rows) → is_some (filespace_at n old.filespaces) ≡ true → nat_le most_kept (length (kept_of old)) ≡ false → rows_holding n it old ≡ Ok rows → rows ≡ record old { held = held_with n it old.held }
holds_are n it old rows there room said = go (filespace_at n old.filespaces) (nat_le most_kept (length (kept_of old))) there room said where
  go : (o : Option Filespace) (b : Bool) → is_some o ≡ true → b ≡ false → if_found o (λ _. cond b (Err InventoryFull) (with_held old (Ok (held_with n it old.held)))) ≡ Ok rows → rows ≡ record old { held = held_with n it old.held }
  go None b t f h = absurd (false≢true t)
  go (Some x) true t f h = absurd (false≢true (sym f))
  go (Some x) false t f h = sym (same_Ok (record old { held = held_with n it old.held }) rows h)

pub hold_refused_for_memory : (n : ℕ) (it : HeldObject) (old : Rows) (e : Refusal) → is_some (filespace_at n old.filespaces) ≡ true → nat_le most_kept (length (kept_of old)) ≡ false → (e ≡ Memory) ⊎ (rows_holding n it old ≡ Err e) → e ≡ Memory
hold_refused_for_memory n it old e there room (inl m) = m
hold_refused_for_memory n it old e there room (inr said) = absurd (go (filespace_at n old.filespaces) (nat_le most_kept (length (kept_of old))) there room said) where
  go : (o : Option Filespace) (b : Bool) → is_some o ≡ true → b ≡ false → if_found o (λ _. cond b (Err InventoryFull) (with_held old (Ok (held_with n it old.held)))) ≡ Err e → ⊥
  go None b t f h = false≢true t
  go (Some x) true t f h = false≢true (sym f)
  go (Some x) false t f h = cc

pub held_goes : (filespace : ℕ) (item : NewHeldObject) (v : Inv) (rows : Rows) (next : ℕ) (held : HeldObject) (log more : List Undo)
    → CanInsert filespace item.object v → held ≡ new_held v item → next ≡ after_object item.object v
    → (let a : Result (List Undo) Refusal = Ok (undo.Held item.object v.next_object ∷ log) in a ≡ Ok more)
    → rows_holding filespace held v.clients ≡ Ok rows → rows_without held.version.object rows ≡ Ok v.clients
    → (record v { clients = rows; next_object = next } ≡ held_too filespace item v) × KeepsWay log v more (record v { clients = rows; next_object = next })
held_goes filespace item v rows next held log more can is drawn pushed said back = (
  ap (λ (r : Rows). record v { clients = r; next_object = next }) (holds_are filespace held v.clients rows can.there can.room said)
      ∙ ap (λ (h : HeldObject). record v { clients = record v.clients { held = held_with filespace h v.clients.held }; next_object = next }) is
      ∙ ap (λ (n : ℕ). record v { clients = record v.clients { held = held_with filespace (new_held v item) v.clients.held }; next_object = n }) drawn,
  keeps_step (undo.Held item.object v.next_object) log more v (record v { clients = rows; next_object = next }) pushed tt
      (ap (λ (h : HeldObject). record v { clients = or_same rows (rows_without h.version.object rows) }) (sym is)
      ∙ ap (λ (r : Result Rows Refusal). record v { clients = or_same rows r }) back),
)
