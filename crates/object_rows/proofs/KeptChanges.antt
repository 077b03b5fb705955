-- What changes of versions and of held objects are for all rows.
use Rattle.std.proofs.Common.{◌≡◌, ℕ, true, false, cond, List, Some, None, Result, Ok, Err, refl, sym, ap, ◌∙◌}
use Rattle.std.proofs.lemmas.Bool.{or_parts}
use Rattle.std.specs.Option.{is_some, option_map}
use Rattle.version_groups.specs.kinds.declared.refusal.Refusal.{Refusal}
use Rattle.version_groups.specs.declared.copies.CopyChange.{CopyChange}
use Rattle.version_groups.specs.declared.copies.CopyRow.{CopyRow}
use Rattle.version_groups.specs.declared.group.GroupChange.TheVariants.{Remove}
use Rattle.version_groups.specs.declared.groups.Filespace.{Filespace}
use Rattle.version_groups.specs.declared.versions.Version.{Version}
use Rattle.version_groups.specs.Copies.{copies_after}
use Rattle.version_groups.specs.Entries.{on_ok, if_found}
use Rattle.version_groups.specs.Versions.{has_object, version_of}
use Rattle.version_groups.proofs.Maps.{remove-new, lookup-new}
use Rattle.std.specs.Cmp.{nat_cmp_total}
use Rattle.std.specs.Map.{lookup}
use Rattle.object_rows.specs.declared.held_object.HeldObject.{HeldObject}
use Rattle.object_rows.specs.declared.held_object.HeldRow.{HeldRow}
use Rattle.object_rows.specs.Filespaces.{at_number, filespaces_altered, filespaces_copied, versions_of}
use Rattle.object_rows.specs.HeldRows.{are_held_rows, has_row, has_under, held_altered, held_at, held_copied, held_versions, held_with, held_without}
use Rattle.object_rows.specs.Places.{listed}
use Rattle.object_rows.specs.Rows.{Rows, filespaces_cleared, kept_of, rows_after, rows_altered, rows_cleared, rows_copied, rows_without, with_filespaces, with_held}
use Rattle.object_rows.proofs.ByNumber.{filespaces-others}
use Rattle.object_rows.proofs.HeldLists.{copied-others, none_of, version-held}
use Rattle.object_rows.proofs.KeptLaws.{kept-has_at, kept-held, kept-unheld}

-- ---- objects

-- a number that nothing has is that of no version and of no held object
pub new-parts : (k : ℕ) (rows : Rows) → are_held_rows rows.held ≡ true → has_object k (kept_of rows) ≡ false → (has_object k (versions_of rows.filespaces) ≡ false) × (has_row k rows.held ≡ false)
new-parts k rows h new = or_parts (has_object k (versions_of rows.filespaces)) (has_row k rows.held) (sym (kept-has_at k rows h) ∙ new)

-- ---- an object goes

pub cleared_held : (n : ℕ) (path : List ℕ) (k : ℕ) (rows : Rows) → has_under n path k rows.held ≡ true → rows_cleared n path k rows ≡ Ok (record { nodes = rows.nodes; filespaces = rows.filespaces; held = held_without k rows.held })
cleared_held n path k rows h = ap (λ b. cond b (with_held rows (Ok (held_without k rows.held))) (rows_after n path (Remove k) rows)) h

pub cleared_version : (n : ℕ) (path : List ℕ) (k : ℕ) (rows : Rows) → has_under n path k rows.held ≡ false → rows_cleared n path k rows ≡ rows_after n path (Remove k) rows
cleared_version n path k rows h = ap (λ b. cond b (with_held rows (Ok (held_without k rows.held))) (rows_after n path (Remove k) rows)) h

abbrev without_version : ℕ → Rows → Result Rows Refusal
without_version k rows = with_filespaces rows (filespaces_cleared k (lookup (at_number k) (listed rows.filespaces)) rows.filespaces)

pub discarded_held : (k : ℕ) (rows : Rows) → has_row k rows.held ≡ true → rows_without k rows ≡ Ok (record { nodes = rows.nodes; filespaces = rows.filespaces; held = held_without k rows.held })
discarded_held k rows h = ap (λ b. cond b (with_held rows (Ok (held_without k rows.held))) (without_version k rows)) h

pub discarded_version : (k : ℕ) (rows : Rows) → has_row k rows.held ≡ false → rows_without k rows ≡ with_filespaces rows (filespaces_cleared k (lookup (at_number k) (listed rows.filespaces)) rows.filespaces)
discarded_version k rows h = ap (λ b. cond b (with_held rows (Ok (held_without k rows.held))) (without_version k rows)) h

-- an object that was held anew goes without a trace
pub held_undone : (n : ℕ) (it : HeldObject) (old new : Rows) → has_row it.version.object old.held ≡ false → new.nodes ≡ old.nodes → new.filespaces ≡ old.filespaces → held_with n it old.held ≡ new.held → rows_without it.version.object new ≡ Ok old
held_undone n it old new absent nodes filespaces is =
    let k : ℕ = it.version.object in
    let r : HeldRow = record { filespace = n; held = it } in
    let none : held_at k old.held ≡ None = none_of (held_at k old.held) absent in
    let there : has_row k new.held ≡ true = ap (has_row k) (sym is) ∙ ap is_some (lookup-new nat_cmp_total k r old.held none) in
    let back : held_without k new.held ≡ old.held = ap (held_without k) (sym is) ∙ remove-new nat_cmp_total k r old.held none in
    discarded_held k new there
    ∙ ap (λ (t : List (ℕ × HeldRow)). Ok (record { nodes = new.nodes; filespaces = new.filespaces; held = t })) back
    ∙ ap (λ t. Ok (record { nodes = t; filespaces = new.filespaces; held = old.held })) nodes
    ∙ ap (λ t. Ok (record { nodes = old.nodes; filespaces = t; held = old.held })) filespaces

-- an object that was held anew is found
pub held_found : (n : ℕ) (it : HeldObject) (held : List (ℕ × HeldRow)) (new : Rows) → has_row it.version.object held ≡ false → has_object it.version.object (versions_of new.filespaces) ≡ false → are_held_rows new.held ≡ true → held_with n it held ≡ new.held
    → version_of it.version.object (kept_of new) ≡ Some it.version
held_found n it held new absent none numbered is =
    let k : ℕ = it.version.object in
    let r : HeldRow = record { filespace = n; held = it } in
    kept-held k new none ∙ version-held k new.held numbered
    ∙ ap (λ t. option_map (λ (x : HeldRow). x.held.version) (held_at k t)) (sym is)
    ∙ ap (option_map (λ (x : HeldRow). x.held.version)) (lookup-new nat_cmp_total k r held (none_of (held_at k held) absent))

-- ---- copies of an object

abbrev changed : (ℕ → List CopyRow → Rows → Rows) → ℕ → CopyChange → Rows → Version → Result Rows Refusal
changed by k change rows v = on_ok (λ copies. by k copies rows) (copies_after change v.copies)

-- of one that is held
pub altered_held : (k : ℕ) (change : CopyChange) (rows : Rows) → has_object k (versions_of rows.filespaces) ≡ false → rows_altered k change rows ≡ with_held rows (held_altered k change rows.held)
altered_held k change rows none =
    ap (λ o. if_found o (changed rows_copied k change rows)) (kept-held k rows none)
    ∙ elim (version_of k (held_versions rows.held)) as (λ o. if_found o (changed rows_copied k change rows) ≡ with_held rows (if_found o (λ v. on_ok (λ copies. held_copied k copies rows.held) (copies_after change v.copies)))) [
      | None ↦ refl
      | Some v ↦ elim (copies_after change v.copies) as (λ said. on_ok (λ copies. rows_copied k copies rows) said ≡ with_held rows (on_ok (λ copies. held_copied k copies rows.held) said)) [
        | Ok copies ↦ ap (λ (t : List (ℕ × Filespace)). Ok (record { nodes = rows.nodes; filespaces = t; held = held_copied k copies rows.held })) (filespaces-others k copies rows.filespaces none)
        | Err e ↦ refl
      ]
    ]

-- of a version
pub altered_version : (k : ℕ) (change : CopyChange) (rows : Rows) → has_object k (held_versions rows.held) ≡ false → rows_altered k change rows ≡ with_filespaces rows (filespaces_altered k change rows.filespaces)
altered_version k change rows none =
    ap (λ o. if_found o (changed rows_copied k change rows)) (kept-unheld k rows none)
    ∙ elim (version_of k (versions_of rows.filespaces)) as (λ o. if_found o (changed rows_copied k change rows) ≡ with_filespaces rows (if_found o (λ v. on_ok (λ copies. filespaces_copied k copies rows.filespaces) (copies_after change v.copies)))) [
      | None ↦ refl
      | Some v ↦ elim (copies_after change v.copies) as (λ said. on_ok (λ copies. rows_copied k copies rows) said ≡ with_filespaces rows (on_ok (λ copies. filespaces_copied k copies rows.filespaces) said)) [
        | Ok copies ↦ ap (λ (t : List (ℕ × HeldRow)). Ok (record { nodes = rows.nodes; filespaces = filespaces_copied k copies rows.filespaces; held = t })) (copied-others k copies rows.held none)
        | Err e ↦ refl
      ]
    ]
