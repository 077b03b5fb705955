use Rattle.std.proofs.Common.{◌≡◌, ℕ, List, ◌∷◌, true, false, inr, refl, sym, ap, subst, ◌∙◌, length}
use Rattle.std.specs.Prelude.{nat_le}
use Rattle.std.specs.Option.{is_some}
use Rattle.std.specs.Result.{OnOk}
use Rattle.version_groups.specs.kinds.Answers.{Becomes}
use Rattle.version_groups.specs.Versions.{has_object, superseded}
use Rattle.object_rows.specs.Filespaces.{filespace_at, filespaces_with, versions_at, versions_of}
use Rattle.object_rows.specs.HeldRows.{has_row}
use Rattle.object_rows.specs.Rows.{Rows, IsNew, kept_of, most_kept, rows_with, with_filespaces, UndoGivesBack}
use Rattle.object_rows.proofs.Answered.{became}
use Rattle.object_rows.proofs.Apart.{apart_put}
use Rattle.object_rows.proofs.KeptChanges.{new-parts}
use Rattle.object_rows.proofs.KeptLaws.{kept-there}
use Rattle.object_rows.proofs.NamedSpaces.{spaces_with}
use Rattle.object_rows.proofs.PutLaws.{put_newest, put_found, put_undone, became_ok}
use Rattle.object_rows.proofs.RowLaws.{becomes_rows, rows_full}
use Rattle.object_rows.proofs.objects.Objects.insert.Goals as goal

pub put-requires-clause-new : goal.put-requires-clause-new
put-requires-clause-new c =
    (new-parts c.args.version.object (record { nodes = c.self.inside.nodes.entries; filespaces = c.self.inside.filespaces.entries; held = c.self.inside.held }) c.self.invariant.4.numbered
    (subst (IsNew c.args.version.object) (sym c.self.view_is) c.requires.new)).0

pub returns-then-is_full-clause-value : goal.returns-then-is_full-clause-value
returns-then-is_full-clause-value c =
    let there : is_some (filespace_at c.args.filespace c.args.self.now.filespaces) ≡ true =
    sym (ap (λ (rows : Rows). is_some (filespace_at c.args.filespace rows.filespaces)) c.self.view_is) ∙ (sym c.contains_key.ensures ∙ c.if-not-contains_key.false) in
    (refl, inr (rows_full c.args.filespace c.args.path.now c.args.class.now c.args.version c.args.self.now there (sym c.is_full.ensures ∙ c.if-is_full.true)))

pub returns-clause-value : goal.returns-clause-value
returns-clause-value c =
    let rows : Rows = record { nodes = c.self.inside.nodes.entries; filespaces = c.self.inside.filespaces.entries; held = c.self.inside.held } in
    let new : Rows = record { nodes = c.self.inside.nodes.entries; filespaces = c.put.new.filespaces.entries; held = c.self.inside.held } in
    let there : is_some (filespace_at c.args.filespace c.self.inside.filespaces.entries) ≡ true = sym c.contains_key.ensures ∙ c.if-not-contains_key.false in
    let room : nat_le most_kept (length (kept_of rows)) ≡ false = ap (λ (t : Rows). nat_le most_kept (length (kept_of t))) c.self.view_is ∙ sym c.is_full.ensures ∙ c.if-is_full.false in
    subst (λ (t : Rows). Becomes c.put.result t new (rows_with c.args.filespace c.args.path.now c.args.class.now c.args.version t)) c.self.view_is
    (subst (λ (class : List ℕ). Becomes c.put.result rows new (rows_with c.args.filespace c.args.path.now class c.args.version rows)) c.in_ok-class.ensures.cases
    (becomes_rows c.put.result c.args.filespace c.args.path.now c.in_ok-class.class c.args.version rows c.put.new.filespaces.entries there room c.put.ensures.value))

pub returns-clause-newest : goal.returns-clause-newest
returns-clause-newest c =
    subst (λ (rows : Rows). OnOk c.put.result (versions_at c.args.filespace c.args.path.now c.put.new.filespaces.entries ≡ c.args.version ∷ superseded c.args.version.stored (versions_at c.args.filespace c.args.path.now rows.filespaces))) c.self.view_is
    (became_ok (versions_at c.args.filespace c.args.path.now c.put.new.filespaces.entries ≡ c.args.version ∷ superseded c.args.version.stored (versions_at c.args.filespace c.args.path.now c.self.inside.filespaces.entries))
    c.put.result c.self.inside.filespaces.entries c.put.new.filespaces.entries (filespaces_with c.args.filespace c.args.path.now c.in_ok-class.class c.args.version c.self.inside.filespaces.entries) c.put.ensures.value
    (put_newest c.args.filespace c.args.path.now c.in_ok-class.class c.args.version c.self.inside.filespaces.entries c.put.new.filespaces.entries c.self.invariant.1.orderly))

pub returns-clause-found : goal.returns-clause-found
returns-clause-found c =
    let parts : (has_object c.args.version.object (versions_of c.self.inside.filespaces.entries) ≡ false) × (has_row c.args.version.object c.self.inside.held ≡ false) =
    new-parts c.args.version.object (record { nodes = c.self.inside.nodes.entries; filespaces = c.self.inside.filespaces.entries; held = c.self.inside.held }) c.self.invariant.4.numbered
    (subst (IsNew c.args.version.object) (sym c.self.view_is) c.requires.new) in
    became_ok _ c.put.result c.self.inside.filespaces.entries c.put.new.filespaces.entries (filespaces_with c.args.filespace c.args.path.now c.in_ok-class.class c.args.version c.self.inside.filespaces.entries) c.put.ensures.value
    (λ said. kept-there c.args.version.object (record { nodes = c.self.inside.nodes.entries; filespaces = c.put.new.filespaces.entries; held = c.self.inside.held }) c.args.version
    (put_found c.self.inside.places.entries c.put.new.places.entries c.args.filespace c.args.path.now c.in_ok-class.class c.args.version c.self.inside.filespaces.entries c.put.new.filespaces.entries c.self.invariant.1 c.put.ensures.indexed parts.0 said))

pub returns-clause-undone : goal.returns-clause-undone
returns-clause-undone c =
    let new : Rows = record { nodes = c.self.inside.nodes.entries; filespaces = c.put.new.filespaces.entries; held = c.self.inside.held } in
    subst (λ (rows : Rows). OnOk c.put.result (UndoGivesBack c.args.filespace c.args.path.now rows new)) c.self.view_is
    (became_ok (UndoGivesBack c.args.filespace c.args.path.now (record { nodes = c.self.inside.nodes.entries; filespaces = c.self.inside.filespaces.entries; held = c.self.inside.held }) new)
    c.put.result c.self.inside.filespaces.entries c.put.new.filespaces.entries (filespaces_with c.args.filespace c.args.path.now c.in_ok-class.class c.args.version c.self.inside.filespaces.entries) c.put.ensures.value
    (λ said was active so. ap (with_filespaces new) (put_undone c.args.filespace c.args.path.now c.in_ok-class.class c.args.version c.self.inside.filespaces.entries c.put.new.filespaces.entries c.self.invariant.1.orderly said was active so)))

pub invariant_of-self : goal.invariant_of-self
invariant_of-self c = (
  c.self.invariant.0,
  c.put.ensures.indexed,
  c.put.ensures.counted,
  spaces_with c.self.inside.spaces.entries c.args.filespace c.args.path.now c.in_ok-class.class c.args.version c.self.inside.filespaces.entries c.put.new.filespaces.entries
      (became c.put.result c.self.inside.filespaces.entries c.put.new.filespaces.entries (filespaces_with c.args.filespace c.args.path.now c.in_ok-class.class c.args.version c.self.inside.filespaces.entries) c.put.ensures.value) c.self.invariant.3,
  c.self.invariant.4,
  apart_put c.args.filespace c.args.path.now c.in_ok-class.class c.args.version c.self.inside.filespaces.entries c.put.new.filespaces.entries c.self.inside.held c.self.invariant.1.orderly
      (new-parts c.args.version.object (record { nodes = c.self.inside.nodes.entries; filespaces = c.self.inside.filespaces.entries; held = c.self.inside.held }) c.self.invariant.4.numbered
      (subst (IsNew c.args.version.object) (sym c.self.view_is) c.requires.new)).1
      (became c.put.result c.self.inside.filespaces.entries c.put.new.filespaces.entries (filespaces_with c.args.filespace c.args.path.now c.in_ok-class.class c.args.version c.self.inside.filespaces.entries) c.put.ensures.value) c.self.invariant.5,
)
