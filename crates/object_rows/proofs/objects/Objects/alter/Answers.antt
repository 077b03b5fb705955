use Rattle.std.proofs.Common.{◌≡◌, ℕ, List, Result, false, sym, subst, ◌∙◌}
use Rattle.std.specs.Bool.{IsTrue}
use Rattle.version_groups.specs.kinds.declared.refusal.Refusal.{Refusal}
use Rattle.version_groups.specs.declared.copies.CopyRow.{CopyRow}
use Rattle.version_groups.specs.Copies.{Alters, takes_free_pool}
use Rattle.version_groups.specs.Versions.{has_object}
use Rattle.version_groups.proofs.Altered.{Alters-lift}
use Rattle.version_groups.specs.declared.groups.Filespace.{Filespace}
use Rattle.object_rows.specs.declared.held_object.HeldRow.{HeldRow}
use Rattle.object_rows.specs.Filespaces.{filespaces_altered, versions_of}
use Rattle.object_rows.specs.HeldRows.{held_altered, held_versions}
use Rattle.object_rows.specs.Rows.{Rows, FreePool, rows_altered}
use Rattle.object_rows.proofs.Answered.{altered}
use Rattle.object_rows.proofs.Apart.{apart_altered, apart_places}
use Rattle.object_rows.proofs.HeldLists.{has-held}
use Rattle.object_rows.proofs.KeptChanges.{altered_held, altered_version}
use Rattle.object_rows.proofs.KeptLaws.{copies-held, copies-unheld}
use Rattle.object_rows.proofs.NamedSpaces.{spaces_altered}
use Rattle.object_rows.proofs.objects.Objects.alter.Goals as goal

pub alter-requires : goal.alter-requires
alter-requires c =
    let rows : Rows = record { nodes = c.self.inside.nodes.entries; filespaces = c.self.inside.filespaces.entries; held = c.self.inside.held } in
    let none : has_object c.args.object (versions_of c.self.inside.filespaces.entries) ≡ false = c.self.invariant.5 c.args.object (sym c.contains.ensures ∙ c.if-contains.true) in
    subst (λ (copies : List CopyRow). IsTrue (takes_free_pool c.args.change copies)) (copies-held c.args.object rows none)
    (subst (FreePool c.args.change c.args.object) (sym c.self.view_is) c.requires)

pub returns-then-contains : goal.returns-then-contains
returns-then-contains c =
    let rows : Rows = record { nodes = c.self.inside.nodes.entries; filespaces = c.self.inside.filespaces.entries; held = c.self.inside.held } in
    let none : has_object c.args.object (versions_of c.self.inside.filespaces.entries) ≡ false = c.self.invariant.5 c.args.object (sym c.contains.ensures ∙ c.if-contains.true) in
    let new : List (ℕ × HeldRow) = c.alter.new.self in
    subst (λ (t : Rows). Alters c.args.change c.alter.result t (record { nodes = c.self.inside.nodes.entries; filespaces = c.self.inside.filespaces.entries; held = new }) (rows_altered c.args.object c.args.change t)) c.self.view_is
    (subst (λ (said : Result Rows Refusal). Alters c.args.change c.alter.result rows (record { nodes = c.self.inside.nodes.entries; filespaces = c.self.inside.filespaces.entries; held = new }) said) (sym (altered_held c.args.object c.args.change rows none))
    (Alters-lift c.args.change c.alter.result c.self.inside.held new (held_altered c.args.object c.args.change c.self.inside.held)
    (λ (t : List (ℕ × HeldRow)). record { nodes = c.self.inside.nodes.entries; filespaces = c.self.inside.filespaces.entries; held = t }) c.alter.ensures.value))

pub invariant_of-self : goal.invariant_of-self
invariant_of-self c = (
  c.self.invariant.0,
  c.self.invariant.1,
  c.self.invariant.2,
  c.self.invariant.3,
  c.alter.ensures.held,
  apart_altered c.args.object c.args.change c.self.inside.filespaces.entries c.self.inside.held c.alter.new.self
      (altered c.args.change c.alter.result c.self.inside.held c.alter.new.self (held_altered c.args.object c.args.change c.self.inside.held) c.alter.ensures.value) c.self.invariant.5,
)

pub alter-requires-2-clause-free : goal.alter-requires-2-clause-free
alter-requires-2-clause-free c =
    let rows : Rows = record { nodes = c.self.inside.nodes.entries; filespaces = c.self.inside.filespaces.entries; held = c.self.inside.held } in
    let none : has_object c.args.object (held_versions c.self.inside.held) ≡ false = has-held c.args.object c.self.inside.held c.self.invariant.4.numbered ∙ sym c.contains.ensures ∙ c.if-contains.false in
    subst (λ (copies : List CopyRow). IsTrue (takes_free_pool c.args.change copies)) (copies-unheld c.args.object rows none)
    (subst (FreePool c.args.change c.args.object) (sym c.self.view_is) c.requires)

pub invariant_of-self-2 : goal.invariant_of-self-2
invariant_of-self-2 c = (
  c.self.invariant.0,
  c.alter-2.ensures.indexed,
  c.alter-2.ensures.counted,
  spaces_altered c.self.inside.spaces.entries c.args.object c.args.change c.self.inside.filespaces.entries c.alter-2.new.filespaces.entries
      (altered c.args.change c.alter-2.result c.self.inside.filespaces.entries c.alter-2.new.filespaces.entries (filespaces_altered c.args.object c.args.change c.self.inside.filespaces.entries) c.alter-2.ensures.value) c.self.invariant.3,
  c.self.invariant.4,
  apart_places c.self.inside.places.entries c.self.inside.filespaces.entries c.alter-2.new.filespaces.entries c.self.inside.held c.self.invariant.1 c.alter-2.ensures.indexed c.self.invariant.5,
)

pub returns : goal.returns
returns c =
    let rows : Rows = record { nodes = c.self.inside.nodes.entries; filespaces = c.self.inside.filespaces.entries; held = c.self.inside.held } in
    let none : has_object c.args.object (held_versions c.self.inside.held) ≡ false = has-held c.args.object c.self.inside.held c.self.invariant.4.numbered ∙ sym c.contains.ensures ∙ c.if-contains.false in
    let new : List (ℕ × Filespace) = c.alter-2.new.filespaces.entries in
    subst (λ (t : Rows). Alters c.args.change c.alter-2.result t (record { nodes = c.self.inside.nodes.entries; filespaces = new; held = c.self.inside.held }) (rows_altered c.args.object c.args.change t)) c.self.view_is
    (subst (λ (said : Result Rows Refusal). Alters c.args.change c.alter-2.result rows (record { nodes = c.self.inside.nodes.entries; filespaces = new; held = c.self.inside.held }) said) (sym (altered_version c.args.object c.args.change rows none))
    (Alters-lift c.args.change c.alter-2.result c.self.inside.filespaces.entries new (filespaces_altered c.args.object c.args.change c.self.inside.filespaces.entries)
    (λ (t : List (ℕ × Filespace)). record { nodes = c.self.inside.nodes.entries; filespaces = t; held = c.self.inside.held }) c.alter-2.ensures.value))
