use Rattle.std.proofs.Common.{◌≡◌, false, Ok, refl, sym, subst}
use Rattle.std.specs.Result.{OnOk}
use Rattle.version_groups.specs.Versions.{has_object}
use Rattle.object_rows.specs.Filespaces.{versions_of}
use Rattle.object_rows.specs.HeldRows.{has_row, held_with}
use Rattle.object_rows.specs.Rows.{IsNew, Rows, rows_without}
use Rattle.object_rows.proofs.Answered.{became_to, held_to}
use Rattle.object_rows.proofs.Apart.{apart_held}
use Rattle.object_rows.proofs.KeptChanges.{held_found, held_undone, new-parts}
use Rattle.object_rows.proofs.objects.Objects.hold.Goals as goal

pub put-requires-clause-new : goal.put-requires-clause-new
put-requires-clause-new c = (new-parts c.args.held.version.object (record { nodes = c.self.inside.nodes.entries; filespaces = c.self.inside.filespaces.entries; held = c.self.inside.held }) c.self.invariant.4.numbered (subst (IsNew c.args.held.version.object) (sym c.self.view_is) c.requires.new)).1

pub invariant_of-self : goal.invariant_of-self
invariant_of-self c = (
  c.self.invariant.0,
  c.self.invariant.1,
  c.self.invariant.2,
  c.self.invariant.3,
  c.put.ensures.held,
  apart_held c.args.held.version.object (record { filespace = c.args.filespace; held = c.args.held }) c.self.inside.filespaces.entries c.self.inside.held c.put.new.self
      (new-parts c.args.held.version.object (record { nodes = c.self.inside.nodes.entries; filespaces = c.self.inside.filespaces.entries; held = c.self.inside.held }) c.self.invariant.4.numbered (subst (IsNew c.args.held.version.object) (sym c.self.view_is) c.requires.new)).0
      (became_to c.put.result c.self.inside.held c.put.new.self (held_with c.args.filespace c.args.held c.self.inside.held) c.put.ensures.value) c.self.invariant.5,
)

pub returns-clause-found : goal.returns-clause-found
returns-clause-found c =
    let parts : (has_object c.args.held.version.object (versions_of c.self.inside.filespaces.entries) ≡ false) × (has_row c.args.held.version.object c.self.inside.held ≡ false) =
    new-parts c.args.held.version.object (record { nodes = c.self.inside.nodes.entries; filespaces = c.self.inside.filespaces.entries; held = c.self.inside.held }) c.self.invariant.4.numbered (subst (IsNew c.args.held.version.object) (sym c.self.view_is) c.requires.new) in
    held_to _ c.put.result c.self.inside.held c.put.new.self (held_with c.args.filespace c.args.held c.self.inside.held) c.put.ensures.value
    (held_found c.args.filespace c.args.held c.self.inside.held (record { nodes = c.self.inside.nodes.entries; filespaces = c.self.inside.filespaces.entries; held = c.put.new.self }) parts.1 parts.0 c.put.ensures.held.numbered)

pub returns-clause-undone : goal.returns-clause-undone
returns-clause-undone c =
    subst (λ (rows : Rows). OnOk c.put.result (rows_without c.args.held.version.object (record { nodes = c.self.inside.nodes.entries; filespaces = c.self.inside.filespaces.entries; held = c.put.new.self }) ≡ Ok rows)) c.self.view_is
    (held_to _ c.put.result c.self.inside.held c.put.new.self (held_with c.args.filespace c.args.held c.self.inside.held) c.put.ensures.value
    (held_undone c.args.filespace c.args.held (record { nodes = c.self.inside.nodes.entries; filespaces = c.self.inside.filespaces.entries; held = c.self.inside.held }) (record { nodes = c.self.inside.nodes.entries; filespaces = c.self.inside.filespaces.entries; held = c.put.new.self }) (new-parts c.args.held.version.object (record { nodes = c.self.inside.nodes.entries; filespaces = c.self.inside.filespaces.entries; held = c.self.inside.held }) c.self.invariant.4.numbered (subst (IsNew c.args.held.version.object) (sym c.self.view_is) c.requires.new)).1 refl refl))
