use Rattle.std.proofs.Common.{◌≡◌, ℕ, List, false, sym, subst}
use Rattle.std.specs.Result.{OnOk}
use Rattle.object_rows.specs.declared.held_object.HeldRow.{HeldRow}
use Rattle.object_rows.specs.HeldRows.{has_row, held_with, held_without}
use Rattle.object_rows.proofs.Answered.{held_to}
use Rattle.object_rows.proofs.HeldLists.{held_back}
use Rattle.object_rows.proofs.held_rows.HeldRows.put.Goals as goal

pub returns-clause-undone : goal.returns-clause-undone
returns-clause-undone c =
    subst (λ (held : List (ℕ × HeldRow)). OnOk c.put.result (held_without c.args.held.version.object c.put.new.map.entries ≡ held)) c.self.view_is
    (held_to _ c.put.result c.self.inside.map.entries c.put.new.map.entries (held_with c.args.filespace c.args.held c.self.inside.map.entries) c.put.ensures.value
    (held_back c.args.held.version.object (record { filespace = c.args.filespace; held = c.args.held }) c.self.inside.map.entries c.put.new.map.entries
    (subst (λ (held : List (ℕ × HeldRow)). has_row c.args.held.version.object held ≡ false) (sym c.self.view_is) c.requires.new)))
