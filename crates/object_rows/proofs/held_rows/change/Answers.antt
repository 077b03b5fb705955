use Rattle.std.proofs.Common.{List, ℕ, sym, subst}
use Rattle.version_groups.specs.Copies.{Alters, copies_after}
use Rattle.version_groups.proofs.Altered.{Alters-lift}
use Rattle.version_groups.proofs.Maps.{Alters-entry}
use Rattle.version_groups.specs.declared.copies.CopyRow.{CopyRow}
use Rattle.object_rows.specs.declared.held_object.HeldRow.{HeldRow}
use Rattle.object_rows.specs.Filespaces.{at_number}
use Rattle.object_rows.specs.HeldRows.{held_altered_at, row_altered}
use Rattle.object_rows.proofs.held_rows.change.Goals as goal

pub returns-in-Some : goal.returns-in-Some
returns-in-Some c =
    let r : HeldRow = c.in-Some.row.now in
    let with_copies : List CopyRow → HeldRow = λ copies. record r { held = record (r.held) { version = record (r.held.version) { copies = copies } } } in
    subst (λ (t : List (ℕ × HeldRow)). Alters c.args.by c.change.result c.args.map.now.entries t (held_altered_at c.args.object c.args.by c.args.map.now.entries))
    (sym (c.get_mut.follows.holds (with_copies c.change.new.self)).0)
    (Alters-entry c.args.by c.change.result (at_number c.args.object) (row_altered c.args.by) c.args.map.now.entries r (with_copies c.change.new.self) (sym c.in-Some.ensures.value)
    (Alters-lift c.args.by c.change.result r.held.version.copies c.change.new.self (copies_after c.args.by r.held.version.copies) with_copies c.change.ensures))
