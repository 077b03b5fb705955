use Rattle.std.proofs.Common.{◌≡◌, ◌&&◌, is_some}
use Rattle.std.specs.List.{list_all}
use Rattle.inventory_rows.specs.object_rows.Filespaces.{filespace_at}
use Rattle.inventory_rows.specs.object_rows.HeldRows.{is_held_row}
use Rattle.inventory_rows.specs.State.{inv_of}
use Rattle.inventory_rules.specs.Valid.{held_cite}
use Rattle.inventory_check.proofs.clients.held_cite.Given as goal

abbrev pub invariant-held : goal.invariant-held
invariant-held l = list_all (λ h. is_held_row h && is_some (filespace_at h.1.filespace (inv_of l.tables).clients.filespaces)) l.object-iterator ≡ held_cite (inv_of l.tables)
