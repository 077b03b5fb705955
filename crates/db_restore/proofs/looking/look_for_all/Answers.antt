use Rattle.std.proofs.Common.{◌∙◌, ◌||◌, ℕ, List, ap, sym}
use Rattle.kinds.specs.declared.refusal.OpenRefused.{OpenRefused}
use Rattle.inventory_rows.specs.version_groups.declared.groups.Filespace.{Filespace}
use Rattle.inventory_rows.specs.object_rows.declared.held_object.HeldRow.{HeldRow}
use Rattle.inventory_rows.specs.object_rows.Rows.{kept_of}
use Rattle.copy_checks.proofs.Seeing.{looks_so}
use Rattle.db_restore.specs.Missing.{FindsLost, filespaces_miss, held_miss, versions_miss}
use Rattle.db_restore.proofs.Finding.{found_both, in_all}
use Rattle.db_restore.proofs.looking.look_for_all.Goals as goal

pub returns-clause-told : goal.returns-clause-told
returns-clause-told g c =
    let skipped = c.args.skipped.now in
    let rows = c.args.objects.now in
    looks_so (Unit {0}) OpenRefused _ _ _ (λ image. FindsLost (filespaces_miss image skipped c.filespaces.result.now.entries) c.args.losses.now c.look_for_filespaces.new.losses)
    (λ image done. FindsLost (held_miss image skipped c.held.result.now.entries) c.look_for_filespaces.new.losses c.look_for_held.new.losses) (λ image done. FindsLost (versions_miss image skipped (kept_of rows)) c.args.losses.now c.look_for_held.new.losses) c.look_for_held.result
    (λ image done first second.
    found_both (filespaces_miss image skipped c.filespaces.result.now.entries) (held_miss image skipped c.held.result.now.entries) (versions_miss image skipped (kept_of rows)) c.args.losses.now c.look_for_filespaces.new.losses c.look_for_held.new.losses
    (λ object pool.
    in_all image skipped object pool rows
    ∙ ap (λ (l : List (ℕ × Filespace)). filespaces_miss image skipped l object pool || held_miss image skipped rows.held object pool) (sym c.filespaces.ensures.value)
    ∙ ap (λ (l : List (ℕ × HeldRow)). filespaces_miss image skipped c.filespaces.result.now.entries object pool || held_miss image skipped l object pool) (sym c.held.ensures.value)) first second) c.in-Ok.ensures.told c.look_for_held.ensures.told
