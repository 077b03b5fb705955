use Rattle.std.proofs.Common.{rules, ap, ◌∙◌}
use Rattle.inventory_rows.specs.pool_rows.PoolRows.{is_sequential}
use Rattle.inventory_rows.specs.State.{inv_of}
use Rattle.inventory_fits.specs.Frames.{is_clear_after, are_held_apart}
use Rattle.inventory_fits.proofs.Lie.{apart_on_row, clear_on_row}
use Rattle.inventory_fits.proofs.placing.is_clear_on.Goals as goal

pub is_clear_in-requires : goal.is_clear_in-requires
is_clear_in-requires c =
    ap (λ q. are_held_apart q c.as_map.result.now.entries) c.is_sequential-row_sequential.ensures
    ∙ ap (are_held_apart (is_sequential c.in-Some.volume.now.pool c.args.tables.now.pools)) c.as_map.ensures
    ∙ apart_on_row (inv_of c.args.tables.now) c.requires c.args.segment.now.file c.in-Some.volume.now (search rules)

pub returns-in-Some : goal.returns-in-Some
returns-in-Some c =
    clear_on_row c.args.moved.now c.args.number (inv_of c.args.tables.now) c.requires c.args.sequential c.args.segment.now c.in-Some.volume.now c.is_clear_in.result (search rules)
    (c.is_clear_in.ensures ∙ ap (is_clear_after c.args.moved.now c.args.number c.args.sequential c.args.segment.now) c.as_map.ensures)
