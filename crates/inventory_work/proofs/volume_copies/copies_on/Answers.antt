use Rattle.std.proofs.Common.{[], ap, ◌∙◌}
use Rattle.inventory_rows.specs.State.{inv_of}
use Rattle.inventory_work.specs.OnVolume.{objects_of}
use Rattle.inventory_work.proofs.RowObjects.{answered_on_row}
use Rattle.inventory_work.proofs.volume_copies.copies_on.Goals as goal

pub returns : goal.returns
returns c =
    answered_on_row c.copies_of_objects.result (inv_of c.args.tables.now) c.args.file c.args.volume.now c.in_ok-numbers.numbers.keys c.are_ordered.ensures.filespaces c.filespaces.ensures.sound c.requires.held c.requires.row
    (c.in_ok-numbers.ensures ∙ ap (objects_of []) c.as_map.ensures) c.len.ensures.ordered c.copies_of_objects.ensures
