use Rattle.std.proofs.Common.{◌^◌}
use Rattle.std.specs.Int.{w64}
use Rattle.fields.specs.Forms.{number}
use Rattle.inventory_bytes.specs.ClientForms.{held_row}
use Rattle.inventory_bytes.specs.Payload.{held_objects, with_number}
use Rattle.inventory_bytes.proofs.HeldFits.{rows_few, rows_within}
use Rattle.inventory_bytes.proofs.Left.{table_left}
use Rattle.inventory_bytes.proofs.table_fits.held_fit.Goals as goal

pub table_fits-requires-clause-few : goal.table_fits-requires-clause-few
table_fits-requires-clause-few c = rw c.held.ensures.value (rows_few (2 ^ 32) c.args.objects.now.held c.requires)

pub table_fits-requires-clause-within : goal.table_fits-requires-clause-within
table_fits-requires-clause-within c = rw c.held.ensures.value (rows_within (2 ^ 32) c.args.objects.now.held c.held.ensures.held.numbered c.requires)

pub returns : goal.returns
unfolding held_objects
returns c = table_left (with_number 0) (number w64).Fits held_row.Fits c.args.objects.now.held (rw c.held.ensures.value at c.table_fits.ensures)
