use Rattle.std.specs.Int.{w32}
use Rattle.fields.specs.Forms.{number}
use Rattle.inventory_bytes.specs.Payload.{unheld_volume}
use Rattle.inventory_bytes.specs.StoreForms.{volume_row}
use Rattle.inventory_bytes.proofs.Left.{table_left}
use Rattle.inventory_bytes.proofs.table_fits.volumes_fit.Goals as goal

pub returns : goal.returns
returns c = table_left unheld_volume (number w32).Fits volume_row.Fits c.args.map.now.entries c.table_fits.ensures
