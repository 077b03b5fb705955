use Rattle.std.proofs.Common.{◌≡◌, ◌++◌}
use Rattle.std.specs.Int.{w32}
use Rattle.std.specs.List.{flat_map, AllByRecursion}
use Rattle.fields.specs.Forms.{number, pair}
use Rattle.inventory_bytes.specs.StoreForms.{volume_row}
use Rattle.inventory_bytes.specs.Payload.{unheld_volumes}
use Rattle.inventory_bytes.proofs.volume_rows_read.put_entries.Given as goal

abbrev pub invariant-entries : goal.invariant-entries
invariant-entries l =
    let f = pair (number w32) volume_row in
    record {
      put : l.out.items ++ flat_map f.spell l.file-iterator ≡ l.fn.out.items ++ flat_map f.spell l.map.entries;
      fit : AllByRecursion f.Fits (unheld_volumes l.file-iterator);
    }
