use Rattle.std.proofs.Common.{◌≡◌, ◌++◌}
use Rattle.std.specs.Int.{w64}
use Rattle.std.specs.List.{flat_map, AllByRecursion}
use Rattle.fields.specs.Forms.{number, pair}
use Rattle.inventory_bytes.specs.ClientForms.{held_row}
use Rattle.inventory_bytes.specs.Payload.{unnumbered}
use Rattle.inventory_bytes.proofs.held_rows.put_entries.Given as goal

abbrev pub invariant-entries : goal.invariant-entries
invariant-entries l =
    let f = pair (number w64) held_row in
    record {
      put : l.out.items ++ flat_map f.spell l.object-iterator ≡ l.fn.out.items ++ flat_map f.spell l.map.entries;
      fit : AllByRecursion f.Fits (unnumbered l.object-iterator);
    }
