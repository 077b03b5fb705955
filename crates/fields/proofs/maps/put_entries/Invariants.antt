use Rattle.std.proofs.Common.{◌≡◌, ◌++◌}
use Rattle.std.specs.List.{flat_map, AllByRecursion}
use Rattle.fields.specs.Forms.{pair}
use Rattle.fields.proofs.maps.put_entries.Given as goal

abbrev pub invariant-entries : goal.invariant-entries
invariant-entries g l =
    let f = pair g.K.Formed.form g.C.Decoder.form in
    record {
      put : l.out.items ++ flat_map f.spell l.key-iterator ≡ l.fn.out.items ++ flat_map f.spell l.map.entries;
      fit : AllByRecursion f.Fits l.key-iterator;
    }
