use Rattle.std.proofs.Common.{◌≡◌, ◌++◌, take, All}
use Rattle.std.specs.List.{flat_map}
use Rattle.backup_payloads.specs.Holding.{record_of, IsShort}
use Rattle.backup_payloads.proofs.encode.put_entries.Given as goal

abbrev pub invariant-entries : goal.invariant-entries
invariant-entries l =
    record {
      put : l.out.items ≡ l.fn.out.items ++ flat_map record_of (take l.one-index l.made);
      short : All IsShort (take l.one-index l.made);
    }
