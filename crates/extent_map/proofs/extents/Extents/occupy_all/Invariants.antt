use Rattle.std.proofs.Common.{◌≡◌, drop}
use Rattle.extent_map.specs.Blocks.{AreFree, with_used}
use Rattle.extent_map.proofs.extents.Extents.occupy_all.Given as goal

abbrev pub invariant-loop-run : goal.invariant-loop-run
invariant-loop-run l =
    record {
      free : AreFree (drop l.run-index l.runs) l.self;
      rest : with_used (drop l.run-index l.runs) l.self ≡ with_used l.runs l.initial.self;
    }
