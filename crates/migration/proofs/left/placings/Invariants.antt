use Rattle.std.proofs.Common.{◌≡◌, ◌++◌, drop}
use Rattle.std.specs.List.{flat_map}
use Rattle.migration.specs.Turns.{placings_of}
use Rattle.migration.proofs.left.placings.Given as goal

abbrev pub invariant-lines : goal.invariant-lines
invariant-lines l = l.them.items ++ flat_map (placings_of l.seen) (drop l.line-index l.lines) ≡ flat_map (placings_of l.seen) l.lines
