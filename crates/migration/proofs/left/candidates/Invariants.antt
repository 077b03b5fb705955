use Rattle.std.proofs.Common.{◌≡◌, ◌++◌, drop}
use Rattle.std.specs.List.{flat_map}
use Rattle.migration.specs.Turns.{candidates_of}
use Rattle.migration.proofs.left.candidates.Given as goal

abbrev pub invariant-lines : goal.invariant-lines
invariant-lines l = l.them.items ++ flat_map (candidates_of l.seen) (drop l.line-index l.lines) ≡ flat_map (candidates_of l.seen) l.lines
