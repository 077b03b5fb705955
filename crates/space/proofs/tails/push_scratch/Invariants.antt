use Rattle.std.proofs.Common.{◌≡◌, ◌+◌, ◌-◌, ◌++◌}
use Rattle.space.specs.Pieces.{scratch_pieces}
use Rattle.space.proofs.tails.push_scratch.Given as goal

abbrev pub invariant-files : goal.invariant-files
invariant-files l =
    l.out.items ++ scratch_pieces l.capacity (l.count - l.i) (l.file + l.i) ≡ l.initial.out.items ++ scratch_pieces l.capacity l.count l.file
