use Rattle.std.proofs.Common.{◌≡◌, ◌+◌, ◌-◌, ◌++◌}
use Rattle.space.specs.Pieces.{scratch_pieces, filled}
use Rattle.space_index.proofs.sequential.push_filled_scratch.Given as goal

abbrev pub invariant-files : goal.invariant-files
invariant-files l =
    l.out.items ++ filled l.left (scratch_pieces l.fn.capacity (l.count - l.i) (l.file + l.i)) ≡ l.initial.out.items ++ filled l.fn.rest (scratch_pieces l.fn.capacity l.count l.file)
