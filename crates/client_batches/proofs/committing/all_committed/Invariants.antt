use Rattle.std.proofs.Common.{◌≡◌, None, map, take}
use Rattle.client_batches.proofs.committing.all_committed.Given as goal

abbrev pub invariant-lines : goal.invariant-lines
invariant-lines g l = l.outs.items ≡ map (λ x. None) (take l._line-index l.lines)
