use Rattle.space_index.specs.Tails.{IsIndexOf}
use Rattle.benches.proofs.spaces.open_all.Given as goal

abbrev pub invariant-tickets : goal.invariant-tickets
invariant-tickets l = IsIndexOf l.index l.pools l.space
