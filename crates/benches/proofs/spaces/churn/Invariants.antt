use Rattle.space_index.specs.Tails.{IsIndexOf}
use Rattle.benches.proofs.spaces.churn.Given as goal

abbrev pub invariant-objects : goal.invariant-objects
invariant-objects l = IsIndexOf l.index l.pools l.space
