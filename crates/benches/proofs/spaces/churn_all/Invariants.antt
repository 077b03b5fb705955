use Rattle.space_index.specs.Tails.{IsIndexOf}
use Rattle.benches.proofs.spaces.churn_all.Given as goal

abbrev pub invariant-parts : goal.invariant-parts
invariant-parts g l = IsIndexOf l.index l.pools l.space
