use Rattle.policy_domains.specs.Ascending.{SetsAscend}
use Rattle.policy_domains.proofs.table.sets_ascend.Given as goal

abbrev pub invariant-domains : goal.invariant-domains
invariant-domains l = SetsAscend l.domain-iterator → SetsAscend l.domains.entries
