use Rattle.std.proofs.Common.{◌≡◌, ◌++◌}
use Rattle.std.specs.Prelude.{map}
use Rattle.inventory_answers.specs.Policy.{domain_line}
use Rattle.inventory_answers.proofs.policy.domain_lines.Given as goal

abbrev pub invariant-domains : goal.invariant-domains
invariant-domains l = l.lines.items ++ map domain_line l.name-iterator ≡ map domain_line l.domains
