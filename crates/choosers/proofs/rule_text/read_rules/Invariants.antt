use Rattle.std.proofs.Common.{◌≡◌, ◌+◌, length}
use Rattle.choosers.specs.RuleText.{rules_from, rules_of, parts, placed_from, behind}
use Rattle.choosers.proofs.rule_text.read_rules.Given as goal

abbrev pub invariant-lines : goal.invariant-lines
invariant-lines l = record {
  said : rules_of l.fn.bytes ≡ behind l.rules.items (rules_from (placed_from l.first (parts l.rest)));
  place : l.first + length l.rest ≡ length l.fn.bytes;
}

abbrev pub decreases-lines : goal.decreases-lines
decreases-lines l = length l.rest
