use Rattle.std.proofs.Common.{sym, ap, ◌∙◌}
use Rattle.path_patterns.specs.Patterns.{is_match}
use Rattle.choosers.proofs.Last.{bound_last, bound_front, bound_none}
use Rattle.choosers.proofs.matching.match_rules.Goals as goal

pub returns-then-matches : goal.returns-then-matches
returns-then-matches c =
    c.says.ensures
    ∙ sym (c.rules.invariant ∙ bound_last c.rules.left.now c.in-Some.front.now c.in-Some.rule.now c.args.path.now c.in-Some.ensures.cases.0 (ap (λ p. is_match p c.args.path.now) (sym c.pattern.ensures) ∙ sym c.matches.ensures.value ∙ c.if-matches.true))

pub rules-preserved : goal.rules-preserved
rules-preserved c =
    c.rules.invariant ∙ bound_front c.rules.left.now c.in-Some.front.now c.in-Some.rule.now c.args.path.now c.in-Some.ensures.cases.0 (ap (λ p. is_match p c.args.path.now) (sym c.pattern.ensures) ∙ sym c.matches.ensures.value ∙ c.if-matches.false)

pub returns : goal.returns
returns c = sym (c.rules.invariant ∙ bound_none c.rules.left.now c.args.path.now c.in_default.ensures.cases)
