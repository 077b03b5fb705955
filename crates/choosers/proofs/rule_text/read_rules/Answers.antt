use Rattle.std.proofs.Common.{◌+◌, length, sym, ap, ◌∙◌, inl, inr, arith}
use Rattle.choosers.specs.RuleText.{rules_at, behind}
use Rattle.choosers.proofs.Lines.{refused_line, last_line, further_line}
use Rattle.choosers.proofs.rule_text.read_rules.Goals as goal

pub returns-in-Err-clause-value : goal.returns-in-Err-clause-value
returns-in-Err-clause-value c = elim c.in-Err.ensures [
  | inl memory ↦ inl memory
  | inr said ↦ inr (
      c.lines.invariant.said
      ∙ refused_line c.lines.rules.items c.in-Err.e c.lines.first c.lines.rest.now c.split_line.result.0.now c.split_line.result.1.now c.split_line.ensures.cut (ap (rules_at c.lines.first) (sym c.line_of.ensures.value) ∙ said))
]

pub returns-in-None-clause-value : goal.returns-in-None-clause-value
returns-in-None-clause-value c =
    c.lines.invariant.said
    ∙ last_line c.lines.rules.items c.add_rule.new.rules.items c.lines.first c.lines.rest.now c.split_line.result.0.now c.split_line.result.1.now c.split_line.ensures.cut c.in-None.ensures.cases
    (ap (λ line. behind c.lines.rules.items (rules_at c.lines.first line)) (sym c.line_of.ensures.value) ∙ c.in-Ok.ensures)

pub lines-preserved : goal.lines-preserved
lines-preserved c = record {
  said =
      c.lines.invariant.said
      ∙ further_line c.lines.rules.items c.add_rule.new.rules.items c.lines.first (c.lines.first + (length c.split_line.result.0.now + 1)) c.lines.rest.now c.split_line.result.0.now c.split_line.result.1.now _ c.in-Some.others.now c.split_line.ensures.cut c.in-Some.ensures.cases.0 (omega arith)
      (ap (λ line. behind c.lines.rules.items (rules_at c.lines.first line)) (sym c.line_of.ensures.value) ∙ c.in-Ok.ensures);
  place = omega (arith, c.in-Some.ensures.cases.1);
}
