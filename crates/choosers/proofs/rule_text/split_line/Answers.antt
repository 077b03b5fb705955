use Rattle.choosers.proofs.Lines.{parts_cut}
use Rattle.choosers.proofs.rule_text.split_line.Goals as goal

pub returns-clause-cut : goal.returns-clause-cut
returns-clause-cut c =
    rw (c.split_at.ensures.front, c.split_at.ensures.back) (parts_cut c.line_len.result c.args.text.now c.line_len.ensures.within c.line_len.ensures.before c.line_len.ensures.end)
