use Rattle.std.proofs.Common.{None, true, Ok, sym, ap, ◌∙◌}
use Rattle.script_loop.specs.Reply.{Answer}
use Rattle.command_steps.proofs.Withheld.{comments, refuses, wants, withholds}
use Rattle.command_steps.specs.Lines.{line_in}
use Rattle.command_steps.specs.Reading.{line_view}
use Rattle.command_steps.proofs.jobs.answer_withheld.Goals as goal

pub returns-in-Ok-Comment : goal.returns-in-Ok-Comment
returns-in-Ok-Comment g c = λ k kept many.
    comments g.P.Stepper.did k kept c.args.p.now c.args.tree c.args.number (line_in true c.args.line.now) (Ok (c.nothing.result, None)) (g.met.P.Stepper.stays c.args.p.now)
    (sym (ap line_view c.in-Ok-Comment.field-0-is) ∙ c.in-Ok-Comment.ensures.said) (ap (λ (r : Answer). Ok (r, None)) c.nothing.ensures)

pub returns-in-Ok-Refused : goal.returns-in-Ok-Refused
returns-in-Ok-Refused g c = λ k kept many.
    refuses g.P.Stepper.did k kept c.args.p.now c.args.tree c.args.number (line_in true c.args.line.now) c.in-Ok-Refused.why c.refused_so.result (g.met.P.Stepper.stays c.args.p.now)
    (sym (ap line_view c.in-Ok-Refused.field-0-is) ∙ c.in-Ok-Refused.ensures.said) c.refused_so.ensures

pub returns-in-Ok-Asks : goal.returns-in-Ok-Asks
returns-in-Ok-Asks g c = λ k kept many.
    withholds g.P.Stepper.did k kept c.args.p.now c.withhold-why.new.p c.args.tree c.args.number (line_in true c.args.line.now) c.in-Ok-Asks.command c.withhold-why.result c.ends.result
    (sym (ap line_view c.in-Ok-Asks.field-0-is) ∙ c.in-Ok-Asks.ensures.said) (c.withhold-why.ensures k kept many) c.ends.ensures

pub returns-in-Err : goal.returns-in-Err
returns-in-Err g c = λ k kept many. wants g.P.Stepper.did k kept c.args.p.now c.args.tree c.args.number (line_in true c.args.line.now) (g.met.P.Stepper.stays c.args.p.now)
