use Rattle.std.proofs.Common.{sym, ap, subst}
use Rattle.steps.specs.Calls.{Call}
use Rattle.command_steps.proofs.Worked.{ends-forced, ends-none, ends-reused}
use Rattle.command_steps.specs.Behind.{Behind}
use Rattle.command_steps.specs.Doing.{EndsWork}
use Rattle.command_steps.specs.Reading.{behind_view}
use Rattle.command_steps.proofs.behind.end_work.Goals as goal

pub returns-in-NoMore : goal.returns-in-NoMore
returns-in-NoMore g c =
    subst (λ (b : Behind). Call g.P.Stepper.did c.args.p.now c.args.p.now (λ events. EndsWork b c.args.said events c.args.said)) (sym (ap behind_view c.in-NoMore.is))
    (ends-none g.P.Stepper.did c.args.p.now c.args.said (g.met.P.Stepper.stays c.args.p.now))

pub returns-in-Forces : goal.returns-in-Forces
returns-in-Forces g c =
    subst (λ (b : Behind). Call g.P.Stepper.did c.args.p.now c.force_behind.new.p (λ events. EndsWork b c.args.said events c.force_behind.result)) (sym (ap behind_view c.in-Forces.is))
    (ends-forced g.P.Stepper.did c.args.p.now c.force_behind.new.p c.args.said c.force_behind.result c.force_behind.ensures)

pub returns-in-Reuses : goal.returns-in-Reuses
returns-in-Reuses g c =
    subst (λ (b : Behind). Call g.P.Stepper.did c.args.p.now c.force_behind-in-Reuses.new.p (λ events. EndsWork b c.args.said events c.force_behind-in-Reuses.result)) (sym (ap behind_view c.in-Reuses.is))
    (ends-reused g.P.Stepper.did g.met.P.Stepper.goes_on c.args.p.now c.reuse_behind-came.new.p c.force_behind-in-Reuses.new.p c.args.said c.reuse_behind-came.result c.force_behind-in-Reuses.result c.reuse_behind-came.ensures
    c.force_behind-in-Reuses.ensures)
