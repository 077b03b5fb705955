use Rattle.std.proofs.Common.{◌+◌, List, take, sym, subst, arith}
use Rattle.inventory_answers.specs.declared.reply.Answer.{Answer}
use Rattle.steps.specs.Calls.{Call}
use Rattle.command_steps.specs.Doing.{Asked}
use Rattle.command_steps.proofs.Looked.{looked-next, looked-stopped, looked-wanting}
use Rattle.command_steps.proofs.looking.ask_all.Goals as goal

pub returns-in-Err-push : goal.returns-in-Err-push
returns-in-Err-push g c = looked-wanting g.P.Stepper.did g.met.P.Stepper.goes_on c.args.p.now c.queries.p c.ask.new.self c.args.queries.now c.queries.query-index c.query-item.result c.queries.answers.items c.in-Ok.answer (omega (arith, c.queries-test.true)) c.query-item.is c.queries.invariant c.in-Ok.ensures

pub returns-in-Err : goal.returns-in-Err
returns-in-Err g c = looked-stopped g.P.Stepper.did g.met.P.Stepper.goes_on c.args.p.now c.queries.p c.ask.new.self c.args.queries.now c.queries.query-index c.query-item.result c.queries.answers.items c.in-Err.refusal (omega (arith, c.queries-test.true)) c.query-item.is c.queries.invariant c.in-Err.ensures

pub queries-preserved : goal.queries-preserved
queries-preserved g c =
    subst (λ (answers : List Answer). Call g.P.Stepper.did c.args.p.now c.ask.new.self (λ events. Asked (take (c.queries.query-index + 1) c.args.queries.now) answers events)) (sym c.in-Ok-push.ensures.items)
    (looked-next g.P.Stepper.did g.met.P.Stepper.goes_on c.args.p.now c.queries.p c.ask.new.self c.args.queries.now c.queries.query-index c.query-item.result c.queries.answers.items c.in-Ok.answer (omega (arith, c.queries-test.true)) c.query-item.is c.queries.invariant c.in-Ok.ensures)
