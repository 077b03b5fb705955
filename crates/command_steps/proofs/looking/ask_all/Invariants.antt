use Rattle.std.proofs.Common.{take}
use Rattle.steps.specs.Calls.{Call}
use Rattle.command_steps.specs.Doing.{Asked}
use Rattle.command_steps.proofs.looking.ask_all.Given as goal

-- those so far were answered
abbrev pub invariant-queries : goal.invariant-queries
invariant-queries g l = Call g.P.Stepper.did l.fn.p l.p (λ events. Asked (take l.query-index l.queries) l.answers.items events)
