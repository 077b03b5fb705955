use Rattle.command_steps.proofs.Answered.{answered, ended, halted}
use Rattle.command_steps.specs.Clients.{client}
use Rattle.command_steps.specs.Lines.{line_of}
use Rattle.std.proofs.Common.{sym}
use Rattle.command_steps.proofs.answering.answer_line.Goals as goal

pub returns-in-None-clause-answers : goal.returns-in-None-clause-answers
returns-in-None-clause-answers g c = answered g.P.Stepper.did g.met.P.Stepper.goes_on c.args.p.now c.do_line.new.p c.follow.new.p (client g.T.Tree.files g.T.Tree.fault_count c.args.binder.now c.args.trees.now c.do_line.new.trees) c.args.number (line_of c.args.line.now) c.in-Ok.replied c.follow.result c.in-Ok.ensures.does c.follow.ensures (sym c.in-None.ensures)

pub returns-in-Some-clause-answers : goal.returns-in-Some-clause-answers
returns-in-Some-clause-answers g c = halted g.P.Stepper.did g.met.P.Stepper.goes_on c.args.p.now c.do_line.new.p c.follow.new.p (client g.T.Tree.files g.T.Tree.fault_count c.args.binder.now c.args.trees.now c.do_line.new.trees) c.args.number (line_of c.args.line.now) c.in-Ok.replied c.follow.result c.in-Some.how c.in-Ok.ensures.does c.follow.ensures (sym c.in-Some.ensures)

pub returns-in-Err-clause-answers : goal.returns-in-Err-clause-answers
returns-in-Err-clause-answers g c = ended g.P.Stepper.did c.args.p.now c.do_line.new.p (client g.T.Tree.files g.T.Tree.fault_count c.args.binder.now c.args.trees.now c.do_line.new.trees) c.args.number (line_of c.args.line.now) c.in-Err.how c.in-Err.ensures.does
