use Rattle.command_steps.proofs.Answered.{comments, does-asked, refuses, wants}
use Rattle.command_steps.specs.Clients.{client}
use Rattle.command_steps.specs.Lines.{line_in}
use Rattle.command_steps.specs.Reading.{line_view}
use Rattle.script_loop.specs.Reply.{Answer}
use Rattle.std.proofs.Common.{None, Ok, refl, sym, ap, ◌∙◌}
use Rattle.command_steps.proofs.answering.do_line.Goals as goal

pub returns-in-Ok-Comment-clause-does : goal.returns-in-Ok-Comment-clause-does
returns-in-Ok-Comment-clause-does g c = comments g.P.Stepper.did c.args.p.now (client g.T.Tree.files g.T.Tree.fault_count c.args.binder.now c.args.trees.now c.args.trees.now) c.args.number (line_in c.args.in_block c.args.line.now) (Ok (c.nothing.result, None)) (g.met.P.Stepper.stays c.args.p.now) refl (sym (ap line_view c.in-Ok-Comment.field-0-is) ∙ c.in-Ok-Comment.ensures.said) (ap (λ (r : Answer). Ok (r, None)) c.nothing.ensures)

pub returns-in-Ok-Refused-clause-does : goal.returns-in-Ok-Refused-clause-does
returns-in-Ok-Refused-clause-does g c = refuses g.P.Stepper.did c.args.p.now (client g.T.Tree.files g.T.Tree.fault_count c.args.binder.now c.args.trees.now c.args.trees.now) c.args.number (line_in c.args.in_block c.args.line.now) c.in-Ok-Refused.why c.refused_so.result (g.met.P.Stepper.stays c.args.p.now) refl (sym (ap line_view c.in-Ok-Refused.field-0-is) ∙ c.in-Ok-Refused.ensures.said) c.refused_so.ensures

pub returns-in-Ok-Asks-clause-does : goal.returns-in-Ok-Asks-clause-does
returns-in-Ok-Asks-clause-does g c = does-asked g.P.Stepper.did c.args.p.now c.do_command-said.new.p (client g.T.Tree.files g.T.Tree.fault_count c.args.binder.now c.args.trees.now c.do_command-said.new.trees) c.args.number (line_in c.args.in_block c.args.line.now) c.in-Ok-Asks.command c.do_command-said.result c.ends.result (sym (ap line_view c.in-Ok-Asks.field-0-is) ∙ c.in-Ok-Asks.ensures.said) c.do_command-said.ensures.does c.ends.ensures

pub returns-in-Err-clause-does : goal.returns-in-Err-clause-does
returns-in-Err-clause-does g c = wants g.P.Stepper.did c.args.p.now (client g.T.Tree.files g.T.Tree.fault_count c.args.binder.now c.args.trees.now c.args.trees.now) c.args.number (line_in c.args.in_block c.args.line.now) (g.met.P.Stepper.stays c.args.p.now) refl
