use Rattle.admin_commands.specs.declared.work.Work.{Work}
use Rattle.command_steps.proofs.Worked.{also}
use Rattle.command_steps.specs.Clients.{IsKept, client}
use Rattle.command_steps.specs.Doing.{Does, DoesOwn, Gives, Told}
use Rattle.command_steps.specs.Owns.{last_of, own_of}
use Rattle.command_steps.specs.declared.outcome.Outcome.TheVariants.{Rows, Said}
use Rattle.sessions.specs.Changing.{Changing}
use Rattle.std.proofs.Common.{ℕ, List, refl, subst, sym}
use Rattle.steps.specs.Calls.{Call}
use Rattle.command_steps.proofs.doing.do_work.Goals as goal

pub returns-in-Commit-clause-does : goal.returns-in-Commit-clause-does
returns-in-Commit-clause-does g c = subst (λ (w : Work). Call g.P.Stepper.did c.args.p.now c.make.new.p (λ events. Does (client g.T.Tree.files g.T.Tree.fault_count c.args.binder.now c.args.trees.now c.args.trees.now) c.args.command.now w events c.make.result)) (sym c.in-Commit.is) (also g.P.Stepper.did c.args.p.now c.make.new.p (IsKept (client g.T.Tree.files g.T.Tree.fault_count c.args.binder.now c.args.trees.now c.args.trees.now)) (λ events. Gives (Changing c.in-Commit.change) (λ number. Said (last_of c.in-Commit.change)) events c.make.result) refl c.make.ensures)

pub returns-in-Show-clause-does : goal.returns-in-Show-clause-does
returns-in-Show-clause-does g c = subst (λ (w : Work). Call g.P.Stepper.did c.args.p.now c.ask-outcome.new.p (λ events. Does (client g.T.Tree.files g.T.Tree.fault_count c.args.binder.now c.args.trees.now c.args.trees.now) c.args.command.now w events c.ask-outcome.result)) (sym c.in-Show.is) (also g.P.Stepper.did c.args.p.now c.ask-outcome.new.p (IsKept (client g.T.Tree.files g.T.Tree.fault_count c.args.binder.now c.args.trees.now c.args.trees.now)) (λ events. Gives (Told c.in-Show.query) Rows events c.ask-outcome.result) refl c.ask-outcome.ensures)

pub returns-in-Run-clause-does : goal.returns-in-Run-clause-does
returns-in-Run-clause-does g c = subst (λ (w : Work). Call g.P.Stepper.did c.args.p.now c.run_own-outcome.new.p (λ events. Does (client g.T.Tree.files g.T.Tree.fault_count c.args.binder.now c.args.trees.now c.run_own-outcome.new.trees) c.args.command.now w events c.run_own-outcome.result)) (sym c.in-Run.is)
    (subst (λ (numbers : List ℕ). Call g.P.Stepper.did c.args.p.now c.run_own-outcome.new.p (λ events. DoesOwn (client g.T.Tree.files g.T.Tree.fault_count c.args.binder.now c.args.trees.now c.run_own-outcome.new.trees) (own_of c.args.command.now) numbers events c.run_own-outcome.result)) c.as_slice.ensures c.run_own-outcome.ensures.does)
