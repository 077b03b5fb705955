use Rattle.std.proofs.Common.{◌≡◌, ℕ, true, Option, refl, sym, subst}
use Rattle.std.proofs.lemmas.List.{length-map}
use Rattle.steps.specs.Calls.{Call}
use Rattle.command_steps.specs.Clients.{Client, client, seen}
use Rattle.command_steps.specs.Jobs.{AnswersInJob}
use Rattle.command_steps.specs.Lines.{line_in}
use Rattle.command_steps.proofs.jobs.answer_in_job.Goals as goal

pub returns-in-Some-clause-answers : goal.returns-in-Some-clause-answers
returns-in-Some-clause-answers g c =
    let k : Client = client g.T.Tree.files g.T.Tree.fault_count c.args.binder.now c.args.trees.now c.args.trees.now in
    subst (λ (u : Option ℕ). Call g.P.Stepper.did c.args.p.now c.answer_withheld.new.p (λ events. AnswersInJob k u c.args.number (line_in true c.args.line.now) events c.answer_withheld.result)) (sym c.in-Some.is)
    (c.answer_withheld.ensures k refl (length-map c.args.trees.now (seen g.T.Tree.files g.T.Tree.fault_count)))
