use Rattle.std.proofs.Common.{ℕ, List, [], ◌∷◌, ◌++◌, Option, Ok, eq-eqb, refl, ap, subst, ◌∙◌}
use Rattle.steps.specs.Calls.{Call}
use Rattle.command_steps.specs.Clients.{all_seen}
use Rattle.blocks.specs.Shapes.{Placed}
use Rattle.line_jobs.specs.Jobs.{AnswersOne, between, said_of}
use Rattle.line_jobs.specs.Lents.{faults_of, files_of}
use Rattle.line_jobs.specs.declared.job.Said.{Said}
use Rattle.line_jobs.proofs.Answering.{keeps, one_of}
use Rattle.line_jobs.proofs.job.keep_one.Goals as goal

pub returns-in-Ok-push-clause-takes : goal.returns-in-Ok-push-clause-takes
returns-in-Ok-push-clause-takes g c =
    let old = all_seen (files_of g.T.Tree.files) (faults_of g.T.Tree.fault_count) c.args.trees.now in
    let new = all_seen (files_of g.T.Tree.files) (faults_of g.T.Tree.fault_count) c.answer_one.new.trees in
    keeps c.args.binder.now g.P.Stepper.did c.args.lines.now c.args.p.now c.answer_one.new.p c.args.line.now c.args.said.now.items c.push.new.self.items old new c.in-Ok.replied
    (c.in-Ok-push.ensures.items ∙ ap (λ (l : List Said). l ++ (record { job = c.line.inside.job; number = c.line.inside.number; reply = c.in-Ok.replied.0; why = c.in-Ok.replied.1 } ∷ [])) c.reserve.ensures.items
    ∙ ap (λ (p : Placed). c.args.said.now.items ++ (said_of (one_of c.args.lines.now p) c.in-Ok.replied ∷ [])) c.line.view_is) (eq-eqb c.args.line.now.job c.args.line.now.job refl)
    (subst (λ (u : Option ℕ). Call g.P.Stepper.did c.args.p.now c.answer_one.new.p (λ events. AnswersOne (between c.args.binder.now old new) (record { line = c.args.line.now; in_use = u }) events (Ok c.in-Ok.replied)))
    c.in_use-used.ensures c.in-Ok.ensures.answers)
