use Rattle.command_steps.specs.Clients.{client}
use Rattle.command_steps.specs.Lines.{line_in}
use Rattle.line_jobs.specs.Lents.{faults_of, files_of}
use Rattle.line_jobs.proofs.Answering.{settled}
use Rattle.std.specs.Prelude.{true}
use Rattle.line_jobs.proofs.job.answer_done.Goals as goal

pub returns-clause-answers : goal.returns-clause-answers
returns-clause-answers g c =
    settled g.P.Stepper.did (client (files_of g.T.Tree.files) (faults_of g.T.Tree.fault_count) c.args.binder.now c.args.trees.now c.answer_in_job.new.trees) c.args.in_use c.args.number (line_in true c.args.line.now) c.args.p.now
    c.answer_in_job.new.p c.answer_in_job.result c.unless_held.result c.unless_held.ensures.same c.unless_held.ensures.unheld c.answer_in_job.ensures.answers
