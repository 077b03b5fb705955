use Rattle.std.proofs.Common.{arith}
use Rattle.line_jobs.specs.Lents.{faults_of, files_of}
use Rattle.line_jobs.proofs.Running.{ran}
use Rattle.line_jobs.proofs.job.LineJobJob.run.Goals as goal

pub returns : goal.returns
returns g c =
    ran g.P.Stepper.did c.args.p.now c.take_all-self-inside.new.p (files_of g.T.Tree.files) (faults_of g.T.Tree.fault_count)
    (record { choice = c.self.inside.binder.now; lines = c.self.inside.lines.now; job = c.self.inside.job; trees = c.self.inside.trees.items; said = c.self.inside.said.items; ended = c.self.inside.ended }) c.args.self.now c.self.view_is
    c.deref_mut.result.now c.take_all-self-inside.new.trees c.self.inside.trees.len c.deref_mut.ensures.value (omega (arith, c.take_all-self-inside.auto.trees, c.deref_mut.ensures.len)) c.take_all-self-inside.new.said.items
    c.take_all-self-inside.result c.take_all-self-inside.ensures.does
