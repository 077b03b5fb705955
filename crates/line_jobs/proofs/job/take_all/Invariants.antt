use Rattle.std.proofs.Common.{◌≡◌, length}
use Rattle.steps.specs.Calls.{Call}
use Rattle.command_steps.specs.Clients.{all_seen}
use Rattle.line_jobs.specs.Lents.{faults_of, files_of}
use Rattle.line_jobs.proofs.Answering.{Has}
use Rattle.line_jobs.proofs.job.take_all.Given as goal

-- the job's lines so far were answered
abbrev pub invariant-lines : goal.invariant-lines
invariant-lines g l =
    record {
      does : Call g.P.Stepper.did l.fn.p l.p
          (λ events. Has l.binder g.P.Stepper.did g.met.P.Stepper.goes_on l.lines l.job l.fn.said.items (all_seen (files_of g.T.Tree.files) (faults_of g.T.Tree.fault_count) l.fn.trees) l.line-index l.said.items
          (all_seen (files_of g.T.Tree.files) (faults_of g.T.Tree.fault_count) l.trees) events);
      long : length l.buffer ≡ length l.fn.buffer;
    }
