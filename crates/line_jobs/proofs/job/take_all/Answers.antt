use Rattle.std.proofs.Common.{refl, ◌∙◌, arith}
use Rattle.std.proofs.lemmas.List.{take_all}
use Rattle.command_steps.specs.Clients.{all_seen}
use Rattle.line_jobs.specs.Lents.{faults_of, files_of}
use Rattle.line_jobs.proofs.Answering.{begins, ends-all, ends-at, goes-on}
use Rattle.line_jobs.proofs.job.take_all.Goals as goal

pub lines-init : goal.lines-init
lines-init g c =
    record {
      does = begins c.args.binder.now g.P.Stepper.did g.met.P.Stepper.goes_on c.args.lines.now c.args.job c.args.said.now.items (all_seen (files_of g.T.Tree.files) (faults_of g.T.Tree.fault_count) c.args.trees.now) c.args.p.now
          (g.met.P.Stepper.stays c.args.p.now);
      long = refl;
    }

pub lines-preserved : goal.lines-preserved
lines-preserved g c =
    record {
      does = goes-on c.args.binder.now g.P.Stepper.did g.met.P.Stepper.goes_on c.args.lines.now c.args.job c.args.said.now.items (all_seen (files_of g.T.Tree.files) (faults_of g.T.Tree.fault_count) c.args.trees.now) c.args.p.now
          c.lines.p c.take_one.new.p c.lines.line-index c.line-item.result c.line-item.result c.lines.said.items c.take_one.new.said.items (all_seen (files_of g.T.Tree.files) (faults_of g.T.Tree.fault_count) c.lines.trees)
          (all_seen (files_of g.T.Tree.files) (faults_of g.T.Tree.fault_count) c.take_one.new.trees) c.lines-test.true c.line-item.is c.lines.invariant.does c.in-Ok.ensures.takes;
      long = c.in-Ok.ensures.long ∙ c.lines.invariant.long;
    }

pub returns-clause-does : goal.returns-clause-does
returns-clause-does g c =
    ends-all c.args.binder.now g.P.Stepper.did g.met.P.Stepper.goes_on c.args.lines.now c.args.job c.args.said.now.items (all_seen (files_of g.T.Tree.files) (faults_of g.T.Tree.fault_count) c.args.trees.now) c.args.p.now c.lines.p
    c.lines.line-index c.lines.said.items (all_seen (files_of g.T.Tree.files) (faults_of g.T.Tree.fault_count) c.lines.trees) (take_all c.lines.line-index c.args.lines.now (omega arith)) c.lines.invariant.does

pub returns-in-Err-clause-does : goal.returns-in-Err-clause-does
returns-in-Err-clause-does g c =
    ends-at c.args.binder.now g.P.Stepper.did g.met.P.Stepper.goes_on c.args.lines.now c.args.job c.args.said.now.items (all_seen (files_of g.T.Tree.files) (faults_of g.T.Tree.fault_count) c.args.trees.now) c.args.p.now c.lines.p
    c.take_one.new.p c.lines.line-index c.line-item.result c.line-item.result c.lines.said.items c.take_one.new.said.items (all_seen (files_of g.T.Tree.files) (faults_of g.T.Tree.fault_count) c.lines.trees)
    (all_seen (files_of g.T.Tree.files) (faults_of g.T.Tree.fault_count) c.take_one.new.trees) c.in-Err.how c.lines-test.true c.line-item.is c.lines.invariant.does c.in-Err.ensures.takes
