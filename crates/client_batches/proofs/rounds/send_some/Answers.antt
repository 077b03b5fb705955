use Rattle.std.proofs.Common.{List, Option, false, ◌++◌, length, ap, sym, ◌∙◌}
use Rattle.kinds.specs.declared.refusal.Refusal.{Refusal}
use Rattle.client_files.specs.declared.outcome.Came.{Came}
use Rattle.client_batches.specs.Verdicts.{verdicts, waiting}
use Rattle.client_batches.proofs.Sealed.{batch_each}
use Rattle.client_batches.proofs.Rounding.{on-ended, on-waited, on-wanting}
use Rattle.client_batches.proofs.rounds.send_some.Goals as goal

pub returns-in-Err-clause-sends : goal.returns-in-Err-clause-sends
returns-in-Err-clause-sends g c =
    on-ended g.P.Stepper.did c.args.p.now c.send_batch.new.p c.args.classes.now (g.T.Tree.files c.args.tree.now) c.args.filespace c.args.lines.now c.args.settled.now.items c.args.settled.now.items (g.T.Tree.fault_count c.args.tree.now) (g.T.Tree.fault_count c.send_batch.new.tree) c.in-Err.refusal c.in-Err.ensures.batches

pub returns-in-Ok-settle-clause-sends : goal.returns-in-Ok-settle-clause-sends
returns-in-Ok-settle-clause-sends g c =
    on-waited g.P.Stepper.did g.met.P.Stepper.goes_on c.args.p.now c.send_batch.new.p c.wait_for.new.p c.args.classes.now (g.T.Tree.files c.args.tree.now) c.args.filespace c.args.lines.now c.args.settled.now.items c.settle.new.settled.items (g.T.Tree.fault_count c.args.tree.now) (g.T.Tree.fault_count c.send_batch.new.tree) c.in-Ok.batch c.in-Ok-settle.holder c.wait_for.result (c.in-Ok-settle.ensures.ok ∙ ap (λ (cs : List Came). c.args.settled.now.items ++ verdicts false cs c.as_slice-sealed.result.now c.as_slice-outs.result.now) c.as_slice-came.ensures ∙ ap (λ (cs : List Came). c.args.settled.now.items ++ verdicts false c.in-Ok.batch.came cs c.as_slice-outs.result.now) c.as_slice-sealed.ensures ∙ ap (λ (os : List (Option Refusal)). c.args.settled.now.items ++ verdicts false c.in-Ok.batch.came c.in-Ok.batch.sealed os) c.as_slice-outs.ensures) (c.in-Ok-settle.ensures.holder ∙ ap (waiting false) c.as_slice-came.ensures) c.in-Ok.ensures.batches c.wait_for.ensures

pub returns-clause-sends : goal.returns-clause-sends
returns-clause-sends g c =
    on-wanting g.P.Stepper.did c.args.p.now c.send_batch.new.p c.args.classes.now (g.T.Tree.files c.args.tree.now) c.args.filespace c.args.lines.now c.args.settled.now.items c.settle.new.settled.items (g.T.Tree.fault_count c.args.tree.now) (g.T.Tree.fault_count c.send_batch.new.tree) c.in-Ok.batch c.in-Err-settle.refusal c.in-Err-settle.ensures.memory c.in-Ok.ensures.batches

pub settle-requires : goal.settle-requires
settle-requires g c = record {
  each = ap length c.as_slice-sealed.ensures ∙ batch_each c.args.classes.now (g.T.Tree.files c.args.tree.now) c.args.filespace c.args.lines.now (g.T.Tree.fault_count c.args.tree.now) (g.T.Tree.fault_count c.send_batch.new.tree)
      c.in-Ok.ensures.batches.0 c.in-Ok.batch c.in-Ok.ensures.batches.2 ∙ sym (ap length c.as_slice-came.ensures);
}
