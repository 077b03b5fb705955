use Rattle.std.proofs.Common.{◌∙◌, ◌-◌, ◌++◌, ℕ, List, ap, arith}
use Rattle.log_file.specs.Blocks.{block}
use Rattle.log_file.proofs.Frames.{batch_ends, batch_view}
use Rattle.log_file.proofs.batch.Batch.add.Goals as goal

pub invariant_of-self : goal.invariant_of-self
invariant_of-self c = batch_ends c.self.inside.bytes.items c.args.framed.now c.bytes.result.now c.extend_from_slice.new.self.items (c.len-gate.result - 1) c.self.invariant c.bytes.ensures.bytes (c.in-Ok.ensures.items) (omega (arith, c.len-gate.ensures))

pub returns-in-Ok-clause-ok : goal.returns-in-Ok-clause-ok
returns-in-Ok-clause-ok c = batch_view c.self.inside.bytes.items c.args.framed.now c.bytes.result.now c.extend_from_slice.new.self.items (c.len-gate.result - 1) c.self.invariant c.bytes.ensures.bytes (c.in-Ok.ensures.items) (omega (arith, c.len-gate.ensures)) ∙ ap (λ (l : List ℕ). l ++ block c.args.framed.now) c.self.view_is
