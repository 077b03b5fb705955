use Rattle.std.proofs.Common.{◌∙◌, arith}
use Rattle.client_files.proofs.Giving.{copied-more, written-missed}
use Rattle.client_files.proofs.restoring.copy_bytes.Goals as goal

pub returns-in-Err-clause-written : goal.returns-in-Err-clause-written
returns-in-Err-clause-written g c =
    written-missed g.P.Stepper.did g.met.P.Stepper.goes_on c.args.p.now c.pieces.p c.next_piece.new.p c.args.stored.now c.args.path.now (g.T.Tree.files c.args.tree.now) (g.T.Tree.files c.pieces.tree)
    (g.T.Tree.files c.next_piece.new.tree) c.pieces.done (g.T.Tree.fault_count c.args.tree.now) (g.T.Tree.fault_count c.pieces.tree) (g.T.Tree.fault_count c.next_piece.new.tree) c.next_piece.new.buffer
    c.pieces.hasher c.in-Err.refusal c.pieces.invariant.copied (omega (arith, c.pieces-test.true)) c.pieces.invariant.rises c.in-Err.ensures.moves

pub pieces-preserved : goal.pieces-preserved
pieces-preserved g c = record {
  copied = copied-more g.P.Stepper.did g.met.P.Stepper.goes_on c.args.p.now c.pieces.p c.next_piece.new.p c.args.stored.now c.args.path.now (g.T.Tree.files c.args.tree.now) (g.T.Tree.files c.pieces.tree)
      (g.T.Tree.files c.next_piece.new.tree) c.pieces.done (g.T.Tree.fault_count c.pieces.tree) (g.T.Tree.fault_count c.next_piece.new.tree) c.in-Ok.count c.next_piece.new.buffer c.pieces.hasher c.update.new.self
      c.pieces.invariant.copied c.in-Ok.ensures.moves c.update.ensures;
  within = c.in-Ok.ensures.end;
  rises = omega (arith, c.next_piece.ensures.rises, c.pieces.invariant.rises);
  long = c.next_piece.ensures.long ∙ c.pieces.invariant.long;
}
