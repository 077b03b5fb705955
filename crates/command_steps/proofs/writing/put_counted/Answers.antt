use Rattle.std.proofs.Common.{arith}
use Rattle.std.proofs.lemmas.List.{length-take-le}
use Rattle.command_steps.proofs.Written.{goes-further}
use Rattle.command_steps.specs.Clients.{seen}
use Rattle.command_steps.proofs.writing.put_counted.Goals as goal

pub pieces-preserved : goal.pieces-preserved
pieces-preserved g c = record {
  has = goes-further c.args.path.now c.fill_piece.new.piece c.args.fill c.pieces.done _ c.min-room.result (seen g.T.Tree.files g.T.Tree.fault_count c.args.tree.now) (seen g.T.Tree.files g.T.Tree.fault_count c.pieces.tree) (seen g.T.Tree.files g.T.Tree.fault_count c.put_bytes.new.tree)
      c.pieces.invariant.has c.fill_piece.ensures (length-take-le c.min-room.result c.pieces.buffer (omega (arith, c.min-room.ensures))) c.in-Ok.ensures.1;
  rises = omega (arith, c.pieces.invariant.rises, c.in-Ok.ensures.0);
  within = omega (arith, c.min-room.ensures, c.pieces.invariant.within);
}
