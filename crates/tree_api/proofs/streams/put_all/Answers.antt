use Rattle.std.proofs.Common.{ℕ, arith, length-take, length-drop}
use Rattle.tree_api.proofs.Pieces.{put_more}
use Rattle.tree_api.proofs.streams.put_all.Goals as goal

pub pieces-preserved : goal.pieces-preserved
pieces-preserved g c =
    record {
      within = omega (arith, c.in-Ok.ensures.bound, length-take {A = ℕ}, length-drop {A = ℕ});
      put = put_more _ _ _ _ _ _ c.pieces.invariant.put c.in-Ok.ensures.bytes;
      kept = omega (arith, c.pieces.invariant.kept, c.put.ensures.cause.kept);
    }
