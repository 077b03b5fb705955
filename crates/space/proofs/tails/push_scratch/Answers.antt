use Rattle.std.proofs.Common.{ℕ, ◌+◌, ◌-◌, ◌++◌, ap, arith}
use Rattle.space.specs.Pieces.{scratch_pieces}
use Rattle.space.proofs.Lists.{piece_at, scratch_next, scratch_end}
use Rattle.space.proofs.tails.push_scratch.Goals as goal

pub files-preserved : goal.files-preserved
files-preserved c =
    scratch_next c.args.capacity c.args.count c.files.i c.args.file c.files.out.items c.push.new.self.items (c.args.out.now.items ++ scratch_pieces c.args.capacity c.args.count c.args.file) (piece_at (c.args.file + c.files.i) c.saturating_sub.result)
    (omega arith) (ap (λ (n : ℕ). piece_at (c.args.file + c.files.i) n) c.saturating_sub.ensures) c.in_ok-push.ensures.items c.files.invariant

pub returns : goal.returns
returns c = scratch_end c.args.capacity (c.args.count - c.files.i) (c.args.file + c.files.i) c.files.out.items (c.args.out.now.items ++ scratch_pieces c.args.capacity c.args.count c.args.file) (omega arith) c.files.invariant
