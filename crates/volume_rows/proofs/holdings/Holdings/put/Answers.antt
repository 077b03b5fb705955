use Rattle.std.proofs.Common.{arith, sym, ◌∙◌, ap}
use Rattle.volume_rows.specs.Held.{frame_bytes, blocks_of}
use Rattle.volume_rows.proofs.Segments.{after_put, taken_again}
use Rattle.volume_rows.proofs.holdings.Holdings.put.Goals as goal

pub invariant_of-self-2 : goal.invariant_of-self-2
invariant_of-self-2 c =
    let w = after_put frame_bytes c.args.segment c.self.inside.map.entries c.raise.new.map.entries c.in_ok-raise.ensures in
    let v = after_put blocks_of c.args.segment c.self.inside.map.entries c.raise.new.map.entries c.in_ok-raise.ensures in
    (omega (arith, w, c.self.invariant.0), omega (arith, v, c.self.invariant.1), omega arith, omega arith)

pub returns-clause-taken_again : goal.returns-clause-taken_again
returns-clause-taken_again c =
    rw (← c.self.view_is) (taken_again c.args.segment c.self.inside.map.entries c.raise.new.map.entries c.in_ok-raise.ensures)
