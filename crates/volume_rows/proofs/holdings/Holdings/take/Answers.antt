use Rattle.std.proofs.Common.{arith, rules}
use Rattle.volume_rows.specs.Held.{frame_bytes, blocks_of}
use Rattle.volume_rows.proofs.Segments.{weight_of-without, held_from_taken, after_taken}
use Rattle.volume_rows.proofs.holdings.Holdings.take.Goals as goal

pub overflow_sub-self : goal.overflow_sub-self
overflow_sub-self c =
    let w = weight_of-without frame_bytes c.args.segment.now c.self.inside.map.entries (held_from_taken c.args.segment.now c.self.inside.map.entries c.lower.new.map.entries c.in_ok-lower.ensures) in
    omega (arith, w, c.self.invariant.0)

pub overflow_sub-self-2 : goal.overflow_sub-self-2
overflow_sub-self-2 c =
    let w = weight_of-without blocks_of c.args.segment.now c.self.inside.map.entries (held_from_taken c.args.segment.now c.self.inside.map.entries c.lower.new.map.entries c.in_ok-lower.ensures) in
    omega (arith, w, c.self.invariant.1)

pub invariant_of-self-2 : goal.invariant_of-self-2
invariant_of-self-2 c =
    let w = after_taken frame_bytes c.args.segment.now c.self.inside.map.entries c.lower.new.map.entries c.in_ok-lower.ensures in
    let v = after_taken blocks_of c.args.segment.now c.self.inside.map.entries c.lower.new.map.entries c.in_ok-lower.ensures in
    (omega (arith, w, c.self.invariant.0), omega (arith, v, c.self.invariant.1), omega (arith, c.self.invariant.2), omega (arith, c.self.invariant.3))
