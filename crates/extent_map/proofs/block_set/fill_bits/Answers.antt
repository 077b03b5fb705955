use Rattle.std.proofs.Common.{◌∙◌, ◌+◌, ◌*◌, ◌/◌, ◌<◌, ◌≤◌, arith, length}
use Rattle.extent_map.specs.Levels.{bit_of}
use Rattle.extent_map.proofs.WordLists.{filled_more}
use Rattle.extent_map.proofs.block_set.fill_bits.Goals as goal

pub loop-done-preserved : goal.loop-done-preserved
loop-done-preserved c =
    let order : c.args.low ≤ c.loop-done.done = c.loop-done.invariant.low in
    let more : c.loop-done.done < c.min-stop.result = omega arith in
    let whole : c.min-stop.result ≤ 64 * (c.loop-done.done / 64 + 1) = omega arith in
    let within : c.loop-done.done / 64 < length c.loop-done.words = omega arith in
    record {
      low = omega arith;
      high = omega arith;
      telling = c.put_word.ensures.telling;
      members = λ i le. c.put_word.ensures.members i le ∙ filled_more c.loop-done.words c.args.low c.loop-done.done c.min-stop.result c.with_bits-word.result c.args.set (bit_of c.args.words.now i) i order more whole within c.with_bits-word.ensures (c.loop-done.invariant.members i le);
    }
