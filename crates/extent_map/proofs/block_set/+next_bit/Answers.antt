use Rattle.std.proofs.Common.{◌≡◌, ◌-◌, ◌+◌, ◌*◌, ◌/◌, ◌<◌, arith}
use Rattle.extent_map.specs.Bits.{IsLowest}
use Rattle.extent_map.specs.Levels.{bit_of}
use Rattle.extent_map.proofs.WordLists.{level_above, deep, filled_below, is_there, none_below, lowest_below}
use Rattle.extent_map.proofs.block_set.+next_bit.Goals as goal

pub next_bit-requires : goal.next_bit-requires
next_bit-requires t c =
    let above = level_above c.args.depth c.args.start (c.args.from / 64) c.requires.level c.if-at-start.false in
    let whole : c.args.start ≡ 64 * (c.args.start / 64 - 1 + 1) = above.0 in
    let some : 0 < c.args.depth = deep c.args.depth c.args.start (c.args.from / 64) c.requires.level c.if-at-start.false in
    (omega arith, (above.1, (omega arith, (omega (arith, whole), (omega arith, ((λ i lt. c.requires.telling i (omega arith)), omega arith))))))

pub bounds-words-above : goal.bounds-words-above
bounds-words-above t c =
    let up : IsLowest (bit_of c.args.words.now) (c.args.from / 64) (64 * (c.args.start / 64 - 1 + 1)) c.in-Some-next_bit.above = c.in-Some-next_bit.ensures in
    let whole : c.args.start ≡ 64 * (c.args.start / 64 - 1 + 1) = (level_above c.args.depth c.args.start (c.args.from / 64) c.requires.level c.if-at-start.false).0 in
    let less : c.in-Some-next_bit.above < c.args.start = omega (arith, up.before, whole) in
    is_there c.args.words.now (c.in-Some-next_bit.above + 1) (filled_below c.args.words.now c.in-Some-next_bit.above (c.requires.telling c.in-Some-next_bit.above less) up.here)

pub lowest-requires : goal.lowest-requires
lowest-requires t c =
    let up : IsLowest (bit_of c.args.words.now) (c.args.from / 64) (64 * (c.args.start / 64 - 1 + 1)) c.in-Some-next_bit.above = c.in-Some-next_bit.ensures in
    let whole : c.args.start ≡ 64 * (c.args.start / 64 - 1 + 1) = (level_above c.args.depth c.args.start (c.args.from / 64) c.requires.level c.if-at-start.false).0 in
    let less : c.in-Some-next_bit.above < c.args.start = omega (arith, up.before, whole) in
    filled_below c.args.words.now c.in-Some-next_bit.above (c.requires.telling c.in-Some-next_bit.above less) up.here

pub returns-in-Some-next_bit : goal.returns-in-Some-next_bit
returns-in-Some-next_bit t c =
    lowest_below c.args.words.now c.args.start c.args.from (64 * (c.args.start / 64 - 1 + 1)) c.in-Some-next_bit.above c.lowest.result c.requires.telling (level_above c.args.depth c.args.start (c.args.from / 64) c.requires.level c.if-at-start.false).0 c.in-None.ensures c.in-Some-next_bit.ensures c.lowest.ensures

pub returns-in-None-next_bit : goal.returns-in-None-next_bit
returns-in-None-next_bit t c =
    none_below c.args.words.now c.args.start c.args.from (64 * (c.args.start / 64 - 1 + 1)) c.requires.telling (level_above c.args.depth c.args.start (c.args.from / 64) c.requires.level c.if-at-start.false).0 c.in-None.ensures c.in-None-next_bit.ensures
