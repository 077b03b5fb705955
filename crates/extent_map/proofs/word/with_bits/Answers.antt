use Rattle.extent_map.proofs.Words.{bits_set, bits_cleared}
use Rattle.extent_map.proofs.word.with_bits.Goals as goal

pub returns-then-set : goal.returns-then-set
returns-then-set c = λ i lt. rw c.if-set.true (bits_set c.args.word c.args.low c.args.high i c.requires.some c.requires.within)

pub returns-else-set : goal.returns-else-set
returns-else-set c = λ i lt. rw c.if-set.false (bits_cleared c.args.word c.args.low c.args.high i c.requires.some c.requires.within lt)
