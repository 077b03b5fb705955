use Rattle.std.proofs.Common.{arith, codes}
use Rattle.tsm_top.proofs.Words.{damaged, zero_digits, one_digits, two_digits, three_digits}
use Rattle.tsm_top.proofs.top.damaged_words.Goals as goal

pub returns-in-0-clause-words : goal.returns-in-0-clause-words
returns-in-0-clause-words c = damaged c.args.file 0 (codes "0") c.in-0.is zero_digits

pub returns-in-1-clause-words : goal.returns-in-1-clause-words
returns-in-1-clause-words c = damaged c.args.file 1 (codes "1") c.in-1.is one_digits

pub returns-in-2-clause-words : goal.returns-in-2-clause-words
returns-in-2-clause-words c = damaged c.args.file 2 (codes "2") c.in-2.is two_digits

pub returns-in_default-clause-words : goal.returns-in_default-clause-words
returns-in_default-clause-words c = damaged c.args.file 3 (codes "3") (omega arith) three_digits
