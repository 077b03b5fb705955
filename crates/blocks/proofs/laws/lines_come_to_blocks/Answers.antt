use Rattle.std.proofs.Common.{refl}
use Rattle.blocks.proofs.Gathering.{all_lines, ends, goes}
use Rattle.blocks.proofs.laws.lines_come_to_blocks.Goals as goal

pub returns-clause-begins : goal.returns-clause-begins
returns-clause-begins c = λ lines. refl

pub returns-clause-goes : goal.returns-clause-goes
returns-clause-goes c = λ gathered number line lines not_end. goes gathered number line lines not_end

pub returns-clause-ends : goal.returns-clause-ends
returns-clause-ends c = λ gathered number line lines is_end. ends gathered number line lines is_end

pub returns-clause-lines : goal.returns-clause-lines
returns-clause-lines c = λ gathered. all_lines gathered
