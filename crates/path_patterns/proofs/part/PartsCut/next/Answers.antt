use Rattle.path_patterns.proofs.Cuts.{next_part}
use Rattle.path_patterns.proofs.part.PartsCut.next.Goals as goal

pub returns-in-Some-clause-some : goal.returns-in-Some-clause-some
returns-in-Some-clause-some c = rw (c.split_at.ensures.front, c.split_at.ensures.back) (next_part _ _ _ _ c.in-Some.ensures.cases.0 c.part_len.ensures.within c.part_len.ensures.before c.part_len.ensures.end)
