use Rattle.path_patterns.proofs.Cuts.{next_character, no_characters}
use Rattle.path_patterns.proofs.character.CharactersCut.next.Goals as goal

pub returns-in-None-clause-none : goal.returns-in-None-clause-none
returns-in-None-clause-none c = no_characters c.args.bytes.now c.in-None.ensures.cases

pub returns-in-Some-clause-some : goal.returns-in-Some-clause-some
returns-in-Some-clause-some c = rw (c.split_at.ensures.front, c.split_at.ensures.back) (next_character _ _ _ _ c.in-Some.ensures.cases.0 c.continuations.ensures.within c.continuations.ensures.before c.continuations.ensures.end)
