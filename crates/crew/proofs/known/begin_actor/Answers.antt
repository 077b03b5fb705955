use Rattle.std.proofs.Common.{rules}
use Rattle.crew.proofs.Keeping.{takes_as}
use Rattle.crew.proofs.known.begin_actor.Goals as goal

pub split_pass-requires : goal.split_pass-requires
split_pass-requires g c = (search rules, (search rules, (c.requires.cell, takes_as _ _ _ c.requires.keeps c.requires.next)))
