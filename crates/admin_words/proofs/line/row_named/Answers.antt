use Rattle.admin_words.proofs.Named.{noun_refused, noun_chosen}
use Rattle.admin_words.proofs.line.row_named.Goals as goal

pub returns-in-Err : goal.returns-in-Err
returns-in-Err c = noun_refused _ _ _ _ _ c.in-len1-up.len_at_least c.in-Err.ensures.value

pub returns-in-Ok : goal.returns-in-Ok
returns-in-Ok c = noun_chosen _ _ _ _ _ _ c.in-len1-up.len_at_least c.in-Ok.ensures.within c.in-Ok.ensures.value
