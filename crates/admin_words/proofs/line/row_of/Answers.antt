use Rattle.std.proofs.lemmas.List.{take_rest}
use Rattle.admin_words.proofs.Named.{verb_refused, named_refused, named_found}
use Rattle.admin_words.proofs.line.row_of.Goals as goal

pub returns-in-Err-clause-value : goal.returns-in-Err-clause-value
returns-in-Err-clause-value c = verb_refused _ _ _ _ _ c.in-len1-up.len_at_least c.in-Err.ensures.value

pub returns-in-Err-row_among-clause-value : goal.returns-in-Err-row_among-clause-value
returns-in-Err-row_among-clause-value c =
    named_refused _ _ _ _ _ _ _ _ _ c.in-len1-up.len_at_least c.in-Ok.ensures.within c.in-Ok.ensures.value c.nouns_of.ensures.value (take_rest _ 1) c.in-Err-row_among.ensures.value

pub returns-in-Ok-row_among-clause-value : goal.returns-in-Ok-row_among-clause-value
returns-in-Ok-row_among-clause-value c =
    named_found _ _ _ _ _ _ _ _ c.in-Ok-row_among.noun _ c.in-len1-up.len_at_least c.in-Ok.ensures.within c.in-Ok.ensures.value c.nouns_of.ensures.value (take_rest _ 1) c.in-Ok-row_among.ensures.value
