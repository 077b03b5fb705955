use Rattle.std.proofs.Common.{◌∙◌, ap, codes, sym}
use Rattle.clap.specs.Words.{found_of}
use Rattle.clap.proofs.WalkLemmas.{first_value-rows, raw_values-rows}
use Rattle.program_words.specs.Words.{as_wanted}
use Rattle.program_words.proofs.Asking.{nothing_read, wanted_read}
use Rattle.program_words.proofs.words.restoring.Goals as goal

pub returns-in-Ok-Some-clause-read : goal.returns-in-Ok-Some-clause-read
returns-in-Ok-Some-clause-read c =
    let found = found_of c.args.words.now in
    λ given it. wanted_read _ _ _ _ given c.in-Ok-Some.wanted (first_value-rows found (codes "FILE")) (first_value-rows found (codes "DAY")) (raw_values-rows found (codes "FILES")) (sym (ap as_wanted c.in-Ok-Some.field-0-is) ∙ c.in-Ok-Some.ensures) it

pub returns-in-Ok-None-clause-read : goal.returns-in-Ok-None-clause-read
returns-in-Ok-None-clause-read c =
    let found = found_of c.args.words.now in
    λ given it. nothing_read _ _ _ _ given (first_value-rows found (codes "FILE")) (first_value-rows found (codes "DAY")) (raw_values-rows found (codes "FILES")) (sym (ap as_wanted c.in-Ok-None.field-0-is) ∙ c.in-Ok-None.ensures) it
