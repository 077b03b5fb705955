use Rattle.std.proofs.Common.{◌∙◌, ap, List, map, string_bytes, sym}
use Rattle.std.proofs.lemmas.Result.{IfOk-weaker}
use Rattle.clap.specs.Words.{App, Text, fault_of, is_simple, is_simple_and_free, subcommand_of, takes}
use Rattle.program_words.proofs.Asking.{none_shaped}
use Rattle.program_words.proofs.Faulting.{shaped}
use Rattle.program_words.proofs.Taking.{simple, simple_and_free, takes_shaped}
use Rattle.program_words.proofs.words.parsed.Goals as goal

pub returns-in-Ok-clause-read : goal.returns-in-Ok-clause-read
returns-in-Ok-clause-read c =
    let words : List Text = map string_bytes c.args.words.now in
    let is = c.in_ok-parser.ensures in
    let clean = sym (ap (λ (a : App). fault_of a words) is) ∙ c.in-Ok.ensures.kinds (ap is_simple_and_free is ∙ simple_and_free) in
    let found = (c.in-Ok.ensures.matches (ap is_simple is ∙ simple)).1 ∙ ap (λ (a : App). subcommand_of a words) is in
    IfOk-weaker c.command.result _ _ (λ asked reads. reads words (record { plain = c.requires.plain; shaped = shaped words c.requires.plain clean; found = found })) c.command.ensures.read

pub returns-clause-read : goal.returns-clause-read
returns-clause-read c =
    let words : List Text = map string_bytes c.args.words.now in
    let is = c.in_ok-parser.ensures in
    none_shaped words (λ shape. c.in_default.not-OutOfMemory (c.kind.ensures ∙ c.in-Err.ensures.passes (ap (λ (a : App). takes a words) is ∙ takes_shaped words c.requires.plain shape)))
