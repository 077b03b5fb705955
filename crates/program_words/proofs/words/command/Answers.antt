use Rattle.std.proofs.Common.{◌≡◌, ◌∙◌, List, sym}
use Rattle.std.specs.Prelude.{option_map}
use Rattle.std.proofs.lemmas.Result.{IfOk-weaker}
use Rattle.clap.specs.Words.{Row, Text, subcommand_name_of, subcommand_rows_of}
use Rattle.program_words.proofs.Asking.{fuse, given_by, never_none, paired}
use Rattle.program_words.proofs.words.command.Goals as goal

pub returns-in-Some-clause-read : goal.returns-in-Some-clause-read
returns-in-Some-clause-read c =
    let names : option_map (λ (p : Text × List Row). p.0) (subcommand_rows_of c.args.matches.now) ≡ subcommand_name_of c.args.matches.now = fuse _ _ _ in
    let pair = paired (subcommand_rows_of c.args.matches.now) _ _ (c.in-Some.ensures.name ∙ sym names) c.in-Some.ensures.rows in
    IfOk-weaker c.named.result _ _ (λ asked reads given it. reads given (given_by given _ _ _ pair it)) c.named.ensures.read

pub returns-in-None-clause-read : goal.returns-in-None-clause-read
returns-in-None-clause-read c = λ given it. absurd (never_none given _ c.in-None.ensures.rows it)
