use Rattle.std.proofs.Common.{ap, map}
use Rattle.std.specs.Option.{option_copied}
use Rattle.command_words.proofs.Fitting.{stands_for_none}
use Rattle.command_words.proofs.field.word.Goals as goal

pub returns-in-Err-clause-fitting : goal.returns-in-Err-clause-fitting
returns-in-Err-clause-fitting c = λ x some fit.
    stands_for_none (map (λ w. w.now) c.args.words.now) (option_copied c.args.text) c.in-Some.text.now x _ (ap option_copied c.in-Some.is) some c.in-Err.ensures.value fit
