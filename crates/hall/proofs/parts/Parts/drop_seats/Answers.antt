use Rattle.std.proofs.Common.{◌∙◌}
use Rattle.std.proofs.lemmas.List.{drop_more}
use Rattle.hall.proofs.JoinAnswers.{one_more_gone}
use Rattle.hall.proofs.parts.Parts.drop_seats.Goals as goal

pub numbers-preserved : goal.numbers-preserved
numbers-preserved c =
    one_more_gone c.args.numbers.now _ c.numbers.number-index c.numbers.self c.drop_seat.new.self (drop_more c.args.numbers.now c.numbers.number-index 0 c.numbers-test.true) c.drop_seat.ensures ∙ c.numbers.invariant
