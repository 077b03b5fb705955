use Rattle.deletions.proofs.Whole.{row-refused-by}
use Rattle.deletions.proofs.filespace.remove_row.Goals as goal

pub returns-in-Err-answer : goal.returns-in-Err-answer
returns-in-Err-answer g c =
    row-refused-by g.P.Stepper.did c.args.p.now c.commit-answer.new.self c.args.filespace c.args.names.now.name c.in-Ok.asked c.in-Err-answer.refusal c.unremoved.result
    c.in-Ok.ensures c.unremoved.ensures c.in-Err-answer.ensures
