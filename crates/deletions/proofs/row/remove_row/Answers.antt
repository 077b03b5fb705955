use Rattle.deletions.proofs.Waiting.{row-asked}
use Rattle.deletions.proofs.row.remove_row.Goals as goal

pub returns : goal.returns
returns g c =
    row-asked g.P.Stepper.did c.args.p.now c.wait_and_remove-result.new.p _ c.in-Ok.asked c.wait_and_remove-result.result c.in-Ok.ensures c.wait_and_remove-result.ensures
