use Rattle.inventory_answers.specs.declared.query.Query.TheVariants as query
use Rattle.deletions.proofs.Removing.{unasked}
use Rattle.deletions.proofs.volume.list.Goals as goal
use Rattle.deletions.specs.Filespaces.{IsAnswer}

pub returns-in-Err : goal.returns-in-Err
returns-in-Err g c = unasked g.P.Stepper.did c.args.p.now c.ask-answer.new.p c.args.file (IsAnswer (query.OnVolume c.args.file) c.in-Err.refusal) (query.OnVolume c.args.file) c.in-Err.refusal (λ d is. is) c.in-Err.ensures
