use Rattle.std.proofs.Common.{None, inl}
use Rattle.inventory_answers.specs.declared.query.Query.TheVariants as query
use Rattle.deletions.proofs.Removing.{unasked}
use Rattle.deletions.proofs.row.find.Goals as goal
use Rattle.deletions.specs.Volumes.{IsUnfound}

pub returns-in-Err : goal.returns-in-Err
returns-in-Err g c = unasked g.P.Stepper.did c.args.p.now c.ask-answer.new.p c.args.file (IsUnfound c.args.file c.in-Err.refusal) (query.Volumes None None) c.in-Err.refusal (λ d is. inl is) c.in-Err.ensures
