use Rattle.std.proofs.Common.{None, refl}
use Rattle.inventory_answers.specs.declared.query.Query.TheVariants as query
use Rattle.deletions.proofs.Whole.{finds-not}
use Rattle.deletions.proofs.filespace.find.Goals as goal

pub returns-in-Err : goal.returns-in-Err
returns-in-Err g c = finds-not g.P.Stepper.did c.args.p.now c.ask-answer.new.p c.args.filespace (query.Filespaces None) c.in-Err.refusal refl c.in-Err.ensures
