use Rattle.std.proofs.Common.{inr, Option, sym, ap, subst}
use Rattle.kinds.specs.Answers.{Answers}
use Rattle.inventory_answers.specs.declared.lines.FilespaceLine.{FilespaceLine}
use Rattle.deletions.specs.Filespaces.{names_found}
use Rattle.deletions.proofs.filespace.names_in.Goals as goal

pub returns-in-Some : goal.returns-in-Some
returns-in-Some c = subst (λ (o : Option FilespaceLine). Answers c.names_of.result (names_found o)) c.in-Some.ensures c.names_of.ensures

pub returns-in-None : goal.returns-in-None
returns-in-None c = inr (ap names_found (sym c.in-None.ensures))
