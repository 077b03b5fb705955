use Rattle.std.proofs.Common.{List, sym, subst}
use Rattle.std.specs.List.{AllByRecursion}
use Rattle.machine.specs.Turns.{Turn}
use Rattle.crew.specs.Knowing.{IsWithin}
use Rattle.crew.proofs.Runs.{from_none}
use Rattle.crew.proofs.Writing.{none_told}
use Rattle.crew.proofs.board.Board.new.Goals as goal

pub invariant_of-result : goal.invariant_of-result
invariant_of-result g c = (
  from_none g.S.Store.told g.S.Store.moment_of g.S.Store.faults_of g.B.Origin.first c.args.keeper.0 c.args.hall c.requires.none c.requires.first,
  subst (λ (l : List Turn). AllByRecursion (IsWithin g.B.Origin.least g.B.Origin.most) l) (sym c.requires.none) tt,
  none_told g.S.Store.told g.S.Store.moment_of g.S.Store.faults_of c.args.keeper.0 c.args.hall c.requires.none c.is_good.ensures,
)
