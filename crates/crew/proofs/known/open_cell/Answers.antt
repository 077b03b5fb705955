use Rattle.std.proofs.Common.{[], ◌∷◌, rules}
use Rattle.crew.proofs.Keeping.{begins}
use Rattle.crew.proofs.known.open_cell.Goals as goal

pub ruled-requires : goal.ruled-requires
ruled-requires c = (search rules, (search rules, begins (0 ∷ [])))
