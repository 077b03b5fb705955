use Rattle.std.proofs.Common.{not, ap, ◌∙◌}
use Rattle.reclamation.specs.Reclaiming.{is_sequential_line}
use Rattle.reclamation.proofs.reclaiming.is_sequential.Goals as goal

pub returns-in-Some : goal.returns-in-Some
returns-in-Some c = ap not c.is_disk.ensures ∙ ap is_sequential_line c.in-Some.ensures

pub returns-in-None : goal.returns-in-None
returns-in-None c = ap is_sequential_line c.in-None.ensures
