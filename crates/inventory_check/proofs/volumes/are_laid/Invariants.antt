use Rattle.std.proofs.Common.{◌≡◌}
use Rattle.inventory_check.specs.Laid.{are_laid}
use Rattle.inventory_check.proofs.volumes.are_laid.Given as goal

abbrev pub invariant-held : goal.invariant-held
invariant-held l = are_laid l.sequential l.most l.low l.segment-iterator ≡ are_laid l.sequential l.most 0 l.held.entries
