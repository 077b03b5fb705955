use Rattle.std.proofs.Common.{◌≡◌}
use Rattle.kinds.specs.Least.{lesser}
use Rattle.volume_rows.specs.Holdings.{least_object}
use Rattle.volume_rows.proofs.holdings.Holdings.least_object.Given as goal

abbrev pub invariant-held : goal.invariant-held
invariant-held l = lesser l.least (least_object l.segment-iterator) ≡ least_object l.self
