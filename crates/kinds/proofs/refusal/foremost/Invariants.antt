use Rattle.std.proofs.Common.{◌≡◌, take}
use Rattle.kinds.specs.Refusals.{foremost}
use Rattle.kinds.proofs.refusal.foremost.Given as goal

abbrev pub invariant-held : goal.invariant-held
invariant-held l = l.found ≡ foremost (take l.refusal-index l.held)
