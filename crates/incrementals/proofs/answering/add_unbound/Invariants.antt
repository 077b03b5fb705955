use Rattle.std.proofs.Common.{◌≡◌, ◌++◌, drop, map}
use Rattle.incrementals.specs.Answering.{unbound}
use Rattle.incrementals.proofs.answering.add_unbound.Given as goal

-- the paths so far are added
abbrev pub invariant-paths : goal.invariant-paths
invariant-paths l = l.failed.items ++ map unbound (drop l.path-index l.paths) ≡ l.fn.failed.items ++ map unbound l.paths
