use Rattle.std.proofs.Common.{◌≡◌, length}
use Rattle.choosers.specs.Rules.{bound_of}
use Rattle.choosers.proofs.matching.match_rules.Given as goal

-- the rules behind those that are left don't match
abbrev pub invariant-rules : goal.invariant-rules
invariant-rules l = bound_of l.fn.rules l.path ≡ bound_of l.left l.path

abbrev pub decreases-rules : goal.decreases-rules
decreases-rules l = length l.left
