use Rattle.std.proofs.Common.{◌≡◌, map, take}
use Rattle.deletions.specs.Discarding.{discarded}
use Rattle.deletions.proofs.objects.discarding.Given as goal

-- the items so far are those of the objects so far
abbrev pub invariant-objects : goal.invariant-objects
invariant-objects l = l.items ≡ map discarded (take l.it-index l.objects)
