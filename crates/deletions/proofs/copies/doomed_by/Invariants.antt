use Rattle.std.proofs.Common.{◌≡◌, map, take}
use Rattle.deletions.specs.Dropping.{doomed}
use Rattle.deletions.proofs.copies.doomed_by.Given as goal

-- those of the copies so far
abbrev pub invariant-lines : goal.invariant-lines
invariant-lines l = l.objects.items ≡ map doomed (take l.line-index l.lines)
