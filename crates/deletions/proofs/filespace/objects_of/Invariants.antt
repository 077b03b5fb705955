use Rattle.std.proofs.Common.{◌≡◌, map, take}
use Rattle.deletions.specs.Filespaces.{of_version}
use Rattle.deletions.proofs.filespace.objects_of.Given as goal

-- those of the lines so far
abbrev pub invariant-lines : goal.invariant-lines
invariant-lines l = l.objects.items ≡ map of_version (take l.line-index l.lines)
