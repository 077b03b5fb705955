use Rattle.std.proofs.Common.{◌≡◌, ◌++◌, map, take}
use Rattle.deletions.specs.Filespaces.{of_held}
use Rattle.deletions.proofs.filespace.with_held.Given as goal

-- those of the lines so far, behind the others
abbrev pub invariant-lines : goal.invariant-lines
invariant-lines l = l.all.items ≡ l.fn.objects.items ++ map of_held (take l.line-index l.lines)
