use Rattle.std.proofs.Common.{◌≡◌, map, take}
use Rattle.deletions.specs.Dropping.{dropped}
use Rattle.deletions.proofs.copies.dropping.Given as goal

-- the items so far are those of the copies so far
abbrev pub invariant-lines : goal.invariant-lines
invariant-lines l = l.items ≡ map dropped (take l.line-index l.lines)
