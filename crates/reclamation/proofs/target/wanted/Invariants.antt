use Rattle.std.proofs.Common.{◌≡◌, map, take}
use Rattle.reclamation.specs.Moving.{moving}
use Rattle.reclamation.proofs.target.wanted.Given as goal

-- the copies so far are those in the place of the lines so far
abbrev pub invariant-lines : goal.invariant-lines
invariant-lines l = l.wanted.items ≡ map (moving l.to) (take l.line-index l.lines)
