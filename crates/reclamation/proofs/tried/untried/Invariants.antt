use Rattle.std.proofs.Common.{◌≡◌, ◌++◌, drop, map}
use Rattle.reclamation.specs.Moving.{moving}
use Rattle.reclamation.specs.Tried.{fresh, seen}
use Rattle.reclamation.proofs.tried.untried.Given as goal

-- what was written, and what is written for the lines that are left
abbrev pub invariant-lines : goal.invariant-lines
invariant-lines l = record {
  wanted : l.wanted.items ++ map (moving l.to) (fresh l.tried.keys (drop l.line-index l.lines)) ≡ map (moving l.to) (fresh l.fn.tried.keys l.lines);
  seen : seen l.tried.keys (drop l.line-index l.lines) ≡ seen l.fn.tried.keys l.lines;
}
