use Rattle.std.proofs.Common.{◌≡◌, ◌++◌, drop, filter, map}
use Rattle.std.specs.Option.{option_copied}
use Rattle.restores.specs.Chosen.{asks, chosen, firsts, line_of}
use Rattle.restores.proofs.choosing.choose.Given as goal

-- what was chosen, and then what is left, is all
abbrev pub invariant-lines : goal.invariant-lines
invariant-lines l = l.rows.items ++ map line_of (firsts (option_copied l.last) (filter (asks l.which) (drop l.line-index l.lines))) ≡ chosen l.which l.lines
