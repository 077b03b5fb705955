use Rattle.std.proofs.Common.{◌≡◌, ◌<◌, ℕ, get_or, true}
use Rattle.path_patterns.specs.Patterns.{is_continuation}
use Rattle.path_patterns.proofs.character.continuations.Given as goal

abbrev pub invariant-bytes : goal.invariant-bytes
invariant-bytes l = (k : ℕ) → k < l.at → is_continuation (get_or l.bytes k 0) ≡ true
