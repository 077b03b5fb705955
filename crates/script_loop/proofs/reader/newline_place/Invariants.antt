use Rattle.std.proofs.Common.{◌≢◌, ◌<◌, ◌≤◌, ℕ, slice_index}
use Rattle.script_loop.proofs.reader.newline_place.Given as goal

-- no LF so far
abbrev pub invariant-places : goal.invariant-places
invariant-places l = (k : ℕ) → l.from ≤ k → k < l.at → slice_index l.bytes k ≢ 10
