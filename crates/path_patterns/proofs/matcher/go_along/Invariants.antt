use Rattle.std.proofs.Common.{◌≤◌, length}
use Rattle.path_patterns.specs.Stops.{Goes}
use Rattle.path_patterns.proofs.matcher.go_along.Given as goal

-- what holds of what is left holds of the whole
abbrev pub invariant-along : goal.invariant-along
invariant-along g l =
    Goes g.C.Cut.is_run g.C.Cut.fits (g.C.Cut.pieces l.fn.pattern) (g.C.Cut.pieces l.fn.text) (g.C.Cut.pieces l.pattern_left) (g.C.Cut.pieces l.text_left)
    × (length l.pattern_left ≤ length l.fn.pattern) × (length l.text_left ≤ length l.fn.text)

abbrev pub decreases-along : goal.decreases-along
decreases-along g l = length l.pattern_left
