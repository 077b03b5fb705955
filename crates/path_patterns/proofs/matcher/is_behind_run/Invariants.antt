use Rattle.std.proofs.Common.{◌≡◌, ◌+◌, length}
use Rattle.path_patterns.specs.Pieces.{any_rest, is_matched}
use Rattle.path_patterns.proofs.matcher.is_behind_run.Given as goal

-- the answer is that for what is left
abbrev pub invariant-places : goal.invariant-places
invariant-places g l =
    any_rest (λ rest. is_matched g.C.Cut.is_run g.C.Cut.fits (g.C.Cut.pieces l.fn.pattern) rest) (g.C.Cut.pieces l.fn.text)
    ≡ any_rest (λ rest. is_matched g.C.Cut.is_run g.C.Cut.fits (g.C.Cut.pieces l.pattern_left) rest) (g.C.Cut.pieces l.text_left)

abbrev pub decreases-places : goal.decreases-places
decreases-places g l = length l.pattern_left + length l.text_left
