use Rattle.std.proofs.Common.{sym, ◌∙◌}
use Rattle.path_patterns.specs.Pieces.{is_matched}
use Rattle.path_patterns.proofs.Held.{any_matched, any_at_run, ends_both}
use Rattle.path_patterns.proofs.matcher.is_behind_run.Goals as goal

pub returns-in_default : goal.returns-in_default
returns-in_default g c =
    sym (c.places.invariant ∙ any_matched (λ rest. is_matched g.C.Cut.is_run g.C.Cut.fits (g.C.Cut.pieces c.places.pattern_left.now) rest) (g.C.Cut.pieces c.places.text_left.now)
    (ends_both g.C.Cut.is_run g.C.Cut.fits _ _ _ _ c.in-Some.ensures.goes c.in-Some.ensures.stopped c.in_default.ensures.none))

pub places-preserved-in-Some : goal.places-preserved-in-Some
places-preserved-in-Some g c = c.places.invariant ∙ any_at_run g.C.Cut.is_run g.C.Cut.fits _ _ _ _ _ _ c.in-Some.ensures.goes c.in-Some.ensures.stopped c.in-Some-next.ensures.some
