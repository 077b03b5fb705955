use Rattle.std.proofs.Common.{sym, ◌∙◌, arith}
use Rattle.path_patterns.proofs.Held.{goes_on, apart_ended, apart_here, apart_over}
use Rattle.path_patterns.proofs.matcher.go_along.Goals as goal

pub returns-in_default-next-clause-apart : goal.returns-in_default-next-clause-apart
returns-in_default-next-clause-apart g c =
    apart_ended g.C.Cut.is_run g.C.Cut.fits _ _ _ _ _ _ c.along.invariant.0 c.in-Some.ensures.some c.in_default-next.ensures.none (sym c.is_run.ensures ∙ c.if-is_run.false)

pub returns-then-not-fits-clause-apart : goal.returns-then-not-fits-clause-apart
returns-then-not-fits-clause-apart g c =
    apart_here g.C.Cut.is_run g.C.Cut.fits _ _ _ _ _ _ _ _ c.along.invariant.0 c.in-Some.ensures.some c.in-Some-next.ensures.some (sym c.is_run.ensures ∙ c.if-is_run.false) (sym c.fits.ensures ∙ c.if-not-fits.true)

pub along-preserved : goal.along-preserved
along-preserved g c = (
  goes_on g.C.Cut.is_run g.C.Cut.fits _ _ _ _ _ _ _ _ c.along.invariant.0 c.in-Some.ensures.some c.in-Some-next.ensures.some (sym c.is_run.ensures ∙ c.if-is_run.false) (sym c.fits.ensures ∙ c.if-not-fits.false),
  omega (arith, c.in-Some.ensures.less),
  omega (arith, c.in-Some-next.ensures.less),
)

pub returns-in-Some-next-2-clause-apart : goal.returns-in-Some-next-2-clause-apart
returns-in-Some-next-2-clause-apart g c =
    apart_over g.C.Cut.is_run g.C.Cut.fits _ _ _ _ _ _ c.along.invariant.0 c.in_default.ensures.none c.in-Some-next-2.ensures.some
