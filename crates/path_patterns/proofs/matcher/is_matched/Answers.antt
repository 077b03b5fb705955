use Rattle.std.proofs.Common.{sym, ◌∙◌}
use Rattle.path_patterns.proofs.Held.{matched_at_run, ends_both}
use Rattle.path_patterns.proofs.matcher.is_matched.Goals as goal

pub returns-in-None : goal.returns-in-None
returns-in-None g c = sym (ends_both g.C.Cut.is_run g.C.Cut.fits _ _ _ _ c.in-Some.ensures.goes c.in-Some.ensures.stopped c.in-None.ensures.none)

pub returns-in-Some-next : goal.returns-in-Some-next
returns-in-Some-next g c = c.is_behind_run.ensures ∙ sym (matched_at_run g.C.Cut.is_run g.C.Cut.fits _ _ _ _ _ _ c.in-Some.ensures.goes c.in-Some.ensures.stopped c.in-Some-next.ensures.some)
