use Rattle.std.proofs.Common.{List, ◌++◌, ap, arith}
use Rattle.std.proofs.lemmas.List.{drop_all, drop_more}
use Rattle.kinds.specs.declared.segment.Segment.{Segment}
use Rattle.kept_index.specs.Steps.{of_object}
use Rattle.kept_index.proofs.Rows.{remains_list}
use Rattle.kept_index.proofs.following.put_all.Goals as goal

none : Segment
none = record { file = 0; offset = 0; len = 0 }

pub segments-preserved : goal.segments-preserved
unfolding none
segments-preserved c = λ claims full es is.
    let n = c.segments.segment-index in
    let all = c.args.segments.now in
    c.in_ok-put_one.ensures claims full _
    (remains_list c.segments.index claims _ _ _ full c.args.pools.now (ap (λ (l : List Segment). of_object (c.args.object, l) ++ es) (drop_more all n none c.segments-test.true)) (c.segments.invariant claims full es is))

pub returns : goal.returns
returns c = λ claims full es is.
    remains_list c.segments.index claims _ _ _ full c.args.pools.now (ap (λ (l : List Segment). of_object (c.args.object, l) ++ es) (drop_all c.segments.segment-index c.args.segments.now (omega arith)))
    (c.segments.invariant claims full es is)
