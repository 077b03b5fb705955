use Rattle.std.proofs.Common.{ℕ, List, map, ap, subst, ◌∙◌, arith}
use Rattle.std.proofs.lemmas.List.{drop_all, drop_more}
use Rattle.kinds.specs.declared.segment.Segment.{Segment}
use Rattle.space.specs.declared.places.Placed.{Placed}
use Rattle.kept_index.specs.Following.{AreLeaving}
use Rattle.kept_index.proofs.Rows.{first_of, none_left}
use Rattle.kept_index.proofs.following.take_all.Goals as goal

none : Placed
none = record { pool = 0; segment = record { file = 0; offset = 0; len = 0 } }

pub taken-init : goal.taken-init
taken-init c = λ claims today es same leaving. (es, (same, leaving))

pub taken-preserved : goal.taken-preserved
unfolding none
taken-preserved c = λ claims today es same leaving.
    let all = c.args.taken.now in
    let now = c.taken.invariant claims today es same leaving in
    let first = first_of now.0 _ _ (now.1.0 ∙ ap (map (λ (p : Placed). p.segment)) (drop_more all c.taken.place-index none c.taken-test.true)) in (
      first.1.0,
      (first.1.1.1, c.in_ok-take_one.ensures claims today first.0 first.1.0 (subst (λ (l : List (ℕ × Segment)). AreLeaving c.taken.index claims today l c.args.pools.now) first.1.1.0 now.1.1)),
    )

pub returns : goal.returns
returns c = λ claims today es same leaving.
    let now = c.taken.invariant claims today es same leaving in
    let none = none_left now.0 (now.1.0 ∙ ap (map (λ (p : Placed). p.segment)) (drop_all c.taken.place-index c.args.taken.now (omega arith))) in
    subst (λ (l : List (ℕ × Segment)). AreLeaving c.taken.index claims today l c.args.pools.now) none now.1.1
