use Rattle.std.proofs.Common.{◌≡◌, ◌∙◌, ◌+◌, ℕ, List, ap, arith, rules}
use Rattle.space.specs.declared.places.Placed.{Placed}
use Rattle.space_index.specs.Index.{freed_reach}
use Rattle.space_index.specs.Updates.{and_places}
use Rattle.space_index.proofs.Following.{counts_same, freed_pushed}
use Rattle.space_index.proofs.random.RandomIndex.put_freed.Goals as goal

pub freed-init : goal.freed-init
freed-init c = λ shapes times is.
    let rows : c.into_iter-places-iterator.result ≡ c.freed-places-items.result.now.entries = search rules in
    (times, (λ f k. ap (λ (l : List (ℕ × List Placed)). times f k + freed_reach l f k) (rows ∙ c.freed-places-items.ensures)), is)

pub freed-preserved : goal.freed-preserved
freed-preserved c = λ shapes times is.
    let now = c.freed.invariant shapes times is in (
      and_places c.as_slice.result.now now.0,
      (λ f k. freed_pushed now.0 c.in-Some.field-0-0.now c.in-Some.places.now c.next.new.self c.freed.places-iterator c.as_slice.result.now c.as_slice.ensures c.in-Some.ensures.steps f k ∙ now.1 f k),
      c.in_ok-put_all.ensures shapes now.0 now.2,
    )

pub returns : goal.returns
returns c = λ shapes times is.
    let now = c.freed.invariant shapes times is in
    counts_same c.freed.self shapes now.0 (λ f k. times f k + freed_reach c.args.space.now.freed f k) (λ f k.
    let none : freed_reach c.freed.places-iterator f k ≡ 0 = ap (λ (l : List (ℕ × List Placed)). freed_reach l f k) c.in-None.ensures.steps.0 in
    omega (arith, none, now.1 f k)) now.2
