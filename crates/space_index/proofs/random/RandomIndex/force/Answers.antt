use Rattle.std.proofs.Common.{◌≡◌, ◌∙◌, ℕ, List, subst, sym, rules}
use Rattle.space.specs.declared.places.Placed.{Placed}
use Rattle.space.specs.Claims.{forced}
use Rattle.space_index.specs.Index.{IsIndexBy, shape_at, times_at}
use Rattle.space_index.specs.Updates.{and_places}
use Rattle.space_index.proofs.Following.{and_freed, freed_first, forced_begin, forced_end}
use Rattle.space_index.proofs.random.RandomIndex.force.Goals as goal

pub freed-init : goal.freed-init
freed-init c = λ shapes times is.
    let rows : c.into_iter-places-iterator.result ≡ c.freed-places-items.result.now.entries = search rules in
    subst (λ (l : List (ℕ × List Placed)). IsIndexBy c.args.self.now shapes (and_freed l times)) (sym (rows ∙ c.freed-places-items.ensures)) is

pub freed-preserved : goal.freed-preserved
freed-preserved c = λ shapes times is.
    let now = c.freed.invariant shapes times is in
    c.in_ok-take_all.ensures shapes (and_freed c.next.new.self times)
    (subst (λ (l : List Placed). IsIndexBy c.freed.self shapes (and_places l (and_freed c.next.new.self times))) (sym c.as_slice.ensures)
    (freed_first c.freed.self shapes times c.in-Some.field-0-0.now c.in-Some.places.now c.next.new.self c.freed.places-iterator c.in-Some.ensures.steps now))

pub returns : goal.returns
returns c = λ s is.
    let after = times_at s (forced c.args.space.now) in
    forced_end c.freed.self (shape_at s) after
    (subst (λ (l : List (ℕ × List Placed)). IsIndexBy c.freed.self (shape_at s) (and_freed l after)) c.in-None.ensures.steps.0 (c.freed.invariant (shape_at s) after (forced_begin c.args.self.now s c.args.space.now is)))
