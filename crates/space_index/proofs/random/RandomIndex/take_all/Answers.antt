use Rattle.std.proofs.Common.{◌+◌, drop, List, subst, arith}
use Rattle.std.proofs.lemmas.List.{drop_all}
use Rattle.space.specs.declared.places.Placed.{Placed}
use Rattle.space_index.specs.Index.{IsIndexBy}
use Rattle.space_index.specs.Updates.{and_places}
use Rattle.space_index.proofs.Following.{places_left, places_gone}
use Rattle.space_index.proofs.random.RandomIndex.take_all.Goals as goal

none : Placed
none = record { pool = 0; segment = record { file = 0; offset = 0; len = 0 } }

pub places-preserved : goal.places-preserved
unfolding none
places-preserved c = λ shapes times is.
    let n = c.places.place-index in
    c.in_ok-take.ensures shapes (and_places (drop (n + 1) c.args.places.now) times) (places_left c.places.self shapes times c.args.places.now n none c.places-test.true (c.places.invariant shapes times is))

pub returns : goal.returns
returns c = λ shapes times is.
    places_gone c.places.self shapes times
    (subst (λ (l : List Placed). IsIndexBy c.places.self shapes (and_places l times)) (drop_all c.places.place-index c.args.places.now (omega arith)) (c.places.invariant shapes times is))
