use Rattle.std.proofs.Common.{take, List, subst, arith}
use Rattle.std.proofs.lemmas.List.{take_all}
use Rattle.space.specs.declared.places.Placed.{Placed}
use Rattle.space_index.specs.Index.{IsIndexBy}
use Rattle.space_index.specs.Updates.{and_places}
use Rattle.space_index.proofs.Following.{places_none, places_more}
use Rattle.space_index.proofs.random.RandomIndex.put_all.Goals as goal

none : Placed
none = record { pool = 0; segment = record { file = 0; offset = 0; len = 0 } }

pub places-init : goal.places-init
places-init c = λ shapes times is. places_none c.args.self.now shapes times c.args.places.now is

pub places-preserved : goal.places-preserved
unfolding none
places-preserved c = λ shapes times is.
    let n = c.places.place-index in
    places_more c.put.new.self shapes times c.args.places.now n none c.places-test.true
    (c.in_ok-put.ensures shapes (and_places (take n c.args.places.now) times) (c.places.invariant shapes times is))

pub returns : goal.returns
returns c = λ shapes times is.
    subst (λ (l : List Placed). IsIndexBy c.places.self shapes (and_places l times)) (take_all c.places.place-index c.args.places.now (omega arith)) (c.places.invariant shapes times is)
