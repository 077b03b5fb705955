use Rattle.std.proofs.Common.{List, subst, sym}
use Rattle.space.specs.declared.places.Placed.{Placed}
use Rattle.space.specs.Claims.{forgotten}
use Rattle.space_index.specs.Index.{IsIndexBy, shape_at, times_at}
use Rattle.space_index.specs.Updates.{and_places}
use Rattle.space_index.proofs.Following.{forget_index}
use Rattle.space_index.proofs.random.RandomIndex.forget.Goals as goal

pub returns : goal.returns
returns c = λ s claims number is there.
    let i = c.args.self.now in
    let after = times_at s (forgotten number claims) in
    c.in_ok-take_all.ensures (shape_at s) after
    (subst (λ (l : List Placed). IsIndexBy i (shape_at s) (and_places l after)) (sym c.as_slice.ensures) (forget_index i s claims number c.args.places.now there is))
