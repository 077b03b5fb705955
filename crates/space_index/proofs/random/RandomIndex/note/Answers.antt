use Rattle.std.proofs.Common.{List, subst}
use Rattle.space.specs.declared.places.Placed.{Placed}
use Rattle.space_index.specs.Index.{IsIndexBy, shape_at, times_at}
use Rattle.space_index.specs.Updates.{and_places}
use Rattle.space_index.proofs.Following.{noted_index}
use Rattle.space_index.proofs.random.RandomIndex.note.Goals as goal

pub returns : goal.returns
returns c = λ s claims number is absent.
    noted_index c.put_all.new.self s claims number c.args.places.now absent
    (subst (λ (l : List Placed). IsIndexBy c.put_all.new.self (shape_at s) (and_places l (times_at s claims))) c.as_slice.ensures (c.in_ok-put_all.ensures (shape_at s) (times_at s claims) is))
