use Rattle.space_index.specs.Index.{shape_at, times_at}
use Rattle.space_index.proofs.Following.{aside_index, shapes_else}
use Rattle.space_index.proofs.random.RandomIndex.set_aside.Goals as goal

pub returns : goal.returns
returns c = λ s t claims is changes none.
    aside_index c.remove.new.self s t claims c.args.file changes none (c.in_ok-remove.ensures (shape_at s) (shape_at t) (times_at s claims) is (shapes_else c.args.file s t changes) none)
