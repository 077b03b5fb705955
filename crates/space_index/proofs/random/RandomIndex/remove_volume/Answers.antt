use Rattle.std.proofs.Common.{ap}
use Rattle.space_index.specs.Index.{shape_at, shape_of_row, times_at}
use Rattle.space_index.proofs.Following.{gone_index, shapes_else}
use Rattle.space_index.proofs.random.RandomIndex.remove_volume.Goals as goal

pub returns : goal.returns
returns c = λ s t claims is changes gone.
    gone_index c.remove.new.self s t claims c.args.file changes gone (c.in_ok-remove.ensures (shape_at s) (shape_at t) (times_at s claims) is (shapes_else c.args.file s t changes) (ap (shape_of_row t) gone))
