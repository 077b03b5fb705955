use Rattle.std.proofs.Common.{◌∙◌, Bool, ap}
use Rattle.std.specs.Option.{option_map}
use Rattle.space_index.specs.Index.{shape_at, times_at, with_access}
use Rattle.space_index.proofs.Following.{access_index, access_shapes, shapes_else}
use Rattle.space_index.proofs.random.RandomIndex.set_volume_access.Goals as goal

pub returns : goal.returns
returns c = λ s t claims is changes access.
    let file = c.args.file in
    access_index c.set_access.new.self s t claims c.args.access.now file changes access
    (c.in_ok-set_access.ensures (shape_at s) (shape_at t) (times_at s claims) is (shapes_else file s t changes)
    (ap (λ (b : Bool). option_map (with_access b) (shape_at s file)) c.is_writable.ensures ∙ access_shapes c.args.access.now s t file changes access))
