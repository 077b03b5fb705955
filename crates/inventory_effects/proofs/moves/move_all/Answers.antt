use Rattle.std.proofs.Common.{ap, ◌∙◌}
use Rattle.inventory_rows.specs.State.{Inv, inv_of}
use Rattle.inventory_effects.proofs.Numbers.{put_moved-number}
use Rattle.inventory_effects.proofs.moves.move_all.Goals as goal

pub place_each-requires : goal.place_each-requires
place_each-requires c =
    let same = ap (λ (v : Inv). v.number) c.in_ok-put_each.ensures.0 ∙ put_moved-number c.args.items.now (inv_of c.args.tables.now) in
    rw same c.requires.number
