use Rattle.std.proofs.Common.{◌∙◌, ◌+◌, ◌++◌, ◌∷◌, [], List, drop, get_or, sym, ap}
use Rattle.std.proofs.lemmas.List.{drop_more}
use Rattle.space.specs.declared.piece.Piece.{Piece}
use Rattle.space.specs.declared.places.Placed.{Placed}
use Rattle.space.specs.Placing.{placed_in}
use Rattle.space.proofs.Lists.{placed_after, placed_more}
use Rattle.space.proofs.choosing.placed_in.Goals as goal

pub used-preserved : goal.used-preserved
used-preserved c =
    let all = c.args.used.now in
    let none : Piece = record { file = 0; offset = 0; room = 0 } in
    placed_more c.args.number c.used.out.items c.push.new.self.items (get_or all c.used.p-index none) (drop (c.used.p-index + 1) all) (placed_in c.args.number all) (sym c.if-is_last.ensures)
    (c.in_ok-push.ensures.items ∙ ap (λ (q : Placed). c.used.out.items ++ q ∷ []) c.placed.ensures)
    (ap (λ (l : List Piece). placed_after c.args.number c.used.out.items l) (sym (drop_more all c.used.p-index none c.used-test.true)) ∙ c.used.invariant)
