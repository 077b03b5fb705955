use Rattle.std.proofs.Common.{◌∙◌, ◌+◌, ◌++◌, ◌∷◌, [], List, drop, get_or, sym, ap}
use Rattle.std.proofs.lemmas.List.{drop_more}
use Rattle.space.specs.declared.piece.Piece.{Piece}
use Rattle.space.specs.Pieces.{filled}
use Rattle.space.proofs.Lists.{fill_zero, fill_more}
use Rattle.space.proofs.choosing.filled.Goals as goal

none : Piece
none = record { file = 0; offset = 0; room = 0 }

pub returns-then-rest-eq0 : goal.returns-then-rest-eq0
unfolding none
returns-then-rest-eq0 c =
    let all = c.args.free.now in
    fill_zero c.free.rest c.free.out.items (filled c.args.size all) (get_or all c.free.p-index none) (drop (c.free.p-index + 1) all) c.if-rest-eq0.true
    (ap (λ (l : List Piece). c.free.out.items ++ filled c.free.rest l) (sym (drop_more all c.free.p-index none c.free-test.true)) ∙ c.free.invariant)

pub free-preserved : goal.free-preserved
unfolding none
free-preserved c =
    let all = c.args.free.now in
    fill_more c.free.rest c.free.out.items c.push-in-free.new.self.items (filled c.args.size all) (get_or all c.free.p-index none) (drop (c.free.p-index + 1) all) c.if-rest-eq0.false c.if-rest-p.false
    (c.in_ok-push-2.ensures.items ∙ ap (λ (q : Piece). c.free.out.items ++ q ∷ []) c.cut-in-free.ensures)
    (ap (λ (l : List Piece). c.free.out.items ++ filled c.free.rest l) (sym (drop_more all c.free.p-index none c.free-test.true)) ∙ c.free.invariant)
