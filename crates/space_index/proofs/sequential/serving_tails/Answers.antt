use Rattle.std.proofs.Common.{◌∙◌, ◌-◌, [], List, ap}
use Rattle.space.specs.declared.piece.Piece.{Piece}
use Rattle.space.specs.declared.turn.Turn.TheVariants.{Preferred, Filling, Empty}
use Rattle.space.specs.Pieces.{tails_in, tail_in, room}
use Rattle.space_index.specs.Sequential.{view, AreNear}
use Rattle.space_index.proofs.Numbers.{ascends_sorted}
use Rattle.space_index.proofs.Serving.{near_more, preferred_same, filling_part, empty_part, serve_all}
use Rattle.space_index.proofs.sequential.serving_tails.Goals as goal

pub returns : goal.returns
returns c = λ tickets sites index sequential is all_seen sorted.
    let s = c.args.pools.now in
    let r = c.args.request.now in
    let number = c.args.number in
    let t = c.args.index.now in
    let near0 = c.args.near.now.entries in
    let near1 = c.collect.new.near.entries in
    let near2 = c.collect-2.new.near.entries in
    let see = view s t.held.entries number r.actor in
    let is1 : AreNear (view s t.held.entries number r.actor) r.prefer r.avoid near1 = near_more see r.prefer r.avoid near0 near1 is c.in_ok-collect.ensures.more in
    let g = tail_in Filling number r.prefer r.avoid [] in
    let h = tail_in Empty number r.prefer r.avoid [] in
    serve_all r.size c.rest_of-rest.result c.rest_of-rest-2.result (tails_in Preferred number r.prefer r.avoid [] sites) (tails_in Preferred number r.prefer r.avoid [] near0) (tails_in Filling number r.prefer r.avoid [] sites) (tails_in Filling number r.prefer r.avoid [] near1)
    (tails_in Empty number r.prefer r.avoid [] sites) (tails_in Empty number r.prefer r.avoid [] near2) c.new-out.result.items c.push_tails.new.out.items c.push_tails-2.new.out.items c.push_tails-3.new.out.items
    (preferred_same t.lists s t.held.entries index.lists number r.actor r.prefer r.avoid near0 is sites all_seen (ascends_sorted sites sorted) (ascends_sorted near0 c.len-len.ensures.ordered))
    c.new-out.ensures.items c.in_ok-push_tails.ensures (c.rest_of-rest.ensures ∙ ap (λ (l : List Piece). r.size - room l) c.as_slice.ensures.value)
    (c.in_ok-collect.ensures.served g sites all_seen sorted is.more (filling_part t.lists s t.held.entries index.lists number r.actor r.prefer r.avoid near0 is))
    c.in_ok-push_tails-2.ensures (c.rest_of-rest-2.ensures ∙ ap (λ (l : List Piece). r.size - room l) c.as_slice-2.ensures.value)
    (c.in_ok-collect-2.ensures.served h sites all_seen sorted is1.more (empty_part t.lists s t.held.entries index.lists number r.actor r.prefer r.avoid near1 is1))
    c.in_ok-push_tails-3.ensures
