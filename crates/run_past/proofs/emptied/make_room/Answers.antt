use Rattle.std.proofs.Common.{◌∙◌, ap, sym}
use Rattle.std.specs.Cmp.Lexicographic.{slice_cmp}
use Rattle.std.specs.Ordering.{nat_cmp}
use Rattle.run_past.specs.Told.{has_key, has_path, told_at, told_of_path}
use Rattle.run_past.proofs.Paths.{has_kept, told_kept}
use Rattle.run_past.proofs.emptied.make_room.Goals as goal

pub returns-in_ok-clone-in-Some-clause-same : goal.returns-in_ok-clone-in-Some-clause-same
returns-in_ok-clone-in-Some-clause-same c = λ f p.
    ap (told_of_path f p) (c.get_mut.follows.holds c.make_room.new.map.entries).0
    ∙ told_kept c.args.at.now.filespace f p c.make_room_in.new.map.entries c.in-Some.emptied.now c.make_room.new.map.entries (sym c.in-Some.ensures.value) (λ q. c.make_room.ensures.same q ∙ ap (told_at (slice_cmp nat_cmp q)) c.emptied.view_is)
    ∙ c.make_room_in.ensures.same f p

pub returns-in_ok-clone-in-Some-clause-keeps : goal.returns-in_ok-clone-in-Some-clause-keeps
returns-in_ok-clone-in-Some-clause-keeps c = λ f p has.
    ap (has_path f p) (c.get_mut.follows.holds c.make_room.new.map.entries).0
    ∙ has_kept c.args.at.now.filespace f p c.make_room_in.new.map.entries c.in-Some.emptied.now c.make_room.new.map.entries (sym c.in-Some.ensures.value)
    (λ q old. c.make_room.ensures.keeps q (ap (has_key (slice_cmp nat_cmp q)) c.emptied.view_is ∙ old)) (c.make_room_in.ensures.keeps f p has)
