use Rattle.std.proofs.Common.{◌≡◌, ◌∙◌, true, subst}
use Rattle.std.specs.List.{AllByRecursion}
use Rattle.run_past.specs.Told.{has_key, pair_cmp}
use Rattle.run_past.proofs.Loops.{all_end, all_from}
use Rattle.run_past.proofs.rooms.for_copies_of.Goals as goal

pub copies-preserved : goal.copies-preserved
copies-preserved c = record {
  same = λ q. c.make_room.ensures.same q ∙ c.copies.invariant.same q;
  keeps = λ q has. c.make_room.ensures.keeps q (c.copies.invariant.keeps q has);
  room = λ later keeps rest. c.copies.invariant.room later (λ q has. keeps q (c.make_room.ensures.keeps q has))
      (all_from (λ x. has_key (pair_cmp (c.args.version.now.object, x.pool)) later ≡ true) c.as_slice-copies.result.now c.copies.copy-index c.copy-item.result c.copies-test.true c.copy-item.is (keeps (c.args.version.now.object, c.copy-item.result.pool) c.in_ok-make_room.ensures.room) rest);
}

pub returns-clause-room : goal.returns-clause-room
returns-clause-room c =
    subst (AllByRecursion (λ x. has_key (pair_cmp (c.args.version.now.object, x.pool)) c.copies.map.entries ≡ true)) c.as_slice-copies.ensures.value
    (c.copies.invariant.room c.copies.map.entries (λ q has. has) (all_end (λ x. has_key (pair_cmp (c.args.version.now.object, x.pool)) c.copies.map.entries ≡ true) c.as_slice-copies.result.now c.copies.copy-index c.copies-test.false))

pub returns-in_err-make_room-clause-same : goal.returns-in_err-make_room-clause-same
returns-in_err-make_room-clause-same c = λ q. c.make_room.ensures.same q ∙ c.copies.invariant.same q

pub returns-in_err-make_room-clause-keeps : goal.returns-in_err-make_room-clause-keeps
returns-in_err-make_room-clause-keeps c = λ q has. c.make_room.ensures.keeps q (c.copies.invariant.keeps q has)
