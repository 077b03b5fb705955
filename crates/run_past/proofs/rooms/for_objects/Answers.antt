use Rattle.std.proofs.Common.{◌≡◌, ◌∙◌, true}
use Rattle.std.specs.Ordering.{nat_cmp}
use Rattle.run_past.specs.Told.{has_key}
use Rattle.run_past.proofs.Loops.{all_end, all_from}
use Rattle.run_past.proofs.rooms.for_objects.Goals as goal

pub versions-preserved : goal.versions-preserved
versions-preserved c = record {
  same = λ q. c.make_room.ensures.same q ∙ c.versions.invariant.same q;
  room = λ later keeps rest. c.versions.invariant.room later (λ q has. keeps q (c.make_room.ensures.keeps q has))
      (all_from (λ w. has_key (nat_cmp w.object) later ≡ true) c.args.versions.now c.versions.version-index c.version-item.result c.versions-test.true c.version-item.is (keeps c.version-item.result.object c.in_ok-make_room.ensures.room) rest);
}

pub returns-clause-room : goal.returns-clause-room
returns-clause-room c = c.versions.invariant.room c.versions.map.entries (λ q has. has) (all_end (λ w. has_key (nat_cmp w.object) c.versions.map.entries ≡ true) c.args.versions.now c.versions.version-index c.versions-test.false)
