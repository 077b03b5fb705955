use Rattle.std.proofs.Common.{◌≡◌, ◌∙◌, true}
use Rattle.run_past.specs.Told.{has_path}
use Rattle.run_past.proofs.Loops.{all_end, all_from}
use Rattle.run_past.proofs.rooms.for_paths.Goals as goal

pub paths-preserved : goal.paths-preserved
paths-preserved c = record {
  same = λ f p. c.make_room.ensures.same f p ∙ c.paths.invariant.same f p;
  room = λ later keeps rest. c.paths.invariant.room later (λ f p has. keeps f p (c.make_room.ensures.keeps f p has))
      (all_from (λ x. has_path x.filespace x.path later ≡ true) c.args.paths.now c.paths.path-index c.path-item.result c.paths-test.true c.path-item.is (keeps c.path-item.result.filespace c.path-item.result.path c.in_ok-make_room.ensures.room) rest);
}

pub returns-clause-room : goal.returns-clause-room
returns-clause-room c = c.paths.invariant.room c.paths.map.entries (λ f p has. has) (all_end (λ x. has_path x.filespace x.path c.paths.map.entries ≡ true) c.args.paths.now c.paths.path-index c.paths-test.false)
