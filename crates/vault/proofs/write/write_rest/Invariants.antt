use Rattle.std.proofs.Common.{◌≡◌, ◌≤◌, length}
use Rattle.store_api.specs.Cause.{NoneFell}
use Rattle.store_api.specs.Told.{Told}
use Rattle.db_image.specs.Steps.{at_phase}
use Rattle.vault.specs.Images.{IsPaced, left_of}
use Rattle.vault.proofs.Writing.{OnWay}
use Rattle.vault.proofs.write.write_rest.Given as goal

abbrev pub invariant-pieces : goal.invariant-pieces
invariant-pieces g l =
    record {
      told : Told (g.S.Store.told l.fn.store) (g.S.Store.told l.store) (OnWay l.fn.image l.image);
      same : l.image ≡ at_phase l.image.phase l.fn.image;
      paced : IsPaced l.image.phase (length l.fn.image.payload) (g.S.Store.moment_of l.fn.store) (g.S.Store.moment_of l.store);
      later : g.S.Store.moment_of l.fn.store ≤ g.S.Store.moment_of l.store;
      counts : NoneFell (g.S.Store.faults_of l.fn.store) (g.S.Store.faults_of l.store);
    }

abbrev pub decreases-pieces : goal.decreases-pieces
decreases-pieces g l = left_of l.image.phase (length l.fn.image.payload)
