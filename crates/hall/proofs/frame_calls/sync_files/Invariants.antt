use Rattle.std.proofs.Common.{◌+◌, ◌≤◌}
use Rattle.store_api.specs.Cause.{NoneFell}
use Rattle.store_api.specs.Told.{Told}
use Rattle.hall.specs.Frames.{segments_of}
use Rattle.hall.proofs.Syncs.{SyncedTo}
use Rattle.hall.proofs.frame_calls.sync_files.Given as goal

abbrev pub invariant-places : goal.invariant-places
invariant-places g l =
    record {
      told : Told (g.S.Store.told l.fn.store) (g.S.Store.told l.store) (SyncedTo (segments_of l.places) l.placed-index l.last);
      time : g.S.Store.moment_of l.store ≤ g.S.Store.moment_of l.fn.store + l.placed-index;
      later : g.S.Store.moment_of l.fn.store ≤ g.S.Store.moment_of l.store;
      counts : NoneFell (g.S.Store.faults_of l.fn.store) (g.S.Store.faults_of l.store);
    }
