use Rattle.std.proofs.Common.{◌≡◌, ◌+◌, ◌*◌, ◌≤◌, length, drop}
use Rattle.store_api.specs.Cause.{NoneFell}
use Rattle.store_api.specs.Told.{Told}
use Rattle.volume_frames.specs.Frames.{bytes_len}
use Rattle.contents.specs.Reading.{filled}
use Rattle.hall.specs.Frames.{segments_of}
use Rattle.hall.proofs.Frames.{Behind}
use Rattle.hall.proofs.frame_calls.write_frames.Given as goal

abbrev pub invariant-places : goal.invariant-places
invariant-places g l =
    record {
      told : Told (g.S.Store.told l.fn.store) (g.S.Store.told l.store) (Behind l.object l.count (segments_of l.places) l.number l.start l.bytes);
      begins : l.start + bytes_len (drop l.number (segments_of l.places)) ≡ bytes_len (segments_of l.places);
      time : g.S.Store.moment_of l.store ≤ g.S.Store.moment_of l.fn.store + 2 * filled l.count (length l.bytes) l.start;
      later : g.S.Store.moment_of l.fn.store ≤ g.S.Store.moment_of l.store;
      counts : NoneFell (g.S.Store.faults_of l.fn.store) (g.S.Store.faults_of l.store);
    }
