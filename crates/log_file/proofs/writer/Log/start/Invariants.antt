use Rattle.std.proofs.Common.{◌≡◌, ◌≤◌, ◌-◌, ◌^◌, max}
use Rattle.store_api.specs.Cause.{NoneFell}
use Rattle.store_api.specs.Told.{Told}
use Rattle.log_file.specs.Starts.{payloads_of}
use Rattle.log_file.proofs.Starting.{Underway}
use Rattle.log_file.proofs.writer.Log.start.Given as goal

abbrev pub invariant-records : goal.invariant-records
invariant-records g l =
    record {
      under : Told (g.S.Store.told l.fn.store) (g.S.Store.told l.store) (Underway l.file l.records (payloads_of l.payloads));
      file : l.records.held.file ≡ l.file;
      time : g.S.Store.moment_of l.store ≤ max (g.S.Store.moment_of l.fn.store) (2 ^ 62 - 2 ^ 24);
      later : g.S.Store.moment_of l.fn.store ≤ g.S.Store.moment_of l.store;
      counts : NoneFell (g.S.Store.faults_of l.fn.store) (g.S.Store.faults_of l.store);
    }

abbrev pub decreases-records : goal.decreases-records
decreases-records g l = l.records.held.len - l.records.at
