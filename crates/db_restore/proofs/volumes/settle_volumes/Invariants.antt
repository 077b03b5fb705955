use Rattle.std.proofs.Common.{◌≡◌, true}
use Rattle.std.specs.Prelude.{nat_le}
use Rattle.std.specs.List.{list_all}
use Rattle.std.specs.Map.{keys_of}
use Rattle.store_api.specs.Told.{Told}
use Rattle.log_file.specs.Windows.{Onward}
use Rattle.db_restore.proofs.Settling.{Underway}
use Rattle.db_restore.proofs.volumes.settle_volumes.Given as goal

abbrev pub invariant-volumes : goal.invariant-volumes
invariant-volumes g l =
    record {
      told : Told (g.S.Store.told l.fn.store) (g.S.Store.told l.store) (Underway l.skipped l.volumes.entries l.file-iterator);
      possible : list_all (λ file. nat_le 4 file) (keys_of l.file-iterator) ≡ true;
      onward : Onward (g.S.Store.moment_of l.fn.store) (g.S.Store.moment_of l.store) (g.S.Store.faults_of l.fn.store) (g.S.Store.faults_of l.store);
    }
