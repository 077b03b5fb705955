use Rattle.std.proofs.Common.{◌≡◌, length}
use Rattle.store_api.specs.Told.{Told}
use Rattle.log_file.specs.Windows.{Onward}
use Rattle.copy_checks.specs.Looks.{Saw}
use Rattle.db_restore.specs.Missing.{filespaces_miss}
use Rattle.db_restore.proofs.Finding.{IsUnderway}
use Rattle.db_restore.proofs.looking.look_for_filespaces.Given as goal

abbrev pub invariant-filespaces : goal.invariant-filespaces
invariant-filespaces g l =
    record {
      told : Told (g.S.Store.told l.fn.store) (g.S.Store.told l.store) (Saw (λ image. IsUnderway (filespaces_miss image l.skipped l.filespace-iterator) (filespaces_miss image l.skipped l.filespaces.entries) l.fn.losses l.losses));
      long : length l.buffer ≡ length l.fn.buffer;
      onward : Onward (g.S.Store.moment_of l.fn.store) (g.S.Store.moment_of l.store) (g.S.Store.faults_of l.fn.store) (g.S.Store.faults_of l.store);
    }
