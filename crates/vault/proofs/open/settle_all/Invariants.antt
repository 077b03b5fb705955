use Rattle.std.proofs.Common.{◌-◌, ◌≤◌}
use Rattle.store_api.specs.Told.{Told}
use Rattle.log_file.specs.Windows.{Onward}
use Rattle.vault.specs.Openings.{SettledBelow}
use Rattle.vault.proofs.open.settle_all.Given as goal

abbrev pub invariant-files : goal.invariant-files
invariant-files g l =
    record {
      told : Told (g.S.Store.told l.fn.store) (g.S.Store.told l.store) (SettledBelow l.file);
      few : l.file ≤ 4;
      onward : Onward (g.S.Store.moment_of l.fn.store) (g.S.Store.moment_of l.store) (g.S.Store.faults_of l.fn.store) (g.S.Store.faults_of l.store);
    }

abbrev pub decreases-files : goal.decreases-files
decreases-files g l = 4 - l.file
