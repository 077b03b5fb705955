use Rattle.std.proofs.Common.{◌≡◌, ◌≤◌, ◌-◌, length}
use Rattle.store_api.specs.Told.{Told}
use Rattle.log_file.specs.Windows.{Onward}
use Rattle.copy_checks.specs.Looks.{Saw}
use Rattle.copy_checks.proofs.Taking.{TakenTo}
use Rattle.copy_checks.proofs.pieces.take_data.Given as goal

abbrev pub invariant-pieces : goal.invariant-pieces
invariant-pieces g l =
    record {
      told : Told (g.S.Store.told l.fn.store) (g.S.Store.told l.store) (Saw (λ image. TakenTo (image l.segment.file) l.segment l.done l.fn.hasher l.hasher));
      within : l.done ≤ l.segment.len;
      long : length l.buffer ≡ length l.fn.buffer;
      onward : Onward (g.S.Store.moment_of l.fn.store) (g.S.Store.moment_of l.store) (g.S.Store.faults_of l.fn.store) (g.S.Store.faults_of l.store);
    }

abbrev pub decreases-pieces : goal.decreases-pieces
decreases-pieces g l = l.segment.len - l.done
