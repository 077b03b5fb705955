use Rattle.std.proofs.Common.{◌≡◌, drop, length}
use Rattle.store_api.specs.Told.{Told}
use Rattle.log_file.specs.Windows.{Onward}
use Rattle.copy_checks.specs.Looks.{Saw}
use Rattle.copy_checks.proofs.Taking.{Passed}
use Rattle.copy_checks.proofs.copies.take_copy.Given as goal

abbrev pub invariant-segments : goal.invariant-segments
invariant-segments g l =
    record {
      told : Told (g.S.Store.told l.fn.store) (g.S.Store.told l.store) (Saw (λ image. Passed image l.object l.segments l.number (drop l.segment-index l.segments) l.fn.hasher l.hasher));
      number : l.number ≡ l.segment-index;
      long : length l.buffer ≡ length l.fn.buffer;
      onward : Onward (g.S.Store.moment_of l.fn.store) (g.S.Store.moment_of l.store) (g.S.Store.faults_of l.fn.store) (g.S.Store.faults_of l.store);
    }
