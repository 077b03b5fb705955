use Rattle.std.proofs.Common.{◌≡◌, ◌⊎◌, ◌+◌, ◌-◌, ◌≤◌, length}
use Rattle.std.specs.List.{AllByRecursion}
use Rattle.log_file.specs.Blocks.{Fits, blocks}
use Rattle.vault.specs.Pieces.{records_between}
use Rattle.vault.proofs.checkpoint.next_batch.Given as goal

abbrev pub invariant-entries : goal.invariant-entries
invariant-entries l =
    record {
      batch : l.batch ≡ blocks (records_between l.journal l.from l.place);
      fits : AllByRecursion Fits (records_between l.journal l.from l.place);
      from : l.from ≤ l.place;
      within : l.place ≤ length l.journal;
      few : (length l.batch ≤ 65536) ⊎ (l.place ≡ l.from + 1);
    }

abbrev pub decreases-entries : goal.decreases-entries
decreases-entries l = length l.journal - l.place
