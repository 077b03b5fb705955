use Rattle.std.proofs.Common.{◌≡◌, length}
use Rattle.line_jobs.proofs.Exchanging.{So}
use Rattle.line_jobs.proofs.sharing.exchange.Given as goal

-- the places so far have changed what they have
abbrev pub invariant-trees : goal.invariant-trees
invariant-trees g l =
    record {
      own : So l.lines l.job l.number l.fn.own l.fn.other l.own;
      other : So l.lines l.job l.number l.fn.other l.fn.own l.other;
      own_length : length l.own ≡ length l.fn.own;
      other_length : length l.other ≡ length l.fn.other;
    }
