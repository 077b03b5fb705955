use Rattle.std.proofs.Common.{ℕ, ◌≤◌, ◌-◌, drop, length}
use Rattle.steps.specs.Calls.{Call}
use Rattle.client_batches.specs.Rounds.{CommitsSome, Rounds}
use Rattle.client_batches.proofs.rounds.commit_in_runs.Given as goal

-- those so far are handled
abbrev pub invariant-runs : goal.invariant-runs
invariant-runs g l = record {
  commits : Call g.P.Stepper.did l.fn.p l.p (λ events. (number : ℕ) × Rounds (CommitsSome (g.L.Listing.asking l.filespace)) number l.lines (drop l.at l.lines) l.outs.items 0 0 events);
  within : l.at ≤ length l.lines;
}

abbrev pub decreases-runs : goal.decreases-runs
decreases-runs g l = length l.lines - l.at
