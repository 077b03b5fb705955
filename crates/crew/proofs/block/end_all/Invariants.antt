use Rattle.std.proofs.Common.{◌≡◌, ◌≤◌, map, length}
use Rattle.std.specs.List.{AllByRecursion}
use Rattle.std.specs.Prelude.{vec_len, vec_capacity}
use Rattle.crew.specs.Passes.{IsTold}
use Rattle.crew.proofs.block.end_all.Given as goal

-- the actors so far have ended
abbrev pub invariant-seats : goal.invariant-seats
invariant-seats g l =
    (l.jobs.items ≡ map (λ s. s.0) l.yielded) × (vec_len l.jobs ≡ length l.yielded) × AllByRecursion (IsTold l.fn.keeper.0) l.yielded × (l.keeper ≡ l.fn.keeper) × (vec_len l.fn.seats ≤ vec_capacity l.jobs)
