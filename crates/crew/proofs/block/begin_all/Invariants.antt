use Rattle.std.proofs.Common.{◌≡◌, ◌≤◌, ◌+◌, length}
use Rattle.std.specs.Prelude.{vec_len, vec_capacity}
use Rattle.crew.specs.Passes.{seats_of}
use Rattle.crew.proofs.block.begin_all.Given as goal

-- the jobs so far have their actors
abbrev pub invariant-jobs : goal.invariant-jobs
invariant-jobs g l =
    (l.seats.items ≡ seats_of l.fn.first l.yielded) × (vec_len l.seats ≡ length l.yielded) × (l.fn.first + length l.yielded ≡ l.actor) × (l.keeper.1 ≤ l.actor) × (l.keeper.0 ≡ l.fn.keeper.0)
    × (vec_len l.fn.jobs ≤ vec_capacity l.seats)
