use Rattle.std.proofs.Common.{◌≡◌, ◌≤◌}
use Rattle.std.specs.Prelude.{replicate, vec_capacity, vec_len}
use Rattle.line_jobs.specs.declared.lent.Lent.TheVariants.{Away}
use Rattle.line_jobs.proofs.sharing.rooms_for.Given as goal

-- room for so many jobs so far
abbrev pub invariant-jobs : goal.invariant-jobs
invariant-jobs g l = (l.rooms.items ≡ replicate l.at (replicate l.many (Away 0))) × (vec_len l.rooms ≡ l.at) × (l.jobs ≤ vec_capacity l.rooms)
