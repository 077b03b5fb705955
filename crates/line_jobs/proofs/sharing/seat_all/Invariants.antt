use Rattle.std.proofs.Common.{◌≡◌, ◌≤◌, length}
use Rattle.std.specs.Prelude.{vec_capacity, vec_len}
use Rattle.line_jobs.specs.Rooms.{taken_in}
use Rattle.line_jobs.specs.Shares.{begun_jobs, given_back}
use Rattle.line_jobs.proofs.sharing.seat_all.Given as goal

-- the jobs so far have taken their trees
abbrev pub invariant-rooms : goal.invariant-rooms
invariant-rooms g l =
    record {
      jobs : l.jobs.items ≡ begun_jobs l.binder l.lines 0 (taken_in l.lines 0 l.yielded l.fn.trees);
      trees : l.trees ≡ given_back l.lines 0 l.yielded l.fn.trees;
      place : l.job ≡ length l.yielded;
      many : vec_len l.jobs ≡ length l.yielded;
      room : vec_len l.fn.rooms ≤ vec_capacity l.jobs;
    }
