use Rattle.std.proofs.Common.{ℕ, ◌≡◌, ◌≤◌, length, drop}
use Rattle.mem_store.specs.Files.{content_of, room_of}
use Rattle.mem_store.specs.Stops.{synced}
use Rattle.mem_store.proofs.stops.undo_all.Given as goal

abbrev pub invariant-back : goal.invariant-back
invariant-back l = record {
  within : l.k ≤ length l.calls;
  so_far : (file : ℕ) → content_of l.files file ≡ synced (drop l.k l.calls) file (content_of l.fn.files file);
  room : (file : ℕ) → room_of l.fn.files file ≤ room_of l.files file;
}

abbrev pub decreases-back : goal.decreases-back
decreases-back l = l.k
