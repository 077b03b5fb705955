use Rattle.std.proofs.Common.{ℕ, ◌≡◌, ◌≤◌, [], take, drop}
use Rattle.mem_store.specs.Files.{content_of, room_of}
use Rattle.mem_store.specs.Stops.{redone}
use Rattle.mem_store.proofs.stops.redo_all.Given as goal

abbrev pub invariant-forth : goal.invariant-forth
invariant-forth l = record {
  so_far : (file : ℕ) → redone l.choice (take l.k l.calls) (drop l.k l.calls) file (content_of l.files file) ≡ redone l.choice [] l.calls file (content_of l.fn.files file);
  room : (file : ℕ) → room_of l.fn.files file ≤ room_of l.files file;
}
