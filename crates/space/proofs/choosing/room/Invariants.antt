use Rattle.std.proofs.Common.{◌≡◌, ◌+◌, ◌*◌, ◌^◌, ◌≤◌, drop}
use Rattle.space.specs.Pieces.{room}
use Rattle.space.proofs.choosing.room.Given as goal

abbrev pub invariant-free : goal.invariant-free
invariant-free l = record {
  whole : l.sum + room (drop l.p-index l.free) ≡ room l.free;
  few : l.sum ≤ 2 ^ 64 * l.p-index;
}
