use Rattle.std.proofs.Common.{◌≡◌, ◌+◌, ◌*◌, ◌^◌, ◌≤◌, length}
use Rattle.space_index.specs.Sequential.{listed_near}
use Rattle.space_index.proofs.sequential.listed_near.Given as goal

abbrev pub invariant-near : goal.invariant-near
invariant-near l = record {
  whole : l.sum + listed_near l.rooms l.file-iterator ≡ listed_near l.rooms l.near.entries;
  few : l.sum + 2 ^ 64 * length l.file-iterator ≤ 2 ^ 64 * length l.near.entries;
}
