use Rattle.std.proofs.Common.{◌≡◌, ◌++◌, ◌-◌, drop, map}
use Rattle.space.specs.Pieces.{run_piece, room, filled}
use Rattle.space_index.proofs.choosing.push_filled.Given as goal

abbrev pub invariant-runs : goal.invariant-runs
invariant-runs l = record {
  pieces : l.out.items ++ filled l.left (map (run_piece l.file) (drop l.run-index l.runs)) ≡ l.initial.out.items ++ filled l.rest (map (run_piece l.file) l.runs);
  left : l.left - room (map (run_piece l.file) (drop l.run-index l.runs)) ≡ l.rest - room (map (run_piece l.file) l.runs);
}
