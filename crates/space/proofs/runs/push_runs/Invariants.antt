use Rattle.std.proofs.Common.{◌≡◌, ◌++◌, map, drop}
use Rattle.space.specs.Pieces.{run_piece}
use Rattle.space.proofs.runs.push_runs.Given as goal

abbrev pub invariant-runs : goal.invariant-runs
invariant-runs l = l.out.items ++ map (run_piece l.file) (drop l.run-index l.runs) ≡ l.initial.out.items ++ map (run_piece l.file) l.runs
