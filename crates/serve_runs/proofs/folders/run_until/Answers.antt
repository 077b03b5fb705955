use denote.Param.Send.{sendable}
use Rattle.std.proofs.Crossing as one
use Rattle.std.proofs.MapsCrossing as maps
use Rattle.serve_runs.proofs.Crossing.{past-send}
use Rattle.serve_runs.proofs.folders.run_until.Goals as goal

pub run-requires-send-S : goal.run-requires-send-S
run-requires-send-S g c κs within = search (past-send, maps.crosses, one.crosses, sendable) depth 60 fits 4000
