use denote.Param.Send.{sendable}
use Rattle.std.proofs.Crossing as one
use Rattle.std.proofs.MapsCrossing as maps
use Rattle.serve_runs.proofs.Crossing.{past-send}
use Rattle.serve_runs.proofs.folders.stopped.Goals as goal

pub stopped_over-requires-send-S : goal.stopped_over-requires-send-S
stopped_over-requires-send-S g c κs within = search (past-send, maps.crosses, one.crosses, sendable) depth 60 fits 4000
