use denote.Param.Send.{sendable}
use Rattle.std.proofs.Crossing as one
use Rattle.std.proofs.MapsCrossing as maps
use Rattle.serve_runs.proofs.Crossing.{past-send}
use Rattle.serve_runs.proofs.folders.stopped_again.Goals as goal

pub shown_over-requires-send-S : goal.shown_over-requires-send-S
shown_over-requires-send-S g c κs within = search (past-send, maps.crosses, one.crosses, sendable) depth 60 fits 4000
