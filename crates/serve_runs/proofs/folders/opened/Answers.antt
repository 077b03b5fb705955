use denote.Param.Send.{sendable}
use Rattle.std.proofs.Crossing as one
use Rattle.std.proofs.MapsCrossing as maps
use Rattle.serve_runs.proofs.Crossing.{past-send}
use Rattle.serve_runs.proofs.folders.opened.Goals as goal

pub answers-requires-send-S : goal.answers-requires-send-S
answers-requires-send-S g c κs within = search (past-send, maps.crosses, one.crosses, sendable) depth 60 fits 4000
