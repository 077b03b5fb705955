use denote.Param.Send.{sendable}
use Rattle.std.proofs.Crossing as one
use Rattle.std.proofs.MapsCrossing as maps
use Rattle.tsm.proofs.Crossing.{past-send}
use Rattle.tsm.proofs.main.Goals as goal

pub serve-ended-requires-send-S : goal.serve-ended-requires-send-S
serve-ended-requires-send-S g c κs = search (past-send, maps.crosses, one.crosses, sendable) depth 60 fits 8000
