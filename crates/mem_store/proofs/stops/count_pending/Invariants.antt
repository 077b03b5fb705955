use Rattle.std.proofs.Common.{◌≡◌, ◌≤◌, take}
use Rattle.mem_store.specs.Stops.{pending_writes}
use Rattle.mem_store.proofs.stops.count_pending.Given as goal

abbrev pub invariant-calls : goal.invariant-calls
invariant-calls l = record { counted : l.count ≡ pending_writes (take l.e-index l.calls) l.file; few : l.count ≤ l.e-index }
