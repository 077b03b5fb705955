use Rattle.std.proofs.Common.{◌^◌, ◌-◌}
use Rattle.space_index.specs.Sequential.{view, listed_by, behind}
use Rattle.space_index.proofs.Serving.{IsCollecting}
use Rattle.space_index.proofs.sequential.collect.Given as goal

abbrev pub invariant-files : goal.invariant-files
invariant-files l = IsCollecting (view l.pools l.tails.held.entries l.number l.request.actor) (listed_by l.turn l.tails.lists l.number l.request.actor) l.initial.near.entries l.near.entries l.fn.size l.rest (behind l.last)

abbrev pub decreases-files : goal.decreases-files
decreases-files l = 2 ^ 32 - behind l.last
