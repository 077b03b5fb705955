use Rattle.std.proofs.Common.{◌≡◌, drop}
use Rattle.std.specs.List.{find}
use Rattle.space.specs.Claims.{counted}
use Rattle.space.specs.Placing.{has_place}
use Rattle.space_index.proofs.choosing.pool_among.Given as goal

abbrev pub invariant-numbers : goal.invariant-numbers
invariant-numbers l =
    find (has_place l.request l.space.next_file (counted l.request.actor l.space) l.pools) (drop l.number-index l.numbers) ≡ find (has_place l.request l.space.next_file (counted l.request.actor l.space) l.pools) l.numbers
