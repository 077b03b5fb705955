use Rattle.std.proofs.Common.{◌≡◌, drop}
use Rattle.std.specs.List.{find}
use Rattle.space.specs.Placing.{has_place}
use Rattle.space.proofs.choosing.pool_among.Given as goal

abbrev pub invariant-walked : goal.invariant-walked
invariant-walked l =
    find (has_place l.request l.next_file l.counted l.pools) (drop l.number-index l.walked) ≡ find (has_place l.request l.next_file l.counted l.pools) l.walked
