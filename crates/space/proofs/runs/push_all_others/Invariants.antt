use Rattle.std.proofs.Common.{◌≡◌, ◌++◌}
use Rattle.std.specs.List.{flat_map}
use Rattle.space.specs.Pieces.{other_pieces}
use Rattle.space.proofs.runs.push_all_others.Given as goal

abbrev pub invariant-volumes : goal.invariant-volumes
invariant-volumes l =
    l.out.items ++ flat_map (other_pieces l.number l.request.prefer l.request.avoid l.counted) l.file-iterator ≡ l.initial.out.items ++ flat_map (other_pieces l.number l.request.prefer l.request.avoid l.counted) l.pools.volumes
