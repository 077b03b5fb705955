use Rattle.std.proofs.Common.{◌≡◌, ◌++◌}
use Rattle.std.specs.List.{flat_map}
use Rattle.space.specs.Pieces.{filled}
use Rattle.space_index.specs.Choosing.{other_pieces, listed_pieces}
use Rattle.space_index.proofs.choosing.listed_places.Given as goal

abbrev pub invariant-files : goal.invariant-files
invariant-files l =
    l.out.items ++ filled l.rest (flat_map (other_pieces l.index l.request.prefer l.request.avoid) l.file-iterator) ≡ filled l.request.size (listed_pieces l.index l.fn.number l.request.prefer l.request.avoid)
