use Rattle.std.proofs.Common.{◌∙◌, ◌++◌, ◌-◌, List, Option, map, ap}
use Rattle.extent_map.specs.declared.extents.Run.{Run}
use Rattle.space.specs.declared.piece.Piece.{Piece}
use Rattle.space.specs.Pieces.{run_piece, room, filled}
use Rattle.space_index.specs.declared.standing.Standing.{Standing}
use Rattle.space_index.specs.Choosing.{pieces_of}
use Rattle.space_index.proofs.Fills.{filled_asked, left_asked}
use Rattle.space_index.proofs.choosing.push_volume.Goals as goal

pub returns-clause-pieces : goal.returns-clause-pieces
returns-clause-pieces c =
    c.in_ok-left.ensures.pieces
    ∙ ap (λ (l : List Run). c.args.out.now.items ++ filled c.args.rest (map (run_piece c.args.file) l)) (c.as_slice.ensures.value ∙ c.in_ok-runs.ensures)
    ∙ ap (λ (l : List Piece). c.args.out.now.items ++ l) (filled_asked c.args.file c.args.rest c.in-Some.standing.now.blocks.used ∙ ap (λ (o : Option Standing). filled c.args.rest (pieces_of c.args.file o)) c.in-Some.ensures.value)

pub returns-clause-left : goal.returns-clause-left
returns-clause-left c =
    c.in_ok-left.ensures.left
    ∙ ap (λ (l : List Run). c.args.rest - room (map (run_piece c.args.file) l)) (c.as_slice.ensures.value ∙ c.in_ok-runs.ensures)
    ∙ left_asked c.args.file c.args.rest c.in-Some.standing.now.blocks.used
    ∙ ap (λ (o : Option Standing). c.args.rest - room (pieces_of c.args.file o)) c.in-Some.ensures.value
