use Rattle.std.proofs.Common.{◌∙◌, ◌++◌, List, drop, map, sym, ap}
use Rattle.std.proofs.lemmas.List.{append-nil}
use Rattle.space.specs.declared.piece.Piece.{Piece}
use Rattle.space.specs.Pieces.{run_piece}
use Rattle.space_index.proofs.Fills.{filled_none}
use Rattle.space_index.proofs.choosing.push_filled.Goals as goal

pub returns-then-left-eq0-clause-pieces : goal.returns-then-left-eq0-clause-pieces
returns-then-left-eq0-clause-pieces c =
    let out = c.runs.out.items in
    let free : List Piece = map (run_piece c.args.file) (drop c.runs.run-index c.args.runs.now) in
    sym (append-nil out) ∙ ap (λ (l : List Piece). out ++ l) (sym (filled_none free c.runs.left c.if-left-eq0.true)) ∙ c.runs.invariant.pieces
