use Rattle.std.proofs.Common.{ℕ, List, ◌++◌, ◌∙◌, ap, codes}
use Rattle.hex.specs.Hex.{encode_lower}
use Rattle.reports.specs.Pieces.{numbered}
use Rattle.command_steps.proofs.Pieces.{piece_begins, put_more}
use Rattle.command_steps.proofs.text.put_data.Goals as goal

pub piece-requires : goal.piece-requires
piece-requires c = piece_begins _ c.args.most c.pieces.number c.requires.some c.pieces-test.true

pub pieces-preserved : goal.pieces-preserved
pieces-preserved c =
    put_more _ c.args.line c.args.most c.args.bytes.now c.pieces.number _ _ _ c.pieces.invariant (c.as_slice.ensures.value ∙ c.in_ok-text.ensures ∙ ap (λ (part : List ℕ). numbered c.args.line (codes "DATA " ++ encode_lower part)) c.piece.ensures) c.in_ok-extend_from_slice.ensures.items
