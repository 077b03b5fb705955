use Rattle.std.proofs.Common.{ℕ, ◌+◌, List, [], ◌∷◌, ◌++◌, refl, sym, ap, ◌∙◌, arith}
use Rattle.std.proofs.lemmas.List.{take_more_set}
use Rattle.std.proofs.lemmas.List.FromFn.{map-range_with_len_more}
use Rattle.command_steps.specs.Writing.{byte_at, counted}
use Rattle.command_steps.proofs.writing.fill_piece.Goals as goal

pub bytes-preserved : goal.bytes-preserved
bytes-preserved c =
    take_more_set c.bytes.piece c.bytes.place c.byte_at.result (omega (arith, c.bytes-test.true, c.bytes.auto.piece)) ∙ ap (λ (front : List ℕ). front ++ (c.byte_at.result ∷ [])) c.bytes.invariant
    ∙ ap (λ (b : ℕ). counted c.args.fill c.args.at c.bytes.place ++ (b ∷ [])) c.byte_at.ensures ∙ sym (map-range_with_len_more (byte_at c.args.fill) c.args.at c.bytes.place (c.args.at + c.bytes.place) refl)
