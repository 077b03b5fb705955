-- The text that `format!` makes, with the options of `{:08}` in the place of the value that holds them.
use Rattle.std.proofs.Common.{◌≡◌, ◌∷◌, IfOk, string_bytes, subst, sym}
use Rattle.std.specs.Fmt.{styled_decimal}
use Rattle.real_edge.proofs.Padding.{eight_digits}
use Rattle.real_edge.proofs.names.name_of.Goals as goal

pub returns : goal.returns
returns c =
    let made = subst (λ options. IfOk c.format.result (λ name. string_bytes name ≡ 102 ∷ styled_decimal options c.args.file)) c.laid_out.ensures c.format.ensures.ok in
    rw (sym (eight_digits c.args.file)) made
