use Rattle.std.proofs.Common.{◌≡◌, map, drop}
use Rattle.command_words.specs.Rows.{given_view, text_at}
use Rattle.command_words.proofs.row.text_at.Given as goal

abbrev pub invariant-given : goal.invariant-given
invariant-given l = text_at l.at (map given_view (drop l.one-index l.given)) ≡ text_at l.at (map given_view l.given)
