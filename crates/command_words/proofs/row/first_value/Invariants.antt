use Rattle.std.proofs.Common.{◌≡◌, map, drop}
use Rattle.command_words.specs.Words.{word_view}
use Rattle.command_words.specs.Rows.{first_value}
use Rattle.command_words.proofs.row.first_value.Given as goal

abbrev pub invariant-words : goal.invariant-words
invariant-words l = first_value l.key (map word_view (drop l.word-index l.words)) ≡ first_value l.key (map word_view l.words)
