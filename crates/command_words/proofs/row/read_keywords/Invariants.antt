use Rattle.std.proofs.Common.{◌≡◌, [], map, drop}
use Rattle.command_words.specs.Words.{word_view}
use Rattle.command_words.specs.Rows.{given_view, slot_view, keywords_from}
use Rattle.command_words.proofs.row.read_keywords.Given as goal

abbrev pub invariant-words : goal.invariant-words
invariant-words l =
    keywords_from (map slot_view l.slots) l.end (map given_view l.given.items) (map word_view (drop l.word-index l.words)) ≡ keywords_from (map slot_view l.slots) l.end [] (map word_view l.words)
