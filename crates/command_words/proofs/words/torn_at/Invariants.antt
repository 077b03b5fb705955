use Rattle.std.proofs.Common.{◌≡◌, map, drop}
use Rattle.command_words.specs.Words.{word_view, torn_at}
use Rattle.command_words.proofs.words.torn_at.Given as goal

abbrev pub invariant-words : goal.invariant-words
invariant-words l = torn_at (map word_view (drop l.word-index l.words)) ≡ torn_at (map word_view l.words)
