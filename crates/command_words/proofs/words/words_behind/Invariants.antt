use Rattle.std.proofs.Common.{◌≡◌, ◌≤◌, ◌++◌, map, drop}
use Rattle.command_words.specs.Words.{word_view, words_from, words_behind}
use Rattle.command_words.proofs.words.words_behind.Given as goal

abbrev pub invariant-bytes : goal.invariant-bytes
invariant-bytes l = record {
  said : map word_view l.words.items ++ words_from l.first l.line l.spot l.start l.at (drop l.at l.line) ≡ words_behind l.first l.line;
  ordered : l.start ≤ l.at;
}
