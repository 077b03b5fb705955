use Rattle.std.proofs.Common.{◌≡◌, drop, map, string_bytes}
use Rattle.std.specs.List.{list_all}
use Rattle.program_words.specs.Program.{is_plain}
use Rattle.program_words.proofs.words.are_plain.Given as goal

abbrev pub invariant-words : goal.invariant-words
invariant-words l = list_all is_plain (map string_bytes (drop l.word-index l.words)) ≡ list_all is_plain (map string_bytes l.words)
