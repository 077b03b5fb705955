use Rattle.std.proofs.Common.{◌≡◌, drop, map}
use Rattle.program_words.specs.Words.{files_of}
use Rattle.program_words.proofs.Reading.{behind}
use Rattle.program_words.proofs.numbers.files.Given as goal

abbrev pub invariant-words : goal.invariant-words
invariant-words l = behind l.files.items (files_of (map (λ w. w.now) (drop l.word-index l.words))) ≡ files_of (map (λ w. w.now) l.words)
