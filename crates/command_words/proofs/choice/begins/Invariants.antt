use Rattle.std.proofs.Common.{◌≡◌, drop}
use Rattle.command_words.specs.Choice.{begins}
use Rattle.command_words.proofs.choice.begins.Given as goal

abbrev pub invariant-bytes : goal.invariant-bytes
invariant-bytes l = begins (drop l.at l.option) (drop l.at l.word) ≡ begins l.option l.word
