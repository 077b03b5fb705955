use Rattle.std.proofs.Common.{sym}
use Rattle.command_words.proofs.Chosen.{begins_short}
use Rattle.command_words.proofs.choice.begins.Goals as goal

pub returns-then-option-word : goal.returns-then-option-word
returns-then-option-word c = sym (begins_short c.args.option.now c.args.word.now c.if-option-word.true)
