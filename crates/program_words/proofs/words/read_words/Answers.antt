use Rattle.program_words.proofs.Asking.{ask_nothing}
use Rattle.program_words.proofs.words.read_words.Goals as goal

pub returns-clause-read : goal.returns-clause-read
returns-clause-read c = ask_nothing _ c.if-are_plain.ensures
