use Rattle.program_words.proofs.Asking.{as_restore, format_read, fresh_read, no_name, run_read}
use Rattle.std.proofs.lemmas.Result.{IfOk-weaker}
use Rattle.program_words.proofs.words.named.Goals as goal

pub returns-then-is_name-clause-read : goal.returns-then-is_name-clause-read
returns-then-is_name-clause-read c = λ given it. format_read given _ _ c.if-is_name.ensures it

pub returns-then-is_name-2-clause-read : goal.returns-then-is_name-2-clause-read
returns-then-is_name-2-clause-read c = λ given it. run_read given _ _ c.if-is_name-2.ensures it

pub returns-then-is_name-3-clause-read : goal.returns-then-is_name-3-clause-read
returns-then-is_name-3-clause-read c = λ given it. fresh_read given _ _ c.if-is_name-3.ensures it

pub returns-then-is_name-4-clause-read : goal.returns-then-is_name-4-clause-read
returns-then-is_name-4-clause-read c = IfOk-weaker c.restoring.result _ _ (λ asked reads given it. reads given (as_restore given _ _ c.if-is_name-4.ensures it)) c.restoring.ensures.read

pub returns-clause-read : goal.returns-clause-read
returns-clause-read c = λ given it. absurd (no_name given _ _ c.if-is_name.ensures c.if-is_name-2.ensures c.if-is_name-3.ensures c.if-is_name-4.ensures it)
