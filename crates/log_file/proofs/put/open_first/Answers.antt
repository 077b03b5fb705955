-- That the gate was written and synced is looked for, and not cited: a body that makes no such call is refused for want of that fact.
use Rattle.std.proofs.Common.{rules}
use Rattle.log_file.proofs.Appending.{gate_opened, gate_shut}
use Rattle.log_file.proofs.put.open_first.Goals as goal

pub returns-in-Ok-clause-told : goal.returns-in-Ok-clause-told
returns-in-Ok-clause-told g c = gate_opened _ _ _ c.args.file c.args.sure _ _ c.in-Ok.ensures.told (search rules)

pub returns-in-Err-clause-told : goal.returns-in-Err-clause-told
returns-in-Err-clause-told g c = gate_shut _ _ c.args.file c.args.sure c.in-Err.failed c.in-Err.ensures.told
