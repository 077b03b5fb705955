use Rattle.std.proofs.Common.{sym}
use Rattle.command_steps.proofs.Answered.{answers-refused}
use Rattle.command_steps.proofs.reply.refused.Goals as goal

pub returns-in-None : goal.returns-in-None
returns-in-None c = answers-refused c.args.line c.args.why c.refused_so.result (sym c.in-None.ensures) c.refused_so.ensures
