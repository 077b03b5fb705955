use Rattle.std.proofs.Common.{rules}
use Rattle.script_loop.proofs.Underway.{put_front}
use Rattle.script_loop.proofs.script.put_reply.Goals as goal

pub returns-in-Err-clause-put : goal.returns-in-Err-clause-put
returns-in-Err-clause-put g c = put_front c.deref.result.now c.args.reply.now.text _ _ (search rules) c.in-Err.ensures.front
