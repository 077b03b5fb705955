use Rattle.command_steps.proofs.Worked.{puts-text}
use Rattle.command_steps.proofs.doing.put_row.Goals as goal

pub returns-clause-puts : goal.returns-clause-puts
returns-clause-puts g c = puts-text g.P.Stepper.did c.args.p.now c.put_file-answer.new.p c.args.binder.now c.args.file.now c.args.row.now c.args.tree.files c.put_file-answer.result c.within_memory.result c.requires.row c.requires.there c.within_memory.ensures (let put = c.put_file-answer.ensures.puts in (put.0, put.1, put.2.order))
