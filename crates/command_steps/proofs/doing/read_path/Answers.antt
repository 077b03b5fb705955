use Rattle.command_steps.proofs.doing.read_path.Goals as goal

pub returns-clause-gets : goal.returns-clause-gets
returns-clause-gets g c = (let read = c.read_file.ensures in (read.0, read.1, read.2.order))
