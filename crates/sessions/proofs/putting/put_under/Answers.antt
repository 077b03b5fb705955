use Rattle.client_files.specs.Reading.{file_of}
use Rattle.sessions.proofs.Turns.{turn-goes, turn-refused}
use Rattle.sessions.specs.Putting.{FindsFilespace, PutsIn}
use Rattle.sessions.proofs.putting.put_under.Goals as goal

pub returns-in-Ok-clause-puts : goal.returns-in-Ok-clause-puts
returns-in-Ok-clause-puts g c =
    turn-goes g.P.Stepper.did g.met.P.Stepper.goes_on c.args.p.now c.find_filespace.new.p c.put_in.new.p (FindsFilespace c.args.node.now c.args.filespace.now c.args.home.now.node)
    (PutsIn c.args.node.now c.args.filespace.now (file_of (g.T.Tree.files c.args.tree.now) c.args.file.now.path) c.args.file.now c.args.home.now) c.in-Ok.number c.put_in.result c.in-Ok.ensures
    c.put_in.ensures.puts

pub returns-in-Err-clause-puts : goal.returns-in-Err-clause-puts
returns-in-Err-clause-puts g c =
    turn-refused g.P.Stepper.did c.args.p.now c.find_filespace.new.p (FindsFilespace c.args.node.now c.args.filespace.now c.args.home.now.node)
    (PutsIn c.args.node.now c.args.filespace.now (file_of (g.T.Tree.files c.args.tree.now) c.args.file.now.path) c.args.file.now c.args.home.now) c.in-Err.refusal c.in-Err.ensures
