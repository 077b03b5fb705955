use Rattle.client_files.specs.Reading.{file_of}
use Rattle.sessions.proofs.Turns.{turn-goes, turn-refused}
use Rattle.sessions.specs.Putting.{Sends, StoresAndNames}
use Rattle.sessions.proofs.putting.put_in.Goals as goal

pub returns-in-Ok-clause-puts : goal.returns-in-Ok-clause-puts
returns-in-Ok-clause-puts g c =
    turn-goes g.P.Stepper.did g.met.P.Stepper.goes_on c.args.p.now c.send.new.p c.store_and_name.new.p (Sends (file_of (g.T.Tree.files c.args.tree.now) c.args.file.now.path) c.args.home.now.pool c.args.file.now.size)
    (StoresAndNames c.args.node.now c.args.filespace.now c.args.number c.args.file.now c.args.home.now.class) c.in-Ok.sealed c.store_and_name.result c.in-Ok.ensures.sends c.store_and_name.ensures

pub returns-in-Err-clause-puts : goal.returns-in-Err-clause-puts
returns-in-Err-clause-puts g c =
    turn-refused g.P.Stepper.did c.args.p.now c.send.new.p (Sends (file_of (g.T.Tree.files c.args.tree.now) c.args.file.now.path) c.args.home.now.pool c.args.file.now.size)
    (StoresAndNames c.args.node.now c.args.filespace.now c.args.number c.args.file.now c.args.home.now.class) c.in-Err.refusal c.in-Err.ensures.sends
