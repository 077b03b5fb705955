use Rattle.client_files.specs.Reading.{file_of}
use Rattle.sessions.proofs.Turns.{turn-goes, turn-refused}
use Rattle.sessions.specs.Putting.{FindsHome, PutsUnder}
use Rattle.sessions.proofs.putting.find_and_put.Goals as goal

pub returns-in-Ok-clause-puts : goal.returns-in-Ok-clause-puts
returns-in-Ok-clause-puts g c =
    turn-goes g.P.Stepper.did g.met.P.Stepper.goes_on c.args.p.now c.find_home.new.p c.put_under.new.p (FindsHome c.args.node.now c.args.binder.now c.args.file.now.path)
    (PutsUnder c.args.node.now c.args.filespace.now (file_of (g.T.Tree.files c.args.tree.now) c.args.file.now.path) c.args.file.now) c.in-Ok.home c.put_under.result c.in-Ok.ensures c.put_under.ensures.puts

pub returns-in-Err-clause-puts : goal.returns-in-Err-clause-puts
returns-in-Err-clause-puts g c =
    turn-refused g.P.Stepper.did c.args.p.now c.find_home.new.p (FindsHome c.args.node.now c.args.binder.now c.args.file.now.path)
    (PutsUnder c.args.node.now c.args.filespace.now (file_of (g.T.Tree.files c.args.tree.now) c.args.file.now.path) c.args.file.now) c.in-Err.refusal c.in-Err.ensures
