use Rattle.sessions.proofs.Turns.{turn-goes, turn-refused}
use Rattle.sessions.specs.InTurn.{OrMemory}
use Rattle.sessions.specs.Putting.{CommitsOne, ForcesOne, OrGivesBack, backed_up}
use Rattle.sessions.proofs.putting.store.Goals as goal

pub returns-in-Ok : goal.returns-in-Ok
returns-in-Ok g c =
    turn-goes g.P.Stepper.did g.met.P.Stepper.goes_on c.args.p.now c.commit_or_give_back.new.p c.force_behind.new.p
    (OrGivesBack c.args.sealed.ticket (OrMemory (CommitsOne (backed_up c.args.filespace c.args.file.now c.args.class.now c.args.sealed.digest) c.args.sealed.ticket))) ForcesOne c.in-Ok.number
    c.force_behind.result c.in-Ok.ensures c.force_behind.ensures

pub returns-in-Err : goal.returns-in-Err
returns-in-Err g c =
    turn-refused g.P.Stepper.did c.args.p.now c.commit_or_give_back.new.p
    (OrGivesBack c.args.sealed.ticket (OrMemory (CommitsOne (backed_up c.args.filespace c.args.file.now c.args.class.now c.args.sealed.digest) c.args.sealed.ticket))) ForcesOne c.in-Err.refusal c.in-Err.ensures
