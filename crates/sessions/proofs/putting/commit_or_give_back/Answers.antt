use Rattle.sessions.proofs.Put.{or-gives-back}
use Rattle.sessions.specs.InTurn.{OrMemory}
use Rattle.sessions.specs.Putting.{CommitsOne, backed_up}
use Rattle.sessions.proofs.putting.commit_or_give_back.Goals as goal

pub returns-in-Err : goal.returns-in-Err
returns-in-Err g c =
    or-gives-back g.P.Stepper.did g.met.P.Stepper.goes_on c.args.p.now c.commit_one.new.p c.give_back.new.p c.args.sealed.ticket
    (OrMemory (CommitsOne (backed_up c.args.filespace c.args.file.now c.args.class.now c.args.sealed.digest) c.args.sealed.ticket)) c.in-Err.refusal c.give_back.result c.in-Err.ensures c.give_back.ensures
