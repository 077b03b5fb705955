use Rattle.std.proofs.Common.{List, ap, ◌∙◌}
use Rattle.inventory_answers.specs.declared.lines.VersionLine.{VersionLine}
use Rattle.sessions.proofs.Turns.{decided-as, turn-goes, turn-refused}
use Rattle.sessions.specs.Asking.{AsksPath}
use Rattle.sessions.specs.InTurn.{Decides, OrMemory}
use Rattle.sessions.specs.Putting.{object_stored}
use Rattle.sessions.proofs.putting.name.Goals as goal

pub returns-in-Ok : goal.returns-in-Ok
returns-in-Ok g c =
    turn-goes g.P.Stepper.did g.met.P.Stepper.goes_on c.args.p.now c.ask_all.new.p c.ask_all.new.p (OrMemory (AsksPath c.args.node.now c.args.filespace.now c.args.file.now.path))
    (λ (lines : List VersionLine). Decides (object_stored c.args.file.now c.args.digest.now lines)) c.in-Ok.lines c.object_stored-object.result c.in-Ok.ensures
    (decided-as g.P.Stepper.did c.ask_all.new.p (object_stored c.args.file.now c.args.digest.now c.in-Ok.lines) c.object_stored-object.result (g.met.P.Stepper.stays c.ask_all.new.p)
    (c.object_stored-object.ensures ∙ ap (object_stored c.args.file.now c.args.digest.now) c.as_slice.ensures))

pub returns-in-Err : goal.returns-in-Err
returns-in-Err g c =
    turn-refused g.P.Stepper.did c.args.p.now c.ask_all.new.p (OrMemory (AsksPath c.args.node.now c.args.filespace.now c.args.file.now.path))
    (λ (lines : List VersionLine). Decides (object_stored c.args.file.now c.args.digest.now lines)) c.in-Err.refusal c.in-Err.ensures
