use Rattle.deletions.proofs.Whole.{versions-not}
use Rattle.deletions.proofs.filespace.list_versions.Goals as goal

pub returns-in-Err-answer : goal.returns-in-Err-answer
returns-in-Err-answer g c =
    versions-not g.P.Stepper.did c.args.p.now c.ask-answer.new.p c.args.filespace c.args.names.now c.in-Ok.query c.in-Err-answer.refusal c.in-Ok.ensures c.in-Err-answer.ensures
