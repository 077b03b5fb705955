use Rattle.client_batches.proofs.Exactly.{versions-ended}
use Rattle.client_batches.proofs.lists.end_all.Goals as goal

pub returns : goal.returns
returns g c =
    versions-ended g.P.Stepper.did c.args.p.now c.commit_in_runs.new.p c.args.filespace c.args.lines.now c.commit_in_runs.result c.commit_in_runs.ensures
