use Rattle.client_batches.proofs.Exactly.{paths-bound}
use Rattle.client_batches.proofs.lists.rebind_all.Goals as goal

pub returns : goal.returns
returns g c =
    paths-bound g.P.Stepper.did c.args.p.now c.commit_in_runs.new.p c.args.filespace c.args.lines.now c.commit_in_runs.result c.commit_in_runs.ensures
