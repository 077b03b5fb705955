use Rattle.steps.proofs.Joining.{so_call}
use Rattle.copy_runs.proofs.Outcomes.{run-of}
use Rattle.copy_runs.proofs.run.copy_all.Goals as goal
use Rattle.copy_runs.specs.Runs.{Run, Runs}

pub returns : goal.returns
returns g c =
    so_call g.P.Stepper.did (λ events. Runs c.args.wanted.now c.args.avoid events c.copy_each.result) (λ events. Run c.args.wanted.now c.args.avoid events c.copy_each.result)
    c.args.p.now c.copy_each.new.p c.copy_each.ensures (λ events h. run-of c.args.wanted.now c.args.avoid events c.copy_each.result h)
