use Rattle.steps.proofs.Joining.{so_call}
use Rattle.sessions.specs.Checkpoints.{Checkpointing, Checkpoints}
use Rattle.sessions.proofs.Checkpointed.{checkpointing-of}
use Rattle.sessions.proofs.checkpoints.checkpoint.Goals as goal

pub returns : goal.returns
returns g c =
    so_call g.P.Stepper.did (λ events. Checkpoints events c.begin_and_go_on.result) (λ events. Checkpointing events c.begin_and_go_on.result) c.args.p.now c.begin_and_go_on.new.p
    c.begin_and_go_on.ensures (λ events h. checkpointing-of events c.begin_and_go_on.result h)
