use Rattle.steps.proofs.Joining.{so_call}
use Rattle.sessions.proofs.Reasons.{getting-of}
use Rattle.sessions.specs.Getting.{Gets, Getting}
use Rattle.sessions.proofs.getting.read_file.Goals as goal

pub returns : goal.returns
returns g c =
    so_call g.P.Stepper.did (λ events. Gets c.args.node c.args.filespace c.args.path events c.choose_and_read.result) (λ events. Getting c.args.node c.args.filespace c.args.path events c.choose_and_read.result)
    c.args.p.now c.choose_and_read.new.p c.choose_and_read.ensures (λ events h. getting-of c.args.node c.args.filespace c.args.path events c.choose_and_read.result h)
