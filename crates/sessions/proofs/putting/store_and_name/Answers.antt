use Rattle.std.proofs.Common.{ℕ}
use Rattle.sessions.proofs.Turns.{turn-goes, turn-refused}
use Rattle.sessions.specs.Putting.{Names, Stores}
use Rattle.sessions.proofs.putting.store_and_name.Goals as goal

pub returns-in-Ok : goal.returns-in-Ok
returns-in-Ok g c =
    turn-goes g.P.Stepper.did g.met.P.Stepper.goes_on c.args.p.now c.store.new.p c.name.new.p (Stores c.args.number c.args.file.now c.args.class.now c.args.sealed)
    (λ (seq : ℕ). Names c.args.node.now c.args.filespace.now c.args.file.now c.args.sealed.digest) c.in-Ok.field-0 c.name.result c.in-Ok.ensures c.name.ensures

pub returns-in-Err : goal.returns-in-Err
returns-in-Err g c =
    turn-refused g.P.Stepper.did c.args.p.now c.store.new.p (Stores c.args.number c.args.file.now c.args.class.now c.args.sealed)
    (λ (seq : ℕ). Names c.args.node.now c.args.filespace.now c.args.file.now c.args.sealed.digest) c.in-Err.refusal c.in-Err.ensures
