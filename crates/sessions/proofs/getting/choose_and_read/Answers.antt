use Rattle.sessions.proofs.Got.{gets-all, gets-broken, gets-unchosen}
use Rattle.sessions.proofs.getting.choose_and_read.Goals as goal

pub returns-in-Err : goal.returns-in-Err
returns-in-Err g c = gets-unchosen g.P.Stepper.did c.args.p.now c.choose.new.p c.args.node c.args.filespace c.args.path c.in-Err.refusal c.in-Err.ensures

pub returns-in-Ok-read_whole : goal.returns-in-Ok-read_whole
returns-in-Ok-read_whole g c =
    gets-all g.P.Stepper.did g.met.P.Stepper.goes_on c.args.p.now c.choose.new.p c.read_whole.new.p c.args.node c.args.filespace c.args.path c.in-Ok.stored c.in-Ok-read_whole.bytes c.in-Ok.ensures
    c.in-Ok-read_whole.ensures

pub returns-in-Err-read_whole : goal.returns-in-Err-read_whole
returns-in-Err-read_whole g c =
    gets-broken g.P.Stepper.did g.met.P.Stepper.goes_on c.args.p.now c.choose.new.p c.read_whole.new.p c.args.node c.args.filespace c.args.path c.in-Ok.stored c.in-Err-read_whole.refusal c.in-Ok.ensures
    c.in-Err-read_whole.ensures
