use Rattle.std.proofs.Common.{arith, rules}
use Rattle.reclamation.proofs.Clearing.{clear-breaks, clear-counted, emptied-next}
use Rattle.reclamation.proofs.reclaiming.clear_each.Goals as goal

pub returns-in-Err-both_moved : goal.returns-in-Err-both_moved
returns-in-Err-both_moved g c =
    clear-counted g.P.Stepper.did g.met.P.Stepper.goes_on c.args.p.now c.files.p c.clear.new.p c.args.pool c.args.files.now c.files.place _ c.args.tried.now.keys c.files.tried.keys c.clear.new.tried.keys
    c.files.so_far c.in-Ok.came c.in-Err-both_moved.refusal c.in-Err-both_moved.ensures (omega (arith, c.files-test.true)) (search rules) c.files.invariant c.in-Ok.ensures

pub returns-in-Err : goal.returns-in-Err
returns-in-Err g c =
    clear-breaks g.P.Stepper.did g.met.P.Stepper.goes_on c.args.p.now c.files.p c.clear.new.p c.args.pool c.args.files.now c.files.place _ c.args.tried.now.keys c.files.tried.keys c.clear.new.tried.keys
    c.files.so_far c.in-Err.refusal (omega (arith, c.files-test.true)) (search rules) c.files.invariant c.in-Err.ensures

pub files-preserved : goal.files-preserved
files-preserved g c =
    emptied-next g.P.Stepper.did g.met.P.Stepper.goes_on c.args.p.now c.files.p c.clear.new.p c.args.pool c.args.files.now c.files.place _ c.args.tried.now.keys c.files.tried.keys c.clear.new.tried.keys
    c.files.so_far c.in-Ok.came c.in-Ok-both_moved.both c.in-Ok-both_moved.ensures (omega (arith, c.files-test.true)) (search rules) c.files.invariant c.in-Ok.ensures
