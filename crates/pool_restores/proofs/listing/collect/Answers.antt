use Rattle.std.proofs.Common.{arith, rules}
use Rattle.pool_restores.proofs.Beginning.{collecting-breaks, collecting-full, collecting-next}
use Rattle.pool_restores.proofs.listing.collect.Goals as goal

pub returns-in-Err : goal.returns-in-Err
returns-in-Err g c =
    collecting-breaks g.P.Stepper.did g.met.P.Stepper.goes_on c.args.p.now c.files.p c.list.new.p c.args.pool c.args.files.now c.files.place _ c.files.wanted.items c.in-Err.refusal
    (omega (arith, c.files-test.true)) (search rules) c.files.invariant.asked c.in-Err.ensures

pub returns-in-Err-add_all : goal.returns-in-Err-add_all
returns-in-Err-add_all g c =
    collecting-full g.P.Stepper.did g.met.P.Stepper.goes_on c.args.p.now c.files.p c.list.new.p c.args.pool c.args.files.now c.files.place _ c.files.wanted.items c.in-Ok.lines
    c.in-Err-add_all.refusal (omega (arith, c.files-test.true)) (search rules) c.in-Err-add_all.ensures.adds c.files.invariant.asked c.in-Ok.ensures

pub files-preserved : goal.files-preserved
files-preserved g c = record {
  asked =
      collecting-next g.P.Stepper.did g.met.P.Stepper.goes_on c.args.p.now c.files.p c.list.new.p c.args.pool c.args.files.now c.files.place _ c.files.wanted.items c.add_all.new.wanted.items c.in-Ok.lines
      c.as_slice.result.now (omega (arith, c.files-test.true)) (search rules) c.as_slice.ensures c.in-Ok-add_all.ensures.adds c.files.invariant.asked c.in-Ok.ensures;
  known = c.in-Ok-add_all.ensures.known;
}
