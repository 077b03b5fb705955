use Rattle.std.proofs.Common.{arith, rules}
use Rattle.db_backup.proofs.Deleting.{few-more, up-break, up-next}
use Rattle.db_backup.proofs.deletion.delete_all.Goals as goal

pub returns-in-Err : goal.returns-in-Err
returns-in-Err g c =
    up-break g.P.Stepper.did g.met.P.Stepper.goes_on c.args.p.now c.files.p c.delete_one.new.p c.args.files.now c.files.place _ c.files.count c.in-Err.refusal
    (omega (arith, c.files-test.true)) (search rules) c.files.invariant.tried c.in-Err.ensures.tries

pub files-preserved : goal.files-preserved
files-preserved g c = record {
  tried = up-next g.P.Stepper.did g.met.P.Stepper.goes_on c.args.p.now c.files.p c.delete_one.new.p c.args.files.now c.files.place _ c.files.count c.in-Ok.more
      (omega (arith, c.files-test.true)) (search rules) c.files.invariant.tried c.in-Ok.ensures.tries;
  few = few-more c.in-Ok.more c.files.count c.files.place c.files.invariant.few c.in-Ok.ensures.few;
}
