-- That an attempt was made is looked for, and not cited: a body that makes none is refused for want of that fact.
use Rattle.std.proofs.Common.{rules}
use Rattle.copy_runs.proofs.Running.{few-failed, few-moved, handled-next, run-breaks}
use Rattle.copy_runs.proofs.run.copy_each.Goals as goal

pub returns-in-Err : goal.returns-in-Err
returns-in-Err g c =
    run-breaks g.P.Stepper.did g.met.P.Stepper.goes_on c.args.p.now c.wanted.p _ c.args.wanted.now c.args.avoid c.wanted.place c.index-wanted-place.result c.in-Err.refusal c.wanted.so_far
    (search rules) c.index-wanted-place.is c.wanted.invariant.handled (search rules)

pub wanted-preserved : goal.wanted-preserved
wanted-preserved g c =
    record {
      handled = handled-next g.P.Stepper.did g.met.P.Stepper.goes_on c.args.p.now c.wanted.p _ c.args.wanted.now c.args.avoid c.wanted.place c.index-wanted-place.result c.in-Ok.came c.wanted.so_far c.counted-so_far.result
          c.counted-so_far.ensures (search rules) c.index-wanted-place.is c.wanted.invariant.handled (search rules);
      moved = few-moved c.wanted.so_far c.counted-so_far.result c.in-Ok.came c.wanted.place c.counted-so_far.ensures c.wanted.invariant.moved;
      failed = few-failed c.wanted.so_far c.counted-so_far.result c.in-Ok.came c.wanted.place c.counted-so_far.ensures c.wanted.invariant.failed;
    }
