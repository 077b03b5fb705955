use Rattle.std.proofs.Common.{[], ◌∷◌, length-append, arith}
use Rattle.line_jobs.proofs.Gathering.{both_true, ended_too, gathered, unseated}
use Rattle.line_jobs.proofs.sharing.gather.Goals as goal

pub jobs-preserved : goal.jobs-preserved
jobs-preserved g c =
    let inv = c.jobs.invariant in
    let long = length-append c.jobs.yielded (c.in-Some.job ∷ []) in
    record {
      said = λ whole.
          let parts = both_true c.add_said-is_whole.result c.jobs.is_whole whole in
          gathered c.args.lines.now c.jobs.yielded c.in-Some.job c.jobs.all.items c.add_said-is_whole.new.all.items c.unseat-own.result.0.items (c.add_said-is_whole.ensures parts.0) c.unseat-own.ensures.said (inv.said parts.1);
      ended = ended_too c.args.lines.now c.jobs.yielded c.in-Some.job c.jobs.ended c.or_weightier-ended.result c.unseat-own.result.1 c.or_weightier-ended.ensures c.unseat-own.ensures.ended inv.ended;
      trees = unseated c.args.lines.now c.jobs.yielded c.in-Some.job c.args.trees.now c.jobs.trees c.unseat-own.new.trees c.jobs.at c.unseat-own.ensures.trees inv.trees inv.place;
      place = omega (arith, inv.place, long);
    }
