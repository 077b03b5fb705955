use Rattle.std.proofs.Common.{[], ◌∷◌, ap, ◌∙◌, arith, length-append}
use Rattle.crew.proofs.Seating.{begun_more}
use Rattle.crew.proofs.block.begin_all.Goals as goal

pub jobs-preserved : goal.jobs-preserved
jobs-preserved g c =
    let inv = c.jobs.invariant in
    let long = length-append c.jobs.yielded (c.in-Some.job ∷ []) in (
      begun_more c.args.first c.jobs.actor c.jobs.yielded c.in-Some.job c.begin-own.result c.jobs.seats.items c.push_reserved.new.self.items c.push_reserved.ensures.items inv.0 c.begin-own.ensures.own inv.2,
      omega (arith, c.push_reserved.ensures.len, inv.1, long),
      omega (arith, inv.2, long),
      omega (arith, ap (λ k. k.1) c.begin-own.ensures.keeper),
      ap (λ k. k.0) c.begin-own.ensures.keeper ∙ inv.4,
      omega (arith, c.push_reserved.ensures.capacity, inv.5),
    )
