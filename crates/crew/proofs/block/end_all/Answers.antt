use Rattle.std.proofs.Common.{[], ◌∷◌, ◌∙◌, arith, length-append}
use Rattle.crew.proofs.Seating.{jobs_more, told_more}
use Rattle.crew.proofs.block.end_all.Goals as goal

pub seats-preserved : goal.seats-preserved
seats-preserved g c =
    let inv = c.seats.invariant in
    let long = length-append c.seats.yielded (c.in-Some.seat ∷ []) in (
      jobs_more c.seats.yielded c.in-Some.seat c.seats.jobs.items c.push_reserved.new.self.items c.push_reserved.ensures.items inv.0,
      omega (arith, c.push_reserved.ensures.len, inv.1, long),
      told_more c.seats.keeper c.args.keeper.now c.seats.yielded c.in-Some.seat inv.2 c.end_one.ensures.told inv.3,
      c.end_one.ensures.keeper ∙ inv.3,
      omega (arith, c.push_reserved.ensures.capacity, inv.4),
    )
