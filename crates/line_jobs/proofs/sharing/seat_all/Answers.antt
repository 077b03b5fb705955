use Rattle.std.proofs.Common.{[], ◌∷◌, length-append, arith}
use Rattle.line_jobs.proofs.Exchanging.{exchanged_more}
use Rattle.line_jobs.proofs.Gathering.{seated}
use Rattle.line_jobs.proofs.sharing.seat_all.Goals as goal

pub rooms-preserved : goal.rooms-preserved
rooms-preserved g c =
    let inv = c.rooms.invariant in
    let long = length-append c.rooms.yielded (c.in-Some.room ∷ []) in
    record {
      jobs = seated c.args.binder.now c.args.lines.now c.rooms.yielded c.in-Some.room c.args.trees.now c.rooms.trees c.rooms.job c.rooms.jobs.items c.push_reserved.new.self.items c.seat.result c.push_reserved.ensures.items inv.jobs
          c.seat.ensures.job inv.trees inv.place;
      trees = exchanged_more c.args.lines.now c.rooms.yielded c.in-Some.room c.args.trees.now c.rooms.trees c.seat.new.trees c.rooms.job c.seat.ensures.trees inv.trees inv.place;
      place = omega (arith, inv.place, long);
      many = omega (arith, c.push_reserved.ensures.len, inv.many, long);
      room = omega (arith, c.push_reserved.ensures.capacity, inv.room);
    }
