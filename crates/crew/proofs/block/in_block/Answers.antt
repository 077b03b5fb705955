use Rattle.std.proofs.Common.{◌≡◌, ℕ, ◌+◌, length, arith, subst}
use Rattle.std.specs.List.{AllByRecursion}
use Rattle.crew.specs.Knowing.{IsWithin}
use Rattle.crew.proofs.Seating.{each_did, many_done}
use Rattle.crew.proofs.block.in_block.Goals as goal

pub end_all-jobs-requires-clause-room : goal.end_all-jobs-requires-clause-room
end_all-jobs-requires-clause-room g c = omega (arith, c.begin_all-seats.ensures.len, c.run_all-seats.ensures.room, c.len.ensures, c.in-Ok.ensures.capacity)

pub returns-clause-ran : goal.returns-clause-ran
returns-clause-ran g c = (
  c.into_parts-hall.result.1.0,
  c.into_parts-hall.ensures.ran,
  subst (λ (n : ℕ). AllByRecursion (IsWithin c.args.first n) c.into_parts-hall.result.1.0) (let most : g.B.Origin.most ≡ c.args.first + length c.args.jobs.items = omega (arith, c.requires.actors.1) in most)
      (subst (λ (n : ℕ). AllByRecursion (IsWithin n g.B.Origin.most) c.into_parts-hall.result.1.0) c.requires.actors.0 c.into_parts-hall.ensures.within),
  each_did g.J.Job.did c.args.first c.into_parts-hall.result.1.0 c.args.jobs.items c.end_all-jobs.result.items c.begin_all-seats.result.items c.run_all-seats.result.items c.begin_all-seats.ensures.seats
      c.run_all-seats.ensures.len c.run_all-seats.ensures.worked c.end_all-jobs.ensures.told c.end_all-jobs.ensures.jobs,
)

pub returns-clause-many : goal.returns-clause-many
returns-clause-many g c =
    many_done c.args.first c.args.jobs.items c.end_all-jobs.result.items c.begin_all-seats.result.items c.run_all-seats.result.items c.begin_all-seats.ensures.seats c.run_all-seats.ensures.len c.end_all-jobs.ensures.jobs
