use Rattle.std.proofs.Common.{arith}
use Rattle.extent_map.proofs.FreeRuns.{found_run}
use Rattle.extent_map.proofs.extents.Extents.free_run.Goals as goal

pub returns-clause-next : goal.returns-clause-next
returns-clause-next c =
    (found_run c.args.at c.next-first.result c.next-end.result c.self.inside.used c.self.inside.free c.args.self.now c.self.view_is c.self.invariant.0 c.requires.within c.requires.some c.next-first.ensures.low c.next-first.ensures.high c.next-first.ensures.before c.next-first.ensures.here c.next-end.ensures.low c.next-end.ensures.high c.next-end.ensures.before c.next-end.ensures.here).1

pub returns-clause-some : goal.returns-clause-some
returns-clause-some c =
    let found = found_run c.args.at c.next-first.result c.next-end.result c.self.inside.used c.self.inside.free c.args.self.now c.self.view_is c.self.invariant.0 c.requires.within c.requires.some c.next-first.ensures.low c.next-first.ensures.high c.next-first.ensures.before c.next-first.ensures.here c.next-end.ensures.low c.next-end.ensures.high c.next-end.ensures.before c.next-end.ensures.here in
    omega (arith, found.0)
