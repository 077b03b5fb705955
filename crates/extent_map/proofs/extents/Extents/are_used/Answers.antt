use Rattle.std.proofs.Common.{◌≡◌, ◌∙◌, ◌+◌, ◌<◌, ◌≤◌, true, arith, length, ap, not}
use Rattle.std.proofs.lemmas.Bool.{leb-true, le-leb}
use Rattle.std.proofs.lemmas.List.{length-map}
use Rattle.extent_map.proofs.FreeRuns.{AllAre-fits}
use Rattle.extent_map.proofs.Taking.{used_until, next_behind}
use Rattle.extent_map.proofs.extents.Extents.are_used.Goals as goal

pub returns-then-end-len : goal.returns-then-end-len
returns-then-end-len c =
    let fits : c.args.run.first + c.args.run.blocks ≤ length c.self.inside.free = omega arith in (
      (λ is. used_until c.args.run.first (c.args.run.first + c.args.run.blocks) c.next.result c.self.inside.used c.self.inside.free c.args.self.now c.self.view_is c.self.invariant.0 fits c.next.ensures.before (leb-true (c.args.run.first + c.args.run.blocks) c.next.result is)),
      (λ are. le-leb (c.args.run.first + c.args.run.blocks) c.next.result (next_behind c.args.run.first (c.args.run.first + c.args.run.blocks) c.next.result c.self.inside.used c.self.inside.free c.args.self.now c.self.view_is c.self.invariant.0 fits c.next.ensures.low c.next.ensures.here are)),
    )

pub returns-else-end-len : goal.returns-else-end-len
returns-else-end-len c =
    let len : length c.self.inside.used ≡ length c.args.self.now = ap length c.self.view_is in
    let len' : length c.self.inside.free ≡ length c.self.inside.used = ap length c.self.invariant.0 ∙ length-map c.self.inside.used not in
    let some : 0 < c.args.run.blocks = omega arith in (
      (λ is. let le : c.args.run.first + c.args.run.blocks ≤ c.len.result = leb-true (c.args.run.first + c.args.run.blocks) c.len.result is in absurd (omega arith)),
      (λ are. let fits : c.args.run.first + c.args.run.blocks ≤ length c.args.self.now = AllAre-fits true c.args.run c.args.self.now some are in absurd (omega arith)),
    )
