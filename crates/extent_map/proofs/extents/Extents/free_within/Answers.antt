use Rattle.std.proofs.Common.{◌≡◌, ◌∙◌, ◌<◌, ◌≤◌, List, Bool, length, get_or, true, arith, ap, sym}
use Rattle.extent_map.proofs.FreeRuns.{used_at}
use Rattle.extent_map.proofs.Marking.{all_free}
use Rattle.extent_map.proofs.extents.Extents.free_within.Goals as goal

pub returns-clause-before : goal.returns-clause-before
returns-clause-before c =
    let len : length c.self.inside.used ≡ length c.args.self.now = ap length c.self.view_is in
    λ k low high. ap (λ (u : List Bool). get_or u k true) (sym c.self.view_is) ∙ used_at c.self.inside.free c.self.inside.used k c.self.invariant.0 (omega arith) (c.next.ensures.before k low (omega arith))

pub returns-clause-free : goal.returns-clause-free
returns-clause-free c =
    let len : length c.self.inside.used ≡ length c.args.self.now = ap length c.self.view_is in
    all_free _ c.self.inside.used c.args.self.now c.self.view_is (omega arith) (λ k low high. c.next-2.ensures.before k low (omega arith))
