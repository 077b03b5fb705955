use Rattle.std.proofs.Common.{arith}
use Rattle.store_api.specs.declared.store.Failed.{Failed}
use Rattle.store_api.proofs.Runs.{told_map}
use Rattle.hall.proofs.Frames.{over_none, over_some, told_here}
use Rattle.hall.proofs.frame_calls.write_over.Goals as goal

pub returns-then-until-at-clause-told : goal.returns-then-until-at-clause-told
returns-then-until-at-clause-told g c =
    told_here _ (g.S.Store.told c.args.store.now)
    (λ h. over_none c.args.object c.args.number c.args.segment.now c.args.start c.args.count c.args.bytes.now {T = Unit {0}} {E = Failed} tt h
    (omega (arith, c.passed-at.ensures, c.passed-until.ensures, c.if-until-at.true)))

pub returns-clause-told : goal.returns-clause-told
returns-clause-told g c =
    told_map _ _ _ _
    (λ old new w. over_some c.args.object c.args.number c.args.segment.now c.args.start c.args.count c.args.bytes.now c.write_part.result old new c.passed-at.result c.passed-until.result
    c.saturating_sub-from.result c.passed-at.ensures c.passed-until.ensures c.saturating_sub-from.ensures c.if-until-at.false w) c.write_part.ensures.told
