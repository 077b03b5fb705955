use Rattle.hall.proofs.Cleared.{gone_cut, there_stays}
use Rattle.hall.proofs.parts.Parts.clear.Goals as goal

pub returns-then-is_volume-clause-told : goal.returns-then-is_volume-clause-told
returns-then-is_volume-clause-told g c = there_stays (g.S.Store.told c.args.store.now) c.args.file _ c.is_volume.result c.is_volume.ensures c.if-is_volume.true

pub returns-clause-told : goal.returns-clause-told
returns-clause-told g c = gone_cut (g.S.Store.told c.args.store.now) (g.S.Store.told c.cut.new.self) c.args.file _ c.is_volume.result c.is_volume.ensures c.if-is_volume.false c.cut.result c.cut.ensures.told
