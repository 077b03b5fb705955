use Rattle.std.proofs.Common.{◌∙◌, inr}
use Rattle.tsm_top.proofs.Making.{tells_on, is_new, formats_not}
use Rattle.tsm_top.proofs.top.make.Goals as goal

pub returns-in-Ok-format-clause-new : goal.returns-in-Ok-format-clause-new
returns-in-Ok-format-clause-new g c = is_new _ _ c.in-Ok-format.field-0 c.in-Ok-fresh.fresh (g.S.Store.told c.has_none.new.store) (g.S.Store.told c.format.new.store) c.in-Ok-fresh.ensures c.in-Ok-format.ensures.told

pub returns-in-Ok-format-clause-tells : goal.returns-in-Ok-format-clause-tells
returns-in-Ok-format-clause-tells g c = tells_on _ (g.S.Store.told c.has_none.new.store) (g.S.Store.told c.format.new.store) c.in-Ok-format.ensures.told ∙ tells_on _ (g.S.Store.told c.args.store.now) (g.S.Store.told c.has_none.new.store) c.has_none.ensures.looked

pub returns-clause-not_made : goal.returns-clause-not_made
returns-clause-not_made g c = (
  formats_not (g.S.Store.told c.args.store.now) c.in-Err-format.refusal (g.S.Store.moment_of c.format.new.store) (g.S.Store.faults_of c.args.store.now) (g.S.Store.faults_of c.has_none.new.store) (g.S.Store.faults_of c.format.new.store) c.has_none.ensures.later.counts c.in-Err-format.ensures.refused,
  inr (c.in-Ok.ensures.none, tells_on _ (g.S.Store.told c.has_none.new.store) (g.S.Store.told c.format.new.store) c.in-Err-format.ensures.told ∙ tells_on _ (g.S.Store.told c.args.store.now) (g.S.Store.told c.has_none.new.store) c.has_none.ensures.looked),
)

pub returns-clause-tells : goal.returns-clause-tells
returns-clause-tells g c = tells_on _ (g.S.Store.told c.has_none.new.store) (g.S.Store.told c.format.new.store) c.in-Err-format.ensures.told ∙ tells_on _ (g.S.Store.told c.args.store.now) (g.S.Store.told c.has_none.new.store) c.has_none.ensures.looked
