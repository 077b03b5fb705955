use Rattle.std.proofs.Common.{Ok, ap, refl, subst}
use Rattle.store_api.specs.Told.{Told}
use Rattle.inventory_rows.specs.pool_tables.Rows.{row_at}
use Rattle.hall.specs.Held.{Held}
use Rattle.hall.specs.Reusing.{Empties}
use Rattle.hall.proofs.Cleared.{force_told}
use Rattle.hall.proofs.parts.Parts.force_and_clear.Goals as goal

pub returns-in-Ok-clause-told : goal.returns-in-Ok-clause-told
returns-in-Ok-clause-told g c =
    subst (λ (h : Held). Told (g.S.Store.told c.args.store.now) (g.S.Store.told c.clear.new.store) (Empties c.args.file (Ok c.in-Ok.number) h.vault c.stamp.new.self.vault)) c.self.view_is
    (force_told c.args.file c.self.inside.vault c.force.new.self c.stamp.new.self.vault c.in-Ok.number (g.S.Store.told c.args.store.now) (g.S.Store.told c.force.new.store) (g.S.Store.told c.clear.new.store)
    c.in-Ok.ensures.told c.in-Ok.ensures.ok (ap (λ (h : Held). h.vault) c.stamp.ensures) (row_at c.args.file c.force.new.self.database.stores.volumes) refl c.clear.ensures.told)
