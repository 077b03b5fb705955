use Rattle.std.proofs.Common.{Ok, Err, subst}
use Rattle.store_api.specs.Told.{Told}
use Rattle.store_api.proofs.Runs.{told_map}
use Rattle.db_image.specs.declared.phase.Phase.TheVariants.{Open, Failed as Stuck}
use Rattle.db_image.specs.declared.phase.Progress.TheVariants.{Done}
use Rattle.db_image.specs.Steps.{Opened, at_phase}
use Rattle.db_image.proofs.Opening.{as_job, opened, not_opened}
use Rattle.db_image.proofs.writer.Image.open.Goals as goal

pub returns-in-Ok-clause-told : goal.returns-in-Ok-clause-told
returns-in-Ok-clause-told g c =
    let i = c.self.inside in
    subst (λ job. Told (g.S.Store.told c.args.store.now) (g.S.Store.told c.open_gate.new.store) (Opened job (at_phase Open (as_job i.file i.mark i.number i.payload.items i.phase)) (Ok Done))) c.self.view_is
    (told_map _ _ _ _ (opened (as_job i.file i.mark i.number i.payload.items i.phase) Done c.in-Ok.field-0) c.in-Ok.ensures.told)

pub returns-in-Err-clause-told : goal.returns-in-Err-clause-told
returns-in-Err-clause-told g c =
    let i = c.self.inside in
    subst (λ job. Told (g.S.Store.told c.args.store.now) (g.S.Store.told c.open_gate.new.store) (Opened job (at_phase Stuck (as_job i.file i.mark i.number i.payload.items i.phase)) (Err c.in-Err.failed))) c.self.view_is
    (told_map _ _ _ _ (not_opened (as_job i.file i.mark i.number i.payload.items i.phase) c.in-Err.failed c.in-Err.failed) c.in-Err.ensures.told)
