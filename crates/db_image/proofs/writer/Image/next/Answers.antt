use Rattle.std.proofs.Common.{ap, sym, ◌∙◌}
use Rattle.store_api.proofs.Runs.{told_map}
use Rattle.db_image.specs.Steps.{Job}
use Rattle.db_image.proofs.Opening.{opening_step, starting_step, open_step, stuck_step}
use Rattle.db_image.proofs.writer.Image.next.Goals as goal

pub returns-in-Durable-clause-told : goal.returns-in-Durable-clause-told
returns-in-Durable-clause-told g c = told_map _ _ _ _ (λ old new opening. opening_step c.args.self.now c.open.new.self c.open.result old new (sym (ap (λ (job : Job). job.phase) c.self.view_is) ∙ c.in-Durable.is) opening) c.open.ensures.told

pub returns-in-Begun-clause-told : goal.returns-in-Begun-clause-told
returns-in-Begun-clause-told g c = told_map _ _ _ _ (λ old new started. starting_step c.args.self.now c.start.new.self c.start.result old new (sym (ap (λ (job : Job). job.phase) c.self.view_is) ∙ c.in-Begun.is) started) c.start.ensures.told

pub returns-in-Open-clause-told : goal.returns-in-Open-clause-told
returns-in-Open-clause-told g c = open_step c.args.self.now (g.S.Store.told c.args.store.now) _ (sym (ap (λ (job : Job). job.phase) c.self.view_is) ∙ c.in-Open.is)

pub returns-in-Failed-clause-told : goal.returns-in-Failed-clause-told
returns-in-Failed-clause-told g c = stuck_step c.args.self.now _ (g.S.Store.told c.args.store.now) _ (sym (ap (λ (job : Job). job.phase) c.self.view_is) ∙ c.in-Failed.is)
