use Rattle.std.proofs.Common.{ℕ}
use Rattle.store_api.proofs.Runs.{told_map, told_then}
use Rattle.vault.proofs.Leading.{told_not_begun, begins_not_forced, begins_after}
use Rattle.vault.proofs.vault.Vault.begin_checkpoint.Goals as goal

pub returns-in-Some-clause-told : goal.returns-in-Some-clause-told
returns-in-Some-clause-told g c = told_not_begun (ℕ × ℕ) (g.S.Store.told c.args.store.now) g.D.Database.meaning c.args.self.now _ _

pub returns-in-Err-clause-told : goal.returns-in-Err-clause-told
returns-in-Err-clause-told g c = told_not_begun (ℕ × ℕ) (g.S.Store.told c.args.store.now) g.D.Database.meaning c.args.self.now c.args.self.now _

pub returns-in-Ok-force-clause-told : goal.returns-in-Ok-force-clause-told
returns-in-Ok-force-clause-told g c =
    told_then _ _ _ _ _ _ (λ h k n forces started. begins_after g.D.Database.meaning c.args.self.now c.force.new.self c.in-Ok-force.ensures.ok h k n c.in-Ok-force.field-0 forces c.start_image.result c.start_image.new.self started) c.in-Ok-force.ensures.told c.start_image.ensures.told

pub returns-in-Err-force-clause-told : goal.returns-in-Err-force-clause-told
returns-in-Err-force-clause-told g c = told_map _ _ _ _ (λ h n forces. begins_not_forced g.D.Database.meaning c.args.self.now c.force.new.self c.in-Err-force.refusal h n forces) c.in-Err-force.ensures.told
