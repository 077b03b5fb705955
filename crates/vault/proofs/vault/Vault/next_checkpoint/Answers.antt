use Rattle.store_api.proofs.Runs.{told_map, told_then}
use Rattle.vault.proofs.Leading.{told_not_pieced, pieced_behind, pieced_not_forced, goes_behind}
use Rattle.vault.proofs.vault.Vault.next_checkpoint.Goals as goal

pub returns-in-Some-clause-told : goal.returns-in-Some-clause-told
returns-in-Some-clause-told g c = told_not_pieced (g.S.Store.told c.args.store.now) g.D.Database.meaning c.args.self.now _ _

pub returns-in-Ok-clause-told : goal.returns-in-Ok-clause-told
returns-in-Ok-clause-told g c =
    told_then _ _ _ _ _ _ (λ h k n forces pieced. pieced_behind _ g.D.Database.meaning c.args.self.now c.force.new.self c.in-Ok.ensures.ok h k n c.in-Ok.field-0 forces c.close.result c.close.new.self c.close.ensures.ok pieced) c.in-Ok.ensures.told c.close.ensures.told

pub returns-in-Err-clause-told : goal.returns-in-Err-clause-told
returns-in-Err-clause-told g c = told_map _ _ _ _ (λ h n forces. pieced_not_forced g.D.Database.meaning c.args.self.now c.force.new.self h n c.in-Err.refusal forces) c.in-Err.ensures.told

pub returns-in-Ok-clause-ok : goal.returns-in-Ok-clause-ok
returns-in-Ok-clause-ok g c = goes_behind c.args.self.now c.force.new.self c.close.new.self c.in-Ok.ensures.ok c.close.result c.close.ensures.ok
