use Rattle.store_api.proofs.Runs.{told_map, told_then}
use Rattle.vault.proofs.Committing.{not_committed, is_committed, in_doubt_then, refused_then}
use Rattle.vault.proofs.vault.Vault.commit_forced.Goals as goal

pub returns-in-Ok-force-clause-told : goal.returns-in-Ok-force-clause-told
returns-in-Ok-force-clause-told g c =
    told_then _ _ _ _ _ _ (λ h k n waits forces. is_committed g.D.Database.meaning c.args.self.now c.args.entry c.commit.new.self c.in-Ok.ensures.ok h k n c.in-Ok.number waits c.in-Ok-force.field-0 c.force.new.self forces) c.in-Ok.ensures.told c.in-Ok-force.ensures.told

pub returns-in-Err-force-clause-told : goal.returns-in-Err-force-clause-told
returns-in-Err-force-clause-told g c =
    told_then _ _ _ _ _ _ (λ h k n waits forces. in_doubt_then g.D.Database.meaning c.args.self.now c.args.entry c.commit.new.self c.in-Ok.ensures.ok h k n c.in-Ok.number waits c.in-Err-force.refusal c.force.new.self forces) c.in-Ok.ensures.told c.in-Err-force.ensures.told

pub returns-in-Err-force-clause-err : goal.returns-in-Err-force-clause-err
returns-in-Err-force-clause-err g c =
    refused_then g.D.Database.meaning c.args.self.now c.args.entry c.commit.new.self c.force.new.self c.in-Ok.ensures.ok c.in-Ok.ensures.sure (g.S.Store.faults_of c.args.store.now) (g.S.Store.faults_of c.commit.new.store) (g.S.Store.faults_of c.force.new.store) c.commit.ensures.counts c.in-Err-force.refusal _ _ c.in-Err-force.ensures.err

pub returns-in-Err-clause-told : goal.returns-in-Err-clause-told
returns-in-Err-clause-told g c = told_map _ _ _ _ (λ h n waits. not_committed g.D.Database.meaning c.args.self.now c.args.entry c.in-Err.refusal c.commit.new.self h n waits) c.in-Err.ensures.told
