use Rattle.store_api.proofs.Runs.{told_then, told_map}
use Rattle.vault.proofs.Rewriting.{opened_not, opened_same, opened_anew}
use Rattle.vault.proofs.vault.Vault.open.Goals as goal

pub returns-in-Err-clause-told : goal.returns-in-Err-clause-told
returns-in-Err-clause-told g c = told_map _ _ _ _ (λ h n recovered. opened_not g.D.Database.meaning h h n c.in-Err.refused recovered) c.in-Err.ensures.told

pub returns-then-first-clause-told : goal.returns-then-first-clause-told
returns-then-first-clause-told g c =
    told_then (g.S.Store.told c.args.store.now) (g.S.Store.told c.recover.new.store) (g.S.Store.told c.rewrite.new.store) _ _ _
    (λ h k n recovered rewritten. opened_anew g.D.Database.meaning h k n c.in-Ok.found.0 c.in-Ok.found.1 c.if-first.true recovered c.rewrite.result c.rewrite.ensures.same (g.S.Store.faults_of c.recover.new.store) (g.S.Store.faults_of c.rewrite.new.store) (g.S.Store.moment_of c.rewrite.new.store) c.rewrite.ensures.refused rewritten) c.in-Ok.ensures.told c.rewrite.ensures.told

pub returns-clause-told : goal.returns-clause-told
returns-clause-told g c = told_map _ _ _ _ (λ h n recovered. opened_same g.D.Database.meaning h h n c.in-Ok.found.0 c.in-Ok.found.1 c.if-first.false recovered) c.in-Ok.ensures.told
