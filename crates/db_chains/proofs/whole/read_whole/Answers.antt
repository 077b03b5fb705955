use Rattle.std.specs.Prelude.{Option, Result, Ok}
use Rattle.std.proofs.Common.{subst}
use Rattle.store_api.specs.Told.{Told}
use Rattle.store_api.proofs.Runs.{told_map}
use Rattle.db_chains.specs.declared.refused.ChainRefused.{ChainRefused}
use Rattle.db_chains.specs.declared.backup.Found.{Found}
use Rattle.db_chains.specs.Looks.{Looks}
use Rattle.db_chains.proofs.Holding.{whole_failed, whole_none, whole_read, whole_since}
use Rattle.db_chains.proofs.whole.read_whole.Goals as goal

pub returns-in-Ok-None-clause-told : goal.returns-in-Ok-None-clause-told
returns-in-Ok-None-clause-told g c =
    told_map _ _ _ _ (λ old new l. whole_none {m = g.D.Database.meaning} g.met.D.Database.is_meaning c.args.file old new l)
    (subst (λ (found : Option (Found g.row.D.Denot)). Told (g.S.Store.told c.args.store.now) (g.S.Store.told c.look.new.store) (λ h n. let result : Result (Option (Found g.row.D.Denot)) ChainRefused = Ok found in Looks g.D.Database.meaning c.args.file result h n)) c.in-Ok-None.field-0-is c.in-Ok-None.ensures.told)

pub returns-in-Err-clause-told : goal.returns-in-Err-clause-told
returns-in-Err-clause-told g c = told_map _ _ _ _ (λ old new l. whole_failed {m = g.D.Database.meaning} g.met.D.Database.is_meaning c.args.file c.in-Err.refused old new c.in-Err.ensures.lasting l) c.in-Err.ensures.told

pub returns-in-Some-clause-told : goal.returns-in-Some-clause-told
returns-in-Some-clause-told g c =
    told_map _ _ _ _ (λ old new l. whole_read {m = g.D.Database.meaning} g.met.D.Database.is_meaning c.args.file c.in-Ok-Some.found c.in-Some.database old new c.in-Some.ensures l)
    (subst (λ (found : Option (Found g.row.D.Denot)). Told (g.S.Store.told c.args.store.now) (g.S.Store.told c.look.new.store) (λ h n. let result : Result (Option (Found g.row.D.Denot)) ChainRefused = Ok found in Looks g.D.Database.meaning c.args.file result h n)) c.in-Ok-Some.field-0-is c.in-Ok-Some.ensures.told)

pub returns-in-None-clause-told : goal.returns-in-None-clause-told
returns-in-None-clause-told g c =
    told_map _ _ _ _ (λ old new l. whole_since {m = g.D.Database.meaning} g.met.D.Database.is_meaning c.args.file c.in-Ok-Some.found old new c.in-None.ensures l)
    (subst (λ (found : Option (Found g.row.D.Denot)). Told (g.S.Store.told c.args.store.now) (g.S.Store.told c.look.new.store) (λ h n. let result : Result (Option (Found g.row.D.Denot)) ChainRefused = Ok found in Looks g.D.Database.meaning c.args.file result h n)) c.in-Ok-Some.field-0-is c.in-Ok-Some.ensures.told)
