use Rattle.std.proofs.Common.{Bool, Result, Err, subst}
use Rattle.store_api.specs.Told.{Told}
use Rattle.store_api.proofs.Runs.{told_then, told_map}
use Rattle.kinds.specs.declared.refusal.OpenRefused.{OpenRefused}
use Rattle.kinds.specs.declared.refusal.OpenRefused.TheVariants.{NotFormatted, Damaged, ReadFault, RunFull, Memory}
use Rattle.vault.specs.Vaults.{State}
use Rattle.vault.specs.Openings.{Recovered}
use Rattle.vault.proofs.Installing.{installed_behind, installed_again, not_formatted, not_damaged, not_read, told_not_read}
use Rattle.vault.proofs.vault.Vault.install.Goals as goal

pub returns-in-Err-clause-told : goal.returns-in-Err-clause-told
returns-in-Err-clause-told g c = told_not_read (g.S.Store.told c.args.store.now) g.D.Database.meaning c.args.database.now _

pub returns-in-Ok-recover-clause-told : goal.returns-in-Ok-recover-clause-told
returns-in-Ok-recover-clause-told g c =
    told_then (g.S.Store.told c.args.store.now) (g.S.Store.told c.recover.new.store) (g.S.Store.told c.put_behind.new.store) _ _ _ (λ h k n opened put. installed_behind g.D.Database.meaning g.met.D.Database.is_meaning c.args.database.now h k n c.in-Ok-recover.vault c.in-Ok-recover.field-0-1 c.put_behind.result opened put) c.in-Ok-recover.ensures.told c.put_behind.ensures.told

pub returns-in-Err-NotFormatted-clause-told : goal.returns-in-Err-NotFormatted-clause-told
returns-in-Err-NotFormatted-clause-told g c =
    let opened = subst (λ (e : OpenRefused). Told (g.S.Store.told c.args.store.now) (g.S.Store.told c.recover.new.store) (λ h n. let r : Result (State g.row.D.Denot × Bool) OpenRefused = Err e in Recovered g.D.Database.meaning r h n)) c.in-Err-NotFormatted.field-0-is c.in-Err-NotFormatted.ensures.told in
    told_then (g.S.Store.told c.args.store.now) (g.S.Store.told c.recover.new.store) (g.S.Store.told c.begin_again.new.store) _ _ _
    (λ h k n opened formatted. installed_again g.D.Database.meaning g.met.D.Database.is_meaning c.args.database.now h k n NotFormatted c.begin_again.result (not_formatted g.D.Database.meaning g.met.D.Database.is_meaning c.args.database.now h k n) opened formatted) opened c.begin_again.ensures.told

pub returns-in-Err-Damaged-clause-told : goal.returns-in-Err-Damaged-clause-told
returns-in-Err-Damaged-clause-told g c =
    let opened = subst (λ (e : OpenRefused). Told (g.S.Store.told c.args.store.now) (g.S.Store.told c.recover.new.store) (λ h n. let r : Result (State g.row.D.Denot × Bool) OpenRefused = Err e in Recovered g.D.Database.meaning r h n)) c.in-Err-Damaged.field-0-is c.in-Err-Damaged.ensures.told in
    told_then (g.S.Store.told c.args.store.now) (g.S.Store.told c.recover.new.store) (g.S.Store.told c.begin_again-in-Err-Damaged.new.store) _ _ _
    (λ h k n opened formatted. installed_again g.D.Database.meaning g.met.D.Database.is_meaning c.args.database.now h k n (Damaged c.in-Err-Damaged.field-0-0 c.in-Err-Damaged.field-0-1) c.begin_again-in-Err-Damaged.result (not_damaged g.D.Database.meaning g.met.D.Database.is_meaning c.args.database.now h k n c.in-Err-Damaged.field-0-0 c.in-Err-Damaged.field-0-1) opened formatted) opened c.begin_again-in-Err-Damaged.ensures.told

pub returns-in-Err-ReadFault-clause-told : goal.returns-in-Err-ReadFault-clause-told
returns-in-Err-ReadFault-clause-told g c = told_map (g.S.Store.told c.args.store.now) (g.S.Store.told c.recover.new.store) _ _ (λ h n opened. not_read g.D.Database.meaning c.args.database.now (ReadFault c.in-Err-ReadFault.file) c.in-Err-ReadFault.field-0 h n opened) c.in-Err-ReadFault.ensures.told

pub returns-in-Err-RunFull-clause-told : goal.returns-in-Err-RunFull-clause-told
returns-in-Err-RunFull-clause-told g c = told_map (g.S.Store.told c.args.store.now) (g.S.Store.told c.recover.new.store) _ _ (λ h n opened. not_read g.D.Database.meaning c.args.database.now RunFull c.in-Err-RunFull.field-0 h n opened) c.in-Err-RunFull.ensures.told

pub returns-in-Err-Memory-clause-told : goal.returns-in-Err-Memory-clause-told
returns-in-Err-Memory-clause-told g c = told_map (g.S.Store.told c.args.store.now) (g.S.Store.told c.recover.new.store) _ _ (λ h n opened. not_read g.D.Database.meaning c.args.database.now Memory c.in-Err-Memory.field-0 h n opened) c.in-Err-Memory.ensures.told
