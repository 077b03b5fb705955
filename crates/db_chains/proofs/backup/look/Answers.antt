use Rattle.std.specs.Prelude.{ℕ, Option, Some, None, Result, Ok, Vec}
use Rattle.std.specs.declared.alloc.Global.{Global}
use Rattle.std.proofs.Common.{subst, rules}
use Rattle.store_api.specs.Told.{Told}
use Rattle.store_api.proofs.Runs.{told_map}
use Rattle.db_chains.specs.declared.refused.ChainRefused.{ChainRefused}
use Rattle.db_chains.specs.Looks.{Reads}
use Rattle.db_chains.proofs.Looking.{is_possible, look_none, look_of}
use Rattle.db_chains.proofs.backup.look.Goals as goal

pub returns-in-Ok-None-clause-told : goal.returns-in-Ok-None-clause-told
returns-in-Ok-None-clause-told g c =
    told_map _ _ _ _ (λ old new r. look_none {D = g.row.D.Denot} g.D.Database.meaning c.args.file old new r)
    (subst (λ (found : Option (ℕ × Vec ℕ Global)). Told (g.S.Store.told c.args.store.now) (g.S.Store.told c.read.new.store) (λ h n. let result : Result (Option (ℕ × Vec ℕ Global)) ChainRefused = Ok found in Reads c.args.file result h n)) c.in-Ok-None.field-0-is c.in-Ok-None.ensures.told)

pub returns-in-Ok-Some-clause-told : goal.returns-in-Ok-Some-clause-told
returns-in-Ok-Some-clause-told g c =
    told_map _ _ _ _ (λ old new r. look_of {D = g.row.D.Denot} g.D.Database.meaning c.args.file c.in-Ok-Some.image c.found_of.result old new (is_possible c.args.file (search rules)) c.found_of.ensures.found r)
    (subst (λ (found : Option (ℕ × Vec ℕ Global)). Told (g.S.Store.told c.args.store.now) (g.S.Store.told c.read.new.store) (λ h n. let result : Result (Option (ℕ × Vec ℕ Global)) ChainRefused = Ok found in Reads c.args.file result h n)) c.in-Ok-Some.field-0-is c.in-Ok-Some.ensures.told)
