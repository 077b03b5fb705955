use Rattle.std.specs.Prelude.{Option, Some, Result, Ok}
use Rattle.std.proofs.Common.{subst}
use Rattle.store_api.specs.Told.{Told}
use Rattle.store_api.proofs.Runs.{told_map}
use Rattle.db_chains.specs.declared.refused.ChainRefused.{ChainRefused}
use Rattle.db_chains.specs.declared.backup.Found.{Found}
use Rattle.db_chains.specs.Looks.{Looks}
use Rattle.db_chains.proofs.Walking.{step_taken}
use Rattle.db_chains.proofs.back.step_back.Goals as goal

pub returns-in-None-clause-told : goal.returns-in-None-clause-told
returns-in-None-clause-told g c =
    told_map _ _ _ _ (λ old new looks. step_taken {D = g.row.D.Denot} g.D.Database.meaning c.args.at c.args.asked c.args.links.now.items c.take.new.links.items c.in-Ok-Some.found c.take.result old new c.in-None.ensures c.take.ensures looks)
    (subst (λ (found : Option (Found g.row.D.Denot)). Told (g.S.Store.told c.args.store.now) (g.S.Store.told c.look.new.store) (λ h n. let result : Result (Option (Found g.row.D.Denot)) ChainRefused = Ok found in Looks g.D.Database.meaning c.args.at result h n)) c.in-Ok-Some.field-0-is c.in-Ok-Some.ensures.told)
