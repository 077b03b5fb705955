use Rattle.std.specs.Prelude.{Result, Ok}
use Rattle.std.proofs.Common.{subst}
use Rattle.store_api.specs.Told.{Told}
use Rattle.store_api.proofs.Runs.{told_then}
use Rattle.log_file.proofs.Told.{onward_then}
use Rattle.db_chains.specs.declared.refused.ChainRefused.{ChainRefused}
use Rattle.db_chains.specs.declared.back.Step.{Step}
use Rattle.db_chains.specs.Walks.{StepsBack}
use Rattle.db_chains.proofs.Walking.{back_more, back_done, back_failed}
use Rattle.db_chains.proofs.back.go_back.Goals as goal

pub returns-in-Ok-Base-clause-told : goal.returns-in-Ok-Base-clause-told
returns-in-Ok-Base-clause-told g c =
    told_then _ _ _ _ _ _ (λ h k n on step. back_done {m = g.D.Database.meaning} g.met.D.Database.is_meaning c.args.file c.files.links.items c.step_back.new.links.items c.files.at c.files.asked c.in-Ok-Base.database h k n on step) c.files.invariant.told
    (subst (λ (step : Step g.row.D.Denot). Told (g.S.Store.told c.files.store) (g.S.Store.told c.step_back.new.store) (λ h n. let result : Result (Step g.row.D.Denot) ChainRefused = Ok step in StepsBack g.D.Database.meaning c.files.at c.files.asked c.files.links.items c.step_back.new.links.items result h n)) c.in-Ok-Base.field-0-is c.in-Ok-Base.ensures.told)

pub files-preserved : goal.files-preserved
files-preserved g c =
    record {
      told = told_then _ _ _ _ _ _ (λ h k n on step. back_more {m = g.D.Database.meaning} g.met.D.Database.is_meaning c.args.file c.files.links.items c.step_back.new.links.items c.files.at c.in-Ok-Back.after c.in-Ok-Back.number c.files.asked h k n on step) c.files.invariant.told
          (subst (λ (step : Step g.row.D.Denot). Told (g.S.Store.told c.files.store) (g.S.Store.told c.step_back.new.store) (λ h n. let result : Result (Step g.row.D.Denot) ChainRefused = Ok step in StepsBack g.D.Database.meaning c.files.at c.files.asked c.files.links.items c.step_back.new.links.items result h n)) c.in-Ok-Back.field-0-is c.in-Ok-Back.ensures.told);
      onward = onward_then _ _ _ _ _ _ c.files.invariant.onward c.step_back.ensures.onward;
    }

pub returns-in-Err-clause-told : goal.returns-in-Err-clause-told
returns-in-Err-clause-told g c =
    told_then _ _ _ _ _ _ (λ h k n on step. back_failed {m = g.D.Database.meaning} g.met.D.Database.is_meaning c.args.file c.files.links.items c.step_back.new.links.items c.files.at c.files.asked c.in-Err.refused h k n on step) c.files.invariant.told c.in-Err.ensures.told
