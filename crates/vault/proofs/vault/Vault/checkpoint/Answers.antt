use Rattle.std.proofs.Common.{◌∙◌, Result, Ok, ap, subst}
use Rattle.store_api.proofs.Runs.{told_map, told_then}
use Rattle.kinds.specs.declared.refusal.Refusal.{Refusal}
use Rattle.db_image.specs.declared.phase.Progress.{Progress}
use Rattle.vault.specs.Vaults.{State, at_next, Pieced}
use Rattle.vault.proofs.Stepping.{checkpoint_made, checkpoint_failed, checkpoint_not_begun}
use Rattle.vault.proofs.vault.Vault.checkpoint.Goals as goal

pub returns-in-Err-clause-told : goal.returns-in-Err-clause-told
returns-in-Err-clause-told g c = told_map _ _ _ _ (λ h n begins. checkpoint_not_begun g.D.Database.meaning c.args.self.now c.begin_checkpoint.new.self c.in-Err.refusal c.in-Err.refusal h n begins) c.in-Err.ensures.told

pub returns-in-Ok-take_steps-clause-told : goal.returns-in-Ok-take_steps-clause-told
returns-in-Ok-take_steps-clause-told g c =
    let m = g.D.Database.meaning in
    let begun = c.in-Ok.ensures.ok in
    let is_next = c.in-Ok-take_steps.ensures.ok.1 ∙ ap (λ (v : State g.row.D.Denot). at_next v) begun.1 in
    told_then _ _ _ _ _ _ (λ h k n begins pieced. checkpoint_made m c.args.self.now c.begin_checkpoint.new.self begun.0 begun.1 begun.2 h k n c.in-Ok.field-0 begins tt c.take_steps.new.self is_next
    (subst (λ (p : Progress). let r : Result Progress Refusal = Ok p in Pieced m c.begin_checkpoint.new.self r c.take_steps.new.self k n) c.in-Ok-take_steps.ensures.ok.0 pieced)) c.in-Ok.ensures.told c.in-Ok-take_steps.ensures.told

pub returns-in-Err-take_steps-clause-told : goal.returns-in-Err-take_steps-clause-told
returns-in-Err-take_steps-clause-told g c =
    let begun = c.in-Ok.ensures.ok in
    told_then _ _ _ _ _ _ (λ h k n begins pieced. checkpoint_failed g.D.Database.meaning c.args.self.now c.begin_checkpoint.new.self begun.0 begun.1 begun.2 h k n c.in-Ok.field-0 begins c.in-Err-take_steps.refusal c.take_steps.new.self pieced) c.in-Ok.ensures.told c.in-Err-take_steps.ensures.told
