use Rattle.std.proofs.Common.{◌≡◌, ◌∙◌, length, ap}
use Rattle.store_api.proofs.Runs.{told_then, told_map}
use Rattle.db_image.specs.declared.phase.Phase.{Phase}
use Rattle.db_image.specs.Steps.{Job, at_phase, further, written_to}
use Rattle.vault.proofs.Writing.{same_at}
use Rattle.vault.proofs.Replacing.{wrote_same, not_wrote}
use Rattle.vault.proofs.write.write_image.Goals as goal

pub returns-in-Ok-clause-told : goal.returns-in-Ok-clause-told
returns-in-Ok-clause-told g c =
    let job = c.args.image.now in
    let mid = c.next.new.self in
    let is : mid ≡ at_phase (further job.phase (length job.payload)) job = c.in-Ok.ensures.ok.1 in
    let phases : mid.phase ≡ further job.phase (length job.payload) = ap (λ (j : Job). j.phase) is in
    let phase : mid.phase ≡ written_to 65536 (length job.payload) = phases ∙ ap (λ (p : Phase). further p (length job.payload)) c.requires.begun in
    let same : mid ≡ at_phase mid.phase job = same_at job mid (further job.phase (length job.payload)) is in
    told_then _ _ _ _ _ _ (λ h m n step went. wrote_same job mid c.write_rest.new.image c.requires.begun (ap (λ (j : Job). j.file) is) phase c.in-Ok.field-0 c.write_rest.result h m n c.write_rest.ensures.ok same step went) c.in-Ok.ensures.told c.write_rest.ensures.told

pub returns-in-Err-clause-told : goal.returns-in-Err-clause-told
returns-in-Err-clause-told g c = told_map _ _ _ _ (λ h n step. not_wrote c.args.image.now c.next.new.self c.in-Err.failed c.in-Err.failed h n c.requires.begun step) c.in-Err.ensures.told
