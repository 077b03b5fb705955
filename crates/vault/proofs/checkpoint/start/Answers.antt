use Rattle.std.proofs.Common.{◌≡◌, ◌∙◌, length, ap}
use Rattle.store_api.proofs.Runs.{told_map, told_then}
use Rattle.db_image.specs.declared.phase.Phase.TheVariants.{Begun}
use Rattle.db_image.specs.Steps.{Job, at_phase, further, written_to}
use Rattle.vault.specs.Pieces.{job_of}
use Rattle.vault.proofs.Replacing.{begin_is}
use Rattle.vault.proofs.Piecing.{not_started, started, started_not}
use Rattle.vault.proofs.checkpoint.start.Goals as goal

pub returns-in-Err-clause-told : goal.returns-in-Err-clause-told
returns-in-Err-clause-told g c =
    let is_job : c.begin-image.result ≡ job_of c.args.generation c.args.payload.items Begun = begin_is c.args.generation c.image_file-file.result c.args.payload.items c.begin-image.result c.begin-image.ensures c.image_file-file.ensures.value in
    told_map _ _ _ _ (λ h n step. not_started c.args.generation c.args.payload.items c.args.made c.requires.number c.requires.short c.begin-image.result c.next.new.self is_job c.in-Err.field-0 c.image_file-file.result h n step) c.in-Err.ensures.told

pub returns-in-Ok-begin_log-clause-told : goal.returns-in-Ok-begin_log-clause-told
returns-in-Ok-begin_log-clause-told g c =
    let is_job : c.begin-image.result ≡ job_of c.args.generation c.args.payload.items Begun = begin_is c.args.generation c.image_file-file.result c.args.payload.items c.begin-image.result c.begin-image.ensures c.image_file-file.ensures.value in
    let is_first : c.next.new.self ≡ at_phase (written_to 65536 (length c.args.payload.items)) c.begin-image.result = c.in-Ok.ensures.ok.1 ∙ ap (λ (j : Job). at_phase (further j.phase (length j.payload)) c.begin-image.result) is_job in
    told_then _ _ _ _ _ _ (λ h k n step further. started c.args.generation c.args.payload.items c.args.made c.requires.number c.requires.short c.begin-image.result c.next.new.self is_job h k n c.in-Ok.field-0 step is_first c.begin_log.new.checkpoint c.in-Ok-begin_log.field-0 further) c.in-Ok.ensures.told c.in-Ok-begin_log.ensures.told

pub returns-in-Err-begin_log-clause-told : goal.returns-in-Err-begin_log-clause-told
returns-in-Err-begin_log-clause-told g c =
    let is_job : c.begin-image.result ≡ job_of c.args.generation c.args.payload.items Begun = begin_is c.args.generation c.image_file-file.result c.args.payload.items c.begin-image.result c.begin-image.ensures c.image_file-file.ensures.value in
    let is_first : c.next.new.self ≡ at_phase (written_to 65536 (length c.args.payload.items)) c.begin-image.result = c.in-Ok.ensures.ok.1 ∙ ap (λ (j : Job). at_phase (further j.phase (length j.payload)) c.begin-image.result) is_job in
    told_then _ _ _ _ _ _ (λ h k n step further. started_not c.args.generation c.args.payload.items c.args.made c.requires.number c.requires.short c.begin-image.result c.next.new.self is_job h k n c.in-Ok.field-0 step is_first c.begin_log.new.checkpoint c.in-Err-begin_log.file c.in-Err-begin_log.file further) c.in-Ok.ensures.told c.in-Err-begin_log.ensures.told
