use Rattle.std.proofs.Common.{◌≡◌, ◌∙◌, ap}
use Rattle.store_api.proofs.Runs.{told_then, told_map}
use Rattle.db_image.specs.declared.phase.Phase.TheVariants.{Durable}
use Rattle.db_image.specs.Steps.{Job, at_phase}
use Rattle.vault.proofs.Telling.{told_three}
use Rattle.vault.proofs.Replacing.{first_job, begin_is, open_is, not_written, not_created, not_opened, is_opened}
use Rattle.vault.proofs.write.put_generation.Goals as goal

pub returns-in-Err-clause-told : goal.returns-in-Err-clause-told
returns-in-Err-clause-told g c =
    let first : c.begin-image.result ≡ first_job c.args.generation c.args.payload.items = begin_is c.args.generation c.image_file-file.result c.args.payload.items c.begin-image.result c.begin-image.ensures c.image_file-file.ensures.value in
    told_map _ _ _ _ (λ h n wrote. not_written c.args.generation c.args.payload.items c.requires.number c.requires.short c.begin-image.result first c.in-Err.field-0 c.image_file-file.result h n wrote) c.in-Err.ensures.told

pub returns-in-Err-create-clause-told : goal.returns-in-Err-create-clause-told
returns-in-Err-create-clause-told g c =
    let first : c.begin-image.result ≡ first_job c.args.generation c.args.payload.items = begin_is c.args.generation c.image_file-file.result c.args.payload.items c.begin-image.result c.begin-image.ensures c.image_file-file.ensures.value in
    told_then _ _ _ _ _ _ (λ h m n wrote begins. not_created c.args.generation c.args.payload.items c.requires.number c.requires.short c.begin-image.result first h m wrote _ c.log_file.result c.log_file.ensures.value n begins c.log_file-in-Err-create.result) c.in-Ok.ensures.told c.in-Err-create.ensures.told

pub returns-in-Ok-next-clause-told : goal.returns-in-Ok-next-clause-told
returns-in-Ok-next-clause-told g c =
    let first : c.begin-image.result ≡ first_job c.args.generation c.args.payload.items = begin_is c.args.generation c.image_file-file.result c.args.payload.items c.begin-image.result c.begin-image.ensures c.image_file-file.ensures.value in
    let second : c.write_image.new.image ≡ at_phase Durable (first_job c.args.generation c.args.payload.items) = c.in-Ok.ensures.ok ∙ ap (λ (j : Job). at_phase Durable j) first in
    told_three _ _ _ _ _ _ _ _ (λ h m n last wrote begins step.
    is_opened c.args.generation c.args.payload.items c.requires.number c.requires.short c.begin-image.result first h m wrote _ c.log_file.result c.log_file.ensures.value n begins begins.sure c.write_image.new.image c.next.new.self second c.in-Ok-next.field-0 c.in-Ok-create.log last
    (open_is (first_job c.args.generation c.args.payload.items) c.write_image.new.image c.next.new.self second c.in-Ok-next.ensures.ok.1) step) c.in-Ok.ensures.told c.in-Ok-create.ensures.told c.in-Ok-next.ensures.told

pub returns-clause-told : goal.returns-clause-told
returns-clause-told g c =
    let first : c.begin-image.result ≡ first_job c.args.generation c.args.payload.items = begin_is c.args.generation c.image_file-file.result c.args.payload.items c.begin-image.result c.begin-image.ensures c.image_file-file.ensures.value in
    let second : c.write_image.new.image ≡ at_phase Durable (first_job c.args.generation c.args.payload.items) = c.in-Ok.ensures.ok ∙ ap (λ (j : Job). at_phase Durable j) first in
    told_three _ _ _ _ _ _ _ _ (λ h m n last wrote begins step.
    not_opened c.args.generation c.args.payload.items c.requires.number c.requires.short c.begin-image.result first h m wrote _ c.log_file.result c.log_file.ensures.value n begins begins.sure c.write_image.new.image c.next.new.self second c.in-Err-next.field-0 c.image_file-file.result last step) c.in-Ok.ensures.told c.in-Ok-create.ensures.told c.in-Err-next.ensures.told
