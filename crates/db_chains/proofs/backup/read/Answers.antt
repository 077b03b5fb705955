use Rattle.store_api.proofs.Runs.{told_map}
use Rattle.kinds.specs.declared.refusal.OpenRefused.{OpenRefused}
use Rattle.std.specs.Prelude.{None}
use Rattle.log_file.proofs.Told.{reads_map}
use Rattle.db_chains.proofs.Looking.{not_settled, not_read, was_read, no_image, image_there}
use Rattle.db_chains.proofs.backup.read.Goals as goal

pub returns-in-Some-clause-told : goal.returns-in-Some-clause-told
returns-in-Some-clause-told g c = told_map _ _ _ _ (λ old new s. not_settled {E = OpenRefused} c.args.file c.in-Err.unread c.in-Some.refused old new c.requires.possible s) c.in-Err.ensures.told

pub returns-in-Ok-read-clause-told : goal.returns-in-Ok-read-clause-told
returns-in-Ok-read-clause-told g c =
    was_read c.args.file c.requires.possible c.in-Ok.field-0 c.in-Ok-read.found _ _ _ c.in-Ok.ensures.told c.in-Ok-read.ensures.looked (reads_map _ c.args.file _ _ (λ bytes has. image_there c.args.file bytes c.in-Ok-read.found has) c.in-Ok-read.ensures.finds)

pub returns-in-Some-lasting-clause-told : goal.returns-in-Some-lasting-clause-told
returns-in-Some-lasting-clause-told g c = not_read c.args.file c.requires.possible c.in-Ok.field-0 c.in-Some-lasting.refused _ _ _ c.in-Ok.ensures.told c.in-Err-read.ensures.looked

pub returns-in-None-lasting-clause-told : goal.returns-in-None-lasting-clause-told
returns-in-None-lasting-clause-told g c =
    was_read c.args.file c.requires.possible c.in-Ok.field-0 None _ _ _ c.in-Ok.ensures.told c.in-Err-read.ensures.looked
    (reads_map _ c.args.file _ _ (λ bytes says. no_image c.args.file (g.S.Store.faults_of c.settle.new.store) (g.S.Store.faults_of c.read.new.store) (g.S.Store.moment_of c.read.new.store) c.in-Err-read.unread bytes c.in-Err-read.ensures.refused c.in-None-lasting.ensures says) c.in-Err-read.ensures.finds)
