use Rattle.store_api.proofs.Runs.{told_then}
use Rattle.vault.proofs.Piecing.{furthered_then}
use Rattle.vault.proofs.checkpoint.advance.Goals as goal

pub returns-in-Ok-clause-told : goal.returns-in-Ok-clause-told
returns-in-Ok-clause-told g c =
    told_then _ _ _ _ _ _ (λ h k n first second. furthered_then c.args.generation c.args.checkpoint.now c.write_piece.new.checkpoint c.begin_log.new.checkpoint h k n c.in-Ok.field-0 first c.begin_log.result second) c.in-Ok.ensures.told c.begin_log.ensures.told
