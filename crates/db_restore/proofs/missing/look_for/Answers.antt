use Rattle.std.proofs.Common.{Bool, Ok}
use Rattle.kinds.specs.declared.refusal.OpenRefused.TheVariants.{Memory}
use Rattle.db_restore.specs.Missing.{FindsLost, copies_miss, is_missing}
use Rattle.db_restore.proofs.Finding.{look_dropped, none_lost, one_lost}
use Rattle.db_restore.proofs.missing.look_for.Goals as goal

pub returns-in-Ok-false-clause-told : goal.returns-in-Ok-false-clause-told
returns-in-Ok-false-clause-told g c = none_lost c.args.skipped.now c.args.version.now c.args.copy.now _ _ c.in-Ok-false.field-0 c.args.losses.now c.in-Ok-false.field-0-test c.in-Ok-false.ensures.told

pub returns-in-Ok-clause-told : goal.returns-in-Ok-clause-told
returns-in-Ok-clause-told g c =
    one_lost c.args.skipped.now c.args.version.now c.args.copy.now _ _ c.in-Ok-true.field-0 c.args.losses.now c.add.new.self c.in-Ok-true.field-0-test c.in-Ok.ensures.lost c.in-Ok-true.ensures.told
