use Rattle.std.proofs.Common.{◌≡◌, ◌∙◌, Bool, true, false, ap, sym}
use Rattle.db_restore.specs.Missing.{is_skipped}
use Rattle.db_restore.proofs.Finding.{looked_missing, skipped_missing}
use Rattle.db_restore.proofs.missing.is_missing.Goals as goal

pub returns-then-is_skipped-clause-told : goal.returns-then-is_skipped-clause-told
returns-then-is_skipped-clause-told g c =
    skipped_missing c.args.skipped.now c.args.version.now c.args.copy.now _ (ap (is_skipped c.args.skipped.now) (sym c.as_slice.ensures.value) ∙ sym c.is_skipped.ensures ∙ c.if-is_skipped.true)

pub returns-in-Ok-clause-told : goal.returns-in-Ok-clause-told
returns-in-Ok-clause-told g c =
    looked_missing c.args.skipped.now c.args.version.now c.args.copy.now _ _ c.in-Ok.there c.bytes.result (ap (is_skipped c.args.skipped.now) (sym c.as_slice.ensures.value) ∙ sym c.is_skipped.ensures ∙ c.if-is_skipped.false) c.bytes.ensures.value c.in-Ok.ensures.told
