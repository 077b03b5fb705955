use Rattle.std.proofs.Common.{◌+◌, ◌∙◌, ◌∷◌, [], drop}
use Rattle.std.proofs.lemmas.List.{drop_all}
use Rattle.log_file.proofs.Told.{onward_then}
use Rattle.inventory_effects.proofs.Loops.{split_item}
use Rattle.copy_checks.proofs.Seeing.{looks_failed}
use Rattle.db_restore.specs.Missing.{FindsLost, copies_miss}
use Rattle.db_restore.proofs.Finding.{IsUnderway, look_done, look_more, next_copy, no_copy}
use Rattle.db_restore.proofs.looking.look_for_copies.Goals as goal

pub copies-preserved : goal.copies-preserved
copies-preserved g c =
    let cs = c.args.copies.now in
    let i = c.copies.copy-index in
    let x = c.copy-item.result in
    let w = c.args.version.now in
    let skipped = c.args.skipped.now in
    record {
      told = look_more (λ image. copies_miss image skipped w (x ∷ [])) (λ image. copies_miss image skipped w (drop (i + 1) cs)) (λ image. copies_miss image skipped w (drop i cs)) (λ image. copies_miss image skipped w cs) _ _ _
          c.args.losses.now c.copies.losses c.look_for.new.losses
          (λ image object pool. next_copy image skipped object pool w (drop i cs) x (drop (i + 1) cs) (split_item cs i x c.copies-test.true c.copy-item.is)) c.copies.invariant.told c.in-Ok.ensures.told;
      long = c.look_for.ensures.long ∙ c.copies.invariant.long;
      onward = onward_then _ _ _ _ _ _ c.copies.invariant.onward c.look_for.ensures.onward;
    }

pub returns-in-Err-clause-told : goal.returns-in-Err-clause-told
returns-in-Err-clause-told g c =
    let cs = c.args.copies.now in
    let w = c.args.version.now in
    let skipped = c.args.skipped.now in
    looks_failed (Unit {0}) (Unit {0}) _ _ _ (λ image. IsUnderway (copies_miss image skipped w (drop c.copies.copy-index cs)) (copies_miss image skipped w cs) c.args.losses.now c.copies.losses)
    (λ image done. FindsLost (copies_miss image skipped w (c.copy-item.result ∷ [])) c.copies.losses c.look_for.new.losses) (λ image done. FindsLost (copies_miss image skipped w cs) c.args.losses.now c.look_for.new.losses) c.in-Err.refused c.copies.invariant.told c.in-Err.ensures.told

pub returns-clause-told : goal.returns-clause-told
returns-clause-told g c =
    let cs = c.args.copies.now in
    let w = c.args.version.now in
    let skipped = c.args.skipped.now in
    look_done _ _ (λ image. copies_miss image skipped w (drop c.copies.copy-index cs)) (λ image. copies_miss image skipped w cs) c.args.losses.now c.copies.losses
    (λ image object pool. no_copy image skipped object pool w (drop c.copies.copy-index cs) (drop_all c.copies.copy-index cs c.copies-test.false)) c.copies.invariant.told
