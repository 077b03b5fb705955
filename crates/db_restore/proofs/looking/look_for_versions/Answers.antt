use Rattle.std.proofs.Common.{◌+◌, ◌∙◌, drop}
use Rattle.std.proofs.lemmas.List.{drop_all}
use Rattle.log_file.proofs.Told.{onward_then}
use Rattle.inventory_effects.proofs.Loops.{split_item}
use Rattle.copy_checks.proofs.Seeing.{looks_failed}
use Rattle.db_restore.specs.Missing.{FindsLost, copies_miss, versions_miss}
use Rattle.db_restore.proofs.Finding.{IsUnderway, look_done, look_more, next_version, no_version}
use Rattle.db_restore.proofs.looking.look_for_versions.Goals as goal

pub versions-preserved : goal.versions-preserved
versions-preserved g c =
    let ws = c.args.versions.now in
    let i = c.versions.version-index in
    let x = c.version-item.result in
    let skipped = c.args.skipped.now in
    record {
      told = look_more (λ image. copies_miss image skipped x c.as_slice.result.now) (λ image. versions_miss image skipped (drop (i + 1) ws)) (λ image. versions_miss image skipped (drop i ws)) (λ image. versions_miss image skipped ws) _ _ _
          c.args.losses.now c.versions.losses c.look_for_copies.new.losses
          (λ image object pool. next_version image skipped object pool (drop i ws) x (drop (i + 1) ws) c.as_slice.result.now (split_item ws i x c.versions-test.true c.version-item.is) c.as_slice.ensures.value) c.versions.invariant.told c.in-Ok.ensures.told;
      long = c.look_for_copies.ensures.long ∙ c.versions.invariant.long;
      onward = onward_then _ _ _ _ _ _ c.versions.invariant.onward c.look_for_copies.ensures.onward;
    }

pub returns-in-Err-clause-told : goal.returns-in-Err-clause-told
returns-in-Err-clause-told g c =
    let ws = c.args.versions.now in
    let skipped = c.args.skipped.now in
    looks_failed (Unit {0}) (Unit {0}) _ _ _ (λ image. IsUnderway (versions_miss image skipped (drop c.versions.version-index ws)) (versions_miss image skipped ws) c.args.losses.now c.versions.losses)
    (λ image done. FindsLost (copies_miss image skipped c.version-item.result c.as_slice.result.now) c.versions.losses c.look_for_copies.new.losses) (λ image done. FindsLost (versions_miss image skipped ws) c.args.losses.now c.look_for_copies.new.losses) c.in-Err.refused c.versions.invariant.told c.in-Err.ensures.told

pub returns-clause-told : goal.returns-clause-told
returns-clause-told g c =
    let ws = c.args.versions.now in
    let skipped = c.args.skipped.now in
    look_done _ _ (λ image. versions_miss image skipped (drop c.versions.version-index ws)) (λ image. versions_miss image skipped ws) c.args.losses.now c.versions.losses
    (λ image object pool. no_version image skipped object pool (drop c.versions.version-index ws) (drop_all c.versions.version-index ws c.versions-test.false)) c.versions.invariant.told
