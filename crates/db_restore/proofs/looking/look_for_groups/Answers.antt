use Rattle.std.proofs.Common.{◌≡◌, ◌∙◌, ◌||◌, ◌∷◌, [], ℕ, Bool, List, ap, subst, sym}
use Rattle.store_api.specs.Told.{Told}
use Rattle.log_file.proofs.Told.{onward_then}
use Rattle.inventory_rows.specs.version_groups.declared.group.Group.{Group}
use Rattle.inventory_rows.specs.version_groups.declared.versions.Version.{Version}
use Rattle.copy_checks.specs.Looks.{Saw}
use Rattle.copy_checks.proofs.Seeing.{looks_failed}
use Rattle.db_restore.specs.Missing.{FindsLost, groups_miss, versions_miss}
use Rattle.db_restore.proofs.Finding.{IsUnderway, look_more}
use Rattle.db_restore.proofs.looking.look_for_groups.Goals as goal

pub groups-preserved : goal.groups-preserved
groups-preserved g c =
    let skipped = c.args.skipped.now in
    let x = c.in-Some.group.now in
    let rest = c.next.new.self in
    record {
      told = look_more (λ image. versions_miss image skipped c.as_slice.result.now) (λ image. groups_miss image skipped rest) (λ image. groups_miss image skipped (([], x) ∷ rest)) (λ image. groups_miss image skipped c.args.groups.now.entries) _ _ _
          c.args.losses.now c.groups.losses c.look_for_versions.new.losses
          (λ image object pool. ap (λ (l : List Version). versions_miss image skipped l object pool || groups_miss image skipped rest object pool) (sym c.as_slice.ensures.value))
          (subst (λ (left : List (List ℕ × Group)). Told (g.S.Store.told c.args.store.now) (g.S.Store.told c.groups.store) (Saw (λ image. IsUnderway (groups_miss image skipped left) (groups_miss image skipped c.args.groups.now.entries) c.args.losses.now c.groups.losses))) c.in-Some.ensures.steps c.groups.invariant.told) c.in-Ok.ensures.told;
      long = c.look_for_versions.ensures.long ∙ c.groups.invariant.long;
      onward = onward_then _ _ _ _ _ _ c.groups.invariant.onward c.look_for_versions.ensures.onward;
    }

pub returns-in-Err-clause-told : goal.returns-in-Err-clause-told
returns-in-Err-clause-told g c =
    let skipped = c.args.skipped.now in
    let x = c.in-Some.group.now in
    let rest = c.next.new.self in
    looks_failed (Unit {0}) (Unit {0}) _ _ _ (λ image. IsUnderway (groups_miss image skipped (([], x) ∷ rest)) (groups_miss image skipped c.args.groups.now.entries) c.args.losses.now c.groups.losses)
    (λ image done. FindsLost (versions_miss image skipped c.as_slice.result.now) c.groups.losses c.look_for_versions.new.losses) (λ image done. FindsLost (groups_miss image skipped c.args.groups.now.entries) c.args.losses.now c.look_for_versions.new.losses) c.in-Err.refused
    (subst (λ (left : List (List ℕ × Group)). Told (g.S.Store.told c.args.store.now) (g.S.Store.told c.groups.store) (Saw (λ image. IsUnderway (groups_miss image skipped left) (groups_miss image skipped c.args.groups.now.entries) c.args.losses.now c.groups.losses))) c.in-Some.ensures.steps c.groups.invariant.told) c.in-Err.ensures.told
