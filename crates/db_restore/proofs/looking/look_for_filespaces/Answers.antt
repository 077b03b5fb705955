use Rattle.std.proofs.Common.{◌≡◌, ◌∙◌, ◌||◌, ◌∷◌, [], ℕ, Bool, List, ap, subst, sym}
use Rattle.store_api.specs.Told.{Told}
use Rattle.log_file.proofs.Told.{onward_then}
use Rattle.inventory_rows.specs.version_groups.declared.groups.Filespace.{Filespace}
use Rattle.inventory_rows.specs.version_groups.declared.group.Group.{Group}
use Rattle.copy_checks.specs.Looks.{Saw}
use Rattle.copy_checks.proofs.Seeing.{looks_failed}
use Rattle.db_restore.specs.Missing.{FindsLost, filespaces_miss, groups_miss}
use Rattle.db_restore.proofs.Finding.{IsUnderway, look_more}
use Rattle.db_restore.proofs.looking.look_for_filespaces.Goals as goal

pub filespaces-preserved : goal.filespaces-preserved
filespaces-preserved g c =
    let skipped = c.args.skipped.now in
    let x = c.in-Some.filespace.now in
    let rest = c.next.new.self in
    record {
      told = look_more (λ image. groups_miss image skipped c.as_map.result.now.entries) (λ image. filespaces_miss image skipped rest) (λ image. filespaces_miss image skipped ((0, x) ∷ rest)) (λ image. filespaces_miss image skipped c.args.filespaces.now.entries) _ _ _
          c.args.losses.now c.filespaces.losses c.look_for_groups.new.losses
          (λ image object pool. ap (λ (l : List (List ℕ × Group)). groups_miss image skipped l object pool || filespaces_miss image skipped rest object pool) (sym c.as_map.ensures.value))
          (subst (λ (left : List (ℕ × Filespace)). Told (g.S.Store.told c.args.store.now) (g.S.Store.told c.filespaces.store) (Saw (λ image. IsUnderway (filespaces_miss image skipped left) (filespaces_miss image skipped c.args.filespaces.now.entries) c.args.losses.now c.filespaces.losses))) c.in-Some.ensures.steps c.filespaces.invariant.told) c.in-Ok.ensures.told;
      long = c.look_for_groups.ensures.long ∙ c.filespaces.invariant.long;
      onward = onward_then _ _ _ _ _ _ c.filespaces.invariant.onward c.look_for_groups.ensures.onward;
    }

pub returns-in-Err-clause-told : goal.returns-in-Err-clause-told
returns-in-Err-clause-told g c =
    let skipped = c.args.skipped.now in
    let x = c.in-Some.filespace.now in
    let rest = c.next.new.self in
    looks_failed (Unit {0}) (Unit {0}) _ _ _ (λ image. IsUnderway (filespaces_miss image skipped ((0, x) ∷ rest)) (filespaces_miss image skipped c.args.filespaces.now.entries) c.args.losses.now c.filespaces.losses)
    (λ image done. FindsLost (groups_miss image skipped c.as_map.result.now.entries) c.filespaces.losses c.look_for_groups.new.losses) (λ image done. FindsLost (filespaces_miss image skipped c.args.filespaces.now.entries) c.args.losses.now c.look_for_groups.new.losses) c.in-Err.refused
    (subst (λ (left : List (ℕ × Filespace)). Told (g.S.Store.told c.args.store.now) (g.S.Store.told c.filespaces.store) (Saw (λ image. IsUnderway (filespaces_miss image skipped left) (filespaces_miss image skipped c.args.filespaces.now.entries) c.args.losses.now c.filespaces.losses))) c.in-Some.ensures.steps c.filespaces.invariant.told) c.in-Err.ensures.told
