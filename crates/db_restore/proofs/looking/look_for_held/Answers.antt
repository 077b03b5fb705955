use Rattle.std.proofs.Common.{◌≡◌, ◌∙◌, ◌||◌, ◌∷◌, [], ℕ, Bool, List, ap, subst, sym}
use Rattle.store_api.specs.Told.{Told}
use Rattle.log_file.proofs.Told.{onward_then}
use Rattle.inventory_rows.specs.object_rows.declared.held_object.HeldRow.{HeldRow}
use Rattle.inventory_rows.specs.version_groups.declared.copies.CopyRow.{CopyRow}
use Rattle.copy_checks.specs.Looks.{Saw}
use Rattle.copy_checks.proofs.Seeing.{looks_failed}
use Rattle.db_restore.specs.Missing.{FindsLost, copies_miss, held_miss}
use Rattle.db_restore.proofs.Finding.{IsUnderway, look_more}
use Rattle.db_restore.proofs.looking.look_for_held.Goals as goal

pub held-preserved : goal.held-preserved
held-preserved g c =
    let skipped = c.args.skipped.now in
    let x = c.in-Some.row.now in
    let rest = c.next.new.self in
    record {
      told = look_more (λ image. copies_miss image skipped x.held.version c.as_slice.result.now) (λ image. held_miss image skipped rest) (λ image. held_miss image skipped ((0, x) ∷ rest)) (λ image. held_miss image skipped c.args.held.now.entries) _ _ _
          c.args.losses.now c.held.losses c.look_for_copies.new.losses
          (λ image object pool. ap (λ (l : List CopyRow). copies_miss image skipped x.held.version l object pool || held_miss image skipped rest object pool) (sym c.as_slice.ensures.value))
          (subst (λ (left : List (ℕ × HeldRow)). Told (g.S.Store.told c.args.store.now) (g.S.Store.told c.held.store) (Saw (λ image. IsUnderway (held_miss image skipped left) (held_miss image skipped c.args.held.now.entries) c.args.losses.now c.held.losses))) c.in-Some.ensures.steps c.held.invariant.told) c.in-Ok.ensures.told;
      long = c.look_for_copies.ensures.long ∙ c.held.invariant.long;
      onward = onward_then _ _ _ _ _ _ c.held.invariant.onward c.look_for_copies.ensures.onward;
    }

pub returns-in-Err-clause-told : goal.returns-in-Err-clause-told
returns-in-Err-clause-told g c =
    let skipped = c.args.skipped.now in
    let x = c.in-Some.row.now in
    let rest = c.next.new.self in
    looks_failed (Unit {0}) (Unit {0}) _ _ _ (λ image. IsUnderway (held_miss image skipped ((0, x) ∷ rest)) (held_miss image skipped c.args.held.now.entries) c.args.losses.now c.held.losses)
    (λ image done. FindsLost (copies_miss image skipped x.held.version c.as_slice.result.now) c.held.losses c.look_for_copies.new.losses) (λ image done. FindsLost (held_miss image skipped c.args.held.now.entries) c.args.losses.now c.look_for_copies.new.losses) c.in-Err.refused
    (subst (λ (left : List (ℕ × HeldRow)). Told (g.S.Store.told c.args.store.now) (g.S.Store.told c.held.store) (Saw (λ image. IsUnderway (held_miss image skipped left) (held_miss image skipped c.args.held.now.entries) c.args.losses.now c.held.losses))) c.in-Some.ensures.steps c.held.invariant.told) c.in-Err.ensures.told
