use Rattle.std.proofs.Common.{◌≡◌, ◌∙◌, ℕ, List, [], ap, subst, sym, true}
use Rattle.std.specs.Prelude.{nat_le}
use Rattle.std.specs.List.{list_all}
use Rattle.std.specs.Map.{keys_of}
use Rattle.inventory_rows.specs.State.{Inv, inv_of}
use Rattle.inventory_rows.specs.object_rows.Rows.{kept_of}
use Rattle.inventory_rows.specs.Search.{versions}
use Rattle.inventory_rows.specs.volume_rows.declared.volume.Volume.{Volume}
use Rattle.db_losses.specs.Losses.{Losses}
use Rattle.db_restore.specs.Missing.{FindsLost, versions_miss}
use Rattle.db_restore.proofs.Facts.{apart, by_pools, possible}
use Rattle.db_restore.proofs.Judging.{judged}
use Rattle.db_restore.proofs.Settling.{judges_on, judges_seen, judges_unseen}
use Rattle.db_restore.proofs.volumes.judge.Goals as goal

pub settle_volumes-requires : goal.settle_volumes-requires
settle_volumes-requires g c = record { possible = subst (λ (l : List (ℕ × Volume)). list_all (λ file. nat_le 4 file) (keys_of l) ≡ true) (sym (c.volumes.ensures.value ∙ ap (λ (v : Inv). v.stores.volumes) c.tables-tables.ensures.value)) (possible c.args.backup.now c.tables-tables.ensures.valid) }

pub returns-in-Ok-look_for_all-clause-told : goal.returns-in-Ok-look_for_all-clause-told
returns-in-Ok-look_for_all-clause-told g c =
    let p = c.args.backup.now in
    let skipped = c.args.skipped.now in
    judges_seen p skipped c.look_for_all.new.losses (λ image done. FindsLost (versions_miss image skipped (kept_of c.tables-tables.result.now.objects)) c.new-losses.result c.look_for_all.new.losses) _ _ _
    (λ image found. judged image skipped c.look_for_all.new.losses p (apart p c.tables-tables.ensures.valid) (by_pools p c.tables-tables.ensures.valid)
    (subst (λ (start : Losses). FindsLost (versions_miss image skipped (versions p)) start c.look_for_all.new.losses) c.new-losses.ensures
    (subst (λ (v : Inv). FindsLost (versions_miss image skipped (versions v)) c.new-losses.result c.look_for_all.new.losses) c.tables-tables.ensures.value found)))
    (judges_on skipped _ _ _ _ _ (c.volumes.ensures.value ∙ ap (λ (v : Inv). v.stores.volumes) c.tables-tables.ensures.value) c.in-Ok-settle_volumes.ensures.told) c.in-Ok-look_for_all.ensures.told

pub returns-clause-told : goal.returns-clause-told
returns-clause-told g c =
    judges_unseen c.args.backup.now c.args.skipped.now _ c.in-Err-look_for_all.refused (λ image done. FindsLost (versions_miss image c.args.skipped.now (kept_of c.tables-tables.result.now.objects)) c.new-losses.result c.look_for_all.new.losses) _ _ _ c.in-Ok-settle_volumes.ensures.told c.in-Err-look_for_all.ensures.told
