-- A volume stays where copies are dropped from it, or objects are discarded for it.
use Rattle.std.proofs.Common.{◌≡◌, ℕ, List, [], ◌∷◌, is_some, Option, None, Some, Result, Ok, Err, refl, ◌∙◌}
use Rattle.std.specs.BTreeMap.{is_at}
use Rattle.std.specs.Ordering.{nat_cmp}
use Rattle.kinds.specs.declared.refusal.Refusal.{Refusal}
use Rattle.kinds.specs.declared.segment.Segment.{Segment}
use Rattle.entries.specs.change_items.declared.items.DiscardedVersion.{DiscardedVersion}
use Rattle.entries.specs.change_items.declared.items.DroppedCopy.{DroppedCopy}
use Rattle.entries.specs.change_items.declared.lists.DiscardedVersions.{DiscardedVersions}
use Rattle.entries.specs.change_items.declared.lists.DroppedCopies.{DroppedCopies}
use Rattle.entries.specs.declared.change.Change.TheVariants as change
use Rattle.inventory_rows.specs.version_groups.declared.copies.CopyRow.{CopyRow}
use Rattle.inventory_rows.specs.pool_rows.PoolRows.{PoolRows, is_sequential_at}
use Rattle.inventory_rows.specs.pool_rows.Segments.{with_volumes}
use Rattle.inventory_rows.specs.pool_tables.Rows.{change_row, changed, row_at, row_set}
use Rattle.inventory_rows.specs.volume_rows.Held.{held_of}
use Rattle.inventory_rows.specs.pool_tables.RowChanges as row
use Rattle.inventory_rows.specs.volume_rows.declared.volume.Volume.{Volume}
use Rattle.inventory_rows.specs.State.{Inv}
use Rattle.inventory_rules.specs.Common.{each, or_same}
use Rattle.inventory_rules.specs.Copies.{drop_copy, segments_in, version_at}
use Rattle.inventory_rules.specs.Segments.{take_all, take_away}
use Rattle.inventory_rules.specs.Transactions.{effect}
use Rattle.inventory_rules.specs.Versions.{copies_at, discard}
use Rattle.inventory_work.specs.Copies.{has_volume}
use Rattle.inventory_laws.proofs.RowsKept.{found-set_value}

row-stays : (file number : ℕ) (step : Volume → Result Volume Refusal) (s : PoolRows) → is_some (row_at file (or_same s (with_volumes s (change_row number step s.volumes))).volumes) ≡ is_some (row_at file s.volumes)
row-stays file number step s = there (row_at number s.volumes) where
  made : (r : Result Volume Refusal) → is_some (row_at file (or_same s (with_volumes s (row_set number s.volumes r))).volumes) ≡ is_some (row_at file s.volumes)
  made (Ok x) = found-set_value (is_at (nat_cmp file)) (is_at (nat_cmp number)) s.volumes x
  made (Err e) = refl

  there : (o : Option Volume) → is_some (row_at file (or_same s (with_volumes s (changed number step s.volumes o))).volumes) ≡ is_some (row_at file s.volumes)
  there None = refl
  there (Some x) = made (step x)

away-stays : (file object : ℕ) (segments : List Segment) (v : Inv) → has_volume file (take_away object segments v) ≡ has_volume file v
away-stays file object [] v = refl
away-stays file object (s ∷ segments) v =
    away-stays file object segments (take_away object (s ∷ []) v) ∙ row-stays file s.file (row.take (is_sequential_at s.file v.stores) (held_of object s) v.today) v.stores

all-stays : (file object : ℕ) (copies : List CopyRow) (v : Inv) → has_volume file (take_all object copies v) ≡ has_volume file v
all-stays file object [] v = refl
all-stays file object (c ∷ copies) v = all-stays file object copies (take_away object c.segments v) ∙ away-stays file object c.segments v

drops-stay : (file : ℕ) (items : List DroppedCopy) (v : Inv) → has_volume file (each drop_copy items v) ≡ has_volume file v
drops-stay file [] v = refl
drops-stay file (i ∷ items) v = drops-stay file items (drop_copy i v) ∙ away-stays file i.object (segments_in i.pool (version_at i.object v)) v

discards-stay : (file : ℕ) (items : List DiscardedVersion) (v : Inv) → has_volume file (each discard items v) ≡ has_volume file v
discards-stay file [] v = refl
discards-stay file (i ∷ items) v = discards-stay file items (discard i v) ∙ all-stays file i.object (copies_at i.object v) v

pub dropped-stays : (file : ℕ) (c : DroppedCopies) (v : Inv) → has_volume file (effect (change.DropCopies c) v) ≡ has_volume file v
unfolding effect
dropped-stays file c v = drops-stay file c.items v

pub discarded-stays : (file : ℕ) (c : DiscardedVersions) (v : Inv) → has_volume file (effect (change.Discard c) v) ≡ has_volume file v
unfolding effect
discarded-stays file c v = discards-stay file c.items v
