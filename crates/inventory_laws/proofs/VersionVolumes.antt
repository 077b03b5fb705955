-- Segments that come and go, and scratch volumes that are made, touch only volumes.
use Rattle.std.proofs.Common.{ℕ, List, [], ◌∷◌, Result, Ok, Err, refl, ◌∙◌}
use Rattle.kinds.specs.declared.refusal.Refusal.{Refusal}
use Rattle.kinds.specs.declared.segment.Segment.{Segment}
use Rattle.inventory_rules.specs.entries.change_items.declared.items.ScratchVolume.{ScratchVolume}
use Rattle.inventory_rules.specs.inventory_rows.version_groups.declared.copies.CopyRow.{CopyRow}
use Rattle.inventory_rules.specs.inventory_rows.volume_rows.Held.{held_of}
use Rattle.inventory_rules.specs.inventory_rows.volume_rows.declared.volume.Volume.{Volume}
use Rattle.inventory_rules.specs.inventory_rows.pool_tables.RowChanges as row
use Rattle.inventory_rules.specs.inventory_rows.pool_tables.Rows.{change_row}
use Rattle.inventory_rules.specs.inventory_rows.pool_rows.PoolRows.{is_sequential_at}
use Rattle.inventory_rules.specs.inventory_rows.pool_rows.Segments.{with_volumes}
use Rattle.inventory_rules.specs.inventory_rows.State.{Inv}
use Rattle.inventory_rules.specs.Common.{each, or_same, with_stores}
use Rattle.inventory_rules.specs.Segments.{make_scratch, put, take_all, take_away}
use Rattle.inventory_rules.specs.Halfway.{VersionFacts}
use Rattle.inventory_laws.specs.Volumes.{OnlyVolumes}
use Rattle.inventory_laws.proofs.VersionsWhole.{elsewhere}

same : (v : Inv) → OnlyVolumes v v
same v = record { number = refl; today = refl; next_filespace = refl; next_object = refl; clients = refl; pools = refl }

pub then : {a b c : Inv} → OnlyVolumes a b → OnlyVolumes b c → OnlyVolumes a c
then s t = record {
  number = t.number ∙ s.number;
  today = t.today ∙ s.today;
  next_filespace = t.next_filespace ∙ s.next_filespace;
  next_object = t.next_object ∙ s.next_object;
  clients = t.clients ∙ s.clients;
  pools = t.pools ∙ s.pools;
}

one : (v : Inv) (r : Result (List (ℕ × Volume)) Refusal) → OnlyVolumes v (with_stores (or_same v.stores (with_volumes v.stores r)) v)
one v (Ok volumes) = record { number = refl; today = refl; next_filespace = refl; next_object = refl; clients = refl; pools = refl }
one v (Err e) = same v

pub put_only : (object : ℕ) (segments : List Segment) (v : Inv) → OnlyVolumes v (put object segments v)
put_only object [] v = same v
put_only object (s ∷ segments) v = then (one v (change_row s.file (row.put (is_sequential_at s.file v.stores) (held_of object s)) v.stores.volumes)) (put_only object segments (put object (s ∷ []) v))

pub taken_only : (object : ℕ) (segments : List Segment) (v : Inv) → OnlyVolumes v (take_away object segments v)
taken_only object [] v = same v
taken_only object (s ∷ segments) v =
    then (one v (change_row s.file (row.take (is_sequential_at s.file v.stores) (held_of object s) v.today) v.stores.volumes)) (taken_only object segments (take_away object (s ∷ []) v))

pub all_taken_only : (object : ℕ) (copies : List CopyRow) (v : Inv) → OnlyVolumes v (take_all object copies v)
all_taken_only object [] v = same v
all_taken_only object (c ∷ copies) v = then (taken_only object c.segments v) (all_taken_only object copies (take_away object c.segments v))

scratch_only : (s : ScratchVolume) (v : Inv) → OnlyVolumes v (make_scratch s v)
scratch_only s v = record { number = refl; today = refl; next_filespace = refl; next_object = refl; clients = refl; pools = refl }

pub all_scratch_only : (scratch : List ScratchVolume) (v : Inv) → OnlyVolumes v (each make_scratch scratch v)
all_scratch_only [] v = same v
all_scratch_only (s ∷ scratch) v = then (scratch_only s v) (all_scratch_only scratch (make_scratch s v))

pub facts_only : (n : ℕ) (v w : Inv) → OnlyVolumes v w → VersionFacts n v → VersionFacts n w
facts_only n v w o f = elsewhere n v w o.clients o.next_filespace o.next_object o.pools o.today f
