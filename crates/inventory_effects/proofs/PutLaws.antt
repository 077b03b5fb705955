-- Segments and scratch volumes that came can be undone.
use Rattle.std.proofs.Common.{◌≡◌, ◌+◌, ℕ, Bool, true, false, List, ◌∷◌, Option, Some, None, Result, Ok, refl, sym, ap, ◌∙◌}
use Rattle.std.specs.Prelude.{max}
use Rattle.std.specs.BTreeMap.{is_at}
use Rattle.std.specs.Cmp.{nat_cmp_total, tied_itself}
use Rattle.std.specs.Option.{option_map_or}
use Rattle.std.specs.Ordering.{nat_cmp}
use Rattle.kinds.specs.declared.refusal.Refusal.{Refusal}
use Rattle.kinds.specs.declared.segment.Segment.{Segment}
use Rattle.entries.specs.change_items.declared.items.ScratchVolume.{ScratchVolume}
use Rattle.inventory_rows.specs.volume_rows.declared.held.HeldSegment.{HeldSegment}
use Rattle.inventory_rows.specs.volume_rows.declared.volume.Volume.{Volume}
use Rattle.inventory_rows.specs.volume_rows.Held.{held_of}
use Rattle.inventory_rows.specs.volume_rows.Holdings.{is_held, with_segment}
use Rattle.inventory_rows.specs.volume_rows.Volumes.{put_on}
use Rattle.inventory_rows.proofs.of_volume_rows.Entries.{lookup-inserted, remove_entry-inserted}
use Rattle.inventory_rows.proofs.of_volume_rows.Segments.{held_from_taken, taken-with}
use Rattle.inventory_rows.specs.pool_tables.RowChanges.{put, scratch_volume}
use Rattle.inventory_rows.specs.pool_tables.Rows.{row_at, set_row, with_row, without_row, changed}
use Rattle.inventory_rows.proofs.of_pool_tables.Tables.{lookup-set}
use Rattle.inventory_rows.specs.pool_rows.PoolRows.{PoolRows, is_sequential_at, pool_capacity}
use Rattle.inventory_rows.specs.pool_rows.Segments.{put_segment, undo_segment, with_volumes, end_at, emptied_at, is_there, is_bare_scratch, add_scratch, scratch_added}
use Rattle.inventory_rows.specs.State.{Inv}
use Rattle.inventory_rules.specs.Common.{or_same, with_stores}
use Rattle.inventory_rules.specs.Segments.{make_scratch, put_step}
use Rattle.inventory_effects.specs.Undoing.{KeepsWay}
use Rattle.inventory_effects.specs.declared.undo.Undo.{Undo}
use Rattle.inventory_effects.specs.declared.undo.Undo.TheVariants as undo
use Rattle.inventory_effects.proofs.Ways.{keeps_step, same_Ok}

-- a segment that came on a volume stands there
held_on : (sequential : Bool) (s : HeldSegment) (v : Volume) → is_held s (put_on sequential s v).segments ≡ true
held_on true s v = held_from_taken s (with_segment s v.segments) v.segments (taken-with s v.segments)
held_on false s v = held_from_taken s (with_segment s v.segments) v.segments (taken-with s v.segments)

stands : (object : ℕ) (s : Segment) (old new : PoolRows) → put_segment object s old ≡ Ok new → is_there (held_of object s) (row_at s.file new.volumes) ≡ true
stands object s old new h = go (row_at s.file old.volumes) refl h where
  step : Volume → Result Volume Refusal
  step v = put (is_sequential_at s.file old) (held_of object s) v

  go : (o : Option Volume) → row_at s.file old.volumes ≡ o → with_volumes old (changed s.file (put (is_sequential_at s.file old) (held_of object s)) old.volumes o) ≡ Ok new → is_there (held_of object s) (row_at s.file new.volumes) ≡ true
  go None found made = absurd (cc)
  go (Some v) found made =
      let w : Volume = put_on (is_sequential_at s.file old) (held_of object s) v in
      let is : record old { volumes = set_row s.file w old.volumes } ≡ new = same_Ok (record old { volumes = set_row s.file w old.volumes }) new made in
      ap (λ (n : PoolRows). is_there (held_of object s) (row_at s.file n.volumes)) (sym is)
      ∙ ap (is_there (held_of object s)) (lookup-set (is_at (nat_cmp s.file)) v w old.volumes found)
      ∙ held_on (is_sequential_at s.file old) (held_of object s) v

pub put_goes : (object : ℕ) (s : Segment) (v : Inv) (stores : PoolRows) (end : ℕ) (emptied : Option ℕ) (log more : List Undo)
    → end ≡ end_at s.file v.stores → emptied ≡ emptied_at s.file v.stores
    → (let a : Result (List Undo) Refusal = Ok (undo.Segment object s end emptied ∷ log) in a ≡ Ok more)
    → put_segment object s v.stores ≡ Ok stores → undo_segment object s (end_at s.file v.stores) (emptied_at s.file v.stores) stores ≡ v.stores
    → (with_stores stores v ≡ put_step object s v) × KeepsWay log v more (with_stores stores v)
put_goes object s v stores end emptied log more e d pushed made back = (
  ap (λ (r : Result PoolRows Refusal). with_stores (or_same v.stores r) v) (sym made),
  keeps_step (undo.Segment object s end emptied) log more v (with_stores stores v) pushed (stands object s v.stores stores made)
      (ap (λ (n : ℕ). with_stores (undo_segment object s n emptied stores) v) e ∙ ap (λ (o : Option ℕ). with_stores (undo_segment object s (end_at s.file v.stores) o stores) v) d ∙ ap (λ (p : PoolRows). with_stores p v) back),
)

-- the scratch volume that was made is there, and bare
bare : (pool file capacity : ℕ) (volumes : List (ℕ × Volume)) → row_at file volumes ≡ None → is_bare_scratch (row_at file (with_row file (scratch_volume pool file capacity) volumes)) ≡ true
bare pool file capacity volumes free = ap is_bare_scratch (lookup-inserted nat_cmp (tied_itself nat_cmp_total) volumes file (scratch_volume pool file capacity) free)

pub made_goes : (s : ScratchVolume) (v : Inv) (stores : PoolRows) (next : ℕ) (log more : List Undo)
    → row_at s.file v.stores.volumes ≡ None → next ≡ max v.next_file (s.file + 1)
    → (let a : Result (List Undo) Refusal = Ok (undo.Scratch s.file v.next_file ∷ log) in a ≡ Ok more)
    → add_scratch s.pool s.file v.stores ≡ Ok stores
    → (record v { stores = stores; next_file = next } ≡ make_scratch s v) × KeepsWay log v more (record v { stores = stores; next_file = next })
made_goes s v stores next log more free drawn pushed made = go (pool_capacity s.pool v.stores) refl made where
  go : (o : Option ℕ) → pool_capacity s.pool v.stores ≡ o → scratch_added s.pool s.file v.stores o ≡ Ok stores
      → (record v { stores = stores; next_file = next } ≡ make_scratch s v) × KeepsWay log v more (record v { stores = stores; next_file = next })
  go None found h = absurd (cc)
  go (Some capacity) found h =
      let rows : List (ℕ × Volume) = with_row s.file (scratch_volume s.pool s.file capacity) v.stores.volumes in
      let is : stores ≡ record v.stores { volumes = rows } = sym (same_Ok (record v.stores { volumes = rows }) stores h) in (
        ap (λ (p : PoolRows). record v { stores = p; next_file = next }) is
            ∙ ap (λ (n : ℕ). record v { stores = record v.stores { volumes = rows }; next_file = n }) drawn
            ∙ ap (λ (o : Option ℕ). record v { stores = record v.stores { volumes = with_row s.file (scratch_volume s.pool s.file (option_map_or (λ c. c) o 0)) v.stores.volumes }; next_file = max v.next_file (s.file + 1) }) (sym found),
        keeps_step (undo.Scratch s.file v.next_file) log more v (record v { stores = stores; next_file = next }) pushed
            (ap (λ (p : PoolRows). is_bare_scratch (row_at s.file p.volumes)) is ∙ bare s.pool s.file capacity v.stores.volumes free)
            (ap (λ (p : PoolRows). record v { stores = record p { volumes = without_row s.file p.volumes } }) is
            ∙ ap (λ (l : List (ℕ × Volume)). record v { stores = record v.stores { volumes = l } }) (remove_entry-inserted nat_cmp (tied_itself nat_cmp_total) v.stores.volumes s.file (scratch_volume s.pool s.file capacity) free)),
      )
