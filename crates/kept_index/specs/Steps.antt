-- What a transaction makes of the rows of volumes: scratch volumes and segments come, and segments go, one after the other.
use Rattle.std.specs.Prelude.{◌≡◌, ⊤, ℕ, ◌==◌, Bool, true, false, if◌then◌else◌, Option, None, Some, IfSome, List, [], ◌∷◌, map}
use Rattle.std.specs.List.{flat_map}
use Rattle.std.specs.Option.{option_map_or}
use Rattle.kinds.specs.declared.change.PoolChange.{PoolChange}
use Rattle.kinds.specs.declared.change.PoolChange.TheVariants as store
use Rattle.kinds.specs.declared.change.Verb.TheVariants as verb
use Rattle.kinds.specs.declared.segment.Segment.{Segment}
use Rattle.entries.specs.change_items.declared.items.ScratchVolume.{ScratchVolume}
use Rattle.entries.specs.declared.change.Change.{Change}
use Rattle.entries.specs.declared.change.Change.TheVariants as change
use Rattle.inventory_rows.specs.version_groups.declared.copies.CopyRow.{CopyRow}
use Rattle.inventory_rows.specs.version_groups.declared.versions.Version.{Version}
use Rattle.inventory_rows.specs.volume_rows.Held.{held_of}
use Rattle.inventory_rows.specs.volume_rows.Holdings.{is_held}
use Rattle.inventory_rows.specs.Search.{version}
use Rattle.inventory_rows.specs.State.{Inv}
use Rattle.pool_tables.specs.Rows.{row_at, with_row}
use Rattle.pool_tables.specs.RowChanges.{scratch_volume}
use Rattle.pool_rows.specs.PoolRows.{PoolRows, pool_capacity, volume_named}
use Rattle.pool_rows.specs.Segments.{put_segment, take_segment}
use Rattle.inventory_rules.specs.Common.{or_same}
use Rattle.inventory_rules.specs.Held.{IsTied}
use Rattle.inventory_rules.specs.Journal.{no_journal}
use Rattle.inventory_rules.specs.Ordered.{IsOrdered}
use Rattle.inventory_rules.specs.Transactions.{refused}
use Rattle.inventory_rules.specs.Valid.{is_valid}

-- ---- rows

-- a scratch volume is made
abbrev pub scratched : ScratchVolume → PoolRows → PoolRows
scratched x s = record s { volumes = with_row x.file (scratch_volume x.pool x.file (option_map_or (λ c. c) (pool_capacity x.pool s) 0)) s.volumes }

abbrev pub scratches : List ScratchVolume → PoolRows → PoolRows
scratches [] s = s
scratches (x ∷ xs) s = scratches xs (scratched x s)

-- a segment of an object comes on its volume, where that is there
abbrev pub with_put : ℕ × Segment → PoolRows → PoolRows
with_put e s = or_same s (put_segment e.0 e.1 s)

abbrev pub puts : List (ℕ × Segment) → PoolRows → PoolRows
puts [] s = s
puts (e ∷ es) s = puts es (with_put e s)

-- a segment of an object goes from its volume, where it is there
abbrev pub with_take : (today : ℕ) → ℕ × Segment → PoolRows → PoolRows
with_take today e s = or_same s (take_segment e.0 e.1 today s)

abbrev pub takes : (today : ℕ) → List (ℕ × Segment) → PoolRows → PoolRows
takes today [] s = s
takes today (e ∷ es) s = takes today es (with_take today e s)

-- it lies on its volume, or that isn't there
abbrev pub LiesOn : ℕ × Segment → PoolRows → Type 0
LiesOn e s = IfSome (row_at e.1.file s.volumes) (λ v. is_held (held_of e.0 e.1) v.segments ≡ true)

-- so does each of these, when its turn comes
abbrev pub AllLie : (today : ℕ) → List (ℕ × Segment) → PoolRows → Type 0
AllLie today [] s = ⊤
AllLie today (e ∷ es) s = LiesOn e s × AllLie today es (with_take today e s)

-- the segments of an object, each with its number
abbrev pub of_object : ℕ × List Segment → List (ℕ × Segment)
of_object e = map (λ x. (e.0, x)) e.1

-- ---- kinds of changes

-- a change that leaves pools and volumes as they are
abbrev pub is_elsewhere : Change → Bool
is_elsewhere (change.Day day) = true
is_elsewhere (change.Policy c) = true
is_elsewhere (change.Object c) = true
is_elsewhere (change.Rebind c) = true
is_elsewhere (change.Gone c) = true
is_elsewhere (change.DbBegin file after) = true
is_elsewhere (change.DbEnd file) = true
is_elsewhere (change.DbDelete file) = true
is_elsewhere _ = false

-- one that takes segments from their volumes, and does nothing else to pools and volumes
abbrev pub only_takes : Change → Bool
only_takes (change.Expire c) = true
only_takes (change.Discard c) = true
only_takes (change.DropCopies c) = true
only_takes _ = false

-- the volume that a change of the storage names, where it changes one or deletes it
abbrev pub named_in : PoolChange → PoolRows → Option ℕ
named_in (store.Volume verb.Update name pool file capacity access) s = volume_named name s
named_in (store.Volume verb.Delete name pool file capacity access) s = volume_named name s
named_in _ s = None

-- so does a transaction
abbrev pub named_by : Change → PoolRows → Option ℕ
named_by (change.Pool c) s = named_in c s
named_by _ s = None

-- ---- what a transaction takes away

-- a copy goes, where all of its object's go, or that of its pool
abbrev pub goes_from : Option ℕ → CopyRow → Bool
goes_from None c = true
goes_from (Some pool) c = c.pool == pool

-- the segments of those copies of a version that go
abbrev pub left_by : Option ℕ → Option Version → List Segment
left_by from None = []
left_by from (Some w) = flat_map (λ r. if goes_from from r then r.segments else []) w.copies

-- the segments of the copies that a change takes away
abbrev pub gone : Change → Inv → List Segment
gone (change.Move c) v = flat_map (λ i. left_by (Some i.from) (version i.object v)) c.items
gone (change.DropCopies c) v = flat_map (λ i. left_by (Some i.pool) (version i.object v)) c.items
gone (change.Expire c) v = flat_map (λ i. left_by None (version i.object v)) c.items
gone (change.Discard c) v = flat_map (λ i. left_by None (version i.object v)) c.items
gone _ v = []

-- the rules allow the transaction on a valid database that is tied and in order
pub record IsLegalOn (c : Change) (v : Inv) : Type 0 where
  pub valid : is_valid v ≡ true
  pub tied : IsTied v
  pub ordered : IsOrdered v
  pub allowed : refused no_journal c v ≡ None
