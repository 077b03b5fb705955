-- The databases that a stop may bring back, the copies that are covered because of them, and when the space of tickets is clear of these.
use Rattle.std.specs.Prelude.{◌≡◌, ℕ, ◌+◌, ◌<◌, ◌≤◌, ◌^◌, ◌==◌, ◌&&◌, ◌||◌, Bool, true, false, not, nat_le, is_none, is_some, if◌then◌else◌, List, [], ◌∷◌, ◌++◌, map, filter, take, length, Option, None, Some}
use Rattle.std.specs.List.{AllByRecursion, flat_map, list_all, sum_by}
use Rattle.std.specs.Option.{option_map_or}
use Rattle.kinds.specs.declared.segment.Segment.{Segment}
use Rattle.entries.specs.declared.change.Change.{Change}
use Rattle.entries.specs.declared.change.Change.TheVariants as change
use Rattle.entries.specs.declared.entry.Entry.{Entry}
use Rattle.inventory_rows.specs.version_groups.Entries.{all_later}
use Rattle.inventory_rows.specs.version_groups.declared.versions.Version.{Version}
use Rattle.inventory_rows.specs.volume_rows.declared.volume.Volume.{Volume}
use Rattle.inventory_rows.specs.pool_rows.PoolRows.{is_sequential}
use Rattle.inventory_rows.specs.pool_tables.Rows.{row_at}
use Rattle.inventory_rows.specs.Search.{pool, segments_on, version, versions}
use Rattle.inventory_rows.specs.State.{Inv}
use Rattle.inventory_rules.specs.Backups.{backup_at}
use Rattle.inventory_rules.specs.Segments.{are_clear}
use Rattle.inventory_rules.specs.Transactions.{effect}
use Rattle.inventory_laws.specs.Rising.{is_reuse}
use Rattle.machine.specs.Machine.{durable, left_by}
use Rattle.machine.specs.State.{Core, Purpose, Ticket, after, copying, inventory, is_storing, object_of, storing, unforced}

-- ---- databases

-- the database behind the first so many transactions of the run
abbrev pub inv_at : ℕ → Core → Inv
inv_at count c = after c.base (take count c.journal)

-- a database, and each behind one more of these transactions
abbrev pub databases : Inv → List Entry → List Inv
databases v [] = v ∷ []
databases v (e ∷ entries) = v ∷ databases (effect e.change v) entries

-- Those that a stop may bring back: the durable one, and each behind a transaction that isn't forced yet. In doubt all that was freed stays, and all that was added joins.
abbrev pub left_open : Core → List Inv
left_open c = databases (durable c) (unforced c)

-- the versions whose copies no stop may take away
abbrev pub covered : Core → List Version
covered c = flat_map versions (left_open c)

-- ---- the space of tickets

-- the segment overlaps none of a copy of this database
abbrev pub is_beside : (pool : ℕ) → Segment → Inv → Bool
is_beside pool s v = list_all (λ e. are_clear (is_sequential pool v.stores) s e.1) (segments_on s.file v)

-- What was written on a sequential volume since it was emptied for the last time: up to where, before the run, and which segments in it.
pub record Written : Type 0 where
  pub floor : ℕ
  pub segments : List Segment

-- a volume is written from its start again, whichever it is
abbrev pub is_any_reuse : Change → Bool
is_any_reuse (change.Reuse file) = true
is_any_reuse _ = false

-- the segments that a transaction brought there
abbrev pub came : ℕ → Inv → Inv → List Segment
came file old new = filter (λ s. s.file == file) (left_by new old)

abbrev pub written_over : ℕ → Written → Inv → List Entry → Written
written_over file w v [] = w
written_over file w v (e ∷ entries) =
    (let new = effect e.change v in
    written_over file (if is_reuse file e.change then record { floor = 0; segments = [] } else record { floor = w.floor; segments = w.segments ++ came file v new }) new entries)

abbrev pub written_before : ℕ → Inv → Written
written_before file v = record { floor = option_map_or (λ volume. volume.end) (row_at file v.stores.volumes) 0; segments = [] }

abbrev pub written : ℕ → Core → Written
written file c = written_over file (written_before file c.base) c.base c.journal

-- it lies behind what was there before the run, and overlaps nothing that came since, be that a copy's still or not
abbrev pub is_unwritten : Segment → Written → Bool
is_unwritten s w = nat_le w.floor s.offset && list_all (are_clear true s) w.segments

-- A segment of a ticket is clear: it overlaps no copy of any database that a stop may bring back, and on a sequential volume nothing that was written since that was emptied.
abbrev pub IsClear : (c : Core) → (pool : ℕ) → Segment → Type 0
IsClear c pool s =
    AllByRecursion (λ v. is_beside pool s v ≡ true) (left_open c)
    × (is_sequential pool (inventory c).stores ≡ true → is_unwritten s (written s.file c) ≡ true)

-- the segments of all tickets, each with its ticket
abbrev pub with_segments : Ticket → List (Ticket × Segment)
with_segments t = map (λ s. (t, s)) t.place.segments

abbrev pub all_space : List Ticket → List (Ticket × Segment)
all_space tickets = flat_map with_segments tickets

-- two of them on one volume are of one pool and don't overlap; on a sequential volume they are of one actor
abbrev pub are_apart_in : Inv → Ticket × Segment → Ticket × Segment → Bool
are_apart_in v a b =
    (let sequential = is_sequential a.0.place.pool v.stores in
    not (a.1.file == b.1.file)
    || (a.0.place.pool == b.0.place.pool && (are_clear sequential a.1 b.1 && (not sequential || a.0.actor == b.0.actor))))

-- A ticket took no more bytes than it is for, all of them where it is sealed, and its segments, none of them empty, have room for exactly these. An object has fewer than 2^44 bytes, and a
-- ticket at most 2^23 segments, so that each has a number in its frame, and all their files can be synced within one step.
pub record IsFilled (t : Ticket) : Type 0 where
  pub small : t.size < 2 ^ 44
  pub few : length t.place.segments ≤ 2 ^ 23
  pub within : length t.bytes ≤ t.size
  pub whole : t.is_sealed ≡ true → length t.bytes ≡ t.size
  pub room : sum_by (λ s. s.len) t.place.segments ≡ t.size
  pub some : AllByRecursion (λ s. 0 < s.len) t.place.segments

-- The space of tickets: each segment lies on a volume's file and is clear, no two overlap, and on a sequential volume one actor writes at most.
pub record SpaceIsClear (c : Core) : Type 0 where
  pub filled : AllByRecursion IsFilled c.tickets
  pub clear : AllByRecursion (λ t. AllByRecursion (IsClear c t.place.pool) t.place.segments) c.tickets
  pub apart : all_later (are_apart_in (inventory c)) (all_space c.tickets) ≡ true

-- ---- numbers

-- the second ticket's number is greater
abbrev pub is_later : Ticket → Ticket → Bool
is_later a b = nat_le (a.number + 1) b.number

-- two tickets don't bring the same object
abbrev pub bring_others : Ticket → Ticket → Bool
bring_others a b = not (is_storing a.purpose && (is_storing b.purpose && object_of a.purpose == object_of b.purpose))

-- no database of the run has the object
abbrev pub IsNew : Core → ℕ → Type 0
IsNew c object = (count : ℕ) → version object (inv_at count c) ≡ None

-- the number was drawn in this run, and no database of the run has the object yet
abbrev pub IsDrawn : Core → ℕ → Type 0
IsDrawn c object = (c.base.next_object ≤ object) × (object < c.next_object) × IsNew c object

-- a database of the run had the object
abbrev pub WasThere : Core → ℕ → Type 0
WasThere c object = (count : ℕ) × (is_some (version object (inv_at count c)) ≡ true)

-- the number of a new object was drawn in this run; an object that is copied was there
abbrev pub IsObject : Core → Purpose → Type 0
IsObject c (storing object) = IsDrawn c object
IsObject c (copying object aim) = WasThere c object

-- no database of the run had a volume with this file number
abbrev pub IsNewFile : Core → ℕ → Type 0
IsNewFile c file = (count : ℕ) → row_at file (inv_at count c).stores.volumes ≡ None

-- no database of the run lists the file as a database backup's
abbrev pub NeverBackup : Core → ℕ → Type 0
NeverBackup c file = (count : ℕ) → backup_at file (inv_at count c) ≡ None

-- a ticket's file is a volume's: one that is there, or a scratch volume's with a number that was drawn in this run and that no volume and no database backup has had; and no database backup's
abbrev pub IsVolume : Core → ℕ → Type 0
IsVolume c file =
    (4 ≤ file) × (file < c.next_file) × (backup_at file (inventory c) ≡ None)
    × (is_none (row_at file (inventory c).stores.volumes) ≡ true → (c.base.next_file ≤ file) × IsNewFile c file × NeverBackup c file)

-- a volume that is there is of the pool; one that isn't is a scratch volume that no transaction of the run has made
abbrev pub IsInPool : Core → (pool file : ℕ) → Option Volume → Type 0
IsInPool c pool file None = IsNewFile c file
IsInPool c pool file (Some volume) = volume.pool ≡ pool

abbrev pub LiesIn : Core → (pool file : ℕ) → Type 0
LiesIn c pool file = IsInPool c pool file (row_at file (inventory c).stores.volumes)

-- the file number of a volume that went is given to no other in the run
abbrev pub NoneComesBack : Core → Type 0
NoneComesBack c =
    (file i j k : ℕ) → i ≤ j → j ≤ k → is_some (row_at file (inv_at i c).stores.volumes) ≡ true → row_at file (inv_at j c).stores.volumes ≡ None → row_at file (inv_at k c).stores.volumes ≡ None

-- The numbers that are drawn: those of tickets rise, and those of objects and files are distinct, not below what the base draws next, and below what is drawn next; each is below its bound. The pool of
-- a ticket is there, its volumes are of that pool, and no volume's number is given to another one.
pub record NumbersAreDrawn (c : Core) : Type 0 where
  pub tickets : all_later is_later c.tickets ≡ true
  pub below : AllByRecursion (λ t. t.number < c.next_ticket) c.tickets
  pub objects : AllByRecursion (λ t. IsObject c t.purpose) c.tickets
  pub apart : all_later bring_others c.tickets ≡ true
  pub pools : AllByRecursion (λ t. is_some (pool t.place.pool (inventory c)) ≡ true) c.tickets
  pub files : AllByRecursion (λ t. AllByRecursion (λ s. IsVolume c s.file) t.place.segments) c.tickets
  pub lying : AllByRecursion (λ t. AllByRecursion (λ s. LiesIn c t.place.pool s.file) t.place.segments) c.tickets
  pub none_back : NoneComesBack c
  pub next_file : (c.base.next_file ≤ (inventory c).next_file) × ((inventory c).next_file ≤ c.next_file)
  pub next_object : (c.base.next_object ≤ (inventory c).next_object) × ((inventory c).next_object ≤ c.next_object)
  pub bounds : (c.next_file < 2 ^ 32) × (c.next_object < 2 ^ 62) × (c.next_ticket < 2 ^ 62)
