-- What a transaction that joins makes of what the hall holds.
use Rattle.std.specs.Prelude.{◌≡◌, ◌⊎◌, ℕ, ◌+◌, max, ◌==◌, Bool, true, List, [], ◌∷◌, map, if◌then◌else◌, Option, None, Some}
use Rattle.std.specs.List.{flat_map}
use Rattle.kinds.specs.declared.change.PoolChange.TheVariants as store
use Rattle.kinds.specs.declared.change.Verb.TheVariants as verb
use Rattle.kinds.specs.declared.refusal.Refusal.{Refusal}
use Rattle.kinds.specs.declared.refusal.Refusal.TheVariants as refusal
use Rattle.entries.specs.declared.change.Change.{Change}
use Rattle.entries.specs.declared.change.Change.TheVariants as change
use Rattle.entries.specs.declared.entry.Entry.{Entry}
use Rattle.inventory.specs.Meant.{meaning}
use Rattle.inventory_rows.specs.version_groups.declared.copies.CopyRow.{CopyRow}
use Rattle.inventory_rows.specs.version_groups.declared.versions.Version.{Version}
use Rattle.inventory_rows.specs.Search.{version}
use Rattle.inventory_rows.specs.State.{Inv}
use Rattle.space.specs.declared.places.Placed.{Placed}
use Rattle.space.specs.Claims.{Claims, forgotten, noted}
use Rattle.vault.specs.Vaults.{Doubts, State}
use Rattle.hall.specs.Held.{Held}
use Rattle.hall.specs.Seats.{without_seat}

-- ---- what a change takes away

-- the segments of a copy, each with its pool
abbrev pub placed_of : CopyRow → List Placed
placed_of c = map (λ s. record { pool = c.pool; segment = s }) c.segments

-- a copy goes, where all of its object's go, or that of its pool
abbrev pub goes_from : Option ℕ → CopyRow → Bool
goes_from None c = true
goes_from (Some pool) c = c.pool == pool

-- the space of a copy, where it goes
abbrev pub left_by_copy : Option ℕ → CopyRow → List Placed
left_by_copy from c = if goes_from from c then placed_of c else []

-- the space of those copies of a version that go
abbrev pub left_by_version : Option ℕ → Option Version → List Placed
left_by_version from None = []
left_by_version from (Some w) = flat_map (left_by_copy from) w.copies

-- the space of the copies that a change takes away
abbrev pub taken_by : Change → Inv → List Placed
taken_by (change.Move c) v = flat_map (λ i. left_by_version (Some i.from) (version i.object v)) c.items
taken_by (change.DropCopies c) v = flat_map (λ i. left_by_version (Some i.pool) (version i.object v)) c.items
taken_by (change.Expire c) v = flat_map (λ i. left_by_version None (version i.object v)) c.items
taken_by (change.Discard c) v = flat_map (λ i. left_by_version None (version i.object v)) c.items
taken_by _ v = []

-- ---- what it draws

-- the file number that a change draws
abbrev pub drawn_by : Change → Option ℕ
drawn_by (change.Pool (store.Volume verb.Define name pool file capacity access)) = Some file
drawn_by (change.DbBegin file after) = Some file
drawn_by _ = None

-- the file number that is drawn next
abbrev pub next_behind : Option ℕ → ℕ → ℕ
next_behind None next = next
next_behind (Some file) next = max next (file + 1)

abbrev pub with_drawn : Change → Claims → Claims
with_drawn c s = record s { next_file = next_behind (drawn_by c) s.next_file }

-- ---- what becomes of what is held

-- the tickets with these numbers go, and their space is given back
abbrev pub without_seats : List ℕ → Held → Held
without_seats [] h = h
without_seats (number ∷ numbers) h = without_seats numbers (without_seat number h)

-- what the hall keeps as freed by the next transaction
abbrev pub taken_noted : Change → Held → Claims
taken_noted c h = noted (h.vault.database.number + 1) (taken_by c h.vault.database) h.claims

-- a transaction is in this vault, its tickets are spent, and what it takes away is kept as freed
abbrev pub joined_held : Change → (numbers : List ℕ) → State Inv → Held → Held
joined_held c numbers vault h = without_seats numbers (record h { vault = vault; claims = with_drawn c (taken_noted c h) })

-- it didn't join, and what it would take away isn't kept as freed any more
abbrev pub unjoined : Change → Held → Held
unjoined c h = record h { claims = forgotten (h.vault.database.number + 1) (taken_noted c h) }

-- Why it didn't join, or is in doubt: memory was wanted, and nothing joined; or a call on the log failed, and it is in the vault with all that comes with it.
abbrev pub RefusesJoin : Held → Entry → (numbers : List ℕ) → (before after : ℕ → ℕ) → Refusal → Held → (same : Type 0) → Type 0
RefusesJoin h e numbers before after why next same =
    ((why ≡ refusal.Memory) × ((next ≡ h) ⊎ (next ≡ unjoined e.change h)) × same)
    ⊎ (Doubts meaning h.vault e before after why next.vault × (next ≡ joined_held e.change numbers next.vault h))
