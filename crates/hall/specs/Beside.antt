-- What is kept while a ticket's frame is written: all but what that ticket took.
use Rattle.std.specs.Prelude.{◌≡◌, ◌≢◌, ◌≤◌, ℕ, Bool, true, None}
use Rattle.std.specs.List.{AllByRecursion}
use Rattle.store_api.specs.Disk.{History, now}
use Rattle.kinds.specs.declared.segment.Segment.{Segment}
use Rattle.contents.specs.Contents.{HaveAll, InStore}
use Rattle.inventory.specs.Meant.{meaning}
use Rattle.inventory_rows.specs.pool_rows.PoolRows.{is_sequential}
use Rattle.inventory_rules.specs.Segments.{are_clear}
use Rattle.vault.specs.Vaults.{IsHeld, IsLeft}
use Rattle.machine.specs.Machine.{durable}
use Rattle.machine.specs.State.{Core, Machine, inventory}
use Rattle.hall.specs.Covered.{IsVolume, covered, is_beside, left_open}
use Rattle.hall.specs.Good.{AllInProgress, AlwaysSafe, HasTaken, IsSoundWith, RecoversToOne}
use Rattle.hall.specs.Held.{Held}

-- the second segment, where it lies in the same file, doesn't overlap the first
abbrev pub IsApart : (sequential : Bool) → (s r : Segment) → Type 0
IsApart sequential s r = r.file ≡ s.file → are_clear sequential s r ≡ true

-- A segment in a pool, of the ticket with this number, lies on a volume, and overlaps no copy of a database that a stop may bring back and no segment of another ticket.
pub record IsBeside (c : Core) (pool number : ℕ) (s : Segment) : Type 0 where
  pub volume : IsVolume c s.file
  pub copies : AllByRecursion (λ v. is_beside pool s v ≡ true) (left_open c)
  pub others : AllByRecursion (λ t. t.number ≢ number → AllByRecursion (IsApart (is_sequential pool (inventory c).stores) s) t.place.segments) c.tickets

-- All is kept that no stop may take away, and what every other ticket took.
pub record IsKeptBut (number : ℕ) (m : Machine) (held : Held) (h : History) : Type 0 where
  pub since : held.opened ≤ now h
  pub first : IsSoundWith m.contents m.core.base held.opened h
  pub always : AlwaysSafe m.contents m.core held.opened h
  pub left : IsLeft (RecoversToOne m.core) h
  pub sure : m.core.fault ≡ None → IsHeld meaning held.vault (durable m.core) h
  pub firm : HaveAll (InStore h) m.contents (covered m.core)
  pub others : AllByRecursion (λ t. t.number ≢ number → HasTaken held.seats h t) m.core.tickets
  pub image : m.core.fault ≡ None → AllInProgress m.core held m.core.image h
