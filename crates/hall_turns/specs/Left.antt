-- What a hall leaves in its store: what images give back of it while it is at rest, what the next one may be opened over, and what a stop leaves.
use Rattle.std.specs.Prelude.{◌≡◌, ◌≤◌, ℕ, List, length}
use Rattle.store_api.specs.Disk.{History, now, reads, settled, standing}
use Rattle.fields.specs.Editions.{second_form}
use Rattle.contents.specs.Contents.{Holds}
use Rattle.inventory.specs.Meant.{meaning}
use Rattle.log_file.specs.Blocks.{blocks}
use Rattle.log_file.specs.Safety.{acknowledged}
use Rattle.vault.specs.Recovery.{Recovers, RecoversWithin, records_of}
use Rattle.machine.specs.State.{Machine, inventory}
use Rattle.hall.specs.Covered.{inv_at}
use Rattle.hall.specs.Opening.{IsSound}

-- An image of the files gives back a state of the machine: it recovers to its database, by a newest image of its generation in the form that is written and a log that ends where the state says,
-- and it holds every copy of every object of that database, with the object's bytes.
pub record GivesState (m : Machine) (image : ℕ → List ℕ) : Type 0 where
  pub recovers : RecoversWithin meaning image (inventory m.core)
  pub written : recovers.form ≡ second_form
  pub by_image : recovers.generation ≡ m.core.generation
  pub log : length (blocks (records_of recovers.entries)) ≡ m.core.log_length
  pub holds : Holds m.contents image (inventory m.core)

-- The store has what the machine made up to one of its transactions, and at least so many: it recovers to the database behind that one, and a hall may be opened over it, as it is sound with the bytes of
-- the machine's objects.
pub record HasFirst (m : Machine) (count : ℕ) (h : History) : Type 0 where
  pub last : ℕ
  pub durable : count ≤ last
  pub made : last ≤ length m.core.journal
  pub recovers : Recovers meaning (reads h) (inv_at last m.core)
  pub sound : IsSound m.contents h

-- the store has each transaction that has a stamp by now
abbrev pub LeavesSound : Machine → History → Type 0
LeavesSound m h = HasFirst m (acknowledged (now h) m.core.stamps) h

-- all of each file is on the disk, as behind a stop
abbrev pub IsOnDisk : History → Type 0
IsOnDisk h = (file : ℕ) → standing h file ≡ settled (reads h file)
