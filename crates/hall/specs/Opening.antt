-- Over which stores a hall may be opened, how it begins, and what opening takes from a store: nothing.
use Rattle.std.specs.Prelude.{◌≡◌, ℕ, List, [], Option, None, IfSome, Result, Ok, Err}
use Rattle.store_api.specs.Disk.{History, reads, now, ImageAt}
use Rattle.store_api.specs.Runs.{EachImage}
use Rattle.kinds.specs.declared.refusal.OpenRefused.{OpenRefused}
use Rattle.contents.specs.Contents.{Holds}
use Rattle.inventory.specs.Meant.{meaning}
use Rattle.inventory_rows.specs.State.{Inv}
use Rattle.vault.specs.Openings.{IsNew, Opened, MayRefuseOpening}
use Rattle.vault.specs.Recovery.{Recovers, RecoversWithin}
use Rattle.vault.specs.Vaults.{State}
use Rattle.space.specs.Claims.{unclaimed}
use Rattle.machine.specs.State.{Machine}
use Rattle.hall.specs.Good.{Is, IsSoundWith}
use Rattle.hall.specs.Held.{Hall, Held}

-- an image recovers to a database whose copies it holds
abbrev pub GivesBack : (contents image : ℕ → List ℕ) → Inv → Type 0
GivesBack contents image v = RecoversWithin meaning image v × Holds contents image v

-- The store is sound, its objects having these contents. Each image that a stop right now may leave recovers to a database, with a log that ends within its file, and holds every copy of
-- every object of it; and of that to which the files as they read recover each such image holds them too.
pub record IsSound (contents : ℕ → List ℕ) (h : History) : Type 0 where
  pub each : (image : ℕ → List ℕ) → ImageAt h (now h) image → (v : Inv) × GivesBack contents image v
  pub read : (v : Inv) → Recovers meaning (reads h) v → (image : ℕ → List ℕ) → ImageAt h (now h) image → Holds contents image v

-- A hall begins at this moment: with the database of its vault, no transaction, no ticket and no image; the numbers that are drawn next are that database's, and the first ticket's is 1.
pub record IsNewHall (moment : ℕ) (held : Held) : Type 0 where
  pub vault : IsNew held.vault
  pub base : held.base ≡ held.vault.database
  pub opened : held.opened ≡ moment
  pub stamps : held.stamps ≡ []
  pub seats : held.seats ≡ []
  pub claims : held.claims ≡ unclaimed held.base.next_file
  pub next_object : held.next_object ≡ held.base.next_object
  pub next_ticket : held.next_ticket ≡ 1
  pub image : held.image ≡ None
  pub job : held.job ≡ None

-- what opening found, as its vault
abbrev pub vault_of : {S T : Type 0} → Result (Hall S) (T × OpenRefused) → Result (State Inv) OpenRefused
vault_of (Ok hall) = Ok hall.held.vault
vault_of (Err e) = Err e.1

-- the store afterwards
abbrev pub store_of : {S : Type 0} → Result (Hall S) (S × OpenRefused) → S
store_of (Ok hall) = hall.store
store_of (Err e) = e.0

-- over a sound store, each image that a stop might leave while it is opened gives back a database that one gave back before
abbrev pub GaveBack : (contents : ℕ → List ℕ) → History → (ℕ → List ℕ) → Type 0
GaveBack contents before image = (v : Inv) × (start : ℕ → List ℕ) × ImageAt before (now before) start × GivesBack contents start v × GivesBack contents image v

-- What opening did to the files: what a vault's opening does, and over a sound store each image since gives back a database that one gave back before; once it is opened, each image gives back
-- the hall's base.
pub record OpensFiles (result : Result (State Inv) OpenRefused) (before after : History) : Type 0 where
  pub vault : Opened meaning result before after
  pub since : (contents : ℕ → List ℕ) → IsSound contents before → EachImage (now before) after (GaveBack contents before)

-- over a sound store the hall is in a state of the machine in which the objects have the store's contents
abbrev pub IsWith : {S : Type 0} → (told : S → Option History) → (moment : S → ℕ) → (faults : S → ℕ → ℕ) → (contents : ℕ → List ℕ) → Hall S → Type 0
IsWith told moment faults contents hall =
    (m : Machine) × (m.contents ≡ contents) × Is told moment faults hall m × IfSome (told hall.store) (IsSoundWith contents hall.held.base hall.held.opened)

-- A hall was opened, and is a new one; or it wasn't, and why.
abbrev pub Opens : {S : Type 0} → (told : S → Option History) → (moment : S → ℕ) → (faults : S → ℕ → ℕ) → S → Result (Hall S) (S × OpenRefused) → Type 0
Opens told moment faults store (Ok hall) =
    IsNewHall (moment hall.store) hall.held
    × ((m : Machine) × Is told moment faults hall m)
    × IfSome (told store) (λ h. (contents : ℕ → List ℕ) → IsSound contents h → IsWith told moment faults contents hall)
Opens told moment faults store (Err e) = MayRefuseOpening (faults store) (faults e.0) (moment e.0) e.1
