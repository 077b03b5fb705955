-- What a PUT, a GET and a CHECKPOINT come to where one actor has the machine alone: which transactions they make and what they are answered, without any file or log.
use Rattle.std.specs.Prelude.{◌≡◌, ◌⊎◌, ℕ, ◌+◌, ◌^◌, ◌≤◌, nat_lt, true, List, [], ◌∷◌, ◌++◌, length, is_none, Option, None, Some, option_and_then, Result, Ok, Err}
use Rattle.std.specs.List.{find}
use Rattle.sha2.specs.Sha256.{sha256}
use Rattle.kinds.specs.Refusals.{foremost, unless}
use Rattle.kinds.specs.ValueForms.{digest_with}
use Rattle.kinds.specs.declared.change.DefineOrDelete.TheVariants as two
use Rattle.kinds.specs.declared.change.ObjectChange.TheVariants as client
use Rattle.kinds.specs.declared.refusal.Refusal.{Refusal}
use Rattle.kinds.specs.declared.refusal.Refusal.TheVariants.{InventoryFull, NotFound, Unavailable, WriteFault}
use Rattle.choosers.specs.declared.rule.Rule.{Rule}
use Rattle.entries.specs.change_items.declared.items.NewVersion.{NewVersion}
use Rattle.entries.specs.declared.change.Change.{Change}
use Rattle.entries.specs.declared.change.Change.TheVariants as change
use Rattle.entries.specs.declared.entry.Entry.{Entry}
use Rattle.inventory_rows.specs.object_rows.Names.{filespace_named, node_named}
use Rattle.inventory_rows.specs.version_groups.declared.versions.Version.{Version}
use Rattle.inventory_rows.specs.Search.{group, version}
use Rattle.inventory_rows.specs.State.{Inv}
use Rattle.inventory_work.specs.Rules.{rules_of}
use Rattle.inventory_work.specs.declared.lines.Rules.{Rules}
use Rattle.space.specs.declared.aim.Aim.TheVariants as aim
use Rattle.admin_words.specs.declared.files.FileGet.{FileGet}
use Rattle.admin_words.specs.declared.files.FilePut.{FilePut}
use Rattle.script_loop.specs.declared.ends.Halt.{Halt}
use Rattle.machine.specs.Causes.{new_refused}
use Rattle.machine.specs.Changes.{scratch_of, version_from}
use Rattle.machine.specs.Machine.{IsPlaced, Places, can_place_new, has_file, placing_refused, space, storing_contents}
use Rattle.machine.specs.Pieces.{IsUnavailable}
use Rattle.machine.specs.State.{Core, Machine, Place, Ticket, inventory, sight, storing}
use Rattle.command_steps.specs.sessions.Homes.{home_of}
use Rattle.command_steps.specs.sessions.declared.getting.FileRead.{FileRead}
use Rattle.command_steps.specs.sessions.declared.homes.Home.{Home}
use Rattle.command_steps.specs.Answers.{halt_by}
use Rattle.line_results.specs.Resting.{Breaks, Commits, EndsRun, Makes, Onward, RoseFrom, database, entry, why_not}

-- ---- a file that is stored

-- the ticket of the file, once it is sealed: for the object whose number is drawn next, in this place, with the file's bytes
abbrev pub ticket_of : FilePut → Place → Core → Ticket
ticket_of p place c = record {
  number = c.next_ticket;
  actor = 0;
  purpose = storing c.next_object;
  size = length p.text;
  place = place;
  bytes = p.text;
  is_sealed = true;
}

-- the version that the file becomes
abbrev pub item_of : FilePut → (class : List ℕ) → Place → Core → NewVersion
item_of p class place c = version_from (record { path = p.path; class = class; mtime = p.mtime; digest = digest_with (sha256 p.text) }) (ticket_of p place c)

-- the transaction that stores it, with the scratch volumes that its place lies on and that aren't there yet
abbrev pub backed_up : (filespace : ℕ) → FilePut → (class : List ℕ) → Place → Core → Change
backed_up filespace p class place c = change.Backup (record { filespace = filespace; scratch = scratch_of (inventory c) (ticket_of p place c ∷ []); items = item_of p class place c ∷ [] })

-- a filespace is defined, with the next number
abbrev pub filespace_defined : ℕ → List ℕ → Inv → Change
filespace_defined node name v = change.Object (client.Filespace two.Define node name v.next_filespace)

-- Why the file gets no place: the pool isn't there, or is none for new objects; no room, or none that is free, or no file number; or no object or ticket has a further number.
abbrev pub why_no_place : (pool size : ℕ) → Core → Result Place Refusal → Option Refusal
why_no_place pool size c placed =
    foremost (new_refused pool size (sight 0 c)
    ++ (placing_refused (can_place_new pool size (sight 0 c)) placed
    ++ (unless (nat_lt (c.next_object + 1) (2 ^ 62)) InventoryFull
    ++ unless (nat_lt (c.next_ticket + 1) (2 ^ 62)) InventoryFull)))

-- where the file is placed, or why it isn't
abbrev pub IsPlacedIn : Places → (pool size : ℕ) → Core → Result Place Refusal → Type 0
IsPlacedIn places pool size c placed = IsPlaced (can_place_new pool size (sight 0 c)) (places (inventory c) (space c) 0 size (aim.New pool) 0 0) placed

-- the object that is stored has the file's bytes, and every other one those that it had
abbrev pub contents_with : FilePut → Place → Machine → ℕ → List ℕ
contents_with p place m = storing_contents (ticket_of p place m.core ∷ []) m.contents

-- it is the next object
abbrev pub IsNext : Machine → Result ℕ Refusal → Type 0
IsNext m (Ok object) = object ≡ m.core.next_object
IsNext m (Err e) = Unit {0}

-- The bytes of the objects are those with the file, where its transaction was made; else they are what they were.
abbrev pub HasStored : FilePut → Place → (old new : Machine) → (added : List Entry) → Type 0
HasStored p place old new [] = new.contents ≡ old.contents
HasStored p place old new (e ∷ added) = new.contents ≡ contents_with p place old

-- It has a place: it is stored there; or one of the place's volumes couldn't be written, and nothing is committed.
abbrev pub StoresAt : FilePut → (class : List ℕ) → (filespace : ℕ) → Place → (old new : Machine) → Result ℕ Refusal → (added : List Entry) → Type 0
StoresAt p class filespace place old new result added =
    ((file : ℕ) × (result ≡ Err (WriteFault file)) × (has_file file (ticket_of p place old.core) ≡ true) × RoseFrom old new file × (added ≡ []) × (new.contents ≡ old.contents))
    ⊎ (Commits (backed_up filespace p class place old.core) old new result added × IsNext old result × HasStored p place old new added)

-- it has a place, or there is none
abbrev pub StoresBy : Option Refusal → FilePut → (class : List ℕ) → (filespace : ℕ) → Result Place Refusal → (old new : Machine) → Result ℕ Refusal → (added : List Entry) → Type 0
StoresBy (Some e) p class filespace placed old new result added = (result ≡ Err e) × (added ≡ []) × (new.contents ≡ old.contents)
StoresBy None p class filespace (Ok place) old new result added = StoresAt p class filespace place old new result added
StoresBy None p class filespace (Err e) old new result added = ⊥

-- The file is stored in a filespace that is there, under this class, in the pool of its home or one behind it; or the run ended before.
abbrev pub Stores : Places → FilePut → Home → (filespace : ℕ) → (old new : Machine) → Result ℕ Refusal → (added : List Entry) → Type 0
Stores places p home filespace old new result added =
    (Breaks old new result added × (new.contents ≡ old.contents))
    ⊎ ((placed : Result Place Refusal) × IsPlacedIn places home.pool (length p.text) old.core placed
    × StoresBy (why_no_place home.pool (length p.text) old.core placed) p home.class filespace placed old new result added)

-- the filespace couldn't be defined
abbrev pub DefinesNone : Change → (old new : Machine) → Result ℕ Refusal → (added : List Entry) → Type 0
DefinesNone c old new result added = (e : Refusal) × (result ≡ Err e) × Commits {A = Unit {0}} c old new (Err e) added × (new.contents ≡ old.contents)

-- it was defined, in a transaction of its own, and then the file was stored in it
abbrev pub DefinesThenStores : Places → Change → FilePut → Home → (filespace : ℕ) → (old new : Machine) → Result ℕ Refusal → (added : List Entry) → Type 0
DefinesThenStores places c p home filespace old new result added =
    (mid : Machine) × (more : List Entry) × (why_not c old.core ≡ None) × Makes c old mid × Onward mid new × (added ≡ entry c ∷ more) × Stores places p home filespace mid new result more

abbrev pub PutsUnder : Places → Option ℕ → FilePut → Home → (old new : Machine) → Result ℕ Refusal → (added : List Entry) → Type 0
PutsUnder places (Some filespace) p home old new result added = Stores places p home filespace old new result added
PutsUnder places None p home old new result added =
    (let c = filespace_defined home.node p.filespace (database old) in
    DefinesNone c old new result added ⊎ DefinesThenStores places c p home (database old).next_filespace old new result added)

-- the path is bound to a class, whose files a pool takes; or it is left out, or its class has no copy group
abbrev pub PutsHome : Places → FilePut → Result Home Refusal → (old new : Machine) → Result ℕ Refusal → (added : List Entry) → Type 0
PutsHome places p (Err e) old new result added = (result ≡ Err e) × (added ≡ []) × (new.contents ≡ old.contents)
PutsHome places p (Ok home) old new result added = PutsUnder places (filespace_named home.node p.filespace (database old).clients.filespaces) p home old new result added

abbrev pub PutsBy : Places → List Rule → FilePut → (node : ℕ) → Result Rules Refusal → (old new : Machine) → Result ℕ Refusal → (added : List Entry) → Type 0
PutsBy places choice p node (Err e) old new result added = (result ≡ Err e) × (added ≡ []) × (new.contents ≡ old.contents)
PutsBy places choice p node (Ok rules) old new result added = PutsHome places p (home_of node rules choice p.path) old new result added

abbrev pub PutsOf : Places → List Rule → FilePut → Option ℕ → (old new : Machine) → Result ℕ Refusal → (added : List Entry) → Type 0
PutsOf places choice p None old new result added = (result ≡ Err NotFound) × (added ≡ []) × (new.contents ≡ old.contents)
PutsOf places choice p (Some node) old new result added = PutsBy places choice p node (rules_of node (database old)) old new result added

-- A file is put: its node has to be there, and by the include-exclude list its path is bound to a class with a copy group. Or the run ended before.
abbrev pub Puts : Places → List Rule → FilePut → (old new : Machine) → Result ℕ Refusal → (added : List Entry) → Type 0
Puts places choice p old new result added =
    (Breaks old new result added × (new.contents ≡ old.contents))
    ⊎ PutsOf places choice p (node_named p.node (database old).clients.nodes) old new result added

-- ---- a file that is read

-- the first version of a path that isn't inactive: it is the newest one, where only that may be active
abbrev pub active_at : (filespace : ℕ) → List ℕ → Inv → Option Version
active_at filespace path v = option_and_then (λ g. find (λ w. is_none w.since) g.versions) (group filespace path v)

-- The version is read: as many bytes as it has, and where the store is trusted those of its object; or there is a piece of which no copy can be read; or the run ended. What a read is
-- refused with is said of the version that has the object's number, which is this one in every database whose objects are distinct; and where it ends the run, that has its cause.
abbrev pub Shows : (trusted : Type 0) → Version → (old new : Machine) → Result FileRead Refusal → Type 0
Shows trusted w old new (Ok file) =
    (file.object ≡ w.object) × (file.size ≡ w.size) × (length file.bytes ≡ w.size) × (trusted → file.bytes ≡ old.contents w.object)
Shows trusted w old new (Err e) =
    (version w.object (database old) ≡ Some w → ((e ≡ Unavailable) × (offset : ℕ) × (count : ℕ) × IsUnavailable (RoseFrom old new) (database old) 0 offset count w) ⊎ EndsRun old new e)
    × ((how : Halt) → halt_by e ≡ Some how → EndsRun old new e)

abbrev pub ShowsFound : (trusted : Type 0) → Option Version → (old new : Machine) → Result FileRead Refusal → Type 0
ShowsFound trusted None old new result = result ≡ Err NotFound
ShowsFound trusted (Some w) old new result = Shows trusted w old new result

abbrev pub GetsUnder : (trusted : Type 0) → Option ℕ → (path : List ℕ) → (old new : Machine) → Result FileRead Refusal → Type 0
GetsUnder trusted None path old new result = result ≡ Err NotFound
GetsUnder trusted (Some filespace) path old new result = ShowsFound trusted (active_at filespace path (database old)) old new result

abbrev pub GetsOf : (trusted : Type 0) → Option ℕ → FileGet → (old new : Machine) → Result FileRead Refusal → Type 0
GetsOf trusted None g old new result = result ≡ Err NotFound
GetsOf trusted (Some node) g old new result = GetsUnder trusted (filespace_named node g.filespace (database old).clients.filespaces) g.path old new result

-- the run ended before anything was read
abbrev pub GetsNot : (old new : Machine) → Result FileRead Refusal → Type 0
GetsNot old new (Ok file) = ⊥
GetsNot old new (Err e) = EndsRun old new e

-- A file is read: its node, its filespace and an active version of its path have to be there.
abbrev pub Gets : (trusted : Type 0) → FileGet → (old new : Machine) → Result FileRead Refusal → Type 0
Gets trusted g old new result = GetsNot old new result ⊎ GetsOf trusted (node_named g.node (database old).clients.nodes) g old new result

-- ---- a checkpoint

-- A checkpoint is made, by which the newest image has the next generation and its log is empty; there is none behind the last.
abbrev pub Checkpoints : {A : Type 0} → (old new : Machine) → Result A Refusal → Type 0
Checkpoints old new (Ok x) = (new.core.generation ≡ old.core.generation + 1) × (new.core.log_length ≡ 0)
Checkpoints old new (Err e) = ((e ≡ InventoryFull) × (2 ^ 62 ≤ old.core.generation + 1)) ⊎ EndsRun old new e
