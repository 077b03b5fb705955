-- What a history has of a file that was put, and which tickets are left then.
use Rattle.std.specs.Prelude.{◌≡◌, ℕ, ◌+◌, ◌-◌, ◌≤◌, Contains, false, List, [], ◌∷◌, length, Option, Some, IfSome, Result, Ok, Err}
use Rattle.std.specs.List.{slice_get}
use Rattle.sha2.specs.Sha256.{sha256}
use Rattle.kinds.specs.ValueForms.{digest_with}
use Rattle.kinds.specs.declared.refusal.Refusal.{Refusal}
use Rattle.kinds.specs.declared.segment.Digest.{Digest}
use Rattle.choosers.specs.declared.rule.Rule.{Rule}
use Rattle.client_trees.specs.Files.{ClientFile}
use Rattle.client_trees.specs.declared.tree.FileRow.{FileRow}
use Rattle.entries.specs.change_items.declared.items.NewVersion.{NewVersion}
use Rattle.entries.specs.change_items.declared.items.ScratchVolume.{ScratchVolume}
use Rattle.entries.specs.declared.change.Change.TheVariants as change
use Rattle.machine.specs.Fits.{History}
use Rattle.machine.specs.State.{Ticket}
use Rattle.steps.specs.Calls.{Then}
use Rattle.steps.specs.Events.{Event, event}
use Rattle.steps.specs.Events.Deed.{Commit}
use Rattle.steps.specs.Receipts.{receipts}
use Rattle.sessions.specs.Putting.{FindsHome, backed_up, is_lasting}
use Rattle.sessions.specs.declared.homes.Home.{Home}

-- The transaction of the actor that joins the history behind this number makes the file the newest version of its path in this filespace, under this class. Its object has as many bytes in the
-- history as the file was listed with, the version's digest is their SHA-256, and they are the client's, where its tree tells the file.
pub record MakesVersion (w : History) (actor : ℕ) (given : Option ClientFile) (file : FileRow) (filespace : ℕ) (under : List ℕ) (n : ℕ) (sent : Digest) : Type 0 where
  pub since : w.base.number ≤ n
  pub scratch : List ScratchVolume
  pub item : NewVersion
  pub joined : slice_get w.journal (n - w.base.number) ≡ Some (record { actor = actor; change = change.Backup (record { filespace = filespace; scratch = scratch; items = item ∷ [] }) })
  pub path : item.path ≡ file.path
  pub class : item.class ≡ under
  pub size : item.size ≡ file.size
  pub mtime : item.mtime ≡ file.mtime
  pub digest : item.digest ≡ sent
  pub long : length (w.contents item.object) ≡ file.size
  pub hash : sent ≡ digest_with (sha256 (w.contents item.object))
  pub bytes : IfSome given (λ f. w.contents item.object ≡ f.bytes)

-- so does the transaction of one of these steps, which they acknowledge
abbrev pub IsBackedUp : History → (actor : ℕ) → Option ClientFile → FileRow → (filespace : ℕ) → (under : List ℕ) → List Event → Type 0
IsBackedUp w actor given file filespace under events =
    (n : ℕ) × (ticket : ℕ) × (digest : Digest) × MakesVersion w actor given file filespace under n digest
    × Contains (receipts events) (event n (Commit (backed_up filespace file under digest) (ticket ∷ []) (Ok (n + 1))))

-- under the class that its path is bound to, by what was asked first of these steps
abbrev pub IsPut : History → (actor : ℕ) → (node : List ℕ) → List Rule → Option ClientFile → FileRow → List Event → Type 0
IsPut w actor node choice given file events =
    (home : Home) × (filespace : ℕ) × Then (λ xs. FindsHome node choice file.path xs (Ok home)) (λ ys. IsBackedUp w actor given file filespace home.class ys) events

-- no ticket is left, unless the hall is halted or the run is full
abbrev pub LeavesNone : {A : Type 0} → Result A Refusal → List Ticket → Type 0
LeavesNone (Ok x) tickets = tickets ≡ []
LeavesNone (Err e) tickets = is_lasting e ≡ false → tickets ≡ []
