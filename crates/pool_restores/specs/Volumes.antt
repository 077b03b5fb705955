-- What the restoring of a volume did.
use Rattle.std.specs.Prelude.{◌≡◌, ◌⊎◌, ℕ, ◌-◌, ◌==◌, Bool, true, false, List, [], ◌∷◌, if◌then◌else◌, Option, None, Some, Result, Ok, Err}
use Rattle.std.specs.List.{AllByRecursion}
use Rattle.kinds.specs.Refusals.{number_of}
use Rattle.kinds.specs.declared.refusal.Refusal.{Refusal}
use Rattle.kinds.specs.declared.refusal.Refusal.TheVariants as refused
use Rattle.entries.specs.declared.change.Change.{Change}
use Rattle.inventory_answers.specs.declared.lines.VolumeLine.{VolumeLine}
use Rattle.inventory_answers.specs.declared.query.Query.TheVariants as query
use Rattle.inventory_answers.specs.declared.reply.Answer.{Answer}
use Rattle.inventory_answers.specs.declared.reply.Rows.TheVariants as rows
use Rattle.inventory_rows.specs.version_groups.declared.copies.CopyRow.{CopyRow}
use Rattle.inventory_rows.specs.Search.{lies_on}
use Rattle.steps.specs.declared.asked.Asked.{Asked}
use Rattle.steps.specs.declared.asked.Asked.TheVariants as asked
use Rattle.steps.specs.Calls.{Then}
use Rattle.steps.specs.Events.{Deed, Event, has_number}
use Rattle.steps.specs.Events.Deed.{Ask, Commit}
use Rattle.steps.specs.Receipts.{made}
use Rattle.machine.specs.Fits.{Fits, History, Own, inv}
use Rattle.copy_attempts.specs.Outcomes.{Met, MetBy, may_leave}
use Rattle.steps.specs.Spent.{AreSettled}
use Rattle.copy_runs.specs.declared.wanted.Moved.{Moved}
use Rattle.copy_runs.specs.declared.wanted.Wanted.{Wanted}
use Rattle.copy_runs.specs.Ends.{AreAsking, IsStopped, IsUnheld, first_of, last_of}
use Rattle.copy_runs.specs.Processes.{Completes}
use Rattle.copy_runs.specs.Returning.{AreValid, Holds, is_kept}
use Rattle.copy_runs.specs.Runs.{LeavesNone, is_among}
use Rattle.sessions.specs.Changing.{Changes, Changing}
use Rattle.pool_restores.specs.Listing.{AskedVolumes, Collected, IsUncollected, destroying_of}
use Rattle.pool_restores.specs.Restoring.{Counted, IsAimless, IsEnteredSo, IsRestore}

-- ---- the volume

-- the refusal with which it ends where the volume's own transaction was so refused
abbrev pub is_unmade : Refusal → Bool
is_unmade e = has_number (4 ∷ 10 ∷ 12 ∷ 21 ∷ 31 ∷ 40 ∷ 41 ∷ 50 ∷ []) e

abbrev pub unmade : Refusal → Refusal
unmade e = if is_unmade e then e else refused.Memory

-- The volumes were asked for, what this one held was made known as lost, and that durable; then the copies on it were asked for, and these are wanted.
abbrev pub BegunVolume : (file : ℕ) → Change → List Wanted → List Event → Type 0
BegunVolume file c wanted events =
    (volumes : List VolumeLine) × (number : ℕ) × (destroying_of file volumes ≡ Ok c)
    × Then (λ xs. AskedVolumes xs volumes) (λ ys. Then (λ us. Changing c us (Ok number)) (λ vs. Collected None (file ∷ []) [] wanted vs) ys) events

-- by the answer to the question for the volumes there is none with this file number
abbrev pub IsNoVolume : (file : ℕ) → Refusal → Deed → Type 0
IsNoVolume file e d = (answer : Answer) × (lines : List VolumeLine) × (d ≡ Ask (query.Volumes None None) (Ok answer)) × (answer.rows ≡ rows.Volumes lines) × (destroying_of file lines ≡ Err e)

-- the volumes were asked for, and what this one held was made known as lost
abbrev pub Destroyed : (file : ℕ) → Change → List Event → Type 0
Destroyed file c events = (volumes : List VolumeLine) × (number : ℕ) × (destroying_of file volumes ≡ Ok c) × Then (λ xs. AskedVolumes xs volumes) (λ us. Changing c us (Ok number)) events

-- There is no such volume; or it is how one of its own transactions was refused; or it wasn't there any more when its copies were asked for, or a pool to which one was to go.
abbrev pub IsVolumeBarred : (file : ℕ) → List Event → Refusal → Type 0
IsVolumeBarred file events e = MetBy (IsNoVolume file e) events ⊎ ((is_unmade e ≡ true) × Met e events) ⊎ IsUncollected (file ∷ []) events e ⊎ IsAimless events e

-- ---- where it was refused

-- the volumes were asked for, and then the transaction by which what this one held is lost was refused
abbrev pub IsUndestroyed : (file : ℕ) → List Event → Refusal → Type 0
IsUndestroyed file events e =
    (volumes : List VolumeLine) × (c : Change) × (why : Refusal) × (destroying_of file volumes ≡ Ok c) × (e ≡ unmade why)
    × Then (λ xs. AskedVolumes xs volumes) (λ us. Changing c us (Err why)) events

-- Behind that transaction: the question for the copies on the volume was refused, and nothing else was done; or one of its steps stopped it, or found that a pool to which a copy was to go isn't there. It
-- waits for no transaction that a force would make durable.
pub record EndsBehind (file : ℕ) (events : List Event) (e : Refusal) : Type 0 where
  pub cause : IsStopped events e ⊎ (IsUncollected (file ∷ []) events e × AreAsking events) ⊎ IsAimless events e
  pub unheld : IsUnheld events e
  pub only : AllByRecursion (λ x. IsRestore x.deed) events

-- where the volumes were asked for, and nothing else; where its transaction was asked for; or behind that
abbrev pub IsInPlace : (file : ℕ) → List Event → Refusal → Type 0
IsInPlace file events e =
    ((IsStopped events e ⊎ MetBy (IsNoVolume file e) events) × AreAsking events)
    ⊎ IsUndestroyed file events e
    ⊎ ((c : Change) × Then (λ xs. Destroyed file c xs) (λ ys. EndsBehind file ys e) events)

-- ---- the row

-- In every history of valid databases that the events fit: a copy that lies on the volume where it begins isn't there at the last step's number, as the same transaction placed it, or its object is
-- counted as failed.
abbrev pub IsVolumeRestored : (file : ℕ) → (failed : List ℕ) → List Event → Type 0
IsVolumeRestored file failed events =
    (w : History) (actor : ℕ) (a b : Own) → AreValid w → a.tickets ≡ [] → Fits w actor a events b
    → (object : ℕ) (copy : CopyRow) → Holds object copy (inv w (first_of events)) → lies_on file copy ≡ true
    → (is_among object failed ≡ true) ⊎ (is_kept object copy (inv w (last_of events)) ≡ false)

-- ---- the whole

-- it asks or forces, makes an attempt for a move of a copy, or commits that what a volume with this number held is lost
abbrev pub IsVolumeRestore : (file : ℕ) → Deed → Type 0
IsVolumeRestore file d =
    IsRestore d ⊎ ((lines : List VolumeLine) × (c : Change) × (answer : Result ℕ Refusal) × (destroying_of file lines ≡ Ok c) × (d ≡ Commit (asked.Plain c) [] answer))

-- a transaction that joined is that of the volume, or moves one copy
abbrev pub IsEnteredOr : (file : ℕ) → History → (actor : ℕ) → Event → Type 0
IsEnteredOr file w actor e =
    IsEnteredSo w actor e ⊎ ((lines : List VolumeLine) × (c : Change) × (answer : Result ℕ Refusal) × (destroying_of file lines ≡ Ok c) × (e.deed ≡ Commit (asked.Plain c) [] answer))

-- What it did where it answered counts: the volume was there, its own transaction was made, and what it asked for then told it which copies are wanted; one attempt for each of these came behind it; the
-- counts; and the row.
pub record VolumeRestored (file : ℕ) (events : List Event) (m : Moved) : Type 0 where
  pub failed : List ℕ
  pub change : Change
  pub wanted : List Wanted
  pub order : Then (λ xs. BegunVolume file change wanted xs) (λ ys. Completes wanted 0 ys (Ok m)) events
  pub counts : Counted failed events m
  pub row : IsVolumeRestored file failed events

-- What it did where it was refused: for want of memory, or with a refusal that ends a process and that one of its steps met, or that bars it; where that was; and no ticket is left, unless none can be
-- given back.
pub record VolumeStopped (file : ℕ) (events : List Event) (e : Refusal) : Type 0 where
  pub cause : IsStopped events e ⊎ IsVolumeBarred file events e
  pub place : IsInPlace file events e
  pub settled : may_leave (Err e) ≡ false → AreSettled events
  pub none_left : may_leave (Err e) ≡ false → LeavesNone events

abbrev pub VolumeCame : (file : ℕ) → List Event → Result Moved Refusal → Type 0
VolumeCame file events (Ok m) = VolumeRestored file events m
VolumeCame file events (Err e) = VolumeStopped file events e

-- What it did, that its steps were no others, and that each transaction which joined by them is that of the volume, or moves one copy.
pub record VolumeRestore (file : ℕ) (events : List Event) (result : Result Moved Refusal) : Type 0 where
  pub came : VolumeCame file events result
  pub only : AllByRecursion (λ e. IsVolumeRestore file e.deed) events
  pub entries : (w : History) (actor : ℕ) (a b : Own) → a.tickets ≡ [] → Fits w actor a events b → AllByRecursion (IsEnteredOr file w actor) (made events)

-- where it doesn't begin
pub record Unbegun (file : ℕ) (events : List Event) (e : Refusal) : Type 0 where
  pub stopped : VolumeStopped file events e
  pub only : AllByRecursion (λ x. IsVolumeRestore file x.deed) events
  pub entries : (w : History) (actor : ℕ) (a b : Own) → a.tickets ≡ [] → Fits w actor a events b → AllByRecursion (IsEnteredOr file w actor) (made events)

abbrev pub BeginsVolume : (file : ℕ) → List Event → Result (List Wanted) Refusal → Type 0
BeginsVolume file events (Ok wanted) = (c : Change) × BegunVolume file c wanted events
BeginsVolume file events (Err e) = Unbegun file events e

abbrev pub Destroys : (file : ℕ) → List Event → Result (Unit {0}) Refusal → Type 0
Destroys file events (Ok done) = (c : Change) × Destroyed file c events
Destroys file events (Err e) = Unbegun file events e
