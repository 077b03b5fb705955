-- How a database backup is made: it is begun, written to its end, and made durable; where its file can't be written it is taken off the list again.
use Rattle.std.specs.Prelude.{◌≡◌, ◌⊎◌, ℕ, ◌-◌, ◌^◌, ◌==◌, Bool, false, if◌then◌else◌, List, [], ◌∷◌, length, Option, None, Some, Result, Ok, Err}
use Rattle.kinds.specs.Refusals.{number_of}
use Rattle.kinds.specs.declared.refusal.Refusal.{Refusal}
use Rattle.kinds.specs.declared.refusal.Refusal.TheVariants as refused
use Rattle.entries.specs.declared.change.Change.TheVariants.{DbDelete}
use Rattle.copy_attempts.specs.Attempts.{stopping}
use Rattle.sessions.specs.Changing.{Changing}
use Rattle.sessions.specs.Checkpoints.{AreMore}
use Rattle.sessions.specs.Waiting.{Obtains}
use Rattle.steps.specs.declared.asked.Asked.TheVariants.{Plain}
use Rattle.steps.specs.declared.image.ImageKind.{ImageKind}
use Rattle.steps.specs.declared.image.ImageKind.TheVariants as image
use Rattle.steps.specs.declared.image.ImageReply.{ImageReply}
use Rattle.steps.specs.declared.image.ImageReply.TheVariants as reply
use Rattle.steps.specs.Calls.{Made, Then}
use Rattle.steps.specs.Events.{Deed, Event, has_number}
use Rattle.steps.specs.Events.Deed.{Commit, Force, Image}
use Rattle.db_backup.specs.declared.taking.Taken.{Taken}

-- ---- what is backed up

-- the whole database, or what came behind the backup in a file
abbrev pub kind_of : (after : Option ℕ) → ImageKind
kind_of None = image.Backup
kind_of (Some file) = image.Since file

-- ---- refusals

-- What a backup may be refused with: another image is being written, its file can't be written, a bound of the database's, a halted hall, a full run, want of memory.
abbrev pub whole_numbers : List ℕ
whole_numbers = 21 ∷ 25 ∷ 31 ∷ 40 ∷ 41 ∷ 50 ∷ []

-- and one that follows another also where that one isn't a whole one of this run
abbrev pub since_numbers : List ℕ
since_numbers = 10 ∷ 21 ∷ 25 ∷ 31 ∷ 40 ∷ 41 ∷ 50 ∷ []

abbrev pub numbers : ImageKind → List ℕ
numbers image.Checkpoint = whole_numbers
numbers image.Backup = whole_numbers
numbers (image.Since after) = since_numbers
numbers image.Next = whole_numbers

-- the refusal of a backup whose beginning was so refused; what can't be answered there stands for want of memory
abbrev pub unbegun_by : List ℕ → Refusal → Refusal
unbegun_by numbers e = if has_number numbers e then e else refused.Memory

abbrev pub unbegun : ImageKind → Refusal → Refusal
unbegun kind e = unbegun_by (numbers kind) e

-- the refusal of one whose next piece was so refused
abbrev pub unwritten : Refusal → Refusal
unwritten e = if has_number (25 ∷ 31 ∷ 40 ∷ 41 ∷ 50 ∷ []) e then e else refused.Memory

-- the file that can't be written, where that was the refusal
abbrev pub failed_file : Refusal → Option ℕ
failed_file (refused.WriteFault file) = Some file
failed_file _ = None

-- the backup's own file, where that was the refusal
abbrev pub begun_file : (file : ℕ) → Refusal → Option ℕ
begun_file file e = if number_of e == 25 then Some file else None

-- ---- the beginning

-- one try to begin it
abbrev pub Begins : ImageKind → Result Taken Refusal → List Event → Type 0
Begins kind (Ok t) events = Made (Image kind (Ok (reply.Begun t.file t.seq))) events
Begins kind (Err e) events =
    ((why : Refusal) × (e ≡ unbegun kind why) × Made (Image kind (Err why)) events)
    ⊎ ((told : ImageReply) × (e ≡ refused.Memory) × Made (Image kind (Ok told)) events)

-- it is begun, as soon as no other image is being written
abbrev pub Opens : ImageKind → List Event → Result Taken Refusal → Type 0
Opens kind events result = Obtains (Begins kind) events result

-- ---- its pieces

-- Why the image isn't written to its end: the next piece was refused, or answered as none is; or as many were written as a number of 64 bits counts.
abbrev pub BreaksOff : (count : ℕ) → Refusal → List Event → Type 0
BreaksOff count e events =
    ((why : Refusal) × (e ≡ unwritten why) × Made (Image image.Next (Err why)) events)
    ⊎ ((file : ℕ) × (seq : ℕ) × (e ≡ refused.Memory) × Made (Image image.Next (Ok (reply.Begun file seq))) events)
    ⊎ ((count ≡ 2 ^ 64 - 1) × (e ≡ refused.Memory) × (events ≡ []))

-- it is written to its end, or not
abbrev pub Continues : List Event → Result ℕ Refusal → Type 0
Continues events (Ok seq) = Then AreMore (λ ys. Made (Image image.Next (Ok (reply.Done seq))) ys) events
Continues events (Err e) = (xs : List Event) × Then (λ zs. (zs ≡ xs) × AreMore zs) (λ ys. BreaksOff (length xs) e ys) events

-- ---- a file that can't be written

-- what it came to that a backup was to be taken off the list: one that isn't listed any more is gone
abbrev pub gone_by : Refusal → Result (Unit {0}) Refusal
gone_by e = if number_of e == 10 then Ok tt else Err (stopping e)

-- the backup in this file is taken off the list, and that is made durable
abbrev pub TakesOff : (file : ℕ) → List Event → Result (Unit {0}) Refusal → Type 0
TakesOff file events result =
    ((number : ℕ) × Changing (DbDelete file) events (Ok number) × (result ≡ Ok tt))
    ⊎ ((why : Refusal) × Changing (DbDelete file) events (Err why) × (result ≡ gone_by why))

-- A backup that was so refused is given up, and this is answered: where its file couldn't be written it was taken off the list, unless that was refused.
abbrev pub GivesUp : (file : Option ℕ) → Refusal → List Event → Refusal → Type 0
GivesUp None e events answer = (events ≡ []) × (answer ≡ e)
GivesUp (Some file) e events answer = (TakesOff file events (Ok tt) × (answer ≡ e)) ⊎ TakesOff file events (Err answer)

-- ---- the whole

-- it is begun, or given up
abbrev pub Starts : ImageKind → List Event → Result Taken Refusal → Type 0
Starts kind events (Ok t) = Opens kind events (Ok t)
Starts kind events (Err e) = (why : Refusal) × Then (λ xs. Opens kind xs (Err why)) (λ ys. GivesUp (failed_file why) why ys e) events

-- what was begun is written to its end and made durable, or given up
abbrev pub Completes : Taken → List Event → Result Taken Refusal → Type 0
Completes t events (Ok done) = (done ≡ t) × (seq : ℕ) × (last : ℕ) × Then (λ xs. Continues xs (Ok seq)) (λ ys. Made (Force (Ok last)) ys) events
Completes t events (Err e) =
    ((why : Refusal) × Then (λ xs. Continues xs (Err why)) (λ ys. GivesUp (begun_file t.file why) why ys e) events)
    ⊎ ((seq : ℕ) × (why : Refusal) × (e ≡ stopping why) × Then (λ xs. Continues xs (Ok seq)) (λ ys. Made (Force (Err why)) ys) events)

-- one after the other
abbrev pub Backs : ImageKind → List Event → Result Taken Refusal → Type 0
Backs kind events result =
    ((e : Refusal) × Starts kind events (Err e) × (result ≡ Err e))
    ⊎ ((t : Taken) × Then (λ xs. Starts kind xs (Ok t)) (λ ys. Completes t ys result) events)

-- ---- steps

-- it begins such an image, goes on with one, takes a backup off the list, or forces
abbrev pub IsOf : ImageKind → Deed → Type 0
IsOf kind (Image other answer) = (other ≡ kind) ⊎ (other ≡ image.Next)
IsOf kind (Commit asked tickets answer) = (file : ℕ) × (asked ≡ Plain (DbDelete file)) × (tickets ≡ [])
IsOf kind (Force answer) = Unit {0}
IsOf kind _ = ⊥

-- ---- what it leaves

-- the image may still be in progress: the hall is halted, the run is full, or memory was wanted
abbrev pub may_leave : Result Taken Refusal → Bool
may_leave (Ok t) = false
may_leave (Err e) = has_number (40 ∷ 41 ∷ 50 ∷ []) e
