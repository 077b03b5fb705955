-- What the reuse of emptied volumes did.
use Rattle.std.specs.Prelude.{◌≡◌, ◌⊎◌, ℕ, Bool, true, false, List, [], ◌∷◌, length, if◌then◌else◌, Option, None, Some, Result, Ok, Err}
use Rattle.std.specs.List.{AllByRecursion, flat_map}
use Rattle.kinds.specs.declared.refusal.Holder.{Holder}
use Rattle.kinds.specs.declared.refusal.Holder.TheVariants as holder
use Rattle.kinds.specs.declared.refusal.Refusal.{Refusal}
use Rattle.kinds.specs.declared.refusal.Refusal.TheVariants as refused
use Rattle.inventory_answers.specs.declared.query.Query.TheVariants as query
use Rattle.inventory_answers.specs.declared.reply.Answer.{Answer}
use Rattle.inventory_answers.specs.declared.reply.Rows.TheVariants as rows
use Rattle.steps.specs.Calls.{Made, Then}
use Rattle.steps.specs.Events.{Deed, Event, event, has_number}
use Rattle.steps.specs.Events.Deed.{Ask, Force, Reuse}
use Rattle.steps.specs.Receipts.{made, receipts}
use Rattle.copy_attempts.specs.Attempts.{stopping}
use Rattle.copy_runs.specs.Ends.{AsksToday, IsEnding, IsStopped, Unanswered}
use Rattle.copy_runs.specs.Wanting.{IsIn}
use Rattle.reuse_delay.specs.declared.tried.Tried.{Tried}
use Rattle.reuse_delay.specs.declared.tried.Tried.TheVariants as came
use Rattle.reuse_delay.specs.Ready.{AreReused}

-- ---- refusals

-- the volume isn't there or isn't emptied any more, holds copies again, or its reuse delay isn't over
abbrev pub is_passed : Refusal → Bool
is_passed e = has_number (10 ∷ 12 ∷ 32 ∷ []) e

-- who is waited for
abbrev pub holder_of : Refusal → Option Holder
holder_of (refused.Busy h) = Some h
holder_of _ = None

abbrev pub passed_as : Refusal → Result Tried Refusal
passed_as e = if is_passed e then Ok came.Passed else Err (stopping e)

abbrev pub held_or_passed : Refusal → Option Holder → Result Tried Refusal
held_or_passed e (Some h) = Ok (came.Held h)
held_or_passed e None = passed_as e

abbrev pub refused_as : Refusal → Result Tried Refusal
refused_as e = held_or_passed e (holder_of e)

-- what a reuse came to
abbrev pub outcome : Result ℕ Refusal → Result Tried Refusal
outcome (Ok number) = Ok came.Reused
outcome (Err e) = refused_as e

-- ---- what was reused

abbrev pub file_by : Deed → List ℕ
file_by (Reuse file answer) = file ∷ []
file_by _ = []

-- the volumes of these steps, one after the other
abbrev pub reused_files : List Event → List ℕ
reused_files events = flat_map (λ e. file_by e.deed) events

-- how many they are
abbrev pub reused : List Event → ℕ
reused events = length (reused_files events)

-- ---- steps

-- it asks, forces, or reuses one of these volumes
abbrev pub IsReusing : List ℕ → Deed → Type 0
IsReusing files d = IsEnding d ⊎ ((file : ℕ) × (answer : Result ℕ Refusal) × IsIn file files × (d ≡ Reuse file answer))

-- no others
abbrev pub AreReusing : List ℕ → List Event → Type 0
AreReusing files events = AllByRecursion (λ e. IsReusing files e.deed) events

-- the volume was reused
abbrev pub Reusing : ℕ → Event → Type 0
Reusing file e = (n : ℕ) × (number : ℕ) × (e ≡ event n (Reuse file (Ok number)))

-- it may not be reused
abbrev pub PassingOver : ℕ → Event → Type 0
PassingOver file e = (n : ℕ) × (why : Refusal) × (is_passed why ≡ true) × (e ≡ event n (Reuse file (Err why)))

-- this one has to be waited for
abbrev pub Waiting : ℕ → Holder → Event → Type 0
Waiting file h e = (n : ℕ) × (e ≡ event n (Reuse file (Err (refused.Busy h))))

-- the wait is a force, which was made
abbrev pub Forcing : Event → Type 0
Forcing e = (n : ℕ) × (number : ℕ) × (e ≡ event n (Force (Ok number)))

abbrev pub is_unforced : Holder → Bool
is_unforced (holder.Unforced number) = true
is_unforced (holder.Ticket number) = false
is_unforced (holder.Image actor) = false

-- ---- parts

-- These volumes were tried one after the other, up to those that are left: each step reuses the next one, or passes over it, or finds something held, and behind the wait it is tried again. `due`
-- says that a force is due.
abbrev pub Works : (due : Bool) → (files left : List ℕ) → List Event → Type 0
Works due files left [] = (due ≡ false) × (left ≡ files)
Works true files left (e ∷ events) = Forcing e × Works false files left events
Works false [] left (e ∷ events) = ⊥
Works false (file ∷ files) left (e ∷ events) =
    (Reusing file e × Works false files left events)
    ⊎ (PassingOver file e × Works false files left events)
    ⊎ ((h : Holder) × Waiting file h e × Works (is_unforced h) (file ∷ files) left events)

-- so they were, and so many were reused
pub record Worked (files left : List ℕ) (events : List Event) (number : ℕ) : Type 0 where
  pub each : Works false files left events
  pub count : reused (made events) ≡ number

-- these steps ended with this refusal
pub record Breaks (files : List ℕ) (events : List Event) (e : Refusal) : Type 0 where
  pub cause : IsStopped events e
  pub only : AreReusing files events

-- all of them were tried
abbrev pub Handles : List ℕ → List Event → Result ℕ Refusal → Type 0
Handles files events (Ok count) = Worked files [] events count
Handles files events (Err e) = Breaks files events e

-- one step was made, or memory was wanted before it
abbrev pub Tries : ℕ → List Event → Result Tried Refusal → Type 0
Tries file events result = (answer : Result ℕ Refusal) × Made (Reuse file answer) events × (result ≡ outcome answer)

-- which volumes may be reused was asked, and answered with these
abbrev pub Listed : List Event → List ℕ → Type 0
Listed events files = (n : ℕ) × (answer : Answer) × (events ≡ event n (Ask query.Emptied (Ok answer)) ∷ []) × (answer.rows ≡ rows.Emptied files)

abbrev pub Lists : List Event → Result (List ℕ) Refusal → Type 0
Lists events (Ok files) = Listed events files
Lists events (Err e) = Unanswered events e

-- ---- the whole

-- it asked for the volumes, tried all of them, and asked for the number of the last transaction
abbrev pub IsInOrder : List ℕ → List Event → Type 0
IsInOrder files events = Then (λ xs. Then (λ ys. Listed ys files) (λ zs. Works false files [] zs) xs) (λ us. AsksToday us (Ok tt)) events

-- What it did where it answered a count: that is of the volumes in its receipts; its steps came in their order; and what may be reused all along was.
pub record Reused (files : List ℕ) (events : List Event) (number : ℕ) : Type 0 where
  pub count : number ≡ reused (receipts events)
  pub order : IsInOrder files events
  pub row : AreReused events

-- or its refusal is want of memory, or one that ends a process and that one of its steps met
abbrev pub Came : List ℕ → List Event → Result ℕ Refusal → Type 0
Came files events (Ok count) = Reused files events count
Came files events (Err e) = IsStopped events e

-- its first question was answered with these volumes; or with none
abbrev pub IsTold : List ℕ → List Event → Type 0
IsTold files events = (files ≡ []) ⊎ Then (λ xs. Listed xs files) (λ ys. Unit {0}) events

-- What it did, and that it asked, forced and reused volumes that it was told of, and no more.
pub record VolumeReuse (events : List Event) (result : Result ℕ Refusal) : Type 0 where
  pub files : List ℕ
  pub told : IsTold files events
  pub came : Came files events result
  pub only : AreReusing files events
