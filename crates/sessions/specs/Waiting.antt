-- Tries of something that others may hold: each that finds it held waits for the holder, and then there is another.
use Rattle.std.specs.Prelude.{◌≡◌, ◌⊎◌, ℕ, ◌-◌, ◌^◌, zero, suc, List, [], Option, None, Some, Result, Ok, Err}
use Rattle.kinds.specs.declared.refusal.Holder.{Holder}
use Rattle.kinds.specs.declared.refusal.Refusal.{Refusal}
use Rattle.kinds.specs.declared.refusal.Refusal.TheVariants.{Busy, Memory}
use Rattle.copy_attempts.specs.Attempts.{Awaits}
use Rattle.steps.specs.Calls.{Then}
use Rattle.steps.specs.Events.{Event}

-- who is waited for
abbrev pub holder_in : {A : Type 0} → Result A Refusal → Option Holder
holder_in (Err (Busy h)) = Some h
holder_in _ = None

-- In what follows `Tries` says what one try did, by its answer.

-- a try that found it held, and then the wait for the holder
abbrev pub Held : {A : Type 0} → (Tries : Result A Refusal → List Event → Type 0) → List Event → Result (Unit {0}) Refusal → Type 0
Held Tries events answer = (h : Holder) × Then (Tries (Err (Busy h))) (λ ys. Awaits h ys answer) events

-- so many tries found it held, and each time the wait was over
abbrev pub Waited : {A : Type 0} → (Tries : Result A Refusal → List Event → Type 0) → ℕ → List Event → Type 0
Waited Tries zero events = events ≡ []
Waited Tries (suc number) events = Then (Waited Tries number) (λ ys. Held Tries ys (Ok tt)) events

-- The last try, behind so many that waited: it came to something, or its wait was refused; or there is none, where as many waited as a number of 64 bits counts.
abbrev pub Ends : {A : Type 0} → (Tries : Result A Refusal → List Event → Type 0) → (waited : ℕ) → List Event → Result A Refusal → Type 0
Ends Tries waited events result =
    ((holder_in result ≡ None) × Tries result events)
    ⊎ ((e : Refusal) × Held Tries events (Err e) × (result ≡ Err e))
    ⊎ ((waited ≡ 2 ^ 64 - 1) × (events ≡ []) × (result ≡ Err Memory))

-- all tries
abbrev pub Obtains : {A : Type 0} → (Tries : Result A Refusal → List Event → Type 0) → List Event → Result A Refusal → Type 0
Obtains Tries events result = (waited : ℕ) × Then (Waited Tries waited) (λ ys. Ends Tries waited ys result) events
