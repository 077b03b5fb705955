-- What a call of one who makes steps did.
use Rattle.std.specs.Prelude.{◌≡◌, ◌⊎◌, ℕ, ◌+◌, ◌-◌, ◌^◌, nat_lt, ◌&&◌, Bool, true, false, if◌then◌else◌, List, [], ◌∷◌, ◌++◌, take, Some, Result, Ok, Err}
use Rattle.std.specs.Option.{option_map_or}
use Rattle.kinds.specs.declared.refusal.Holder.{Holder}
use Rattle.kinds.specs.declared.refusal.Holder.TheVariants as holder
use Rattle.kinds.specs.declared.refusal.Refusal.{Refusal}
use Rattle.kinds.specs.declared.refusal.Refusal.TheVariants as refused
use Rattle.steps.specs.Events.{Event, event, Deed, refusal, has_number, is_listed}
use Rattle.steps.specs.Events.Deed.{Force}

-- The step was made: it is the one event, and its reply is one that it may have.
abbrev pub MakesStep : {S : Type 0} → (did : S → List Event → S → Type 0) → S → S → Deed → Type 0
MakesStep did old new deed = (n : ℕ) × did old (event n deed ∷ []) new × (is_listed deed ≡ true)

-- The step was made; or memory was wanted before it, and nothing was done.
abbrev pub Does : {S : Type 0} → (did : S → List Event → S → Type 0) → S → S → Deed → Type 0
Does did old new deed = MakesStep did old new deed ⊎ ((refusal deed ≡ Some refused.Memory) × did old [] new)

-- the bytes that were read, of a buffer behind which others may stand
abbrev pub piece_of : Result ℕ Refusal → List ℕ → Result (List ℕ) Refusal
piece_of (Ok count) bytes = Ok (take count bytes)
piece_of (Err e) bytes = Err e

-- what a force answers, without its number
abbrev pub forced : Result ℕ Refusal → Result (Unit {0}) Refusal
forced (Ok number) = Ok tt
forced (Err e) = Err e

-- What waiting for a holder did: for a transaction that isn't forced yet, a force. For another one nothing: the hall changed, or the caller alone has it and would
-- wait for ever. Where memory was wanted nothing was done.
abbrev pub Waits : {S : Type 0} → (did : S → List Event → S → Type 0) → S → S → Holder → Result (Unit {0}) Refusal → Type 0
Waits did old new (holder.Unforced number) result = (answer : Result ℕ Refusal) × (result ≡ forced answer) × Does did old new (Force answer)
Waits did old new (holder.Ticket number) result = did old [] new × ((result ≡ Ok tt) ⊎ (result ≡ Err (refused.Busy (holder.Ticket number))) ⊎ (result ≡ Err refused.Memory))
Waits did old new (holder.Image actor) result = did old [] new × ((result ≡ Ok tt) ⊎ (result ≡ Err (refused.Busy (holder.Image actor))) ⊎ (result ≡ Err refused.Memory))

-- a call made these events, and no others, and Q holds of them
abbrev pub Call : {S : Type 0} → (did : S → List Event → S → Type 0) → S → S → (List Event → Type 0) → Type 0
Call did old new Q = (events : List Event) × did old events new × Q events

-- ---- steps one after the other

-- the one event is this step, with a reply that it may have
abbrev pub IsStep : Deed → List Event → Type 0
IsStep deed events = (n : ℕ) × (events ≡ event n deed ∷ []) × (is_listed deed ≡ true)

-- the step was made; or memory was wanted before it, and there is none
abbrev pub Made : Deed → List Event → Type 0
Made deed events = IsStep deed events ⊎ ((refusal deed ≡ Some refused.Memory) × (events ≡ []))

-- first these steps, and then those
abbrev pub Then : (First Next : List Event → Type 0) → List Event → Type 0
Then First Next events = (xs : List Event) × (ys : List Event) × (events ≡ xs ++ ys) × First xs × Next ys

-- ---- refused steps

-- no room for an object, no copy of it that can be read, a volume that can't be written, or a transaction with more bytes than a record may have
abbrev pub fails_object : Refusal → Bool
fails_object e = has_number (20 ∷ 24 ∷ 25 ∷ 30 ∷ []) e

-- a count of steps that were so refused, behind one more step; it stays at the last number of 64 bits
abbrev pub risen_by : ℕ → Deed → ℕ
risen_by count deed = if option_map_or fails_object (refusal deed) false && nat_lt count (2 ^ 64 - 1) then count + 1 else count

-- behind these events
abbrev pub risen : ℕ → List Event → ℕ
risen count [] = count
risen count (e ∷ events) = risen (risen_by count e.deed) events
