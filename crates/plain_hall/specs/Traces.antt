-- What is kept of an actor's steps.
use Rattle.std.specs.Prelude.{◌≡◌, ◌⊎◌, ℕ, Bool, true, false, List, [], ◌∷◌, ◌++◌, map, Option, Some, Result}
use Rattle.kinds.specs.declared.refusal.Refusal.{Refusal}
use Rattle.kinds.specs.declared.refusal.Refusal.TheVariants.{Memory}
use Rattle.steps.specs.Calls.{risen}
use Rattle.steps.specs.Events.{Event, refusal, refusal_in}
use Rattle.plain_hall.specs.declared.trace.Kind.{Kind}
use Rattle.plain_hall.specs.declared.trace.Kind.TheVariants as kind
use Rattle.plain_hall.specs.declared.trace.Mark.{Mark}
use Rattle.plain_hall.specs.declared.trace.Trace.{Trace}
use Rattle.plain_hall.specs.Kinds.{kind_of, is_told, raised}

-- what is kept of an event: its number, its kind, and why it was refused
abbrev pub mark_of : Event → Mark
mark_of e = record { n = e.n; kind = kind_of e.deed; refusal = refusal e.deed }

-- these steps stand behind those that stood there; unless a dropped ticket was left out, then or before
abbrev pub Added : Trace → List Mark → Trace → Type 0
Added old marks new = new.is_whole ≡ true → (old.is_whole ≡ true) × (new.marks.items ≡ old.marks.items ++ marks)

-- these events were added to what is kept, in their order, and are counted
pub record Did (old : Trace) (events : List Event) (new : Trace) : Type 0 where
  pub marks : Added old (map mark_of events) new
  pub refused : new.refused ≡ risen old.refused events
  pub actor : new.actor ≡ old.actor

-- nothing was added
pub record Same (old new : Trace) : Type 0 where
  pub marks : new.marks.items ≡ old.marks.items
  pub whole : new.is_whole ≡ old.is_whole
  pub refused : new.refused ≡ old.refused
  pub actor : new.actor ≡ old.actor

-- one step was added, which may be answered so
pub record Adds (kind : Kind) (n : ℕ) (why : Option Refusal) (old new : Trace) : Type 0 where
  pub told : is_told kind why ≡ true
  pub marks : Added old (record { n = n; kind = kind; refusal = why } ∷ []) new
  pub refused : new.refused ≡ raised old.refused why
  pub actor : new.actor ≡ old.actor

abbrev pub Noted : Kind → ℕ → Option Refusal → Trace → Trace → Bool → Type 0
Noted kind n why old new true = Adds kind n why old new
Noted kind n why old new false = Same old new

-- one step was added; or memory was wanted, and none was
abbrev pub Ended : Kind → Option Refusal → Trace → Trace → Type 0
Ended kind why old new = ((n : ℕ) × Adds kind n why old new) ⊎ ((why ≡ Some Memory) × Same old new)

-- a ticket was dropped, or wasn't there
abbrev pub Dropped : ℕ → Result (Unit {0}) Refusal → Trace → Trace → Type 0
Dropped n answer old new = Adds kind.DropTicket n (refusal_in answer) old new
