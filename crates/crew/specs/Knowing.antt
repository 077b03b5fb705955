-- What is known of a block: by the pass of the one who keeps its hall, and by each actor's. A pass has no bytes, and what it knows exists in proofs alone.
use Rattle.std.specs.Prelude.{◌≡◌, ℕ, ◌+◌, ◌<◌, ◌≤◌, Bool, true, false, List, [], ◌∷◌, ◌++◌, Ok}
use mathlib.Core.Option.{some}
use lib.ListN.{get_elem?}
use Rattle.atomic_table.specs.Seated.{TableId}
use Rattle.steps.specs.Events.{Event, event}
use Rattle.steps.specs.Events.Deed.{Force}
use Rattle.machine.specs.Turns.{Turn, events_of}

-- What a pass of the block's cell knows: the keeper's all turns so far, and from which number on no actor has begun; an actor's its own events. The keeper may hold an actor's pass beside its own.
pub record Knows : Type 0 where
  pub keeps : Bool
  pub all : List Turn
  pub next : ℕ
  pub acts : Bool
  pub actor : ℕ
  pub mine : List Event

-- the keeper's pass
abbrev pub keeping : List Turn → ℕ → Knows
keeping all next = record { keeps = true; all = all; next = next; acts = false; actor = 0; mine = [] }

-- an actor's
abbrev pub acting : ℕ → List Event → Knows
acting actor mine = record { keeps = false; all = []; next = 0; acts = true; actor = actor; mine = mine }

-- one that is spent
abbrev pub nobody : Knows
nobody = record { keeps = false; all = []; next = 0; acts = false; actor = 0; mine = [] }

-- the keeper with an actor's events
abbrev pub both : Knows → Knows → Knows
both v w = record { keeps = v.keeps; all = v.all; next = v.next; acts = w.acts; actor = w.actor; mine = w.mine }

-- one pass at most is the keeper's, and knows all turns
abbrev pub KeepsAll : (seat next : ℕ) → List Turn → (by : ℕ) → Knows → Type 0
KeepsAll seat next log by v = v.keeps ≡ true → (by ≡ seat) × (v.all ≡ log) × (v.next ≡ next)

-- one pass at most is an actor's, and knows exactly the events of that actor among all turns
abbrev pub ActsAs : (holder : ℕ → ℕ) → (next : ℕ) → List Turn → (by : ℕ) → Knows → Type 0
ActsAs holder next log by v = v.acts ≡ true → (by ≡ holder v.actor) × (v.actor < next) × (v.mine ≡ events_of v.actor log)

-- The rule of a block's cell: there are turns, of which each pass knows what it is to know, and each actor that has begun has a number below the next. The cell's word means nothing.
pub record Kept (words : List ℕ) (views : List Knows) : Type 0 where
  pub seat : ℕ
  pub holder : ℕ → ℕ
  pub next : ℕ
  pub log : List Turn
  pub unused : (actor : ℕ) → next ≤ actor → events_of actor log ≡ []
  pub each : (by : ℕ) (v : Knows) → get_elem? views by ≡ some v → KeepsAll seat next log by v × ActsAs holder next log by v

-- a step of this actor
abbrev pub turn : ℕ → Event → Turn
turn actor e = record { actor = actor; did = e }

-- what the keeper knows once it has told a step of the actor whose pass it holds
abbrev pub told_all : Event → Knows → Knows
told_all event v = keeping (v.all ++ turn v.actor event ∷ []) v.next

-- and what that actor knows then
abbrev pub told_own : Event → Knows → Knows
told_own event v = acting v.actor (v.mine ++ event ∷ [])

-- the keeper compares what the actor knows with all turns, and the actor's pass is spent
abbrev pub Compared : Knows → List ℕ → List ℕ → Knows → Type 0
Compared v before after w = (w ≡ keeping v.all v.next) × (v.mine ≡ events_of v.actor v.all)

-- the keeper compares what the actor knows with all turns, and both know it then
abbrev pub Looked : Knows → List ℕ → List ℕ → Knows → Type 0
Looked v before after w = (w ≡ v) × (v.mine ≡ events_of v.actor v.all)

-- what the keeper knows who gives the actor's pass back, and what that actor knows
abbrev pub kept_all : Knows → Knows
kept_all v = keeping v.all v.next

abbrev pub kept_own : Knows → Knows
kept_own v = acting v.actor v.mine

-- the name of no cell
abbrev pub no_table : TableId
no_table = record { words = 0; slots = 0; views_name = 0; atom = 0; block = 0; offset = 0; slot_names = [] }

-- a step of an actor with a number from the one up to the other
abbrev pub IsWithin : (least most : ℕ) → Turn → Type 0
IsWithin least most t = (least ≤ t.actor) × (t.actor < most)

-- no step in particular
abbrev pub no_event : Event
no_event = event 0 (Force (Ok 0))
