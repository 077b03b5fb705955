-- Which steps a restore makes, and why it ends with a refusal.
use Rattle.std.specs.Prelude.{◌≡◌, ◌⊎◌, Bool, true, List, [], ◌∷◌}
use Rattle.std.specs.List.{AllByRecursion}
use Rattle.kinds.specs.declared.refusal.Refusal.{Refusal}
use Rattle.kinds.specs.declared.refusal.Refusal.TheVariants.{Memory}
use Rattle.copy_attempts.specs.Outcomes.{Met}
use Rattle.steps.specs.Events.{Deed, Event, has_number}
use Rattle.steps.specs.Events.Deed.{Ask, ReadPiece}

-- it asks or reads
abbrev pub IsReading : Deed → Type 0
IsReading (Ask query answer) = Unit {0}
IsReading (ReadPiece object kept from offset wanted answer) = Unit {0}
IsReading _ = ⊥

abbrev pub AreReading : List Event → Type 0
AreReading events = AllByRecursion (λ e. IsReading e.deed) events

-- the filespace isn't there, a halted hall, or a full run
abbrev pub is_ending : Refusal → Bool
is_ending e = has_number (10 ∷ 40 ∷ 41 ∷ []) e

-- want of memory; or a refusal that ends it, which one of the steps met
abbrev pub IsCaused : List Event → Refusal → Type 0
IsCaused events e = (e ≡ Memory) ⊎ ((is_ending e ≡ true) × Met e events)
