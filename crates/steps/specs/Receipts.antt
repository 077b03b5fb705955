-- Which transactions of an actor are acknowledged.
use Rattle.std.specs.Prelude.{Bool, true, false, List, [], ◌∷◌, ◌++◌, filter, Ok, if◌then◌else◌}
use Rattle.std.specs.List.{list_any}
use Rattle.steps.specs.declared.image.ImageReply.TheVariants.{Begun}
use Rattle.steps.specs.Events.{Deed, Event}
use Rattle.steps.specs.Events.Deed.{Commit, Image, Reuse, Force}

-- all transactions so far are durable behind this step
abbrev pub forces : Deed → Bool
forces (Force (Ok number)) = true
forces (Reuse file (Ok number)) = true
forces (Image kind (Ok (Begun file seq))) = true
forces _ = false

-- one of the steps makes all before it durable
abbrev pub is_forced : List Event → Bool
is_forced events = list_any (λ e. forces e.deed) events

-- a transaction joined by the step, that of a commit or of a volume's reuse
abbrev pub is_made : Deed → Bool
is_made (Commit asked tickets (Ok number)) = true
is_made (Reuse file (Ok number)) = true
is_made _ = false

-- it is acknowledged, where this is what followed: a reuse at once, a commit by what makes it durable
abbrev pub is_receipt : Deed → List Event → Bool
is_receipt (Commit asked tickets (Ok number)) later = is_forced later
is_receipt (Reuse file (Ok number)) later = true
is_receipt _ later = false

-- the steps whose transactions joined
abbrev pub made : List Event → List Event
made events = filter (λ e. is_made e.deed) events

-- the steps whose transactions are acknowledged
abbrev pub receipts : List Event → List Event
receipts [] = []
receipts (e ∷ events) = (if is_receipt e.deed events then e ∷ [] else []) ++ receipts events
