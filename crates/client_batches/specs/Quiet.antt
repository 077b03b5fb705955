-- Steps that commit nothing.
use Rattle.std.specs.Prelude.{List}
use Rattle.std.specs.List.{AllByRecursion}
use Rattle.steps.specs.Events.{Deed, Event}
use Rattle.steps.specs.Events.Deed.{Ask, DropTicket, Force, OpenNew, Seal, WritePiece}

-- it fills its own tickets, gives them back, asks or forces
abbrev pub IsQuiet : Deed → Type 0
IsQuiet (OpenNew pool size prefer answer) = Unit {0}
IsQuiet (WritePiece ticket bytes answer) = Unit {0}
IsQuiet (Seal ticket answer) = Unit {0}
IsQuiet (DropTicket ticket answer) = Unit {0}
IsQuiet (Ask query answer) = Unit {0}
IsQuiet (Force answer) = Unit {0}
IsQuiet _ = ⊥

abbrev pub AreQuiet : List Event → Type 0
AreQuiet events = AllByRecursion (λ e. IsQuiet e.deed) events
