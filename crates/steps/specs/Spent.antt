-- Which of an actor's tickets its steps leave.
use Rattle.std.specs.Prelude.{◌≡◌, ℕ, ◌==◌, ◌&&◌, Bool, true, false, List, [], ◌∷◌, Ok, Err}
use Rattle.std.specs.List.{list_any}
use Rattle.kinds.specs.Refusals.{number_of}
use Rattle.steps.specs.Events.{Deed, Event}
use Rattle.steps.specs.Events.Deed.{OpenNew, OpenCopy, WritePiece, CopyPiece, Seal, Commit, DropTicket}

-- the ticket isn't there behind the step: it was committed or dropped, writing to one of its volumes failed, or it was no longer there to be dropped
abbrev pub spends : ℕ → Deed → Bool
spends ticket (WritePiece number bytes (Err e)) = number == ticket && number_of e == 25
spends ticket (CopyPiece number (Err e)) = number == ticket && number_of e == 25
spends ticket (Seal number (Err e)) = number == ticket && number_of e == 25
spends ticket (Commit asked tickets (Ok number)) = list_any (λ t. t == ticket) tickets
spends ticket (DropTicket number (Ok done)) = number == ticket
spends ticket (DropTicket number (Err e)) = number == ticket && number_of e == 10
spends ticket _ = false

abbrev pub is_spent : ℕ → List Event → Bool
is_spent ticket events = list_any (λ e. spends ticket e.deed) events

-- a ticket that the step opened isn't there any more behind the later ones
abbrev pub IsSettled : Deed → List Event → Type 0
IsSettled (OpenNew pool size prefer (Ok ticket)) later = is_spent ticket later ≡ true
IsSettled (OpenCopy object aim avoid (Ok ticket)) later = is_spent ticket later ≡ true
IsSettled _ later = Unit {0}

-- no ticket is left
abbrev pub AreSettled : List Event → Type 0
AreSettled [] = Unit {0}
AreSettled (e ∷ events) = IsSettled e.deed events × AreSettled events
