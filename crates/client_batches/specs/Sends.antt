-- How files are written into tickets, as many as one transaction takes.
use Rattle.std.specs.Prelude.{◌≡◌, ◌⊎◌, ℕ, ◌+◌, ◌==◌, ◌≤◌, nat_lt, Bool, true, false, ◌&&◌, List, [], ◌∷◌, ◌++◌, length, Option, None, Some, Result, Ok, Err}
use Rattle.std.specs.List.{flat_map}
use Rattle.std.specs.Option.{option_map_or}
use Rattle.kinds.specs.Refusals.{number_of}
use Rattle.kinds.specs.declared.refusal.Refusal.{Refusal}
use Rattle.kinds.specs.declared.refusal.Refusal.TheVariants as refused
use Rattle.client_files.specs.declared.outcome.Came.{Came}
use Rattle.client_files.specs.declared.outcome.Came.TheVariants as came
use Rattle.client_files.specs.Outcomes.{Writing}
use Rattle.client_files.specs.Reading.{file_of}
use Rattle.client_plan.specs.Classes.{destination}
use Rattle.client_plan.specs.declared.lines.SendLine.{SendLine}
use Rattle.client_trees.specs.Files.{Files}
use Rattle.inventory_work.specs.declared.lines.Rules.{Rules}
use Rattle.steps.specs.Calls.{Then}
use Rattle.steps.specs.Events.{Event}
use Rattle.client_batches.specs.Tickets.{GivesBack}

-- ---- what came of files

-- the ticket in which a file stands
abbrev pub ticket_of : Came → Option ℕ
ticket_of (came.Written ticket digest) = Some ticket
ticket_of (came.Failed e) = None
ticket_of (came.Held holder) = None

-- the tickets of those that are written
abbrev pub tickets_in : List Came → List ℕ
tickets_in all = flat_map (λ c. option_map_or (λ ticket. ticket ∷ []) (ticket_of c) []) all

-- So many tickets are held and are committed before anything else is sent: others hold the room that the file needs, or there is none for it, though the held tickets may give some.
abbrev pub pauses : (held : ℕ) → Came → Bool
pauses held (came.Written ticket digest) = false
pauses held (came.Failed e) = (number_of e == 20) && nat_lt 0 held
pauses held (came.Held holder) = true

-- none of these does, of which each is behind the tickets of those before it
abbrev pub NonePauses : (held : ℕ) → List Came → Type 0
NonePauses held [] = Unit {0}
NonePauses held (c ∷ all) = (pauses held c ≡ false) × NonePauses (held + length (tickets_in (c ∷ []))) all

-- ---- files

-- A file is written where its class is destined, into a ticket that isn't sealed yet; where the class has no destination, nothing is sent.
abbrev pub SendsOne : Rules → Option Files → SendLine → (before after : ℕ) → List Event → Result Came Refusal → Type 0
SendsOne rules told line before after events result =
    ((pool : ℕ) × (destination rules line.class ≡ Some pool) × Writing (file_of told line.file.path) pool line.file.size before after events result)
    ⊎ ((destination rules line.class ≡ None) × (events ≡ []) × (after ≡ before) × (result ≡ Ok (came.Failed refused.NoBackupGroup)))

-- each in its turn, and what came of it
abbrev pub SendsEach : Rules → Option Files → List SendLine → List Came → (before after : ℕ) → List Event → Type 0
SendsEach rules told [] [] before after events = (events ≡ []) × (after ≡ before)
SendsEach rules told (l ∷ lines) (c ∷ all) before after events =
    (count : ℕ) × Then (λ xs. SendsOne rules told l before count xs (Ok c)) (λ ys. SendsEach rules told lines all count after ys) events
SendsEach rules told _ _ before after events = ⊥

-- Files were written until none was left or 32 have tickets, or until one paused, which is the last.
abbrev pub EndsSo : (back : List SendLine) → List Came → Type 0
EndsSo back all =
    (NonePauses 0 all × ((back ≡ []) ⊎ (32 ≤ length (tickets_in all))))
    ⊎ ((first : List Came) × (last : Came) × (all ≡ first ++ last ∷ []) × NonePauses 0 first × (pauses (length (tickets_in first)) last ≡ true))

-- The first of these files were written, and this came of each of them.
pub record Sent (rules : Rules) (told : Option Files) (lines : List SendLine) (before after : ℕ) (all : List Came) (events : List Event) : Type 0 where
  pub front : List SendLine
  pub back : List SendLine
  pub lined : lines ≡ front ++ back
  pub sends : SendsEach rules told front all before after events
  pub ends : EndsSo back all

-- Some were, and then memory was wanted, or the call ended at the next one, of which no ticket is left.
pub record Stops (rules : Rules) (told : Option Files) (lines : List SendLine) (before after : ℕ) (all : List Came) (e : Refusal) (events : List Event) : Type 0 where
  pub front : List SendLine
  pub back : List SendLine
  pub count : ℕ
  pub xs : List Event
  pub ys : List Event
  pub lined : lines ≡ front ++ back
  pub made : events ≡ xs ++ ys
  pub sends : SendsEach rules told front all before count xs
  pub ends : ((e ≡ refused.Memory) × (ys ≡ []) × (after ≡ count)) ⊎ ((l : SendLine) × (rest : List SendLine) × (back ≡ l ∷ rest) × SendsOne rules told l count after ys (Err e))

abbrev pub Sends : Rules → Option Files → List SendLine → (before after : ℕ) → List Came → List Event → Result (Unit {0}) Refusal → Type 0
Sends rules told lines before after all events (Ok done) = Sent rules told lines before after all events
Sends rules told lines before after all events (Err e) = Stops rules told lines before after all e events

-- So they are, and where the call ends the tickets are given back.
abbrev pub Fills : Rules → Option Files → List SendLine → (before after : ℕ) → List Came → List Event → Result (Unit {0}) Refusal → Type 0
Fills rules told lines before after all events (Ok done) = Sent rules told lines before after all events
Fills rules told lines before after all events (Err e) =
    (why : Refusal) × Then (λ xs. Stops rules told lines before after all why xs) (λ ys. GivesBack (tickets_in all) why ys e) events
