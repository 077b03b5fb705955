-- How lists are committed: together, or one by one where that is refused.
use Rattle.std.specs.Prelude.{◌≡◌, ◌⊎◌, ℕ, Bool, List, [], ◌∷◌, ◌++◌, drop, length, map, take, if◌then◌else◌, Option, None, Some, Result, Ok, Err}
use Rattle.kinds.specs.Answers.{AnswersBy}
use Rattle.kinds.specs.declared.refusal.Refusal.{Refusal}
use Rattle.kinds.specs.declared.refusal.Refusal.TheVariants as refused
use Rattle.client_files.specs.Sending.{stopping}
use Rattle.steps.specs.declared.asked.Asked.{Asked}
use Rattle.steps.specs.Calls.{Made, Then}
use Rattle.steps.specs.Events.{Event, has_number}
use Rattle.steps.specs.Events.Deed.{Commit}
use Rattle.client_batches.specs.Tickets.{GivesBack, is_lasting}

-- ---- refusals

-- A line is in the way: what it names went or isn't as it was named, the transaction has more bytes than a record may have, or a bound of the database's.
abbrev pub is_in_the_way : Refusal → Bool
is_in_the_way e = has_number (10 ∷ 12 ∷ 22 ∷ 23 ∷ 30 ∷ 31 ∷ []) e

-- what a refused transaction came to
abbrev pub refused_as : Refusal → Result (Option Refusal) Refusal
refused_as e = if is_in_the_way e then Ok (Some e) else Err (stopping e)

-- what a transaction came to: none where its lines are committed
abbrev pub outcome : Result ℕ Refusal → Result (Option Refusal) Refusal
outcome (Ok number) = Ok None
outcome (Err e) = refused_as e

-- what came of a line that was refused alone, where its ticket was given back with this refusal
abbrev pub taken_out : Refusal → Result (Option Refusal) Refusal
taken_out e = if is_lasting e then Err e else Ok (Some e)

-- ---- transactions

-- one transaction was tried with these tickets, or memory was wanted before it
abbrev pub Tries : Asked → (tickets : List ℕ) → List Event → Result (Option Refusal) Refusal → Type 0
Tries asked tickets events result =
    ((events ≡ []) × (result ≡ Err refused.Memory))
    ⊎ ((answer : Result ℕ Refusal) × Made (Commit asked tickets answer) events × (result ≡ outcome answer))

-- A line by itself: it is committed, or refused and its ticket is given back, or the call ends.
abbrev pub Alone : Asked → (ticket : List ℕ) → List Event → Result (Option Refusal) Refusal → Type 0
Alone asked ticket events result =
    (Tries asked ticket events (Ok None) × (result ≡ Ok None))
    ⊎ ((e : Refusal) × Tries asked ticket events (Err e) × (result ≡ Err e))
    ⊎ ((e why : Refusal) × Then (λ xs. Tries asked ticket xs (Ok (Some e))) (λ ys. GivesBack ticket e ys why) events × (result ≡ taken_out why))

-- ---- lists

-- Each line by itself, one after the other, with the ticket of its place where lines have tickets, and what came of each.
abbrev pub Singles : {L : Type 0} → (List L → Asked) → List L → (tickets : List ℕ) → List (Option Refusal) → List Event → Type 0
Singles asking [] tickets [] events = events ≡ []
Singles asking (l ∷ lines) tickets (out ∷ outs) events =
    Then (λ xs. Alone (asking (l ∷ [])) (take 1 tickets) xs (Ok out)) (λ ys. Singles asking lines (drop 1 tickets) outs ys) events
Singles asking _ tickets _ events = ⊥

-- Some were handled so, and then memory was wanted for what is answered, or the call ended at the next one.
pub record Stops {L : Type 0} (asking : List L → Asked) (lines : List L) (tickets : List ℕ) (e : Refusal) (events : List Event) : Type 0 where
  pub front : List L
  pub back : List L
  pub outs : List (Option Refusal)
  pub xs : List Event
  pub ys : List Event
  pub lined : lines ≡ front ++ back
  pub made : events ≡ xs ++ ys
  pub singles : Singles asking front tickets outs xs
  pub ends : ((e ≡ refused.Memory) × (ys ≡ [])) ⊎ ((l : L) × (rest : List L) × (back ≡ l ∷ rest) × Alone (asking (l ∷ [])) (take 1 (drop (length front) tickets)) ys (Err e))

abbrev pub EachAlone : {L : Type 0} → (List L → Asked) → List L → (tickets : List ℕ) → List Event → Result (List (Option Refusal)) Refusal → Type 0
EachAlone asking lines tickets events (Ok outs) = Singles asking lines tickets outs events
EachAlone asking lines tickets events (Err e) = Stops asking lines tickets e events

-- The lines are committed by one transaction; or one of them is in the way, and each is tried by itself; or the call ends.
abbrev pub CommitsAll : {L : Type 0} → (List L → Asked) → List L → (tickets : List ℕ) → List Event → Result (List (Option Refusal)) Refusal → Type 0
CommitsAll asking lines tickets events result =
    (Tries (asking lines) tickets events (Ok None) × AnswersBy (λ outs. outs) result (map (λ l. None) lines))
    ⊎ ((e : Refusal) × Tries (asking lines) tickets events (Err e) × (result ≡ Err e))
    ⊎ ((why : Refusal) × Then (λ xs. Tries (asking lines) tickets xs (Ok (Some why))) (λ ys. EachAlone asking lines tickets ys result) events)

-- So they are, and where the call ends the tickets are given back.
abbrev pub Commits : {L : Type 0} → (List L → Asked) → List L → (tickets : List ℕ) → List Event → Result (List (Option Refusal)) Refusal → Type 0
Commits asking lines tickets events (Ok outs) = CommitsAll asking lines tickets events (Ok outs)
Commits asking lines tickets events (Err e) =
    (why : Refusal) × Then (λ xs. CommitsAll asking lines tickets xs (Err why)) (λ ys. GivesBack tickets why ys e) events
