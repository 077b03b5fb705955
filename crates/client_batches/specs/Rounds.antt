-- How lists of any length are handled, some lines after the others: files in batches, and lines without tickets by transactions of at most 256.
use Rattle.std.specs.Prelude.{◌≡◌, ◌⊎◌, ℕ, zero, suc, ◌≤◌, false, List, [], ◌∷◌, ◌++◌, drop, length, if◌then◌else◌, Option, None, Some, Result, Ok, Err}
use Rattle.kinds.specs.declared.refusal.Holder.{Holder}
use Rattle.kinds.specs.declared.refusal.Holder.TheVariants as holder
use Rattle.kinds.specs.declared.refusal.Refusal.{Refusal}
use Rattle.kinds.specs.declared.refusal.Refusal.TheVariants as refused
use Rattle.client_plan.specs.declared.lines.SendLine.{SendLine}
use Rattle.client_trees.specs.Files.{Files}
use Rattle.inventory_work.specs.declared.lines.Rules.{Rules}
use Rattle.steps.specs.declared.asked.Asked.{Asked}
use Rattle.steps.specs.Calls.{Made, Then, forced}
use Rattle.steps.specs.Events.{Event, has_number}
use Rattle.steps.specs.Events.Deed.{Force}
use Rattle.client_batches.specs.declared.batch.Batch.{Batch}
use Rattle.client_batches.specs.Batches.{Batches}
use Rattle.client_batches.specs.Commits.{Commits}
use Rattle.client_batches.specs.Verdicts.{verdicts, waiting}

-- ---- waits

-- why a call ends whose wait was refused: somebody else has what it waits for, a halted hall, or a full run; what can't be answered stands for want of memory
abbrev pub unwaited : Refusal → Refusal
unwaited e = if has_number (21 ∷ 40 ∷ 41 ∷ 50 ∷ []) e then e else refused.Memory

-- waiting for a transaction that isn't forced yet is a force, and for others no step
abbrev pub Awaits : Holder → List Event → Result (Unit {0}) Refusal → Type 0
Awaits (holder.Unforced number) events result = (answer : Result ℕ Refusal) × (result ≡ forced answer) × Made (Force answer) events
Awaits (holder.Ticket number) events result = (events ≡ []) × ((result ≡ Ok tt) ⊎ (result ≡ Err (refused.Busy (holder.Ticket number))) ⊎ (result ≡ Err refused.Memory))
Awaits (holder.Image actor) events result = (events ≡ []) × ((result ≡ Ok tt) ⊎ (result ≡ Err (refused.Busy (holder.Image actor))) ⊎ (result ≡ Err refused.Memory))

-- who holds the room, where somebody does, was waited for
abbrev pub AwaitsOne : Option Holder → List Event → Result (Unit {0}) Refusal → Type 0
AwaitsOne None events result = (events ≡ []) × (result ≡ Ok tt)
AwaitsOne (Some h) events (Ok done) = Awaits h events (Ok tt)
AwaitsOne (Some h) events (Err e) = (why : Refusal) × (e ≡ unwaited why) × Awaits h events (Err why)

-- ---- rounds

-- What one round makes of a list: the lines that are left before and behind it, what came of those between, the counts of the tree's faults, and the steps.
abbrev pub Round : Type 0 → Type 1
Round L = (lines rest : List L) → List (Option Refusal) → (before after : ℕ) → List Event → Type 0

-- so many rounds were made, each with the lines that the one before it left, and this came of the lines that none of them left
abbrev pub Rounds : {L : Type 0} → Round L → ℕ → Round L
Rounds One zero lines rest outs before after events = (rest ≡ lines) × (outs ≡ []) × (after ≡ before) × (events ≡ [])
Rounds {L} One (suc number) lines rest outs before after events =
    (left : List L) × (first : List (Option Refusal)) × (next : List (Option Refusal)) × (count : ℕ) × (outs ≡ first ++ next)
    × Then (λ xs. Rounds One number lines left first before count xs) (λ ys. One left rest next count after ys) events

-- ---- files

-- A batch of the first files that are left; what came of those that needn't be sent again; and the wait for who holds the room of the next one.
abbrev pub SendsSome : Rules → Option Files → (filespace : ℕ) → Round SendLine
SendsSome rules told filespace lines rest outs before after events =
    (b : Batch) × (outs ≡ verdicts false b.came b.sealed b.outs) × (rest ≡ drop (length outs) lines)
    × Then (λ xs. Batches rules told filespace lines before after xs (Ok b)) (λ ys. AwaitsOne (waiting false b.came) ys (Ok tt)) events

-- The call ended in a round: with its batch; for want of memory behind it; or with the wait.
abbrev pub SendsNone : Rules → Option Files → (filespace : ℕ) → List SendLine → (before after : ℕ) → List Event → Refusal → Type 0
SendsNone rules told filespace lines before after events e =
    Batches rules told filespace lines before after events (Err e)
    ⊎ ((b : Batch) × Batches rules told filespace lines before after events (Ok b) × (e ≡ refused.Memory))
    ⊎ ((b : Batch) × Then (λ xs. Batches rules told filespace lines before after xs (Ok b)) (λ ys. AwaitsOne (waiting false b.came) ys (Err e)) events)

-- a round, where this is what came of files before it and behind it
abbrev pub SendsOn : Rules → Option Files → (filespace : ℕ) → List SendLine → (old new : List (Option Refusal)) → (before after : ℕ) → List Event → Result (Unit {0}) Refusal → Type 0
SendsOn rules told filespace lines old new before after events (Ok done) =
    (outs : List (Option Refusal)) × (new ≡ old ++ outs) × SendsSome rules told filespace lines (drop (length outs) lines) outs before after events
SendsOn rules told filespace lines old new before after events (Err e) = SendsNone rules told filespace lines before after events e

-- All files were sent, in rounds; or some were, and the call ended in the next round, or for want of memory, or since as many rounds were made as a number of 64 bits counts.
abbrev pub SendsAll : Rules → Option Files → (filespace : ℕ) → List SendLine → (before after : ℕ) → List Event → Result (List (Option Refusal)) Refusal → Type 0
SendsAll rules told filespace lines before after events (Ok outs) = (number : ℕ) × Rounds (SendsSome rules told filespace) number lines [] outs before after events
SendsAll rules told filespace lines before after events (Err e) =
    (number : ℕ) × (rest : List SendLine) × (outs : List (Option Refusal)) × (count : ℕ)
    × Then (λ xs. Rounds (SendsSome rules told filespace) number lines rest outs before count xs)
    (λ ys. ((e ≡ refused.Memory) × (ys ≡ []) × (after ≡ count)) ⊎ SendsNone rules told filespace rest count after ys e) events

-- ---- lines without tickets

-- the next lines, at most 256 of them, were committed together, or one by one, and this came of each
abbrev pub CommitsSome : {L : Type 0} → (List L → Asked) → Round L
CommitsSome {L} asking lines rest outs before after events =
    (run : List L) × (lines ≡ run ++ rest) × (length run ≤ 256) × (after ≡ before) × Commits asking run [] events (Ok outs)

-- All were committed so, one run after the other; or some were, and then the call ended, or memory was wanted for what is answered.
abbrev pub InRuns : {L : Type 0} → (List L → Asked) → List L → List Event → Result (List (Option Refusal)) Refusal → Type 0
InRuns asking lines events (Ok outs) = (number : ℕ) × Rounds (CommitsSome asking) number lines [] outs 0 0 events
InRuns {L} asking lines events (Err e) =
    (number : ℕ) × (rest : List L) × (outs : List (Option Refusal))
    × Then (λ xs. Rounds (CommitsSome asking) number lines rest outs 0 0 xs)
    (λ ys. ((e ≡ refused.Memory) × (ys ≡ []))
    ⊎ ((run : List L) × (back : List L) × (rest ≡ run ++ back) × (length run ≤ 256) × Commits asking run [] ys (Err e))) events
