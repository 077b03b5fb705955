-- A batch: files are written, their tickets are sealed, and those that are sealed are committed.
use Rattle.std.specs.Prelude.{◌≡◌, ◌⊎◌, ℕ, List, [], ◌∷◌, ◌++◌, Option, Result, Ok, Err}
use Rattle.kinds.specs.declared.refusal.Refusal.{Refusal}
use Rattle.kinds.specs.declared.refusal.Refusal.TheVariants as refused
use Rattle.kinds.specs.declared.segment.Digest.{Digest}
use Rattle.client_files.specs.declared.outcome.Came.{Came}
use Rattle.client_files.specs.declared.outcome.Came.TheVariants as came
use Rattle.client_plan.specs.declared.lines.SendLine.{SendLine}
use Rattle.client_trees.specs.Files.{Files}
use Rattle.inventory_work.specs.declared.lines.Rules.{Rules}
use Rattle.steps.specs.Calls.{Then}
use Rattle.steps.specs.Events.{Event}
use Rattle.client_batches.specs.declared.batch.Batch.{Batch}
use Rattle.client_batches.specs.declared.listing.SealedLine.{SealedLine}
use Rattle.client_batches.specs.Commits.{Commits}
use Rattle.client_batches.specs.Listings.{storing}
use Rattle.client_batches.specs.Seals.{Seals}
use Rattle.client_batches.specs.Sends.{Fills, Sent, tickets_in}
use Rattle.client_batches.specs.Tickets.{GivesBack}

abbrev pub sealed_line : SendLine → Digest → SealedLine
sealed_line line digest = record { path = line.file.path; class = line.class; mtime = line.file.mtime; digest = digest }

-- a file as it is committed, where it is sealed
abbrev pub sealed_row : SendLine → Came → List SealedLine
sealed_row line (came.Written ticket digest) = sealed_line line digest ∷ []
sealed_row line (came.Failed e) = []
sealed_row line (came.Held holder) = []

-- the files that are sealed, as they are committed, each with the SHA-256 of what was sent
abbrev pub sealed_lines : List SendLine → List Came → List SealedLine
sealed_lines [] all = []
sealed_lines (l ∷ lines) [] = []
sealed_lines (l ∷ lines) (c ∷ all) = sealed_row l c ++ sealed_lines lines all

-- The files that are sealed become versions of their paths; where none is, no transaction is tried. Where memory is wanted before it the tickets are given back.
abbrev pub Stores : (filespace : ℕ) → List SendLine → List Came → (held : List ℕ) → List Event → Result (List (Option Refusal)) Refusal → Type 0
Stores filespace lines all held events result =
    ((held ≡ []) × (events ≡ []) × (result ≡ Ok []))
    ⊎ ((e : Refusal) × GivesBack held refused.Memory events e × (result ≡ Err e))
    ⊎ Commits (storing filespace) (sealed_lines lines all) held events result

-- The tickets are sealed, and the files of those that are become versions; or the call ends at a seal, and the tickets are given back.
abbrev pub SealsAndStores : (filespace : ℕ) → List SendLine → (all sealed : List Came) → List Event → Result (List (Option Refusal)) Refusal → Type 0
SealsAndStores filespace lines all sealed events result =
    ((e : Refusal) × Seals all sealed events (Err e) × (result ≡ Err e))
    ⊎ Then (λ xs. Seals all sealed xs (Ok tt)) (λ ys. Stores filespace lines sealed (tickets_in sealed) ys result) events

-- A batch was written, sealed and committed, or the call ended and its tickets are given back.
abbrev pub Batches : Rules → Option Files → (filespace : ℕ) → List SendLine → (before after : ℕ) → List Event → Result Batch Refusal → Type 0
Batches rules told filespace lines before after events (Ok b) =
    Then (λ xs. Sent rules told lines before after b.came xs) (λ ys. SealsAndStores filespace lines b.came b.sealed ys (Ok b.outs)) events
Batches rules told filespace lines before after events (Err e) =
    ((all : List Came) × Fills rules told lines before after all events (Err e))
    ⊎ ((all : List Came) × (sealed : List Came) × Then (λ xs. Sent rules told lines before after all xs) (λ ys. SealsAndStores filespace lines all sealed ys (Err e)) events)
