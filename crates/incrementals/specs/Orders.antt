-- What an incremental backup may do.
use Rattle.std.specs.Prelude.{◌≡◌, ◌⊎◌, ℕ, Contains, List, length, Option, IfSome, Result}
use Rattle.std.specs.List.{AllByRecursion}
use Rattle.sha2.specs.Sha256.{sha256}
use Rattle.kinds.specs.ValueForms.{digest_with}
use Rattle.kinds.specs.declared.refusal.Refusal.{Refusal}
use Rattle.kinds.specs.declared.segment.Digest.{Digest}
use Rattle.client_batches.specs.declared.listing.SealedLine.{SealedLine}
use Rattle.client_batches.specs.Batches.{sealed_line}
use Rattle.client_batches.specs.Listings.{ending, rebinding, storing}
use Rattle.client_files.specs.Reading.{file_of}
use Rattle.client_plan.specs.Plans.{Lists}
use Rattle.client_plan.specs.declared.lines.GoneLine.{GoneLine}
use Rattle.client_plan.specs.declared.lines.RebindLine.{RebindLine}
use Rattle.client_plan.specs.declared.lines.SendLine.{SendLine}
use Rattle.client_trees.specs.Files.{Files}
use Rattle.steps.specs.declared.asked.Asked.{Asked}
use Rattle.steps.specs.Events.{Deed, Event}
use Rattle.steps.specs.Events.Deed.{OpenNew, WritePiece, Seal, Commit, DropTicket, Ask, Force}
use Rattle.incrementals.specs.declared.planning.Begun.{Begun}
use Rattle.incrementals.specs.Filespaces.{defining}

-- what was read of a file has this SHA-256, and as many bytes as were listed, where its tree tells it
abbrev pub IsReadAs : Option Files → SendLine → Digest → Type 0
IsReadAs told l digest = IfSome (file_of told l.file.path) (λ f. (length f.bytes ≡ l.file.size) × (digest ≡ digest_with (sha256 f.bytes)))

-- a file of the plan, as it is committed with the SHA-256 of what was sent
abbrev pub IsOfPlan : Option Files → Lists → SealedLine → Type 0
IsOfPlan told plan row = (l : SendLine) × (digest : Digest) × Contains plan.send l × (row ≡ sealed_line l digest) × IsReadAs told l digest

-- It stores files of the plan, binds paths of the plan anew, or ends versions of the plan; or it defines the node's filespace with the name that the backup was given.
abbrev pub IsOrdered : Option Files → (name : List ℕ) → Begun → Asked → Type 0
IsOrdered told name b asked =
    ((filespace : ℕ) × (rows : List SealedLine) × (asked ≡ storing filespace rows) × AllByRecursion (IsOfPlan told b.plan) rows)
    ⊎ ((filespace : ℕ) × (lines : List RebindLine) × (asked ≡ rebinding filespace lines) × AllByRecursion (λ l. Contains b.plan.rebind l) lines)
    ⊎ ((filespace : ℕ) × (lines : List GoneLine) × (asked ≡ ending filespace lines) × AllByRecursion (λ l. Contains b.plan.gone l) lines)
    ⊎ (asked ≡ defining b.node name)

-- It asks, forces, fills its own tickets and gives them back; or it tries a transaction that the plan orders.
abbrev pub IsOfBackup : Option Files → (name : List ℕ) → Begun → Deed → Type 0
IsOfBackup told name b (OpenNew pool size prefer answer) = Unit {0}
IsOfBackup told name b (WritePiece ticket bytes answer) = Unit {0}
IsOfBackup told name b (Seal ticket answer) = Unit {0}
IsOfBackup told name b (DropTicket ticket answer) = Unit {0}
IsOfBackup told name b (Ask query answer) = Unit {0}
IsOfBackup told name b (Force answer) = Unit {0}
IsOfBackup told name b (Commit asked tickets answer) = IsOrdered told name b asked
IsOfBackup told name b _ = ⊥

abbrev pub AreOfBackup : Option Files → (name : List ℕ) → Begun → List Event → Type 0
AreOfBackup told name b events = AllByRecursion (λ e. IsOfBackup told name b e.deed) events

-- it only asks
abbrev pub IsQuestion : Deed → Type 0
IsQuestion (Ask query answer) = Unit {0}
IsQuestion _ = ⊥

abbrev pub AreQuestions : List Event → Type 0
AreQuestions events = AllByRecursion (λ e. IsQuestion e.deed) events
