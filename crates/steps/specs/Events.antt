-- What an actor did, step by step, and which refusals a step may answer.
use Rattle.std.specs.Prelude.{ℕ, ◌==◌, Bool, true, List, [], ◌∷◌, Option, None, Some, Result, Ok, Err}
use Rattle.std.specs.List.{list_any}
use Rattle.std.specs.Option.{option_map_or}
use Rattle.kinds.specs.Refusals.{number_of}
use Rattle.kinds.specs.declared.refusal.Refusal.{Refusal}
use Rattle.kinds.specs.declared.segment.Digest.{Digest}
use Rattle.inventory_answers.specs.declared.query.Query.{Query}
use Rattle.inventory_answers.specs.declared.reply.Answer.{Answer}
use Rattle.space.specs.declared.aim.Aim.{Aim}
use Rattle.steps.specs.declared.asked.Asked.{Asked}
use Rattle.steps.specs.declared.image.ImageKind.{ImageKind}
use Rattle.steps.specs.declared.image.ImageReply.{ImageReply}
use Rattle.steps.specs.declared.step.Reply.{Reply}
use Rattle.steps.specs.declared.step.Reply.TheVariants as reply
use Rattle.steps.specs.declared.step.Step.{Step}
use Rattle.steps.specs.declared.step.Step.TheVariants as step

-- A step with what it answered. A read that was answered has the bytes that were read, and a query its rows.
pub data Deed : Type 0 where
  OpenNew : (pool size prefer : ℕ) (answer : Result ℕ Refusal) → Deed
  OpenCopy : (object : ℕ) (aim : Aim) (avoid : ℕ) (answer : Result ℕ Refusal) → Deed
  WritePiece : (ticket : ℕ) (bytes : List ℕ) (answer : Result ℕ Refusal) → Deed
  CopyPiece : (ticket : ℕ) (answer : Result ℕ Refusal) → Deed
  Seal : (ticket : ℕ) (answer : Result (Unit {0}) Refusal) → Deed
  Commit : (asked : Asked) (tickets : List ℕ) (answer : Result ℕ Refusal) → Deed
  DropTicket : (ticket : ℕ) (answer : Result (Unit {0}) Refusal) → Deed
  ReadPiece : (object : ℕ) (kept : Digest) (from offset wanted : ℕ) (answer : Result (List ℕ) Refusal) → Deed
  Ask : (query : Query) (answer : Result Answer Refusal) → Deed
  Image : (kind : ImageKind) (answer : Result ImageReply Refusal) → Deed
  Reuse : (file : ℕ) (answer : Result ℕ Refusal) → Deed
  Force : (answer : Result ℕ Refusal) → Deed

-- a step that was made behind the transaction with this number, which was the last by then
pub record Event : Type 0 where
  pub n : ℕ
  pub deed : Deed

abbrev pub event : ℕ → Deed → Event
event n deed = record { n = n; deed = deed }

-- ---- steps and replies as values

abbrev pub step_of : Deed → Step
step_of (OpenNew pool size prefer answer) = step.OpenNew pool size prefer
step_of (OpenCopy object aim avoid answer) = step.OpenCopy object aim avoid
step_of (WritePiece ticket bytes answer) = step.WritePiece ticket bytes
step_of (CopyPiece ticket answer) = step.CopyPiece ticket
step_of (Seal ticket answer) = step.Seal ticket
step_of (Commit asked tickets answer) = step.Commit asked tickets
step_of (DropTicket ticket answer) = step.DropTicket ticket
step_of (ReadPiece object kept from offset wanted answer) = step.ReadPiece object kept from offset wanted
step_of (Ask query answer) = step.Ask query
step_of (Image kind answer) = step.Image kind
step_of (Reuse file answer) = step.Reuse file
step_of (Force answer) = step.Force

abbrev pub reply_of : Deed → Reply
reply_of (OpenNew pool size prefer answer) = reply.OpenNew answer
reply_of (OpenCopy object aim avoid answer) = reply.OpenCopy answer
reply_of (WritePiece ticket bytes answer) = reply.WritePiece answer
reply_of (CopyPiece ticket answer) = reply.CopyPiece answer
reply_of (Seal ticket answer) = reply.Seal answer
reply_of (Commit asked tickets answer) = reply.Commit answer
reply_of (DropTicket ticket answer) = reply.DropTicket answer
reply_of (ReadPiece object kept from offset wanted answer) = reply.ReadPiece answer
reply_of (Ask query answer) = reply.Ask answer
reply_of (Image kind answer) = reply.Image answer
reply_of (Reuse file answer) = reply.Reuse answer
reply_of (Force answer) = reply.Force answer

-- ---- refusals

abbrev pub refusal_in : {A : Type 0} → Result A Refusal → Option Refusal
refusal_in (Ok x) = None
refusal_in (Err e) = Some e

-- why the step was refused, where it was
abbrev pub refusal : Deed → Option Refusal
refusal (OpenNew pool size prefer answer) = refusal_in answer
refusal (OpenCopy object aim avoid answer) = refusal_in answer
refusal (WritePiece ticket bytes answer) = refusal_in answer
refusal (CopyPiece ticket answer) = refusal_in answer
refusal (Seal ticket answer) = refusal_in answer
refusal (Commit asked tickets answer) = refusal_in answer
refusal (DropTicket ticket answer) = refusal_in answer
refusal (ReadPiece object kept from offset wanted answer) = refusal_in answer
refusal (Ask query answer) = refusal_in answer
refusal (Image kind answer) = refusal_in answer
refusal (Reuse file answer) = refusal_in answer
refusal (Force answer) = refusal_in answer

-- The numbers of the refusals that a step may answer. Each may find the hall halted (40) or the run full (41). Steps that take no memory don't want any (50).
abbrev pub numbers : Deed → List ℕ
numbers (OpenNew pool size prefer answer) = 10 ∷ 20 ∷ 21 ∷ 29 ∷ 31 ∷ 40 ∷ 41 ∷ 50 ∷ []
numbers (OpenCopy object aim avoid answer) = 4 ∷ 10 ∷ 20 ∷ 21 ∷ 22 ∷ 23 ∷ 31 ∷ 40 ∷ 41 ∷ 50 ∷ []
numbers (WritePiece ticket bytes answer) = 10 ∷ 12 ∷ 25 ∷ 27 ∷ 40 ∷ 41 ∷ []
numbers (CopyPiece ticket answer) = 10 ∷ 12 ∷ 23 ∷ 24 ∷ 25 ∷ 40 ∷ 41 ∷ []
numbers (Seal ticket answer) = 10 ∷ 25 ∷ 27 ∷ 40 ∷ 41 ∷ []
numbers (Commit asked tickets answer) = 4 ∷ 10 ∷ 11 ∷ 12 ∷ 13 ∷ 14 ∷ 15 ∷ 21 ∷ 22 ∷ 23 ∷ 28 ∷ 30 ∷ 31 ∷ 40 ∷ 41 ∷ 50 ∷ []
numbers (DropTicket ticket answer) = 10 ∷ 40 ∷ 41 ∷ []
numbers (ReadPiece object kept from offset wanted answer) = 4 ∷ 10 ∷ 23 ∷ 24 ∷ 28 ∷ 40 ∷ 41 ∷ []
numbers (Ask query answer) = 10 ∷ 40 ∷ 41 ∷ 50 ∷ []
numbers (Image kind answer) = 10 ∷ 21 ∷ 25 ∷ 30 ∷ 31 ∷ 40 ∷ 41 ∷ 50 ∷ []
numbers (Reuse file answer) = 10 ∷ 12 ∷ 21 ∷ 31 ∷ 32 ∷ 40 ∷ 41 ∷ 50 ∷ []
numbers (Force answer) = 40 ∷ 41 ∷ []

abbrev pub has_number : List ℕ → Refusal → Bool
has_number numbers e = list_any (λ n. n == number_of e) numbers

-- the step was answered, or refused as it may be
unfoldable pub is_listed : Deed → Bool
is_listed deed = option_map_or (has_number (numbers deed)) (refusal deed) true
