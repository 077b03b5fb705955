-- What the audit of a volume did.
use Rattle.std.specs.Prelude.{◌≡◌, ◌⊎◌, ℕ, ◌+◌, Bool, true, List, [], ◌∷◌, ◌++◌, Result, Ok, Err}
use Rattle.std.specs.List.{AllByRecursion, sum_by}
use Rattle.kinds.specs.declared.refusal.Refusal.{Refusal}
use Rattle.kinds.specs.declared.segment.Digest.{Digest}
use Rattle.copy_runs.specs.Ends.{AreAsking, Finished, IsEnding, IsStopped, IsUnlisted}
use Rattle.inventory_answers.specs.declared.query.Query.TheVariants as query
use Rattle.inventory_answers.specs.declared.reply.Answer.{Answer}
use Rattle.inventory_answers.specs.declared.reply.Rows.TheVariants as rows
use Rattle.inventory_work.specs.declared.lines.CopyLine.{CopyLine}
use Rattle.steps.specs.Calls.{Then}
use Rattle.steps.specs.Events.{Deed, Event, event}
use Rattle.steps.specs.Events.Deed.{Ask, ReadPiece}
use Rattle.steps.specs.Receipts.{receipts}
use Rattle.steps.specs.Spent.{AreSettled}
use Rattle.volume_audits.specs.declared.looking.Found.{Found}
use Rattle.volume_audits.specs.declared.looking.Found.TheVariants as found
use Rattle.volume_audits.specs.declared.audit.Audit.{Audit}
use Rattle.volume_audits.specs.declared.audit.Damaged.{Damaged}
use Rattle.volume_audits.specs.declared.audit.Verdict.{Verdict}
use Rattle.volume_audits.specs.Looking.{Looks}
use Rattle.volume_audits.specs.Mending.{IsMending, MendsIf, mended_by}
use Rattle.volume_audits.specs.Rows.{AreAllListed}

-- ---- counts

-- how many copies and objects the transactions of these steps take away
abbrev pub mended : List Event → ℕ
mended events = sum_by (λ e. mended_by e.deed) events

-- ---- one copy

abbrev pub damage : CopyLine → Digest → Damaged
damage line found = record { object = line.object; kept = line.digest; found = found }

-- What came of one copy: it was read and is sound, was read and isn't, or wasn't read; one that isn't sound was mended, where that is asked.
abbrev pub Audits : (fix : Bool) → (file : ℕ) → CopyLine → List Event → Result Verdict Refusal → Type 0
Audits fix file line events (Ok v) =
    (Looks line events (Ok found.Sound) × (v.found ≡ found.Sound) × (v.fixed ≡ 0))
    ⊎ (Looks line events (Ok found.Unread) × (v.found ≡ found.Unread) × (v.fixed ≡ 0))
    ⊎ ((digest : Digest) × (v.found ≡ found.Damaged digest) × Then (λ xs. Looks line xs (Ok (found.Damaged digest))) (λ ys. MendsIf fix file line digest ys (Ok v.fixed)) events)
Audits fix file line events (Err e) =
    Looks line events (Err e)
    ⊎ ((digest : Digest) × Then (λ xs. Looks line xs (Ok (found.Damaged digest))) (λ ys. MendsIf fix file line digest ys (Err e)) events)

-- ---- all of them

-- nothing was found
abbrev pub nothing : Audit
nothing = record { sound = 0; damaged = []; fixed = 0 }

-- how many sound copies it is that this was found of one
abbrev pub sound_by : Found → ℕ
sound_by found.Sound = 1
sound_by found.Unread = 0
sound_by (found.Damaged digest) = 0

-- the copy, where it is damaged
abbrev pub damage_by : CopyLine → Found → List Damaged
damage_by line found.Sound = []
damage_by line found.Unread = []
damage_by line (found.Damaged digest) = damage line digest ∷ []

-- what was found of one copy, and of others behind it
abbrev pub noted : Verdict → CopyLine → Audit → Audit
noted v line others = record { sound = sound_by v.found + others.sound; damaged = damage_by line v.found ++ others.damaged; fixed = v.fixed + others.fixed }

-- These copies were audited one after the other. `sound` counts those that were read and have the bytes that were stored, `damaged` has those that were read and have others, in the order of the list.
abbrev pub Audited : (fix : Bool) → (file : ℕ) → List CopyLine → List Event → Audit → Type 0
Audited fix file [] events a = (events ≡ []) × (a ≡ nothing)
Audited fix file (line ∷ lines) events a =
    (v : Verdict) × (others : Audit) × (a ≡ noted v line others) × Then (λ xs. Audits fix file line xs (Ok v)) (λ ys. Audited fix file lines ys others) events

-- ---- steps

-- it asks, forces, reads a piece of one of these copies, or with `fix` mends one
abbrev pub IsAuditing : (fix : Bool) → (file : ℕ) → Deed → Type 0
IsAuditing fix file d =
    IsEnding d
    ⊎ ((line : CopyLine) × (offset : ℕ) × (wanted : ℕ) × (answer : Result (List ℕ) Refusal) × (d ≡ ReadPiece line.object line.digest line.pool offset wanted answer))
    ⊎ ((fix ≡ true) × IsMending file d)

abbrev pub AreAuditing : (fix : Bool) → (file : ℕ) → List Event → Type 0
AreAuditing fix file events = AllByRecursion (λ e. IsAuditing fix file e.deed) events

-- these steps ended with this refusal
pub record Breaks (fix : Bool) (file : ℕ) (events : List Event) (e : Refusal) : Type 0 where
  pub cause : IsStopped events e
  pub only : AreAuditing fix file events

abbrev pub AuditsAll : (fix : Bool) → (file : ℕ) → List CopyLine → List Event → Result Audit Refusal → Type 0
AuditsAll fix file lines events (Ok a) = Audited fix file lines events a
AuditsAll fix file lines events (Err e) = Breaks fix file events e

-- ---- the list

-- the copies on the volume were asked for, and answered with these lines
abbrev pub Listed : (file : ℕ) → List Event → List CopyLine → Type 0
Listed file events lines = (n : ℕ) × (answer : Answer) × (events ≡ event n (Ask (query.OnVolume file) (Ok answer)) ∷ []) × (answer.rows ≡ rows.OnVolume lines)

abbrev pub Lists : (file : ℕ) → List Event → Result (List CopyLine) Refusal → Type 0
Lists file events (Ok lines) = Listed file events lines
Lists file events (Err e) = IsUnlisted (query.OnVolume file) events e × AreAsking events

-- ---- the whole

-- they were audited, all was made durable, and the number of the last transaction was asked for
abbrev pub Ends : (fix : Bool) → (file : ℕ) → List CopyLine → List Event → Result Audit Refusal → Type 0
Ends fix file lines events (Ok a) = Then (λ xs. Audited fix file lines xs a) Finished events
Ends fix file lines events (Err e) = Breaks fix file events e

-- the copies were asked for, and then audited
abbrev pub IsInOrder : (fix : Bool) → (file : ℕ) → List CopyLine → List Event → Audit → Type 0
IsInOrder fix file lines events a = Then (λ xs. Listed file xs lines) (λ ys. Ends fix file lines ys (Ok a)) events

-- What it did where it answered: what it mended is in its receipts; and its steps came in their order, by which each copy on the list was read and is sound, was read and is damaged, or couldn't be read;
-- and each copy that lay on the volume where it began is on the list.
pub record IsAudit (fix : Bool) (file : ℕ) (events : List Event) (a : Audit) : Type 0 where
  pub lines : List CopyLine
  pub fixed : a.fixed ≡ mended (receipts events)
  pub order : IsInOrder fix file lines events a
  pub row : AreAllListed file lines events

-- or its refusal is want of memory, or one that ends a process and that one of its steps met; or the volume isn't there
abbrev pub Came : (fix : Bool) → (file : ℕ) → List Event → Result Audit Refusal → Type 0
Came fix file events (Ok a) = IsAudit fix file events a
Came fix file events (Err e) = IsUnlisted (query.OnVolume file) events e

-- What it did, and that it asked, forced, read copies, and with `fix` dropped copies and discarded objects for it, and no more; and it has opened no ticket that is left.
pub record VolumeAudit (fix : Bool) (file : ℕ) (events : List Event) (result : Result Audit Refusal) : Type 0 where
  pub came : Came fix file events result
  pub only : AreAuditing fix file events
  pub settled : AreSettled events
