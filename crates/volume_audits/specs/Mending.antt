-- How a damaged copy is mended: it is dropped, and where it is the object's last one the object is discarded.
use Rattle.std.specs.Prelude.{◌≡◌, ◌⊎◌, ℕ, ◌==◌, Bool, true, false, if◌then◌else◌, List, [], ◌∷◌, length, Result, Ok, Err}
use Rattle.kinds.specs.Refusals.{number_of}
use Rattle.kinds.specs.declared.refusal.Refusal.{Refusal}
use Rattle.kinds.specs.declared.segment.Digest.{Digest}
use Rattle.entries.specs.change_items.declared.reasons.DiscardReason.TheVariants as because
use Rattle.entries.specs.change_items.declared.reasons.DropReason.TheVariants as since
use Rattle.entries.specs.declared.change.Change.TheVariants as change
use Rattle.copy_attempts.specs.Attempts.{is_passed, stopping}
use Rattle.deletions.specs.Discarding.{TriesBy}
use Rattle.inventory_work.specs.declared.lines.CopyLine.{CopyLine}
use Rattle.steps.specs.declared.asked.Asked.{Asked}
use Rattle.steps.specs.declared.asked.Asked.TheVariants as asked
use Rattle.steps.specs.Calls.{Then}
use Rattle.steps.specs.Events.{Deed, Event, has_number}
use Rattle.steps.specs.Events.Deed.{Commit}
use Rattle.volume_audits.specs.declared.mending.Dropped.{Dropped}
use Rattle.volume_audits.specs.declared.mending.Dropped.TheVariants as came

-- ---- transactions

-- the copy is dropped, since an audit of the volume found other bytes than were stored
abbrev pub dropping : (file : ℕ) → CopyLine → Digest → Asked
dropping file line found =
    asked.Plain (change.DropCopies (record { reason = since.Audit file; items = (record { object = line.object; pool = line.pool; placed = line.placed; found = found }) ∷ [] }))

-- its object is discarded for that
abbrev pub discarding : (file : ℕ) → CopyLine → Digest → Asked
discarding file line found = asked.Plain (change.Discard (record { reason = because.Audit file; items = (record { object = line.object; found = found }) ∷ [] }))

-- ---- what was mended

abbrev pub drops_of : Asked → ℕ
drops_of (asked.Plain (change.DropCopies c)) = length c.items
drops_of (asked.Plain (change.Discard c)) = length c.items
drops_of _ = 0

abbrev pub mended_by : Deed → ℕ
mended_by (Commit asked tickets answer) = drops_of asked
mended_by _ = 0

-- ---- what refusals lead to

-- the copy isn't as it was named, or the object is gone
abbrev pub is_gone : Refusal → Bool
is_gone e = has_number (10 ∷ 22 ∷ 23 ∷ []) e

abbrev pub undropped : Refusal → Result Dropped Refusal
undropped e = if is_gone e then Ok came.Passed else (if number_of e == 12 then Ok came.Last else Err (stopping e))

-- what the transaction came to that drops the copy
abbrev pub dropped_as : Result ℕ Refusal → Result Dropped Refusal
dropped_as (Ok number) = Ok came.Gone
dropped_as (Err e) = undropped e

-- how many went by the transaction that discards the object: none where it is gone, or has a copy elsewhere by now
abbrev pub discarded_as : Result ℕ Refusal → Result ℕ Refusal
discarded_as (Ok number) = Ok 1
discarded_as (Err e) = if is_passed e then Ok 0 else Err (stopping e)

-- ---- a copy

abbrev pub Drops : (file : ℕ) → CopyLine → Digest → List Event → Result Dropped Refusal → Type 0
Drops file line found events result = TriesBy dropped_as (dropping file line found) events result

abbrev pub Discards : (file : ℕ) → CopyLine → Digest → List Event → Result ℕ Refusal → Type 0
Discards file line found events result = TriesBy discarded_as (discarding file line found) events result

-- It is dropped, or passed over; or it is the last one, and its object is discarded, or passed over. This many went.
abbrev pub Mends : (file : ℕ) → CopyLine → Digest → List Event → Result ℕ Refusal → Type 0
Mends file line found events result =
    (Drops file line found events (Ok came.Gone) × (result ≡ Ok 1))
    ⊎ (Drops file line found events (Ok came.Passed) × (result ≡ Ok 0))
    ⊎ Then (λ xs. Drops file line found xs (Ok came.Last)) (λ ys. Discards file line found ys result) events
    ⊎ ((e : Refusal) × Drops file line found events (Err e) × (result ≡ Err e))

-- where that is asked
abbrev pub MendsIf : (fix : Bool) → (file : ℕ) → CopyLine → Digest → List Event → Result ℕ Refusal → Type 0
MendsIf false file line found events result = (events ≡ []) × (result ≡ Ok 0)
MendsIf true file line found events result = Mends file line found events result

-- ---- steps

-- it drops a copy of the volume, or discards an object for it
abbrev pub IsMending : (file : ℕ) → Deed → Type 0
IsMending file d =
    (line : CopyLine) × (found : Digest) × (answer : Result ℕ Refusal) × ((d ≡ Commit (dropping file line found) [] answer) ⊎ (d ≡ Commit (discarding file line found) [] answer))
