-- What a store tells before and after a call.
use Rattle.std.specs.Prelude.{◌≡◌, ◌⊎◌, ℕ, ◌+◌, ◌-◌, ◌≤◌, min, List, [], length, take, drop, Option, None, Some, Result, Ok, Err}
use Rattle.store_api.specs.declared.store.Failed.{Failed}
use Rattle.store_api.specs.Disk.{Call, on, idle, write, cut, settle, History, with_call, now, standing, Leaves}

-- Both tell, and R holds of what they tell; or neither tells. A store doesn't begin to tell, and doesn't cease.
abbrev pub Told : {A B : Type 0} → Option A → Option B → (A → B → Type 0) → Type 0
Told None None R = Unit {0}
Told (Some before) (Some after) R = R before after
Told None (Some after) R = ⊥
Told (Some before) None R = ⊥

-- the history grew by one call, which is one of those that the call may be
abbrev pub Adds : (Call → Type 0) → History → History → Type 0
Adds MayBe before after = (call : Call) × MayBe call × (after ≡ with_call call before)

-- A write. One that failed may have had no effect, or have changed a part of its range to any bytes.
abbrev pub MayWrite : {T : Type 0} → ℕ → ℕ → List ℕ → Result T Failed → Call → Type 0
MayWrite file at bytes (Ok done) call = call ≡ on file (write at (length bytes) bytes)
MayWrite file at bytes (Err failed) call = (call ≡ idle)
    ⊎ ((start : ℕ) × (span : ℕ) × (other : List ℕ) × (at ≤ start) × (start + span ≤ at + length bytes) × (length other ≤ span) × (call ≡ on file (write start span other)))

-- A cut. One that failed may have had no effect, or have cut off a part of what was to go.
abbrev pub MayCut : {T : Type 0} → ℕ → ℕ → Result T Failed → Call → Type 0
MayCut file len (Ok done) call = call ≡ on file (cut len len)
MayCut file len (Err failed) call = (call ≡ idle) ⊎ ((left : ℕ) × (len ≤ left) × (call ≡ on file (cut len left)))

-- a sync, which has no effect where it failed
abbrev pub MaySync : {T : Type 0} → ℕ → Result T Failed → Call → Type 0
MaySync file (Ok done) call = call ≡ on file settle
MaySync file (Err failed) call = call ≡ idle

-- What was read is what stands there from the offset on: as much as the buffer holds, or all there is.
pub record ReadsFrom (file : List ℕ) (offset : ℕ) (buffer : List ℕ) (count : ℕ) : Type 0 where
  pub many : count ≡ min (length buffer) (length file - offset)
  pub same : take count buffer ≡ take count (drop offset file)

-- after a stop each file has what the stop may leave of it, all of it on the disk, and the moment is the same
pub record StopsAs (before after : History) : Type 0 where
  pub same_moment : after.began ≡ now before
  pub nothing_pending : after.calls ≡ []
  pub left : (file : ℕ) → Leaves (standing before file) (after.first file)
