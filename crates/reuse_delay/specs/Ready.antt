-- The row of the process: which volumes may be reused, and that each of them was.
use Rattle.std.specs.Prelude.{◌≡◌, ◌⊎◌, ℕ, ◌≤◌, Bool, true, false, List, Ok}
use Rattle.std.specs.Result.{is_ok}
use Rattle.inventory_rows.specs.pool_rows.Segments.{may_reuse_at}
use Rattle.inventory_rows.specs.State.{Inv}
use Rattle.inventory_work.specs.Volumes.{emptied}
use Rattle.steps.specs.Events.{Event}
use Rattle.steps.specs.Events.Deed.{Reuse}
use Rattle.steps.specs.Receipts.{receipts}
use Rattle.machine.specs.Fits.{Fits, History, Own, inv}
use Rattle.copy_attempts.specs.Outcomes.{MetBy}
use Rattle.copy_runs.specs.Ends.{first_of, last_of}

-- the volume is a sequential one on which something was written, without copies, and its reuse delay is over
abbrev pub is_ready : ℕ → Inv → Bool
is_ready file v = is_ok (may_reuse_at file v.today v.stores)

-- it was reused, by one of these steps
abbrev pub IsReused : ℕ → List Event → Type 0
IsReused file events = MetBy (λ d. (number : ℕ) × (d ≡ Reuse file (Ok number))) events

-- at one of the numbers from the first event's to the last one's it may not be reused
abbrev pub IsUnready : ℕ → List Event → History → Type 0
IsUnready file events w = (n : ℕ) × (first_of events ≤ n) × (n ≤ last_of events) × (is_ready file (inv w n) ≡ false)

-- Each volume that may be reused where it begins was reused, or at one of the numbers up to its last step's it may not be: so each that may be reused all along was.
abbrev pub AreReused : List Event → Type 0
AreReused events =
    (w : History) (actor : ℕ) (a b : Own) → Fits w actor a events b → (file : ℕ) → is_ready file (inv w (first_of events)) ≡ true → IsReused file (receipts events) ⊎ IsUnready file events w
