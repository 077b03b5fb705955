-- The row of an expiration: what is unretained all along goes.
use Rattle.std.specs.Prelude.{◌≡◌, ℕ, ◌≤◌, ◌&&◌, Bool, true, not, List, [], ◌∷◌}
use Rattle.inventory_rows.specs.State.{Inv}
use Rattle.inventory_rules.specs.Ordered.{IsOrdered}
use Rattle.inventory_rules.specs.Owed.{is_retained}
use Rattle.inventory_rules.specs.Valid.{is_valid}
use Rattle.inventory_rules.specs.Versions.{is_under}
use Rattle.steps.specs.Events.{Event}
use Rattle.machine.specs.Fits.{Fits, History, Own, inv, last}

-- an object is kept under the path of a filespace, and isn't retained today
abbrev pub is_expirable : (filespace : ℕ) → List ℕ → (object : ℕ) → Inv → Bool
is_expirable filespace path object v = is_under filespace path object v && not (is_retained filespace path object v)

-- each database of the history is valid, and its rows stand in order
pub record AreSound (w : History) : Type 0 where
  pub valid : (n : ℕ) → w.base.number ≤ n → n ≤ last w → is_valid (inv w n) ≡ true
  pub ordered : (n : ℕ) → w.base.number ≤ n → n ≤ last w → IsOrdered (inv w n)

-- the numbers of the first and of the last of some events
abbrev pub first_of : List Event → ℕ
first_of [] = 0
first_of (e ∷ events) = e.n

abbrev pub last_of : List Event → ℕ
last_of [] = 0
last_of (e ∷ []) = e.n
last_of (e ∷ f ∷ events) = last_of (f ∷ events)

-- Nothing is left of what can expire all along: in no history that these events fit is there an object that is kept and unretained at each number from the first event's to the last one's. So
-- what was kept and unretained up to the last step isn't kept there any more.
abbrev pub IsExpired : List Event → Type 0
IsExpired events =
    (w : History) (actor : ℕ) (a b : Own) → AreSound w → Fits w actor a events b
    → (filespace : ℕ) (path : List ℕ) (object : ℕ) → ((n : ℕ) → first_of events ≤ n → n ≤ last_of events → is_expirable filespace path object (inv w n) ≡ true) → ⊥
