-- What a hall at rest gives back of the images of its moment, as the store tells it later on; and what is kept of every hall over a store that was sound.
use Rattle.std.proofs.Common.{◌≡◌, ℕ, Option, None, Some, refl, sym, subst, arith}
use Rattle.std.specs.Prelude.{IfSome, List, length}
use Rattle.store_api.specs.Disk.{History, ImageAt, now}
use Rattle.store_api.specs.Runs.{GoesOn}
use Rattle.store_api.specs.Told.{Told}
use Rattle.store_api.proofs.Runs.{goes_image_before}
use Rattle.machine.specs.State.{Machine}
use Rattle.hall.specs.Good.{AlwaysSafe, Is, IsKept, WasSound}
use Rattle.hall.specs.Held.{Hall}
use Rattle.hall.specs.Steps.{IsTrusted}
use Rattle.hall_turns.specs.Left.{GivesState, LeavesSound}
use Rattle.tsm_top.specs.Sites.{IsThere}

module _ {S : Type 0} (told : S → Option History) (moment : S → ℕ) (faults : S → ℕ → ℕ) (clock : (s : S) → IfSome (told s) (λ h. now h ≡ moment s))
    (gives : (hall : Hall S) (m : Machine) (h : History) (image : ℕ → List ℕ) → told hall.store ≡ Some h → Is told moment faults hall m → WasSound hall.held.base hall.held.opened h
    → m.core.fault ≡ None → length m.core.stamps ≡ length m.core.journal → ImageAt h (now h) image → GivesState m image) where
  there_over : (hall : Hall S) (m : Machine) (x y : Option History) → told hall.store ≡ x → Is told moment faults hall m → m.core.fault ≡ None → length m.core.stamps ≡ length m.core.journal → IsTrusted x hall.held → IfSome x (λ h. now h ≡ m.moment)
      → Told x y (GoesOn (λ f. Unit {0})) → IsThere y m
  there_over hall m None y tells is free durable trusted at goes = absurd trusted
  there_over hall m (Some a) None tells is free durable trusted at goes = absurd goes
  there_over hall m (Some a) (Some b) tells is free durable trusted at goes = λ image here.
      let past : ImageAt a (now a) image = goes_image_before (λ f. Unit {0}) a b (now a) image goes (omega arith) (subst (λ (n : ℕ). ImageAt b n image) (sym at) here) in
      gives hall m a image tells is trusted free durable past

  pub there : (hall : Hall S) (m : Machine) (y : Option History) → Is told moment faults hall m → m.core.fault ≡ None → length m.core.stamps ≡ length m.core.journal → IsTrusted (told hall.store) hall.held → Told (told hall.store) y (GoesOn (λ f. Unit {0})) → IsThere y m
  there hall m y is free durable trusted goes =
      there_over hall m (told hall.store) y refl is free durable trusted (subst (λ (n : ℕ). IfSome (told hall.store) (λ h. now h ≡ n)) (sym is.clock) (clock hall.store)) goes

module _ {S : Type 0} (told : S → Option History) (moment : S → ℕ) (faults : S → ℕ → ℕ) where
  -- what is kept of every hall over a store that was sound
  abbrev pub AreKept : Type 0
  AreKept = (hall : Hall S) (m : Machine) (h : History) → told hall.store ≡ Some h → Is told moment faults hall m → WasSound hall.held.base hall.held.opened h → IsKept m hall.held h

  abbrev pub LeaveSound : Type 0
  LeaveSound = (hall : Hall S) (m : Machine) (h : History) → told hall.store ≡ Some h → Is told moment faults hall m → WasSound hall.held.base hall.held.opened h → LeavesSound m h

  -- images of every moment since the opening
  pub safe_since : AreKept → (hall : Hall S) (m : Machine) (x : Option History) → told hall.store ≡ x → Is told moment faults hall m → IsTrusted x hall.held → IfSome x (AlwaysSafe m.contents m.core hall.held.opened)
  safe_since kept hall m None tells is trusted = tt
  safe_since kept hall m (Some h) tells is trusted = (kept hall m h tells is trusted).always

  pub left_sound : LeaveSound → (hall : Hall S) (m : Machine) (x : Option History) → told hall.store ≡ x → Is told moment faults hall m → IsTrusted x hall.held → IfSome x (LeavesSound m)
  left_sound leave hall m None tells is trusted = tt
  left_sound leave hall m (Some h) tells is trusted = leave hall m h tells is trusted
