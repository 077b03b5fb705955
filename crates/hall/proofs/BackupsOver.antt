-- What is kept of backups over a step's calls, whatever the store tells.
use Rattle.std.proofs.Common.{◌≡◌, ℕ, ◌≤◌, Option, Some, None, arith}
use Rattle.std.specs.Prelude.{IfSome}
use Rattle.store_api.specs.Disk.{History, now}
use Rattle.store_api.specs.Runs.{GoesOn}
use Rattle.store_api.specs.Told.{Told}
use Rattle.store_api.proofs.Runs.{goes_image_after}
use Rattle.machine.specs.State.{Machine}
use Rattle.hall.specs.Good.{Is, IsKept, WasSound}
use Rattle.hall.specs.Held.{Hall}
use Rattle.hall.specs.Protected.{HadBackups, KeepsAllBackups}
use Rattle.hall.proofs.BackupsSpared.{had_before}
use Rattle.hall.proofs.Stamping.{rise_over}

module _ {S : Type 0} (told : S → Option History) (moment : S → ℕ) (faults : S → ℕ → ℕ) (clock : (s : S) → IfSome (told s) (λ h. now h ≡ moment s)) (hall : Hall S) (store : S) (m : Machine) (is : Is told moment faults hall m)
    (R : History → History → Type 0) (mine : ℕ → Type 0) (goes : (h new : History) → R h new → GoesOn mine h new) (Q : History → Type 0) where
  -- what the run leaves of all backups that were kept before it
  pub backs_over : Told (told hall.store) (told store) R → ((h new : History) → R h new → IsKept m hall.held h → KeepsAllBackups m.core hall.held.opened h hall.held.job → Q new)
      → IfSome (told store) (λ new. WasSound hall.held.base hall.held.opened new → HadBackups hall.held.base hall.held.opened new → Q new)
  backs_over did leaves = both (told hall.store) (told store) did (clock hall.store) is.good.kept where
    both : (o n : Option History) → Told o n R → IfSome o (λ h. now h ≡ moment hall.store) → IfSome o (λ h. WasSound hall.held.base hall.held.opened h → IsKept m hall.held h)
        → IfSome n (λ new. WasSound hall.held.base hall.held.opened new → HadBackups hall.held.base hall.held.opened new → Q new)
    both None None r at kept = tt
    both None (Some new) r at kept = absurd r
    both (Some h) None r at kept = absurd r
    both (Some h) (Some new) r at kept = λ sound had.
        let first : hall.held.opened ≤ m.moment = rise_over hall.held.opened m.moment m.core.stamps is.good.stamped.rise in
        let before : hall.held.opened ≤ now h = omega (arith, first, is.clock, at) in
        let k = kept (sound.0, λ image it. sound.1 image (goes_image_after mine h new hall.held.opened image (goes h new r) before it)) in
        leaves h new r k (k.backups (had_before mine hall.held.base hall.held.opened h new (goes h new r) before had))
