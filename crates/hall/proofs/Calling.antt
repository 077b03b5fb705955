-- A step that made device calls on the vault's files.
use Rattle.std.proofs.Common.{◌≡◌, ℕ, ◌+◌, ◌≤◌, ◌^◌, Option, Some, None, ap, arith}
use Rattle.std.specs.Prelude.{IfSome}
use Rattle.store_api.specs.Cause.{NoneFell}
use Rattle.store_api.specs.Disk.{History, now}
use Rattle.store_api.specs.Runs.{GoesOn}
use Rattle.store_api.specs.Told.{Told}
use Rattle.store_api.proofs.Runs.{goes_image_after}
use Rattle.vault.specs.Files.{IsOurs}
use Rattle.machine.specs.Machine.{Later}
use Rattle.machine.specs.State.{Machine}
use Rattle.hall.specs.Good.{Is, IsKept, WasSound}
use Rattle.hall.specs.Held.{Hall, Held}
use Rattle.machine.specs.Alone.{with_contents}
use Rattle.hall.proofs.Stamping.{rise_over}

module _ {S : Type 0} (told : S → Option History) (moment : S → ℕ) (faults : S → ℕ → ℕ) (hall : Hall S) (store : S) where
  -- the store was sound before the run where it is said to have been behind it
  pub sound_before : (m : Machine) (h new : History) → Is told moment faults hall m → now h ≡ moment hall.store → (goes : GoesOn IsOurs h new) → WasSound hall.held.base hall.held.opened new
      → WasSound hall.held.base hall.held.opened h
  sound_before m h new is at goes sound =
      let from : hall.held.opened ≤ m.moment = rise_over hall.held.opened m.moment m.core.stamps is.good.stamped.rise in
      let before : hall.held.opened ≤ now h = omega (arith, from, is.clock, at) in
      (sound.0, λ image it. sound.1 image (goes_image_after IsOurs h new hall.held.opened image goes before it))

  -- what is kept is kept behind the calls, as far as the run that they made leaves it
  pub kept_by : (R : History → History → Type 0) (m next : Machine) (held : Held) → Is told moment faults hall m → Told (told hall.store) (told store) R
      → ((s : S) → IfSome (told s) (λ h. now h ≡ moment s))
      → ((h new : History) → R h new → GoesOn IsOurs h new)
      → ((h new : History) → R h new → now new ≡ moment store → IsKept m hall.held h → IsKept next held new)
      → IfSome (told store) (λ h. WasSound hall.held.base hall.held.opened h → IsKept next held h)
  kept_by R m next held is did clock goes leaves = kept_both (told hall.store) (told store) did (clock hall.store) (clock store) is.good.kept
    where
      kept_both : (o n : Option History) → Told o n R → IfSome o (λ h. now h ≡ moment hall.store) → IfSome n (λ h. now h ≡ moment store)
          → IfSome o (λ h. WasSound hall.held.base hall.held.opened h → IsKept m hall.held h)
          → IfSome n (λ h. WasSound hall.held.base hall.held.opened h → IsKept next held h)
      kept_both None None r at to kept = tt
      kept_both None (Some new) r at to kept = absurd r
      kept_both (Some h) None r at to kept = absurd r
      kept_both (Some h) (Some new) r at to kept = λ sound. leaves h new r to (kept (sound_before m h new is at (goes h new r) sound))

  pub later_run : NoneFell (faults hall.store) (faults store) → moment hall.store ≤ moment store → moment store ≤ moment hall.store + 2 ^ 24 → (m next : Machine) → Is told moment faults hall m
      → next.counts ≡ faults store → next.moment ≡ moment store → Later (with_contents m.contents m) next
  later_run counts since soon m next is c t = record {
    counts = λ file. let a = ap (λ (f : ℕ → ℕ). f file) is.counts in let b = ap (λ (f : ℕ → ℕ). f file) c in let le = counts file in omega (arith, a, b, le);
    since = omega (arith, is.clock, t, since);
    soon = omega (arith, is.clock, t, soon);
  }
