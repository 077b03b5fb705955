-- Over a store that tells its bytes and was sound at the opening, a step of the hall is one of the machine with these very bytes, and the store stays so.
use Rattle.std.proofs.Common.{◌≡◌, inl, inr, ℕ, ◌≤◌, List, Option, Some, None, Result, Ok, Err, refl, sym, subst, ◌∙◌, arith}
use Rattle.std.specs.Prelude.{IfSome}
use Rattle.store_api.specs.Disk.{History, now}
use Rattle.store_api.specs.Runs.{GoesOn}
use Rattle.store_api.specs.Told.{Told}
use Rattle.store_api.proofs.Runs.{goes_image_before}
use Rattle.kinds.specs.declared.refusal.Refusal.{Refusal}
use Rattle.kinds.specs.declared.segment.Digest.{Digest}
use Rattle.inventory_rows.specs.State.{Inv}
use Rattle.steps.specs.Events.{Deed, event}
use Rattle.steps.specs.Events.Deed.{OpenNew, OpenCopy, WritePiece, CopyPiece, Seal, Commit, DropTicket, ReadPiece, Ask, Image, Reuse, Force}
use Rattle.machine.specs.Machine.{Made, Reads}
use Rattle.machine.specs.State.{Machine, inventory}
use Rattle.hall.specs.Good.{Is, IsKept, WasSound}
use Rattle.hall.specs.Held.{Hall, Held}
use Rattle.hall.specs.Placed.{hall_places}
use Rattle.machine.specs.Alone.{with_contents}
use Rattle.hall.specs.Steps.{Goes, IsTrusted, Steps}
use Rattle.hall.proofs.Stamping.{rise_over}

-- a read leaves the bytes of objects
pub read_contents : (actor object : ℕ) (kept : Digest) (from offset wanted : ℕ) (old new : Machine) (answer : Result (List ℕ) Refusal) → Reads actor object kept from offset wanted old new answer
    → new.contents ≡ old.contents
read_contents actor object kept from offset wanted old new (Ok bytes) r = r.1.2.contents
read_contents actor object kept from offset wanted old new (Err e) (inl r) = r.1.contents
read_contents actor object kept from offset wanted old new (Err e) (inr r) = r.1.2.contents

module _ {S : Type 0} (told : S → Option History) (moment : S → ℕ) (faults : S → ℕ → ℕ) where
  module _ (actor : ℕ) (old new : Hall S) (m : Machine) (is : Is told moment faults old m) (trusted : IsTrusted (told old.store) old.held) where
    -- the machine's step with its own bytes, and the hall behind it
    abbrev Exact : Deed → Type 0
    Exact deed = (next : Machine) × Made hall_places actor (event (inventory m.core).number deed) m next × Is told moment faults new next

    as_made : (deed : Deed) (seen : ℕ → List ℕ) (next : Machine) → seen ≡ m.contents → Made hall_places actor (event (inventory m.core).number deed) (with_contents seen m) next
        → Made hall_places actor (event (inventory m.core).number deed) m next
    as_made deed seen next same made = subst (λ c. Made hall_places actor (event (inventory m.core).number deed) (with_contents c m) next) same made

    pub exact : (deed : Deed) → Steps told moment faults actor deed old new → Exact deed
    exact (OpenNew pool size prefer answer) s = let r = s m is in (r.1, as_made (OpenNew pool size prefer answer) r.0 r.1 r.2 r.3, r.4)
    exact (OpenCopy object aim avoid answer) s = let r = s m is in (r.1, as_made (OpenCopy object aim avoid answer) r.0 r.1 r.2 r.3, r.4)
    exact (WritePiece ticket bytes answer) s = let r = s m is in (r.1, as_made (WritePiece ticket bytes answer) r.0 r.1 r.2 r.3, r.4)
    exact (CopyPiece ticket answer) s = let r = s m is in (r.1, as_made (CopyPiece ticket answer) r.0 r.1 r.2 r.3, r.4)
    exact (Seal ticket answer) s = let r = s m is in (r.1, as_made (Seal ticket answer) r.0 r.1 r.2 r.3, r.4)
    exact (Commit asked tickets answer) s = let r = s m is in (r.1, as_made (Commit asked tickets answer) r.0 r.1 r.2 r.3, r.4)
    exact (DropTicket ticket answer) s = let r = s m is in (r.1, as_made (DropTicket ticket answer) r.0 r.1 r.2 r.3, r.4)
    exact (ReadPiece object kept from offset wanted answer) s =
        let r = s m is in
        let same : r.0 ≡ m.contents = r.2 trusted in
        let stays : r.1.contents ≡ m.contents = read_contents actor object kept from offset wanted (with_contents r.0 m) r.1 answer r.3.step ∙ same in
        (r.1, as_made (ReadPiece object kept from offset wanted answer) r.0 r.1 same r.3, subst (λ c. Is told moment faults new (with_contents c r.1)) (sym stays) r.4)
    exact (Ask query answer) s = let r = s m is in (r.1, as_made (Ask query answer) r.0 r.1 r.2 r.3, r.4)
    exact (Image kind answer) s = let r = s m is in (r.1, as_made (Image kind answer) r.0 r.1 r.2 r.3, r.4)
    exact (Reuse file answer) s = let r = s m is in (r.1, as_made (Reuse file answer) r.0 r.1 r.2 r.3, r.4)
    exact (Force answer) s = let r = s m is in (r.1, as_made (Force answer) r.0 r.1 r.2 r.3, r.4)

  -- ---- the store stays sound as it was at the opening

  trusted_on : (base : Inv) (opened : ℕ) (held : Held) (o n : Option History) → held.base ≡ base → held.opened ≡ opened → IfSome o (λ h. opened ≤ now h) → Told o n (GoesOn (λ file. Unit {0}))
      → IfSome o (λ h. WasSound base opened h) → IfSome n (λ h. WasSound held.base held.opened h)
  trusted_on base opened held None None same at before files t = tt
  trusted_on base opened held None (Some n) same at before files t = absurd files
  trusted_on base opened held (Some h) None same at before files t = absurd files
  trusted_on base opened held (Some h) (Some n) same at before files t =
      subst (λ b. WasSound b held.opened n) (sym same) (subst (λ k. WasSound base k n) (sym at)
      (t.0, λ image it. t.1 image (goes_image_before (λ file. Unit {0}) h n opened image files before it)))

  is_trusted : (o : Option History) (held : Held) → IsTrusted o held → (IfSome o (λ h. WasSound held.base held.opened h)) × ((h : History) × (o ≡ Some h))
  is_trusted None held t = absurd t
  is_trusted (Some h) held t = (t, (h, refl))

  to_trusted : (o n : Option History) (held : Held) → Told o n (GoesOn (λ file. Unit {0})) → ((h : History) × (o ≡ Some h)) → IfSome n (λ h. WasSound held.base held.opened h) → IsTrusted n held
  to_trusted None n held files some sound = absurd cc
  to_trusted (Some h) None held files some sound = absurd files
  to_trusted (Some h) (Some n) held files some sound = sound

  opened_before : (hall : Hall S) (m : Machine) (o : Option History) → Is told moment faults hall m → IfSome o (λ h. now h ≡ moment hall.store) → IfSome o (λ h. hall.held.opened ≤ now h)
  opened_before hall m None is clock = tt
  opened_before hall m (Some h) is clock =
      let from : hall.held.opened ≤ m.moment = rise_over hall.held.opened m.moment m.core.stamps is.good.stamped.rise in
      omega (arith, from, is.clock, clock)

  pub still_trusted : (clock : (s : S) → IfSome (told s) (λ h. now h ≡ moment s)) (old new : Hall S) (m : Machine) → Is told moment faults old m → IsTrusted (told old.store) old.held
      → Goes told old new → IsTrusted (told new.store) new.held
  still_trusted clock old new m is trusted goes =
      let t = is_trusted (told old.store) old.held trusted in
      to_trusted (told old.store) (told new.store) new.held goes.files t.1
      (trusted_on old.held.base old.held.opened new.held (told old.store) (told new.store) goes.base goes.opened (opened_before old m (told old.store) is (clock old.store)) goes.files t.0)

  -- ---- what it keeps

  pub kept_by : (hall : Hall S) (m : Machine) (h : History) → told hall.store ≡ Some h → Is told moment faults hall m → WasSound hall.held.base hall.held.opened h → IsKept m hall.held h
  kept_by hall m h tells is sound = (subst (λ o. IfSome o (λ k. WasSound hall.held.base hall.held.opened k → IsKept m hall.held k)) tells is.good.kept) sound
