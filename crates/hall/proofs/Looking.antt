-- Device calls that change no file leave a hall what it was.
use Rattle.std.proofs.Common.{◌≡◌, inl, inr, ℕ, ◌+◌, ◌-◌, ◌≤◌, Bool, true, false, if◌then◌else◌, List, [], ◌∷◌, length, Option, Some, None, refl, sym, ap, subst, ◌∙◌, arith}
use Rattle.std.specs.Prelude.{IfSome}
use Rattle.std.proofs.Math.Path.{fun_ext}
use Rattle.std.proofs.lemmas.Bool.{cases_lt, le-leb}
use Rattle.store_api.specs.Disk.{History, ImageAt, Leaves, Standing, now, standing}
use Rattle.store_api.specs.Runs.{Firm, GoesOn, Stands}
use Rattle.store_api.specs.Told.{Told}
use Rattle.store_api.proofs.Runs.{goes_image_after, goes_image_before, goes_images, goes_later, goes_standing, goes_weaker, image_now}
use Rattle.contents.specs.Contents.{FramesHave, TookHave}
use Rattle.contents.proofs.Kept.{beside}
use Rattle.contents.proofs.Segments.{each_of}
use Rattle.db_image.specs.Steps.{Job}
use Rattle.inventory.specs.Meant.{meaning}
use Rattle.inventory_laws.proofs.Lists.{each_also}
use Rattle.inventory_rows.specs.State.{Inv}
use Rattle.log_file.specs.Safety.{acknowledged}
use Rattle.vault.specs.Vaults.{IsPending, State}
use Rattle.vault.proofs.Goodness.{held_beside}
use Rattle.machine.specs.Machine.{durable}
use Rattle.machine.specs.State.{Image, Machine, Ticket, object_of}
use Rattle.hall.specs.declared.seat.Seat.{Seat}
use Rattle.hall.specs.Covered.{covered, inv_at}
use Rattle.hall.specs.Good.{AllInProgress, HasTaken, Is, IsKept, IsSafe, Rise, StandsOn, WasSound}
use Rattle.hall.specs.Held.{Hall, Held}
use Rattle.hall.proofs.BackupsSpared.{had_before, still_keeps}
use Rattle.hall.proofs.Forcing.{underway_same}
use Rattle.hall.proofs.Stamping.{few_acknowledged, rise_later, rise_over}

-- by a moment that no stamp is behind every stamp is reached
all_acknowledged : (first last : ℕ) (stamps : List ℕ) → Rise first last stamps → acknowledged last stamps ≡ length stamps
all_acknowledged first last [] r = refl
all_acknowledged first last (s ∷ stamps) r =
    let reached : s ≤ last = rise_over s last stamps r.1 in
    let others : acknowledged last stamps ≡ length stamps = all_acknowledged s last stamps r.1 in
    let e : 1 + acknowledged last stamps ≡ length (s ∷ stamps) = omega (arith, others) in
    ap (λ b. (if b then 1 else 0) + acknowledged last stamps) (le-leb s last reached) ∙ e

-- a checkpoint goes on over calls that change no file
abbrev pub GoesOnPending : Type 0
GoesOnPending = (vault : State Inv) (snapshot : Inv) (h new : History) → GoesOn (λ f. ⊥) h new → IsPending meaning vault snapshot h → IsPending meaning vault snapshot new

-- as the vault says of runs on other files
pub goes_on_pending : ((theirs : ℕ → Bool) (vault : State Inv) (snapshot : Inv) (old new : History) → ((n : ℕ) → theirs n ≡ true → 4 ≤ n) → GoesOn (λ n. theirs n ≡ true) old new
    → IsPending meaning vault snapshot old → IsPending meaning vault snapshot new) → GoesOnPending
goes_on_pending stays vault snapshot h new goes p =
    stays (λ n. false) vault snapshot h new (λ n e. absurd cc) (goes_weaker (λ n. ⊥) (λ n. false ≡ true) h new (λ n none. absurd none) goes) p

module _ (h new : History) (goes : GoesOn (λ f. ⊥) h new) where
  same_standing : standing new ≡ standing h
  same_standing = fun_ext (λ file. goes_standing (λ f. ⊥) h new file (λ none. none) goes)

  taken_still : (seats : List (ℕ × Seat)) (t : Ticket) → HasTaken seats h t → HasTaken seats new t
  taken_still seats t taken = record {
    stands = subst (λ (s : ℕ → Standing). TookHave (λ file at piece. Stands (s file).bytes at piece) (object_of t.purpose) 0 t.place.segments t.bytes) (sym same_standing) taken.stands;
    firm = λ is_sealed. subst (λ (s : ℕ → Standing). FramesHave (λ file at piece. Firm (s file) at piece) (object_of t.purpose) 0 t.place.segments t.bytes) (sym same_standing) (taken.firm is_sealed);
  }

  -- each image since is one of the moment before
  image_before : (moment : ℕ) (image : ℕ → List ℕ) → now h ≤ moment → moment ≤ now new → ImageAt new moment image → ImageAt h (now h) image
  image_before moment image from to at = image_now h image (λ file. goes_images (λ f. ⊥) h new file (λ none. none) goes moment image from to at)

  module _ (pends : GoesOnPending) (m : Machine) (held : Held) (k : IsKept m held h) (rise : Rise held.opened (now h) m.core.stamps) where
    always_still : (moment : ℕ) (image : ℕ → List ℕ) → held.opened ≤ moment → moment ≤ now new → ImageAt new moment image → IsSafe m.contents m.core (acknowledged moment m.core.stamps) image
    always_still moment image from to at = elim (cases_lt moment (now h)) as (λ _. IsSafe m.contents m.core (acknowledged moment m.core.stamps) image) [
      | inl l ↦ let le : moment ≤ now h = omega (arith, l) in k.always moment image from le (goes_image_before (λ f. ⊥) h new moment image goes le at)
      | inr g ↦
          let s = k.always (now h) image k.since (omega arith) (image_before moment image g to at) in
          let all : acknowledged (now h) m.core.stamps ≡ length m.core.stamps = all_acknowledged held.opened (now h) m.core.stamps rise in
          let few : acknowledged moment m.core.stamps ≤ length m.core.stamps = few_acknowledged moment m.core.stamps in
          record { last = s.last; durable = omega (arith, s.durable, all, few); made = s.made; recovers = s.recovers; holds = s.holds }
    ]

    stands_still : (job : Option Job) (i : Image) → StandsOn m.core held.vault job i h → StandsOn m.core held.vault job i new
    stands_still None i p = pends held.vault (inv_at (i.seq - m.core.base.number) m.core) h new goes p
    stands_still (Some job) i p = (p.0, p.1, underway_same job.phase job h new (goes_standing (λ f. ⊥) h new job.file (λ none. none) goes) p.2, p.3)

    image_still : (i : Option Image) → AllInProgress m.core held i h → AllInProgress m.core held i new
    image_still None p = tt
    image_still (Some i) p = record { since = p.since; durable = p.durable; stands = stands_still held.job i p.stands }

    kept_still : (moment : ℕ) (counts : ℕ → ℕ) → IsKept (record m { moment = moment; counts = counts }) held new
    kept_still moment counts = record {
      since = (let after : now h ≤ now new = goes_later (λ f. ⊥) h new goes in omega (arith, k.since, after));
      first = λ image at. k.first image (goes_image_before (λ f. ⊥) h new held.opened image goes k.since at);
      always = always_still;
      left = λ files l. k.left files (λ file ours. subst (λ f. Leaves f (files file)) (goes_standing (λ f. ⊥) h new file (λ none. none) goes) (l file ours));
      sure = λ none. held_beside meaning (λ f. ⊥) held.vault (durable m.core) h new (λ file ours no. no) goes (k.sure none);
      firm = beside (λ f. ⊥) m.contents h new (covered m.core) (each_of (λ s. ¬ ⊥) (λ s none. none) (covered m.core)) goes k.firm;
      tickets = each_also (HasTaken held.seats h) (HasTaken held.seats new) m.core.tickets (taken_still held.seats) k.tickets;
      image = λ none. image_still m.core.image (k.image none);
      backups = λ had. still_keeps h new m.core held.opened goes k.since held.job (k.backups (had_before (λ f. ⊥) held.base held.opened h new goes k.since had));
    }

-- ---- the hall

module _ {S : Type 0} (told : S → Option History) (moment : S → ℕ) (faults : S → ℕ → ℕ) (clock : (s : S) → IfSome (told s) (λ h. now h ≡ moment s)) (pends : GoesOnPending) (hall : Hall S) (store : S)
    (since : moment hall.store ≤ moment store) where
  -- the same machine, at the store's moment with its counts
  abbrev pub looked_at : Machine → Machine
  looked_at m = record m { moment = moment store; counts = faults store }

  -- the store was sound before the calls where it is said to have been behind them
  sound_before : (m : Machine) (h new : History) → Is told moment faults hall m → now h ≡ moment hall.store → GoesOn (λ f. ⊥) h new → WasSound hall.held.base hall.held.opened new
      → WasSound hall.held.base hall.held.opened h
  sound_before m h new is at goes sound =
      let from : hall.held.opened ≤ m.moment = rise_over hall.held.opened m.moment m.core.stamps is.good.stamped.rise in
      let before : hall.held.opened ≤ now h = omega (arith, from, is.clock, at) in
      (sound.0, λ image it. sound.1 image (goes_image_after (λ f. ⊥) h new hall.held.opened image goes before it))

  kept_looked : (m : Machine) → Is told moment faults hall m → (o n : Option History) → Told o n (GoesOn (λ f. ⊥)) → IfSome o (λ h. now h ≡ moment hall.store)
      → IfSome o (λ h. WasSound hall.held.base hall.held.opened h → IsKept m hall.held h) → IfSome n (λ h. WasSound hall.held.base hall.held.opened h → IsKept (looked_at m) hall.held h)
  kept_looked m is None None looked at kept = tt
  kept_looked m is None (Some new) looked at kept = absurd looked
  kept_looked m is (Some h) None looked at kept = absurd looked
  kept_looked m is (Some h) (Some new) looked at kept = λ sound.
      kept_still h new looked pends m hall.held (kept (sound_before m h new is at looked sound))
      (subst (λ n. Rise hall.held.opened n m.core.stamps) (is.clock ∙ sym at) is.good.stamped.rise) (moment store) (faults store)

  pub still_is : (m : Machine) → Told (told hall.store) (told store) (GoesOn (λ f. ⊥)) → Is told moment faults hall m → Is told moment faults (record { store = store; held = hall.held }) (looked_at m)
  still_is m looked is = record {
    core = is.core;
    clock = refl;
    counts = refl;
    good = record {
      lawful = is.good.lawful;
      listed = is.good.listed;
      stamped = record {
        few = is.good.stamped.few;
        rise = rise_later hall.held.opened m.moment (moment store) m.core.stamps is.good.stamped.rise (omega (arith, is.clock, since));
        waiting = is.good.stamped.waiting;
      };
      space = is.good.space;
      numbers = is.good.numbers;
      bytes = is.good.bytes;
      kept = kept_looked m is (told hall.store) (told store) looked (clock hall.store) is.good.kept;
    };
  }
