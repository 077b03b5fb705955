-- What a hall leaves in a store that was sound when it was opened.
use Rattle.std.proofs.Common.{◌≡◌, ℕ, ◌+◌, ◌-◌, ◌≤◌, List, [], length, reverse, Option, None, Some, sym, ap, subst, ◌∙◌, arith}
use Rattle.std.specs.Prelude.{IfSome}
use Rattle.std.specs.List.{Contains}
use Rattle.std.proofs.lemmas.List.{drop_all, take_all}
use Rattle.store_api.specs.Disk.{History, ImageAt, now, reads}
use Rattle.store_api.proofs.Pieces.{image_reads}
use Rattle.fields.specs.Editions.{second_form}
use Rattle.contents.specs.Contents.{Holds}
use Rattle.entries.specs.declared.entry.Entry.{Entry}
use Rattle.inventory.specs.Meaningful.{is_meaning}
use Rattle.inventory.specs.Meant.{meaning}
use Rattle.inventory_rows.specs.State.{Inv}
use Rattle.log_file.specs.Blocks.{blocks}
use Rattle.log_file.specs.Safety.{acknowledged}
use Rattle.vault.specs.Recovery.{Recovers, RecoversWithin, after_all, records_of}
use Rattle.vault.specs.Vaults.{IsGood, IsHeld, RecoversAs, State}
use Rattle.vault.specs.Vaults as vaults
use Rattle.vault.proofs.Goodness.{whole_image}
use Rattle.vault.proofs.Sounding.{within_recovers}
use Rattle.vault.proofs.Unique.{one_database}
use Rattle.machine.specs.Machine.{durable}
use Rattle.machine.specs.State.{Core, Machine, after, inventory}
use Rattle.hall.specs.Covered.{databases, inv_at, left_open}
use Rattle.hall.specs.Good.{Is, IsKept, IsSafe, WasSound}
use Rattle.hall.specs.Held.{Hall, Held}
use Rattle.hall.specs.Opening.{IsSound}
use Rattle.hall.proofs.Covering.{images_hold}
use Rattle.hall.proofs.Databases.{left_at}
use Rattle.hall.proofs.Exact.{kept_by}
use Rattle.hall.proofs.Turns.{every_stamp}
use Rattle.hall_turns.specs.Left.{GivesState, LeavesSound}
use Rattle.store_api.proofs.Runs.{left_of_image, now_image}
use Rattle.inventory_laws.proofs.Origins.{contained_holds}
use Rattle.vault.specs.Files.{IsOurs}
use Rattle.hall.proofs.BackupsSpared.{all_open, recovered_open as one_open}
use Rattle.hall.specs.Protected.{HadBackups, HoldTheirDatabases}
use Rattle.hall.proofs.BackupsOpened.{had_left, images_hold_theirs}

-- ---- a vault in which nothing waits is good

good_now : (vault : State Inv) (d : Inv) (h : History) → IsHeld meaning vault d h → vault.forced ≡ length vault.journal → IsGood meaning vault h
good_now vault d h held all =
    let none : held.waiting ≡ [] = held.are ∙ ap (λ (l : List Entry). reverse l) (drop_all vault.forced vault.journal (omega (arith, all))) in
    let here : vault.sure ≡ vault.end = sym (held.log.is_end ∙ ap (λ (l : List Entry). vault.sure + length (blocks (records_of l))) none ∙ (omega arith)) in
    record {
      base = held.base;
      entries = held.entries;
      holds = subst (λ (n : ℕ). vaults.Holds meaning vault.generation held.base held.entries n h) here held.holds;
      gives = held.all ∙ ap (λ (l : List Entry). after_all meaning d l) none ∙ held.gives;
      none = here;
      all = all;
    }

-- ---- a hall

-- the database behind all transactions
pub inv_at_all : (c : Core) → inv_at (length c.journal) c ≡ inventory c
inv_at_all c = ap (λ (l : List Entry). after c.base l) (take_all (length c.journal) c.journal (omega arith))

module _ {S : Type 0} (told : S → Option History) (moment : S → ℕ) (faults : S → ℕ → ℕ) (clock : (s : S) → IfSome (told s) (λ h. now h ≡ moment s)) where
  module _ (hall : Hall S) (m : Machine) (h : History) (tells : told hall.store ≡ Some h) (is : Is told moment faults hall m) (sound : WasSound hall.held.base hall.held.opened h) where
    kept : IsKept m hall.held h
    kept = kept_by told moment faults hall m h tells is sound

    -- every stamp is at most the moment
    at_now : now h ≡ m.moment
    at_now = subst (λ (o : Option History). IfSome o (λ g. now g ≡ moment hall.store)) tells (clock hall.store) ∙ sym is.clock

    acknowledged_all : acknowledged (now h) m.core.stamps ≡ length m.core.stamps
    acknowledged_all = every_stamp hall.held.opened m.moment (now h) m.core.stamps is.good.stamped.rise (omega (arith, at_now))

    safe : (image : ℕ → List ℕ) → ImageAt h (now h) image → IsSafe m.contents m.core (acknowledged (now h) m.core.stamps) image
    safe image here = kept.always (now h) image kept.since (omega arith) here

    -- each image holds each database that a stop may bring back
    holds_at : (image : ℕ → List ℕ) → ImageAt h (now h) image → (n : ℕ) → length m.core.stamps ≤ n → Holds m.contents image (inv_at n m.core)
    holds_at image here n le = left_at (Holds m.contents image) m.core n le (images_hold m.contents h m.core image kept.firm here)

    -- ---- at rest

    module _ (free : m.core.fault ≡ None) (whole : length m.core.stamps ≡ length m.core.journal) where
      sound_vault : IsGood meaning hall.held.vault h
      sound_vault =
          let none : hall.held.vault.fault ≡ None = sym is.core.fault ∙ free in
          good_now hall.held.vault (durable m.core) h (kept.sure free) (is.core.forced none ∙ whole ∙ ap (λ (l : List Entry). length l) is.core.journal)

      pub there : (image : ℕ → List ℕ) → ImageAt h (now h) image → GivesState m image
      there image here =
          let none : hall.held.vault.fault ≡ None = sym is.core.fault ∙ free in
          let back : RecoversAs meaning hall.held.vault image = whole_image meaning hall.held.vault h image sound_vault here in
          let parts = subst (λ (v : Inv). (r : RecoversWithin meaning image v) × (r.form ≡ second_form) × (r.generation ≡ hall.held.vault.generation) × (length (blocks (records_of r.entries)) ≡ hall.held.vault.end)) is.core.database
          (back.recovers, back.written, back.by_image, back.log) in
          record {
            recovers = parts.0;
            written = parts.1;
            by_image = parts.2 ∙ sym is.core.generation;
            log = parts.3 ∙ sym (is.core.log_length none);
            holds = subst (λ (v : Inv). Holds m.contents image v) (inv_at_all m.core) (holds_at image here (length m.core.journal) (omega (arith, whole)));
          }

    -- ---- at the end

    own : IsSafe m.contents m.core (acknowledged (now h) m.core.stamps) (reads h)
    own = safe (reads h) (image_reads h)

    recovered : Recovers meaning (reads h) (inv_at own.last m.core)
    recovered = within_recovers meaning (reads h) (inv_at own.last m.core) own.recovers

    sound_now : IsSound m.contents h
    sound_now = record {
      each = λ image here. let it = safe image here in (inv_at it.last m.core, (it.recovers, it.holds));
      read = λ v is_v image here.
          subst (λ (w : Inv). Holds m.contents image w) (one_database meaning is_meaning (reads h) (inv_at own.last m.core) v recovered is_v)
          (holds_at image here own.last (let all = acknowledged_all in omega (arith, all, own.durable)));
    }

    pub left_sound : LeavesSound m h
    left_sound = record { last = own.last; durable = own.durable; made = own.made; recovers = recovered; sound = sound_now }

    -- ---- its backups

    -- the database to which the store recovers is one that a stop may bring back
    recovered_open : (v : Inv) → Recovers meaning (reads h) v → Contains (left_open m.core) v
    recovered_open v is_v =
        subst (Contains (left_open m.core)) (one_database meaning is_meaning (reads h) (inv_at own.last m.core) v recovered is_v)
        (left_at (Contains (left_open m.core)) m.core own.last (let all = acknowledged_all in omega (arith, all, own.durable)) (all_open m.core))

    pub left_backups : HadBackups hall.held.base hall.held.opened h → (v : Inv) → Recovers meaning (reads h) v → HadBackups v (now h) h
    left_backups had v is_v = had_left h h m.core hall.held.opened hall.held.job v (kept.backups had) (recovered_open v is_v) (λ image here n from. now_image h image here n)

    -- each image that a stop may leave holds the databases of the run's own
    pub left_hold : HadBackups hall.held.base hall.held.opened h → (image : ℕ → List ℕ) → ImageAt h (now h) image → (v : Inv) → Recovers meaning image v → HoldTheirDatabases image m.core.base m.core.journal v
    left_hold had image here v recovers =
        contained_holds (HoldTheirDatabases image m.core.base m.core.journal) (left_open m.core) v (one_open m.core image (kept.left image (left_of_image IsOurs h image here)) v recovers)
        (images_hold_theirs h m.core hall.held.opened hall.held.job image (kept.backups had) here)
