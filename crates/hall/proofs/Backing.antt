-- The steps of a database backup, one after another: what the hall is behind each.
use Rattle.std.proofs.Common.{◌≡◌, ◌⊎◌, inl, inr, ℕ, ◌+◌, ◌-◌, ◌<◌, ◌≤◌, Bool, true, false, not, ◌&&◌, if◌then◌else◌, List, [], ◌∷◌, ◌++◌, length, filter, Option, None, Some, Result, Ok, Err, is_some, refl, sym, ap, subst, ◌∙◌, arith}
use Rattle.std.specs.Prelude.{IfSome, OnOk, ◌==◌}
use Rattle.std.specs.List.{AllByRecursion, Contains}
use Rattle.std.proofs.lemmas.Bool.{false≢true}
use Rattle.store_api.specs.Cause.{NoneFell}
use Rattle.store_api.specs.Disk.{History, now, standing}
use Rattle.store_api.specs.Runs.{GoesOn, Synced}
use Rattle.store_api.specs.Told.{Told}
use Rattle.kinds.specs.Refusals.{foremost}
use Rattle.kinds.specs.declared.segment.Segment.{Segment}
use Rattle.kinds.specs.declared.refusal.Refusal.{Refusal}
use Rattle.entries.specs.declared.change.Change.{Change}
use Rattle.entries.specs.declared.change.Change.TheVariants as change
use Rattle.entries.specs.declared.entry.Entry.{Entry}
use Rattle.db_image.specs.declared.phase.Phase.{Phase}
use Rattle.db_image.specs.Steps.{CanShut, Job, Underway}
use Rattle.inventory_rows.specs.State.{Inv}
use Rattle.inventory_rules.specs.Backups.{backup_at, is_unfinished}
use Rattle.vault.specs.Pieces.{Pending}
use Rattle.vault.specs.Vaults.{State}
use Rattle.machine.specs.Machine.{durable, with_image}
use Rattle.machine.specs.State.{Core, Image, Machine, Ticket, backup, inventory, own_image, is_among, without}
use Rattle.hall.specs.Backing.{with_job}
use Rattle.hall.specs.Covered.{NumbersAreDrawn, left_open}
use Rattle.hall.specs.Good.{AllInProgress, Is, IsKept, IsListed, WasSound}
use Rattle.hall.specs.Held.{BegunImage, Hall, Held, IsBackup, IsImage, begun_of}
use Rattle.hall.specs.Imaging.{own_begun}
use Rattle.hall.proofs.Imaging.{own_is}
use Rattle.hall.proofs.Stamped.{numbers_same}
use Rattle.hall.specs.Protected.{HadBackups, KeepsAllBackups}
use Rattle.hall.proofs.BackupsAlike.{same_keeps}
use Rattle.hall.proofs.BackupsSpared.{dropped_keeps}

-- ---- the image in progress alone

module _ {S : Type 0} (told : S → Option History) (moment : S → ℕ) (faults : S → ℕ → ℕ) (hall : Hall S) (m : Machine) (is : Is told moment faults hall m) where
  -- another image is in progress, or none
  module _ (i : Option Image) (b : Option BegunImage) (job : Option Job) where
    abbrev pub imaged_at : Machine
    imaged_at = record m { core = with_image i m.core }

    abbrev pub imaged_held : Held
    imaged_held = with_job b job hall.held

    kept_imaged : (h : History) → IsKept m hall.held h → (m.core.fault ≡ None → AllInProgress (with_image i m.core) imaged_held i h)
        → (HadBackups hall.held.base hall.held.opened h → KeepsAllBackups (with_image i m.core) hall.held.opened h job) → IsKept imaged_at imaged_held h
    kept_imaged h k progress backed = record {
      since = k.since;
      first = k.first;
      always = λ moment image from to at. let s = k.always moment image from to at in record { last = s.last; durable = s.durable; made = s.made; recovers = s.recovers; holds = s.holds };
      left = k.left;
      sure = k.sure;
      firm = k.firm;
      tickets = k.tickets;
      image = progress;
      backups = backed;
    }

    -- what is kept of all backups then
    abbrev pub Backed : Option History → Type 0
    Backed o = IfSome o (λ h. WasSound hall.held.base hall.held.opened h → IsKept m hall.held h → HadBackups hall.held.base hall.held.opened h → KeepsAllBackups (with_image i m.core) hall.held.opened h job)

    pub is_imaged : begun_of i ≡ b → (hall.held.vault.fault ≡ None → IsImage m.core.base.number hall.held.vault.generation hall.held.vault.pending job i) → (m.core.fault ≡ None → IsListed (left_open m.core) i)
        → IfSome (told hall.store) (λ h. WasSound hall.held.base hall.held.opened h → IsKept m hall.held h → m.core.fault ≡ None → AllInProgress (with_image i m.core) imaged_held i h)
        → Backed (told hall.store) → Is told moment faults (record { store = hall.store; held = imaged_held }) imaged_at
    is_imaged begun image listed progress backed = record {
      core = record {
        base = is.core.base;
        journal = is.core.journal;
        database = is.core.database;
        stamps = is.core.stamps;
        forced = is.core.forced;
        tickets = is.core.tickets;
        space = record { tickets = is.core.space.tickets; noted = is.core.space.noted; freed = is.core.space.freed; ascending = is.core.space.ascending; next_file = is.core.space.next_file };
        next_object = is.core.next_object;
        next_ticket = is.core.next_ticket;
        image = begun;
        is_image = image;
        generation = is.core.generation;
        log_length = is.core.log_length;
        fault = is.core.fault;
      };
      clock = is.clock;
      counts = is.counts;
      good = record {
        lawful = record { valid = is.good.lawful.valid; tied = is.good.lawful.tied; legal = is.good.lawful.legal; short = is.good.lawful.short };
        stamped = record { few = is.good.stamped.few; rise = is.good.stamped.rise; waiting = is.good.stamped.waiting };
        space = record { filled = is.good.space.filled; clear = is.good.space.clear; apart = is.good.space.apart };
        numbers = numbers_same m.core.stamps i m.core.generation m.core.log_length m.core.fault m.core is.good.numbers;
        bytes = record { sized = is.good.bytes.sized; fronts = is.good.bytes.fronts };
        listed = listed;
        kept = both (told hall.store) is.good.kept progress backed;
      };
    }
      where
        both : (o : Option History) → IfSome o (λ h. WasSound hall.held.base hall.held.opened h → IsKept m hall.held h)
            → IfSome o (λ h. WasSound hall.held.base hall.held.opened h → IsKept m hall.held h → m.core.fault ≡ None → AllInProgress (with_image i m.core) imaged_held i h)
            → Backed o → IfSome o (λ h. WasSound hall.held.base hall.held.opened h → IsKept imaged_at imaged_held h)
        both None kept progress backed = tt
        both (Some h) kept progress backed = λ sound. kept_imaged h (kept sound) (progress sound (kept sound)) (backed sound (kept sound))

  some_tt : (o : Option History) → IfSome o (λ h. WasSound hall.held.base hall.held.opened h → IsKept m hall.held h → m.core.fault ≡ None → AllInProgress (with_image None m.core) (with_job None None hall.held) None h)
  some_tt None = tt
  some_tt (Some h) = λ sound k none. tt

  none_backed : (o : Option History) → Backed None None None o
  none_backed None = tt
  none_backed (Some h) = λ sound k had.
      same_keeps h m.core m.core.tickets m.core.next_file m.core.next_object m.core.next_ticket None m.core.generation m.core.log_length hall.held.opened None (dropped_keeps h m.core hall.held.opened hall.held.job (k.backups had))

  -- the image is dropped
  pub is_dropped : hall.held.vault.pending ≡ None → Is told moment faults (record { store = hall.store; held = with_job None None hall.held }) (record m { core = with_image None m.core })
  is_dropped none =
      is_imaged None None None refl (λ _. subst (λ (p : Option Pending). IsImage m.core.base.number hall.held.vault.generation p None None) (sym none) tt) (λ _. tt) (some_tt (told hall.store)) (none_backed (told hall.store))

-- ---- the image is the actor's, and a backup

-- the actor's image is a backup with this writer, and the vault writes none
pub record OwnBackup (actor : ℕ) (job : Job) (pending : Option Pending) (i : Option Image) : Type 0 where
  pub its : Image
  pub there : i ≡ Some its
  pub mine : own_image actor i ≡ Some its
  pub none : pending ≡ None
  pub is : IsBackup job its

pub own_backup : (actor first generation : ℕ) (pending : Option Pending) (job : Job) (i : Option Image) → is_some (own_begun actor (begun_of i)) ≡ true → IsImage first generation pending (Some job) i
    → OwnBackup actor job pending i
own_backup actor first generation pending job None mine is = absurd cc
own_backup actor first generation None job (Some x) mine is = record { its = x; there = refl; mine = own_is actor x mine; none = refl; is = is }
own_backup actor first generation (Some p) job (Some x) mine is = absurd is
