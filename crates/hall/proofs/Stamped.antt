-- What is held and good where every transaction has a stamp, where an image in progress went on, and where a fault halted the hall.
use Rattle.std.proofs.Common.{◌≡◌, ℕ, ◌-◌, ◌≤◌, true, false, List, [], ◌++◌, length, replicate, Option, Some, None, refl, sym, ap, subst, ◌∙◌, arith}
use Rattle.std.specs.Prelude.{IfSome}
use Rattle.std.specs.List.{AllByRecursion, Contains}
use Rattle.std.proofs.lemmas.List.{length-drop}
use Rattle.store_api.specs.Disk.{History}
use Rattle.kinds.specs.declared.segment.Segment.{Segment}
use Rattle.entries.specs.declared.entry.Entry.{Entry}
use Rattle.db_image.specs.Steps.{Job}
use Rattle.inventory_laws.proofs.Lists.{each_also}
use Rattle.inventory_rows.specs.State.{Inv}
use Rattle.inventory_rules.specs.Backups.{backup_at, is_unfinished}
use Rattle.space.specs.Claims.{forced as none_freed}
use Rattle.vault.specs.Pieces.{Pending}
use Rattle.vault.specs.Vaults.{State, all_forced, halted_at, with_pending}
use Rattle.machine.specs.Machine.{durable, freed, halting, space, stamped}
use Rattle.machine.specs.State.{Core, Image, Machine, backup, checkpoint, inventory, unforced}
use Rattle.hall.specs.Covered.{IsClear, NumbersAreDrawn, SpaceIsClear, is_any_reuse, is_beside, left_open}
use Rattle.hall.specs.Good.{HasBytes, IsGood, IsKept, IsLawful, IsListed, Rise, WasSound}
use Rattle.hall.specs.Held.{BegunImage, Held, IsCore, IsImage, begun_of}
use Rattle.hall.specs.Placed.{IsSpace}
use Rattle.hall.specs.Seats.{all_stamped, with_vault}
use Rattle.hall.proofs.Databases.{last_left, left_alone, none_waits}
use Rattle.hall.proofs.Forcing.{all_have_stamps, imaged}
use Rattle.hall.proofs.Stamping.{rise_later, rise_more}

-- ---- what is held

in_none : {X : Type 0} (x : X) → Contains [] x → ⊥
in_none x c = omega (arith, c.1)

space_forced : (t : ℕ) (held : Held) (c : Core) → IsCore held c → length c.stamps ≤ length c.journal → IsSpace (inventory c) (space (stamped t c)) (none_freed held.claims)
space_forced t held c is few =
    let none : (space (stamped t c)).freed ≡ [] = ap (freed (durable (stamped t c))) (none_waits (stamped t c) (all_have_stamps t c few)) in
    record {
      tickets = is.space.tickets;
      noted = λ number s has. absurd (in_none (number, s) (subst (λ l. Contains l (number, s)) none has));
      freed = λ number places p has within. absurd (in_none (number, places) has);
      ascending = refl;
      next_file = is.space.next_file;
    }

-- the vault went on to this one with the same transactions, all of which are forced
pub record AllForced (old next : State Inv) : Type 0 where
  pub database : next.database ≡ old.database
  pub journal : next.journal ≡ old.journal
  pub forced : next.forced ≡ length old.journal
  pub fault : next.fault ≡ None

-- whatever image is in progress then
pub core_stamped : (t : ℕ) (held : Held) (c : Core) (next : State Inv) (i : Option Image) (generation long : ℕ) (b : Option BegunImage) (job : Option Job) → AllForced held.vault next → IsCore held c
    → held.vault.fault ≡ None → length c.stamps ≤ length c.journal → begun_of i ≡ b → IsImage c.base.number next.generation next.pending job i → generation ≡ next.generation → long ≡ next.end
    → IsCore (record (all_stamped t (with_vault next held)) { image = b; job = job }) (imaged i generation long (stamped t c))
core_stamped t held c next i generation long b job same is none few begun is_image is_generation is_long =
    let count : length (unforced c) ≡ length next.journal - length held.stamps =
    length-drop (length c.stamps) c.journal ∙ ap (λ (j : List Entry). length j - length c.stamps) (is.journal ∙ sym same.journal) ∙ ap (λ (s : List ℕ). length next.journal - length s) is.stamps in
    record {
      base = is.base;
      journal = is.journal ∙ sym same.journal;
      database = same.database ∙ is.database;
      stamps = ap (λ n. c.stamps ++ replicate n t) count ∙ ap (λ (l : List ℕ). l ++ replicate (length next.journal - length held.stamps) t) is.stamps;
      forced = λ _. same.forced ∙ ap length (sym is.journal) ∙ sym (all_have_stamps t c few);
      tickets = is.tickets;
      space = space_forced t held c is few;
      next_object = is.next_object;
      next_ticket = is.next_ticket;
      image = begun;
      is_image = λ _. is_image;
      generation = is_generation;
      log_length = λ _. is_long;
      fault = is.fault ∙ none ∙ sym same.fault;
    }

pub core_forced : (t : ℕ) (held : Held) (c : Core) → IsCore held c → held.vault.fault ≡ None → length c.stamps ≤ length c.journal
    → IsCore (all_stamped t (with_vault (all_forced held.vault) held)) (stamped t c)
core_forced t held c is none few =
    core_stamped t held c (all_forced held.vault) c.image c.generation c.log_length held.image held.job (record { database = refl; journal = refl; forced = refl; fault = refl }) is none few is.image
    (is.is_image none) is.generation (is.log_length none)

pub core_halted : (file count forced sure : ℕ) (held : Held) (c : Core) → IsCore held c → IsCore (with_vault (halted_at held.vault forced sure file count) held) (halting file count c)
core_halted file count forced sure held c is = record {
  base = is.base;
  journal = is.journal;
  database = is.database;
  stamps = is.stamps;
  forced = λ none. absurd cc;
  tickets = is.tickets;
  space = record { tickets = is.space.tickets; noted = is.space.noted; freed = is.space.freed; ascending = is.space.ascending; next_file = is.space.next_file };
  next_object = is.next_object;
  next_ticket = is.next_ticket;
  image = is.image;
  is_image = λ none. absurd cc;
  generation = is.generation;
  log_length = λ none. absurd cc;
  fault = refl;
}

-- a checkpoint went on, and with it the image in progress
pub core_further : (held : Held) (c : Core) (pending : Option Pending) (i : Option Image) → IsCore held c → begun_of i ≡ held.image
    → (held.vault.fault ≡ None → IsImage c.base.number held.vault.generation pending held.job i)
    → IsCore (with_vault (with_pending held.vault pending) held) (imaged i c.generation c.log_length c)
core_further held c pending i is begun is_image = record {
  base = is.base;
  journal = is.journal;
  database = is.database;
  stamps = is.stamps;
  forced = is.forced;
  tickets = is.tickets;
  space = record { tickets = is.space.tickets; noted = is.space.noted; freed = is.space.freed; ascending = is.space.ascending; next_file = is.space.next_file };
  next_object = is.next_object;
  next_ticket = is.next_ticket;
  image = begun;
  is_image = is_image;
  generation = is.generation;
  log_length = is.log_length;
  fault = is.fault;
}

-- ---- the space of tickets, and numbers

-- a segment that is clear of all that a stop may bring back is clear of what there is now
clear_alone : (t : ℕ) (c : Core) → length c.stamps ≤ length c.journal → (pool : ℕ) (s : Segment) → IsClear c pool s → IsClear (stamped t c) pool s
clear_alone t c few pool s clear =
    let now : is_beside pool s (inventory c) ≡ true = last_left (λ v. is_beside pool s v ≡ true) c clear.0 in
    (subst (λ l. AllByRecursion (λ v. is_beside pool s v ≡ true) l) (sym (left_alone (stamped t c) (all_have_stamps t c few))) (now, tt), clear.1)

clear_stamped : (t : ℕ) (c : Core) (i : Option Image) (generation long : ℕ) → length c.stamps ≤ length c.journal → SpaceIsClear c → SpaceIsClear (imaged i generation long (stamped t c))
clear_stamped t c i generation long few s = record {
  filled = s.filled;
  clear = each_also (λ x. AllByRecursion (IsClear c x.place.pool) x.place.segments) (λ x. AllByRecursion (IsClear (imaged i generation long (stamped t c)) x.place.pool) x.place.segments) c.tickets
      (λ x all. each_also (IsClear c x.place.pool) (IsClear (imaged i generation long (stamped t c)) x.place.pool) x.place.segments
      (λ y clear. clear_alone t c few x.place.pool y clear) all) s.clear;
  apart = s.apart;
}

-- stamps, an image in progress and a fault change nothing of the numbers that were drawn
pub numbers_same : (stamps : List ℕ) (i : Option Image) (generation long : ℕ) (fault : Option (ℕ × ℕ)) (c : Core) → NumbersAreDrawn c
    → NumbersAreDrawn (record c { stamps = stamps; image = i; generation = generation; log_length = long; fault = fault })
numbers_same stamps i generation long fault c n = record {
  tickets = n.tickets;
  below = n.below;
  objects = n.objects;
  apart = n.apart;
  pools = n.pools;
  files = n.files;
  lying = n.lying;
  none_back = n.none_back;
  next_file = n.next_file;
  next_object = n.next_object;
  bounds = n.bounds;
}

-- ---- what is good

-- What is good of a hall, but that none of the transactions that wait is the reuse of a volume.
pub record IsNearlyGood (m : Machine) (held : Held) : Type 0 where
  pub lawful : IsLawful m.core
  pub few : length m.core.stamps ≤ length m.core.journal
  pub rise : Rise held.opened m.moment m.core.stamps
  pub space : SpaceIsClear m.core
  pub numbers : NumbersAreDrawn m.core
  pub bytes : HasBytes m.contents m.core

pub nearly : (told : Option History) (m : Machine) (held : Held) → IsGood told m held → IsNearlyGood m held
nearly told m held g = record { lawful = g.lawful; few = g.stamped.few; rise = g.stamped.rise; space = g.space; numbers = g.numbers; bytes = g.bytes }

-- no checkpoint is listed
pub checkpoint_unlisted : (list : List Inv) (i : Image) → i.picture ≡ checkpoint → IsListed list (Some i)
checkpoint_unlisted list i is = λ other. let both : checkpoint ≡ backup = sym is ∙ other in absurd cc

-- a backup that is listed wherever a stop may lead is listed now
pub listed_stamped : (t : ℕ) (c : Core) (i : Option Image) → length c.stamps ≤ length c.journal → IsListed (left_open c) i → IsListed (left_open (stamped t c)) i
listed_stamped t c None few h = tt
listed_stamped t c (Some i) few h = λ is.
    let was = h is in (
      was.0,
      subst (AllByRecursion (λ v. is_unfinished (backup_at i.file v) ≡ true)) (sym (left_alone (stamped t c) (all_have_stamps t c few)))
          (last_left (λ v. is_unfinished (backup_at i.file v) ≡ true) c was.1, tt),
    )

-- every transaction has a stamp, and whatever image is in progress
pub nearly_stamped : (after : Option History) (m : Machine) (held : Held) (next : State Inv) (t : ℕ) (counts : ℕ → ℕ) (i : Option Image) (generation long : ℕ) (b : Option BegunImage) (job : Option Job)
    → IsNearlyGood m held → m.moment ≤ t → (m.core.fault ≡ None → IsListed (left_open (stamped t m.core)) i)
    → IfSome after (λ h. WasSound held.base held.opened h
    → IsKept (record m { core = imaged i generation long (stamped t m.core); moment = t; counts = counts }) (record (all_stamped t (with_vault next held)) { image = b; job = job }) h)
    → IsGood after (record m { core = imaged i generation long (stamped t m.core); moment = t; counts = counts }) (record (all_stamped t (with_vault next held)) { image = b; job = job })
nearly_stamped after m held next t counts i generation long b job g since listed kept = record {
  lawful = record { valid = g.lawful.valid; tied = g.lawful.tied; legal = g.lawful.legal; short = g.lawful.short };
  stamped = record {
    few = let all = all_have_stamps t m.core g.few in omega (arith, all);
    rise = rise_more (length (unforced m.core)) held.opened m.moment t m.core.stamps g.rise since;
    waiting = λ _. subst (λ es. AllByRecursion (λ e. is_any_reuse e.change ≡ false) es) (sym (none_waits (stamped t m.core) (all_have_stamps t m.core g.few))) tt;
  };
  space = clear_stamped t m.core i generation long g.few g.space;
  numbers = numbers_same (stamped t m.core).stamps i generation long m.core.fault m.core g.numbers;
  bytes = record { sized = g.bytes.sized; fronts = g.bytes.fronts };
  listed = listed;
  kept = kept;
}

pub good_stamped : (before after : Option History) (m : Machine) (held : Held) (next : State Inv) (t : ℕ) (counts : ℕ → ℕ) (i : Option Image) (generation long : ℕ) (b : Option BegunImage) (job : Option Job)
    → IsGood before m held → m.moment ≤ t → (m.core.fault ≡ None → IsListed (left_open (stamped t m.core)) i)
    → IfSome after (λ h. WasSound held.base held.opened h
    → IsKept (record m { core = imaged i generation long (stamped t m.core); moment = t; counts = counts }) (record (all_stamped t (with_vault next held)) { image = b; job = job }) h)
    → IsGood after (record m { core = imaged i generation long (stamped t m.core); moment = t; counts = counts }) (record (all_stamped t (with_vault next held)) { image = b; job = job })
good_stamped before after m held next t counts i generation long b job g since listed kept = nearly_stamped after m held next t counts i generation long b job (nearly before m held g) since listed kept

-- the image in progress went on
pub good_further : (before after : Option History) (m : Machine) (held : Held) (next : State Inv) (t : ℕ) (counts : ℕ → ℕ) (i : Option Image) (generation long : ℕ) → IsGood before m held → m.moment ≤ t
    → (m.core.fault ≡ None → IsListed (left_open m.core) i)
    → IfSome after (λ h. WasSound held.base held.opened h → IsKept (record m { core = imaged i generation long m.core; moment = t; counts = counts }) (with_vault next held) h)
    → IsGood after (record m { core = imaged i generation long m.core; moment = t; counts = counts }) (with_vault next held)
good_further before after m held next t counts i generation long g since listed kept = record {
  lawful = record { valid = g.lawful.valid; tied = g.lawful.tied; legal = g.lawful.legal; short = g.lawful.short };
  stamped = record { few = g.stamped.few; rise = rise_later held.opened m.moment t m.core.stamps g.stamped.rise since; waiting = g.stamped.waiting };
  space = record { filled = g.space.filled; clear = g.space.clear; apart = g.space.apart };
  numbers = numbers_same m.core.stamps i generation long m.core.fault m.core g.numbers;
  bytes = record { sized = g.bytes.sized; fronts = g.bytes.fronts };
  listed = listed;
  kept = kept;
}

-- a fault halted the hall
pub nearly_halted : (after : Option History) (m : Machine) (held : Held) (next : State Inv) (t : ℕ) (counts : ℕ → ℕ) (file count : ℕ) → IsNearlyGood m held → m.moment ≤ t
    → IfSome after (λ h. WasSound held.base held.opened h → IsKept (record m { core = halting file count m.core; moment = t; counts = counts }) (with_vault next held) h)
    → IsGood after (record m { core = halting file count m.core; moment = t; counts = counts }) (with_vault next held)
nearly_halted after m held next t counts file count g since kept = record {
  lawful = record { valid = g.lawful.valid; tied = g.lawful.tied; legal = g.lawful.legal; short = g.lawful.short };
  stamped = record { few = g.few; rise = rise_later held.opened m.moment t m.core.stamps g.rise since; waiting = λ none. absurd cc };
  space = record { filled = g.space.filled; clear = g.space.clear; apart = g.space.apart };
  numbers = numbers_same m.core.stamps m.core.image m.core.generation m.core.log_length (Some (file, count)) m.core g.numbers;
  bytes = record { sized = g.bytes.sized; fronts = g.bytes.fronts };
  listed = λ none. absurd cc;
  kept = kept;
}

pub good_halted : (before after : Option History) (m : Machine) (held : Held) (next : State Inv) (t : ℕ) (counts : ℕ → ℕ) (file count : ℕ) → IsGood before m held → m.moment ≤ t
    → IfSome after (λ h. WasSound held.base held.opened h → IsKept (record m { core = halting file count m.core; moment = t; counts = counts }) (with_vault next held) h)
    → IsGood after (record m { core = halting file count m.core; moment = t; counts = counts }) (with_vault next held)
good_halted before after m held next t counts file count g since kept = nearly_halted after m held next t counts file count (nearly before m held g) since kept
