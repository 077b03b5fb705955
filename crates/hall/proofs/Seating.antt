-- What is kept of a hall where tickets come and go and numbers are drawn, and no device call is made.
use Rattle.std.proofs.Common.{ℕ, List, Option, Some, None}
use Rattle.std.specs.Prelude.{IfSome}
use Rattle.std.specs.List.{AllByRecursion}
use Rattle.store_api.specs.Disk.{History}
use Rattle.space.specs.Claims.{Claims}
use Rattle.machine.specs.State.{Core, Image, Machine, Ticket, inventory}
use Rattle.hall.specs.declared.seat.Seat.{Seat}
use Rattle.hall.specs.Covered.{NumbersAreDrawn, SpaceIsClear}
use Rattle.hall.specs.Good.{AllInProgress, HasTaken, IsFront, IsGood, IsKept, IsSafe, WasSound}
use Rattle.hall.specs.Held.{Held}
use Rattle.hall.proofs.BackupsAlike.{same_keeps}

-- the state with these tickets, where these numbers are drawn next
abbrev pub seated_core : List Ticket → (file object number : ℕ) → Core → Core
seated_core tickets file object number c = record c { tickets = tickets; next_file = file; next_object = object; next_ticket = number }

abbrev pub seated_machine : List Ticket → (file object number : ℕ) → Machine → Machine
seated_machine tickets file object number m = record m { core = seated_core tickets file object number m.core }

abbrev pub seated_held : List (ℕ × Seat) → Claims → (object number : ℕ) → Held → Held
seated_held seats claims object number h = record h { seats = seats; claims = claims; next_object = object; next_ticket = number }

pub if_some_also : {A : Type 0} (P Q : A → Type 0) (o : Option A) → ((x : A) → P x → Q x) → IfSome o P → IfSome o Q
if_some_also P Q None up h = h
if_some_also P Q (Some x) up h = up x h

module _ (tickets : List Ticket) (file object number : ℕ) where
  safe_seated : (contents : ℕ → List ℕ) (c : Core) (count : ℕ) (image : ℕ → List ℕ) → IsSafe contents c count image → IsSafe contents (seated_core tickets file object number c) count image
  safe_seated contents c count image s = record { last = s.last; durable = s.durable; made = s.made; recovers = s.recovers; holds = s.holds }

  progress_seated : (c : Core) (held : Held) (seats : List (ℕ × Seat)) (claims : Claims) (o n : ℕ) (i : Option Image) (h : History) → AllInProgress c held i h
      → AllInProgress (seated_core tickets file object number c) (seated_held seats claims o n held) i h
  progress_seated c held seats claims o n None h p = tt
  progress_seated c held seats claims o n (Some i) h p = record { since = p.since; durable = p.durable; stands = p.stands }

  pub kept_seated : (m : Machine) (held : Held) (seats : List (ℕ × Seat)) (claims : Claims) (o n : ℕ) (h : History) → IsKept m held h → AllByRecursion (HasTaken seats h) tickets
      → IsKept (seated_machine tickets file object number m) (seated_held seats claims o n held) h
  kept_seated m held seats claims o n h k taken = record {
    since = k.since;
    first = k.first;
    always = λ moment image a b at. safe_seated m.contents m.core _ image (k.always moment image a b at);
    left = k.left;
    sure = k.sure;
    firm = k.firm;
    tickets = taken;
    image = λ none. progress_seated m.core held seats claims o n m.core.image h (k.image none);
    backups = λ had. same_keeps h m.core tickets file object number m.core.image m.core.generation m.core.log_length held.opened held.job (k.backups had);
  }

  pub good_seated : (told : Option History) (m : Machine) (held : Held) (seats : List (ℕ × Seat)) (claims : Claims) (o n : ℕ) → IsGood told m held
      → SpaceIsClear (seated_core tickets file object number m.core)
      → NumbersAreDrawn (seated_core tickets file object number m.core)
      → AllByRecursion (λ t. IsFront m.contents (inventory m.core) t.purpose t.size t.bytes) tickets
      → ((h : History) → AllByRecursion (HasTaken held.seats h) m.core.tickets → AllByRecursion (HasTaken seats h) tickets)
      → IsGood told (seated_machine tickets file object number m) (seated_held seats claims o n held)
  good_seated told m held seats claims o n g space numbers fronts taken = record {
    lawful = record { valid = g.lawful.valid; tied = g.lawful.tied; legal = g.lawful.legal; short = g.lawful.short };
    stamped = record { few = g.stamped.few; rise = g.stamped.rise; waiting = g.stamped.waiting };
    space = space;
    numbers = numbers;
    bytes = record { sized = g.bytes.sized; fronts = fronts };
    listed = g.listed;
    kept = if_some_also (λ h. WasSound held.base held.opened h → IsKept m held h)
        (λ h. WasSound held.base held.opened h → IsKept (seated_machine tickets file object number m) (seated_held seats claims o n held) h) told
        (λ h kept sound. let k = kept sound in kept_seated m held seats claims o n h k (taken h k.tickets)) g.kept;
  }
