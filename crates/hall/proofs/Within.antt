-- What is kept while a ticket's frames are written to: all but what that ticket took.
use Rattle.std.proofs.Common.{◌≡◌, ◌≢◌, inr, false, ℕ, ◌+◌, ◌≤◌, suc, zero, not, List, [], ◌∷◌, ◌++◌, length, take, None, refl, sym, subst, ◌∙◌, append_assoc, arith}
use Rattle.std.specs.List.{AllByRecursion, Contains}
use Rattle.kinds.specs.declared.segment.Segment.{Segment}
use Rattle.store_api.specs.Disk.{History, now}
use Rattle.store_api.specs.Runs.{GoesOn, WroteWithin}
use Rattle.store_api.proofs.Runs.{goes_image_after, goes_none, goes_then, goes_weaker}
use Rattle.inventory_laws.proofs.Lists.{each_also, each_both}
use Rattle.machine.specs.Machine.{dropping, durable}
use Rattle.machine.specs.State.{Core, Machine, Ticket, is_among, without, unforced}
use Rattle.hall.specs.Beside.{IsBeside, IsKeptBut}
use Rattle.hall.specs.Covered.{IsVolume, NumbersAreDrawn, SpaceIsClear, is_any_reuse}
use Rattle.hall.specs.Frames.{WroteEach, WroteIn}
use Rattle.hall.specs.Good.{HasTaken, IsKept, WasSound}
use Rattle.hall.specs.Held.{Held}
use Rattle.hall.specs.Seats.{without_seat}
use Rattle.hall.proofs.Edited.{StandsAmong, others_left, own_has}
use Rattle.hall.proofs.FirmSeats.{all_less, firm_gone}
use Rattle.hall.proofs.Lists.{each_kept}
use Rattle.hall.proofs.Seating.{kept_seated}
use Rattle.inventory_laws.proofs.Origins.{each_contained}
use Rattle.inventory.specs.Meant.{meaning}
use Rattle.vault.specs.Files.{IsOurs}
use Rattle.vault.proofs.Goodness.{held_since}
use Rattle.hall.specs.Protected.{HadBackups, KeepsAllBackups}
use Rattle.hall.proofs.BackupsSpared.{SparesBackups, durable_there, had_before, open_of, range_keeps}
use Rattle.hall.proofs.Sparing.{ticket_files, ticket_spares}

-- ---- what the laws say, as premises

abbrev pub WritesBeside : Type 0
WritesBeside =
    (m : Machine) (held : Held) (h new : History) (pool number : ℕ) (s : Segment) → m.core.fault ≡ None → length m.core.stamps ≤ length m.core.journal → IsKept m held h
    → IsBeside m.core pool number s → WroteWithin s.file s.offset (32 + s.len) h new → IsKeptBut number m held new

abbrev pub LiesBeside : Type 0
LiesBeside =
    (c : Core) (front back : List Ticket) (t : Ticket) (ahead beyond : List Segment) (s : Segment) → c.tickets ≡ front ++ (t ∷ back) → t.place.segments ≡ ahead ++ (s ∷ beyond)
    → SpaceIsClear c → NumbersAreDrawn c → IsBeside c t.place.pool t.number s

-- ---- lists

-- what holds of each that stands somewhere in the list holds of all of it
pub each_split : {A : Type 0} (P : A → Type 0) (all ahead rest : List A) → all ≡ ahead ++ rest → ((a b : List A) (x : A) → all ≡ a ++ (x ∷ b) → P x) → AllByRecursion P rest
each_split P all ahead [] e each = tt
each_split P all ahead (x ∷ rest) e each = (each ahead rest x e, each_split P all (ahead ++ x ∷ []) rest (e ∙ sym (append_assoc ahead (x ∷ []) rest)) each)

each_taken : {A : Type 0} (P : A → Type 0) (n : ℕ) (xs : List A) → AllByRecursion P xs → AllByRecursion P (take n xs)
each_taken P zero xs all = tt
each_taken P (suc n) [] all = tt
each_taken P (suc n) (x ∷ xs) all = (all.0, each_taken P n xs all.1)

-- ---- calls

pub goes_each : (segments : List Segment) (h new : History) → AllByRecursion (λ s. 4 ≤ s.file) segments → WroteEach segments h new → GoesOn (λ file. 4 ≤ file) h new
goes_each [] h new from w = subst (GoesOn (λ file. 4 ≤ file) h) (sym w) (goes_none (λ file. 4 ≤ file) h)
goes_each (s ∷ segments) h new from w =
    goes_then (λ file. 4 ≤ file) h w.0 new (goes_weaker (λ other. other ≡ s.file) (λ file. 4 ≤ file) h w.0 (λ file e. subst (λ n. 4 ≤ n) (sym e) from.0) w.1.goes)
    (goes_each segments w.0 new from.1 w.2)

pub goes_in : (segments : List Segment) (h new : History) → AllByRecursion (λ s. 4 ≤ s.file) segments → WroteIn segments h new → GoesOn (λ file. 4 ≤ file) h new
goes_in segments h new from w = goes_each (take w.0 segments) h new (each_taken (λ (s : Segment). 4 ≤ s.file) w.0 segments from) w.1

-- a store that was sound when the hall was opened was so before the calls, too
pub sound_back : (held : Held) (h new : History) → held.opened ≤ now h → GoesOn (λ file. 4 ≤ file) h new → WasSound held.base held.opened new → WasSound held.base held.opened h
sound_back held h new before goes sound = (sound.0, λ image it. sound.1 image (goes_image_after (λ file. 4 ≤ file) h new held.opened image goes before it))

-- ---- what is kept

module _ (writes : WritesBeside) (m : Machine) (held : Held) (pool number : ℕ) (running : m.core.fault ≡ None) (few : length m.core.stamps ≤ length m.core.journal)
    (others : AllByRecursion (λ t. t.number ≢ number) m.core.tickets) (calm : AllByRecursion (λ e. is_any_reuse e.change ≡ false) (unforced m.core)) where
  -- no ticket has that number
  whole : (h : History) → IsKeptBut number m held h → (HadBackups held.base held.opened h → KeepsAllBackups m.core held.opened h held.job) → IsKept m held h
  whole h k backups = record {
    since = k.since;
    first = k.first;
    always = k.always;
    left = k.left;
    sure = k.sure;
    firm = k.firm;
    tickets = each_both (λ t. t.number ≢ number) (λ t. t.number ≢ number → HasTaken held.seats h t) (HasTaken held.seats h) m.core.tickets (λ t other has. has other) others k.others;
    image = k.image;
    backups = backups;
  }

  -- all backups are kept over one write
  backups_over : (s : Segment) (h new : History) → IsBeside m.core pool number s → SparesBackups m.core s → IsKept m held h → WroteWithin s.file s.offset (32 + s.len) h new
      → HadBackups held.base held.opened new → KeepsAllBackups m.core held.opened new held.job
  backups_over s h new beside spares k w had =
      range_keeps h new m.core held.opened
      (open_of m.core (durable m.core) (now h) new (durable_there m.core)
      (held_since meaning (λ file. file ≡ s.file) held.vault (durable m.core) h new (λ file ours same. let from = beside.volume.0 in omega (arith, ours, same, from)) w.goes (k.sure running)))
      s (λ v. (running, inr calm)) spares w held.job (k.backups (had_before (λ file. file ≡ s.file) held.base held.opened h new w.goes k.since had))

  kept_each : (segments : List Segment) (h new : History) → AllByRecursion (IsBeside m.core pool number) segments → AllByRecursion (SparesBackups m.core) segments → IsKept m held h → WroteEach segments h new → IsKept m held new
  kept_each [] h new beside spares k w = subst (IsKept m held) (sym w) k
  kept_each (s ∷ segments) h new beside spares k w =
      kept_each segments w.0 new beside.1 spares.1 (whole w.0 (writes m held h w.0 pool number s running few k beside.0 w.1) (backups_over s h w.0 beside.0 spares.0 k w.1)) w.2

  pub kept_in : (segments : List Segment) (h new : History) → AllByRecursion (IsBeside m.core pool number) segments → AllByRecursion (SparesBackups m.core) segments → IsKept m held h → WroteIn segments h new → IsKept m held new
  kept_in segments h new beside spares k w = kept_each (take w.0 segments) h new (each_taken (IsBeside m.core pool number) w.0 segments beside) (each_taken (SparesBackups m.core) w.0 segments spares) k w.1

-- at another moment
pub kept_at : (m : Machine) (held : Held) (moment : ℕ) (counts : ℕ → ℕ) (h : History) → IsKept m held h → IsKept (record m { moment = moment; counts = counts }) held h
kept_at m held moment counts h k = record {
  since = k.since;
  first = k.first;
  always = k.always;
  left = k.left;
  sure = k.sure;
  firm = k.firm;
  tickets = k.tickets;
  image = k.image;
  backups = k.backups;
}

-- ---- without the ticket

module _ (actor number : ℕ) where
  beside_gone : (c : Core) (pool : ℕ) (s : Segment) → IsBeside c pool number s → IsBeside (dropping actor number c) pool number s
  beside_gone c pool s b = record {
    volume = b.volume;
    copies = b.copies;
    others = each_kept _ (λ t. not (is_among actor (number ∷ []) t)) c.tickets b.others;
  }

  pub kept_gone : (m : Machine) (held : Held) (h : History) → IsKept m held h → IsKept (record m { core = dropping actor number m.core }) (without_seat number held) h
  kept_gone m held h k =
      kept_seated (without actor (number ∷ []) m.core.tickets) m.core.next_file m.core.next_object m.core.next_ticket m held (without_seat number held).seats (without_seat number held).claims
      held.next_object held.next_ticket h k
      (all_less held.seats (without_seat number held).seats h (without actor (number ∷ []) m.core.tickets) (λ n firm. firm_gone number n held.seats firm)
      (each_kept (HasTaken held.seats h) (λ t. not (is_among actor (number ∷ []) t)) m.core.tickets k.tickets))

  -- its segments' files are volumes'
  pub files_of : (t : Ticket) (c : Core) → StandsAmong actor number t c.tickets → NumbersAreDrawn c → AllByRecursion (λ s. 4 ≤ s.file) t.place.segments
  files_of t c among numbers =
      each_also (λ (s : Segment). IsVolume c s.file) (λ (s : Segment). 4 ≤ s.file) t.place.segments (λ s v. v.0)
      (own_has actor number t c.tickets among (λ u. AllByRecursion (λ (s : Segment). IsVolume c s.file) u.place.segments) numbers.files)

  module _ (writes : WritesBeside) (lies : LiesBeside) (m : Machine) (held : Held) (t : Ticket) (among : StandsAmong actor number t m.core.tickets) (space : SpaceIsClear m.core)
      (numbers : NumbersAreDrawn m.core) (running : m.core.fault ≡ None) (few : length m.core.stamps ≤ length m.core.journal) (calm : AllByRecursion (λ e. is_any_reuse e.change ≡ false) (unforced m.core)) where
    besides : AllByRecursion (IsBeside (dropping actor number m.core) t.place.pool number) t.place.segments
    besides =
        each_split (IsBeside (dropping actor number m.core) t.place.pool number) t.place.segments [] t.place.segments refl
        (λ ahead beyond s e. beside_gone m.core t.place.pool s
        (subst (λ n. IsBeside m.core t.place.pool n s) among.number_is (lies m.core among.front among.back t ahead beyond s among.whole e space numbers)))

    -- the ticket's segments spare what backups need
    spares : AllByRecursion (SparesBackups m.core) t.place.segments
    spares =
        each_also (Contains t.place.segments) (SparesBackups m.core) t.place.segments
        (λ u one. (ticket_files m.core numbers space t (own_has actor number t m.core.tickets among (Contains m.core.tickets) (each_contained m.core.tickets)) u one, ticket_spares m.core numbers space t (own_has actor number t m.core.tickets among (Contains m.core.tickets) (each_contained m.core.tickets)) u one)) (each_contained t.place.segments)

    pub kept_without : (h new : History) → IsKept m held h → WroteIn t.place.segments h new → IsKept (record m { core = dropping actor number m.core }) (without_seat number held) new
    kept_without h new k w =
        kept_in writes (record m { core = dropping actor number m.core }) (without_seat number held) t.place.pool number running few (others_left actor number t m.core.tickets among) calm
        t.place.segments h new besides spares (kept_gone m held h k) w
