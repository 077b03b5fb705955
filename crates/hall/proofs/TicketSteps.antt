-- Steps on a ticket: when they are refused, and which ticket they are on.
use Rattle.std.proofs.Common.{◌≡◌, ℕ, ◌+◌, ◌<◌, Bool, true, false, not, ◌&&◌, nat_le, nat_lt, List, [], ◌∷◌, ◌++◌, length, Option, Some, None, refl, ap, subst, ◌∙◌, if◌then◌else◌}
use Rattle.std.specs.Prelude.{◌==◌}
use Rattle.std.specs.List.{AllByRecursion}
use Rattle.std.proofs.lemmas.Bool.{eqb-true, ltb-true}
use Rattle.kinds.specs.Refusals.{bad_value, foremost, sooner_of, unless}
use Rattle.kinds.specs.declared.refusal.Refusal.{Refusal}
use Rattle.kinds.specs.declared.refusal.Refusal.TheVariants as refusal
use Rattle.inventory_rows.specs.version_groups.Entries.{all_later}
use Rattle.machine.specs.Causes.{most_bytes, of_ticket, seal_refused, ticket_in_use, write_refused}
use Rattle.machine.specs.Machine.{ended, halted, last_moment}
use Rattle.machine.specs.State.{Machine, Purpose, Ticket, is_storing, own_tickets, sight, ticket}
use Rattle.machine.proofs.Elsewhere.{append-all, foremost-all, unless-all}
use Rattle.hall.specs.declared.seat.Seat.{Seat}
use Rattle.hall.specs.Covered.{is_later}
use Rattle.hall.specs.Held.{Held, IsCore, IsSeatOf, purpose_of}
use Rattle.hall.specs.Seats.{ended_at, own, own_seat}
use Rattle.hall.specs.Taken.{of_seat, piece_refused, seal_refused_at, unfilled, write_refused_at}
use Rattle.hall.proofs.Edited.{StandsAmong, some_is, stands_among}
use Rattle.hall.proofs.Ended.{ended_is, halted_all}
use Rattle.hall.proofs.Tickets.{Matches, matches}

-- ---- nothing refuses

some_first : (a : Refusal) (o : Option Refusal) → sooner_of (Some a) o ≡ None → ⊥
some_first a None h = absurd cc
some_first a (Some b) h = absurd cc

pub none_refuses : (causes : List Refusal) → foremost causes ≡ None → causes ≡ []
none_refuses [] h = refl
none_refuses (x ∷ causes) h = absurd (some_first x (foremost causes) h)

pub both_empty : (xs ys : List Refusal) → xs ++ ys ≡ [] → (xs ≡ []) × (ys ≡ [])
both_empty [] ys h = (refl, h)
both_empty (x ∷ xs) ys h = absurd cc

pub unless_holds : (b : Bool) (e : Refusal) → unless b e ≡ [] → b ≡ true
unless_holds true e h = refl
unless_holds false e h = absurd cc

-- a step may begin
pub begins_early : (moment : ℕ) (held : Held) → ended_at moment held ≡ [] → moment < last_moment
begins_early moment held none =
    ltb-true moment last_moment
    (unless_holds (nat_lt moment last_moment) refusal.RunFull (both_empty (unless (nat_lt moment last_moment) refusal.RunFull) (halted held.vault.fault) none).0)

-- the ticket is held
pub seat_there : (rule : Seat → List Refusal) (found : Option Seat) → of_seat rule found ≡ [] → (s : Seat) × (found ≡ Some s) × (rule s ≡ [])
seat_there rule None h = absurd cc
seat_there rule (Some s) h = (s, refl, h)

-- and the actor's
pub own_there : (actor : ℕ) (found : Option Seat) (s : Seat) → own actor found ≡ Some s → (found ≡ Some s) × (s.actor ≡ actor)
own_there actor None s h = absurd cc
own_there actor (Some x) s h = elim (x.actor == actor) as (λ b. (x.actor == actor) ≡ b → (if b then Some x else None) ≡ Some s → (Some x ≡ Some s) × (s.actor ≡ actor)) [
  | true ↦ λ e f. (f, subst (λ (y : Seat). y.actor ≡ actor) (some_is x s f) (eqb-true x.actor actor e))
  | false ↦ λ e f. absurd cc
] refl h

-- ---- the hall tells the same as the machine

pub of_alike : (k : ℕ) (o : Option Seat) (p : Option Ticket) (rule : Ticket → List Refusal) (mine : Seat → List Refusal) → Matches k o p → ((s : Seat) (t : Ticket) → IsSeatOf k s t → rule t ≡ mine s)
    → of_ticket rule p ≡ of_seat mine o
of_alike k None None rule mine m same = refl
of_alike k None (Some t) rule mine m same = absurd m
of_alike k (Some s) None rule mine m same = absurd m
of_alike k (Some s) (Some t) rule mine m same = same s t m

abbrev piece_by : (number count : ℕ) → Purpose → (is_sealed : Bool) → (taken size : ℕ) → List Refusal
piece_by number count p is_sealed taken size =
    unless (is_storing p && not is_sealed) (ticket_in_use number) ++ unless (nat_le (taken + count) size) (refusal.Changed size (taken + count))

piece_alike : (number count k : ℕ) (s : Seat) (t : Ticket) → IsSeatOf k s t → piece_by number count t.purpose t.is_sealed (length t.bytes) t.size ≡ piece_refused number count s
piece_alike number count k s t is =
    ap (λ p. piece_by number count p t.is_sealed (length t.bytes) t.size) is.purpose
    ∙ ap (λ b. piece_by number count (purpose_of s.purpose) b (length t.bytes) t.size) is.is_sealed
    ∙ ap (λ n. piece_by number count (purpose_of s.purpose) s.is_sealed n t.size) is.count
    ∙ ap (λ n. piece_by number count (purpose_of s.purpose) s.is_sealed s.count n) is.size

abbrev unfilled_by : (taken size : ℕ) → List Refusal
unfilled_by taken size = unless (taken == size) (refusal.Changed size taken)

module _ (actor number : ℕ) (held : Held) (m : Machine) (is : IsCore held m.core) (rises : all_later is_later m.core.tickets ≡ true) where
  found : Matches number (own_seat actor number held) (ticket number (own_tickets actor m.core.tickets))
  found = matches actor number held.seats m.core.tickets is.tickets rises

  pub write_alike : (moment count : ℕ) → m.moment ≡ moment → ended m ++ write_refused number count (sight actor m.core) ≡ ended_at moment held ++ write_refused_at actor number count held
  write_alike moment count at =
      ap (λ (l : List Refusal). l ++ write_refused number count (sight actor m.core)) (ended_is moment held m is at)
      ∙ ap (λ (l : List Refusal). ended_at moment held ++ (unless (nat_le 1 count && nat_le count most_bytes) bad_value ++ l))
      (of_alike number (own_seat actor number held) (ticket number (own_tickets actor m.core.tickets))
      (λ t. unless (is_storing t.purpose && not t.is_sealed) (ticket_in_use number) ++ unless (nat_le (length t.bytes + count) t.size) (refusal.Changed t.size (length t.bytes + count)))
      (piece_refused number count) found (λ s t same. piece_alike number count number s t same))

  pub seal_alike : (moment : ℕ) → m.moment ≡ moment → ended m ++ seal_refused number (sight actor m.core) ≡ ended_at moment held ++ seal_refused_at actor number held
  seal_alike moment at =
      ap (λ (l : List Refusal). l ++ seal_refused number (sight actor m.core)) (ended_is moment held m is at)
      ∙ ap (λ (l : List Refusal). ended_at moment held ++ l)
      (of_alike number (own_seat actor number held) (ticket number (own_tickets actor m.core.tickets)) (λ t. unless (length t.bytes == t.size) (refusal.Changed t.size (length t.bytes))) unfilled found
      (λ s t same. ap (λ n. unfilled_by n t.size) same.count ∙ ap (λ n. unfilled_by s.count n) same.size))

  -- the ticket of the machine that is held as this one, and where it stands
  pub ticket_is : (s : Seat) → own_seat actor number held ≡ Some s
      → (t : Ticket) × (ticket number (own_tickets actor m.core.tickets) ≡ Some t) × IsSeatOf number s t × StandsAmong actor number t m.core.tickets
  ticket_is s mine = by_match (ticket number (own_tickets actor m.core.tickets)) refl (subst (λ o. Matches number o (ticket number (own_tickets actor m.core.tickets))) mine found)
    where
      by_match : (p : Option Ticket) → ticket number (own_tickets actor m.core.tickets) ≡ p → Matches number (Some s) p
          → (t : Ticket) × (ticket number (own_tickets actor m.core.tickets) ≡ Some t) × IsSeatOf number s t × StandsAmong actor number t m.core.tickets
      by_match None e h = absurd h
      by_match (Some t) e h = (t, e, h, stands_among actor number t m.core.tickets rises e)

-- ---- what is answered where something refuses

module _ (P : Refusal → Type 0) (full : P refusal.RunFull) (fault : (file count : ℕ) → P (refusal.LogFault file count)) (absent : P refusal.NotFound)
    (changed : (listed read : ℕ) → P (refusal.Changed listed read)) where
  ended_all : (moment : ℕ) (h : Held) → AllByRecursion P (ended_at moment h)
  ended_all moment h = append-all P _ _ (unless-all P _ refusal.RunFull full) (halted_all P fault h.vault.fault)

  seat_all : (rule : Seat → List Refusal) (found : Option Seat) → ((s : Seat) → AllByRecursion P (rule s)) → AllByRecursion P (of_seat rule found)
  seat_all rule None each = (absent, tt)
  seat_all rule (Some s) each = each s

  if_fails : (b : Bool) (e : Refusal) → (b ≡ false → P e) → AllByRecursion P (unless b e)
  if_fails true e h = tt
  if_fails false e h = (h refl, tt)

  pub write_has : (count : ℕ) → ((nat_le 1 count && nat_le count most_bytes) ≡ false → P bad_value) → ((number : ℕ) → P (ticket_in_use number)) → (moment actor number : ℕ) (h : Held) (e : Refusal)
      → foremost (ended_at moment h ++ write_refused_at actor number count h) ≡ Some e → P e
  write_has count bad used moment actor number h e is =
      foremost-all P (ended_at moment h ++ write_refused_at actor number count h)
      (append-all P (ended_at moment h) (write_refused_at actor number count h) (ended_all moment h)
      (append-all P (unless (nat_le 1 count && nat_le count most_bytes) bad_value) (of_seat (piece_refused number count) (own_seat actor number h))
      (if_fails (nat_le 1 count && nat_le count most_bytes) bad_value bad)
      (seat_all (piece_refused number count) (own_seat actor number h)
      (λ s. append-all P (unless (is_storing (purpose_of s.purpose) && not s.is_sealed) (ticket_in_use number)) (unless (nat_le (s.count + count) s.size) (refusal.Changed s.size (s.count + count)))
      (unless-all P (is_storing (purpose_of s.purpose) && not s.is_sealed) (ticket_in_use number) (used number))
      (unless-all P (nat_le (s.count + count) s.size) (refusal.Changed s.size (s.count + count)) (changed s.size (s.count + count))))))) e is

  pub seal_has : (moment actor number : ℕ) (h : Held) (e : Refusal) → foremost (ended_at moment h ++ seal_refused_at actor number h) ≡ Some e → P e
  seal_has moment actor number h e is =
      foremost-all P (ended_at moment h ++ seal_refused_at actor number h)
      (append-all P (ended_at moment h) (seal_refused_at actor number h) (ended_all moment h)
      (seat_all unfilled (own_seat actor number h) (λ s. unless-all P (s.count == s.size) (refusal.Changed s.size s.count) (changed s.size s.count)))) e is
