-- Steps of the script that makes further copies of objects, or moves copies, one after the other: what they leave, and that no ticket is left where each was spent.
use Rattle.std.proofs.Common.{◌≡◌, ◌⊎◌, inl, inr, ℕ, ◌==◌, ◌&&◌, not, Bool, true, false, if◌then◌else◌, List, [], ◌∷◌, ◌++◌, length, map, Option, None, Some, Result, Ok, Err, refl, sym, ap, subst, ◌∙◌}
use Rattle.std.proofs.lemmas.Option.{same_Some}
use Rattle.std.specs.List.{AllByRecursion, flat_map}
use Rattle.std.specs.Option.{option_map_or}
use Rattle.kinds.specs.declared.refusal.Refusal.{Refusal}
use Rattle.entries.specs.change_items.declared.items.MovedCopy.{MovedCopy}
use Rattle.entries.specs.change_items.declared.items.NewCopy.{NewCopy}
use Rattle.entries.specs.change_items.declared.items.ScratchVolume.{ScratchVolume}
use Rattle.entries.specs.declared.change.Change.{Change}
use Rattle.entries.specs.declared.change.Change.TheVariants as change
use Rattle.entries.specs.declared.entry.Entry.{Entry}
use Rattle.inventory_answers.specs.declared.query.Query.{Query}
use Rattle.inventory_answers.specs.declared.reply.Answer.{Answer}
use Rattle.inventory_rows.specs.State.{Inv}
use Rattle.inventory_rows.specs.version_groups.Entries.{is_nil}
use Rattle.space.specs.declared.aim.Aim.{Aim}
use Rattle.steps.specs.Spent.{AreSettled}
use Rattle.steps.specs.declared.asked.Asked.{Asked}
use Rattle.steps.specs.declared.asked.Asked.TheVariants.{Placed}
use Rattle.steps.specs.Events.{Deed, Event}
use Rattle.steps.specs.Events.Deed.{Ask, Commit, CopyPiece, DropTicket, Force, OpenCopy, Seal}
use Rattle.machine.specs.Alone.{Alone}
use Rattle.machine.specs.Changes.{copy_from, is_moved, is_moved_by, is_moving, move_from, placed_change, scratch_of}
use Rattle.machine.specs.Machine.{Asks, Becomes, Case, Commits, CopiesPiece, Drops, Forces, OpensCopy, Places, Seals, Stays, asked_change, committed, dropping, opened, storing_contents, with_tickets}
use Rattle.machine.specs.State.{Core, Machine, Place, Purpose, Ticket, copying, inventory, is_storing, is_ticket, object_of, own_tickets, sealed, sealing, taking, ticket, took, without}
use Rattle.line_results.specs.Resting.{IsAtRest, Onward, entry}
use Rattle.line_results.proofs.Runs.{onward-later}
use Rattle.line_results.proofs.Idle.{IsSameIn, still-idle}
use Rattle.line_results.proofs.Spent.{HasTickets, all-map, all-push, all-without, spent-free, ticket-step}
use Rattle.line_results.proofs.Walking.{Grew, Under, are-more, force-free, force-grew, grew-as, grew-halts, grew-none, grew-stays, grew-tickets, joined-under, under-tickets}

-- ---- steps

-- It asks, forces, opens a ticket for a copy that moves, or for a further one, fills, seals or drops one, or commits one; or it commits a change without tickets, and of what joins by that P holds.
abbrev pub Copies : (moves : Bool) → (P : Change → Type 0) → Deed → Type 0
Copies moves P (Ask query answer) = Unit {0}
Copies moves P (Force answer) = Unit {0}
Copies moves P (OpenCopy object a avoid answer) = is_moving a ≡ moves
Copies moves P (CopyPiece number answer) = Unit {0}
Copies moves P (Seal number answer) = Unit {0}
Copies moves P (DropTicket number answer) = Unit {0}
Copies moves P (Commit asked tickets answer) =
    ((number : ℕ) × (asked ≡ Placed) × (tickets ≡ number ∷ [])) ⊎ ((tickets ≡ []) × ((c : Change) (core : Core) → asked_change 0 asked [] core ≡ Some c → P c))
Copies moves P _ = ⊥

abbrev pub AllCopy : (moves : Bool) → (P : Change → Type 0) → List Event → Type 0
AllCopy moves P events = AllByRecursion (λ e. Copies moves P e.deed) events

-- the transaction moves copies, or adds some
abbrev pub IsCopy : (moves : Bool) → Change → Type 0
IsCopy true c = (scratch : List ScratchVolume) × (items : List MovedCopy) × (c ≡ change.Move (record { scratch = scratch; items = items }))
IsCopy false c = (scratch : List ScratchVolume) × (items : List NewCopy) × (c ≡ change.Copy (record { scratch = scratch; items = items }))

-- it does, or P holds of it
abbrev pub MayJoin : (moves : Bool) → (P : Change → Type 0) → Change → Type 0
MayJoin moves P c = IsCopy moves c ⊎ P c

-- ---- tickets

-- the script's, for a copy that moves, or for a further one
abbrev pub IsFor : (moves : Bool) → Ticket → Type 0
IsFor moves t = (t.actor ≡ 0) × (object : ℕ) × (a : Aim) × (is_moving a ≡ moves) × (t.purpose ≡ copying object a)

abbrev pub AreFor : (moves : Bool) → List Ticket → Type 0
AreFor moves tickets = AllByRecursion (IsFor moves) tickets

for-took : (moves : Bool) (number : ℕ) (bytes : List ℕ) (t : Ticket) → IsFor moves t → IsFor moves (if is_ticket 0 number t then took bytes t else t)
for-took moves number bytes t h = elim (is_ticket 0 number t) as (λ b. IsFor moves (if b then took bytes t else t)) [
  | true ↦ h
  | false ↦ h
]

for-sealed : (moves : Bool) (number : ℕ) (t : Ticket) → IsFor moves t → IsFor moves (if is_ticket 0 number t then sealed t else t)
for-sealed moves number t h = elim (is_ticket 0 number t) as (λ b. IsFor moves (if b then sealed t else t)) [
  | true ↦ h
  | false ↦ h
]

pub for-own : (moves : Bool) (tickets : List Ticket) → AreFor moves tickets → AreFor moves (own_tickets 0 tickets)
for-own moves [] h = tt
for-own moves (t ∷ tickets) h = elim (t.actor == 0) as (λ b. AreFor moves (if b then t ∷ own_tickets 0 tickets else own_tickets 0 tickets)) [
  | true ↦ (h.0, for-own moves tickets h.1)
  | false ↦ for-own moves tickets h.1
]

pub for-found : (moves : Bool) (number : ℕ) (tickets : List Ticket) (t : Ticket) → AreFor moves tickets → ticket number tickets ≡ Some t → IsFor moves t
for-found moves number [] t h is = absurd cc
for-found moves number (x ∷ tickets) t h is =
    elim (x.number == number) as (λ b. (if b then Some x else ticket number tickets) ≡ Some t → IsFor moves t) [
      | true ↦ λ same. subst (λ (y : Ticket). IsFor moves y) (same_Some x t same) h.0
      | false ↦ λ later. for-found moves number tickets t h.1 later
    ] is

-- ---- the transaction of a ticket

abbrev the_tickets : Option Ticket → List Ticket
the_tickets found = option_map_or (λ t. t ∷ []) found [] ++ []

abbrev change_with : Inv → Option Ticket → Option Change
change_with v found = if (length (the_tickets found) == 1 && 1 == 1) && not (is_nil {X = ℕ} (0 ∷ [])) then Some (placed_change v (the_tickets found)) else None

-- whether it is for a copy that moves
moved-as : (moves : Bool) (t : Ticket) → IsFor moves t → is_moved t ≡ moves
moved-as moves t (own, object, a, so, is) = ap is_moved_by is ∙ so

copy-as : (v : Inv) (t : Ticket) (moves : Bool) → IsCopy moves (if moves && true then change.Move (record { scratch = scratch_of v (t ∷ []); items = flat_map (λ x. move_from x x.purpose) (t ∷ []) }) else change.Copy (record { scratch = scratch_of v (t ∷ []); items = map copy_from (t ∷ []) }))
copy-as v t true = (scratch_of v (t ∷ []), flat_map (λ x. move_from x x.purpose) (t ∷ []), refl)
copy-as v t false = (scratch_of v (t ∷ []), map copy_from (t ∷ []), refl)

copy-of : (moves : Bool) (v : Inv) (t : Ticket) (c : Change) → IsFor moves t → placed_change v (t ∷ []) ≡ c → IsCopy moves c
copy-of moves v t c so is =
    subst (λ (x : Change). IsCopy moves x)
    (sym (ap (λ (b : Bool). if b && true then change.Move (record { scratch = scratch_of v (t ∷ []); items = flat_map (λ x. move_from x x.purpose) (t ∷ []) }) else change.Copy (record { scratch = scratch_of v (t ∷ []); items = map copy_from (t ∷ []) })) (moved-as moves t so)) ∙ is)
    (copy-as v t moves)

pub found-copy : (moves : Bool) (v : Inv) (found : Option Ticket) (c : Change) → ((t : Ticket) → found ≡ Some t → IsFor moves t) → change_with v found ≡ Some c → IsCopy moves c
found-copy moves v None c so is = absurd cc
found-copy moves v (Some t) c so is = copy-of moves v t c (so t refl) (same_Some (placed_change v (t ∷ [])) c is)

found-contents : (moves : Bool) (found : Option Ticket) (contents : ℕ → List ℕ) → ((t : Ticket) → found ≡ Some t → IsFor moves t) → storing_contents (the_tickets found) contents ≡ contents
found-contents moves None contents so = refl
found-contents moves (Some t) contents so =
    ap (λ (p : Purpose). λ (object : ℕ). option_map_or (λ (x : Ticket). x.bytes) (if is_storing p && (object_of p == object) then Some t else None) (contents object)) (so t refl).4

-- ---- what they leave

pub record Copied (moves : Bool) (P : Change → Type 0) (first later : List Entry) (old m : Machine) : Type 0 where
  pub grew : Grew (MayJoin moves P) first later old m
  pub tickets : AreFor moves m.core.tickets

abbrev Went : (moves : Bool) → (P : Change → Type 0) → (first : List Entry) → (old next : Machine) → Type 0
Went moves P first old next = (more : List Entry) × Copied moves P first more old next

opened-under : (added : List Entry) (actor size : ℕ) (p : Purpose) (place : Place) (old c : Core) → Under added old c → Under added old (opened actor size p place c)
opened-under added actor size p place old c u = record { base = u.base; journal = u.journal; generation = u.generation; log_length = u.log_length; fresh = u.fresh; stamps = u.stamps; few = u.few }

module _ (moves : Bool) (P : Change → Type 0) (first later : List Entry) (old m next : Machine) (w : Copied moves P first later old m) (since : Onward m next) where
  stays-copied : Stays m next → Copied moves P first later old next
  stays-copied h = record { grew = grew-stays (MayJoin moves P) first later old m next w.grew since h; tickets = subst (λ (c : Core). AreFor moves c.tickets) (sym h.core) w.tickets }

  tickets-copied : (tickets : List Ticket) → AreFor moves tickets → Becomes (with_tickets tickets m.core) m next → Copied moves P first later old next
  tickets-copied tickets are h = record {
    grew = grew-tickets (MayJoin moves P) first later tickets old m next w.grew since h.core h.contents;
    tickets = subst (λ (c : Core). AreFor moves c.tickets) (sym h.core) are;
  }

  dropped-copied : (number : ℕ) → Becomes (dropping 0 number m.core) m next → Copied moves P first later old next
  dropped-copied number h = tickets-copied (without 0 (number ∷ []) m.core.tickets) (all-without (IsFor moves) (IsFor moves) (number ∷ []) (λ t so among. so) m.core.tickets w.tickets) h

  ask-copied : (query : Query) (answer : Result Answer Refusal) → Asks 0 query m next answer → Copied moves P first later old next
  ask-copied query (Ok told) h = stays-copied h.1.1
  ask-copied query (Err e) (inl h) = stays-copied h.1
  ask-copied query (Err e) (inr h) = absurd h.1

  force-copied : (answer : Result ℕ Refusal) → Forces 0 m next answer → Copied moves P first later old next
  force-copied answer h = record { grew = force-grew (MayJoin moves P) first later old m next answer w.grew since h; tickets = subst (λ (ts : List Ticket). AreFor moves ts) (sym (force-free m next answer h)) w.tickets }

  open-copied : (places : Places) (object : ℕ) (a : Aim) (avoid : ℕ) (answer : Result ℕ Refusal) → is_moving a ≡ moves → OpensCopy places 0 object a avoid m next answer → Copied moves P first later old next
  open-copied places object a avoid (Ok number) so (placed, at, (none, (place, is, numbered, becomes))) =
      let t : Ticket = record { number = m.core.next_ticket; actor = 0; purpose = copying object a; size = _; place = place; bytes = []; is_sealed = false } in
      record {
        grew = grew-as (MayJoin moves P) first later later _ old m next w.grew (opened-under (first ++ later) 0 _ (copying object a) place old.core m.core w.grew.core) w.grew.are refl since becomes.core becomes.contents;
        tickets = subst (λ (c : Core). AreFor moves c.tickets) (sym becomes.core) (all-push (IsFor moves) m.core.tickets t w.tickets (refl, object, a, so, refl));
      }
  open-copied places object a avoid (Err e) so (placed, at, inl h) = stays-copied h.1
  open-copied places object a avoid (Err e) so (placed, at, inr h) = absurd h.1

  piece-copied : (number : ℕ) (answer : Result ℕ Refusal) → CopiesPiece 0 number m next answer → Copied moves P first later old next
  piece-copied number (Ok count) (none, (t, is, counted, takes)) = tickets-copied (taking 0 number _ m.core.tickets) (all-map (IsFor moves) (IsFor moves) _ (for-took moves number _) m.core.tickets w.tickets) takes.1
  piece-copied number (Err e) (inl h) = stays-copied h.1
  piece-copied number (Err e) (inr (none, inl (t, is, why, cant, stays))) = stays-copied stays
  piece-copied number (Err e) (inr (none, inr (t, file, is, has, why, rose, becomes))) = dropped-copied number becomes

  seal-copied : (number : ℕ) (answer : Result (Unit {0}) Refusal) → Seals 0 number m next answer → Copied moves P first later old next
  seal-copied number (Ok done) h = tickets-copied (sealing 0 number m.core.tickets) (all-map (IsFor moves) (IsFor moves) _ (for-sealed moves number) m.core.tickets w.tickets) h.1
  seal-copied number (Err e) (inl h) = stays-copied h.1
  seal-copied number (Err e) (inr (none, (t, file, is, has, why, rose, becomes))) = dropped-copied number becomes

  drop-copied : (number : ℕ) (answer : Result (Unit {0}) Refusal) → Drops 0 number m next answer → Copied moves P first later old next
  drop-copied number (Ok done) h = dropped-copied number h.1
  drop-copied number (Err e) (inl h) = stays-copied h.1
  drop-copied number (Err e) (inr h) = absurd h.1

  -- the ticket with this number, where it is the script's
  found-for : (number : ℕ) (t : Ticket) → ticket number (own_tickets 0 m.core.tickets) ≡ Some t → IsFor moves t
  found-for number t is = for-found moves number (own_tickets 0 m.core.tickets) t (for-own moves m.core.tickets w.tickets) is

  joined-copied : (number : ℕ) (c : Change) → asked_change 0 Placed (number ∷ []) m.core ≡ Some c → IsCopy moves c
  joined-copied number c is = found-copy moves (inventory m.core) (ticket number (own_tickets 0 m.core.tickets)) c (found-for number) is

  commit-copied : (number : ℕ) (answer : Result ℕ Refusal) → Commits 0 Placed (number ∷ []) m next answer → Went moves P first old next
  commit-copied number (Ok n) (none, (c, is, numbered, joins)) = (
    later ++ entry c ∷ [],
    record {
      grew = grew-as (MayJoin moves P) first later (later ++ entry c ∷ []) (committed 0 c (number ∷ []) m.core) old m next w.grew
          (joined-under first later c old.core (with_tickets (without 0 (number ∷ []) m.core.tickets) m.core) (under-tickets (first ++ later) (without 0 (number ∷ []) m.core.tickets) old.core m.core w.grew.core))
          (are-more (MayJoin moves P) later c w.grew.are (inl (joined-copied number c is))) refl since joins.0
          (joins.1 ∙ found-contents moves (ticket number (own_tickets 0 m.core.tickets)) m.contents (found-for number));
      tickets = subst (λ (k : Core). AreFor moves k.tickets) (sym joins.0) (all-without (IsFor moves) (IsFor moves) (number ∷ []) (λ t so among. so) m.core.tickets w.tickets);
    },
  )
  commit-copied number (Err e) (inl h) = (later, stays-copied h.1)
  commit-copied number (Err e) (inr (none, (c, file, count, is, why, fault, joins))) = (
    later ++ entry c ∷ [],
    record {
      grew = grew-halts (MayJoin moves P) first later (later ++ entry c ∷ []) (committed 0 c (number ∷ []) m.core) file count old m next w.grew
          (joined-under first later c old.core (with_tickets (without 0 (number ∷ []) m.core.tickets) m.core) (under-tickets (first ++ later) (without 0 (number ∷ []) m.core.tickets) old.core m.core w.grew.core))
          (are-more (MayJoin moves P) later c w.grew.are (inl (joined-copied number c is))) fault since joins.0
          (joins.1 ∙ found-contents moves (ticket number (own_tickets 0 m.core.tickets)) m.contents (found-for number));
      tickets = subst (λ (k : Core). AreFor moves k.tickets) (sym joins.0) (all-without (IsFor moves) (IsFor moves) (number ∷ []) (λ t so among. so) m.core.tickets w.tickets);
    },
  )

  -- a change without tickets
  plain-copied : (asked : Asked) (answer : Result ℕ Refusal) → ((c : Change) (core : Core) → asked_change 0 asked [] core ≡ Some c → P c) → Commits 0 asked [] m next answer → Went moves P first old next
  plain-copied asked (Ok n) p (none, (c, is, numbered, joins)) = (
    later ++ entry c ∷ [],
    record {
      grew = grew-as (MayJoin moves P) first later (later ++ entry c ∷ []) (committed 0 c [] m.core) old m next w.grew
          (joined-under first later c old.core (with_tickets (without 0 [] m.core.tickets) m.core) (under-tickets (first ++ later) (without 0 [] m.core.tickets) old.core m.core w.grew.core))
          (are-more (MayJoin moves P) later c w.grew.are (inr (p c m.core is))) refl since joins.0 joins.1;
      tickets = subst (λ (k : Core). AreFor moves k.tickets) (sym joins.0) (all-without (IsFor moves) (IsFor moves) [] (λ t so among. so) m.core.tickets w.tickets);
    },
  )
  plain-copied asked (Err e) p (inl h) = (later, stays-copied h.1)
  plain-copied asked (Err e) p (inr (none, (c, file, count, is, why, fault, joins))) = (
    later ++ entry c ∷ [],
    record {
      grew = grew-halts (MayJoin moves P) first later (later ++ entry c ∷ []) (committed 0 c [] m.core) file count old m next w.grew
          (joined-under first later c old.core (with_tickets (without 0 [] m.core.tickets) m.core) (under-tickets (first ++ later) (without 0 [] m.core.tickets) old.core m.core w.grew.core))
          (are-more (MayJoin moves P) later c w.grew.are (inr (p c m.core is))) fault since joins.0 joins.1;
      tickets = subst (λ (k : Core). AreFor moves k.tickets) (sym joins.0) (all-without (IsFor moves) (IsFor moves) [] (λ t so among. so) m.core.tickets w.tickets);
    },
  )

  deed-copied : (places : Places) (d : Deed) → Copies moves P d → Case places 0 d m next → Went moves P first old next
  deed-copied places (Ask query answer) so h = (later, ask-copied query answer h)
  deed-copied places (Force answer) so h = (later, force-copied answer h)
  deed-copied places (OpenCopy object a avoid answer) so h = (later, open-copied places object a avoid answer so h)
  deed-copied places (CopyPiece number answer) so h = (later, piece-copied number answer h)
  deed-copied places (Seal number answer) so h = (later, seal-copied number answer h)
  deed-copied places (DropTicket number answer) so h = (later, drop-copied number answer h)
  deed-copied places (Commit asked tickets answer) (inl (number, is, one)) h =
      commit-copied number answer (subst (λ (ts : List ℕ). Commits 0 Placed ts m next answer) one (subst (λ (a : Asked). Commits 0 a tickets m next answer) is h))
  deed-copied places (Commit asked tickets answer) (inr (none, p)) h = plain-copied asked answer p (subst (λ (ts : List ℕ). Commits 0 asked ts m next answer) none h)
  deed-copied places d so h = absurd so

-- ---- all steps

-- it asks or forces, or has to do with tickets alone
pub has-tickets : (moves : Bool) (P : Change → Type 0) (d : Deed) → Copies moves P d → HasTickets d
has-tickets moves P (Ask query answer) so = tt
has-tickets moves P (Force answer) so = tt
has-tickets moves P (OpenCopy object a avoid answer) so = tt
has-tickets moves P (CopyPiece number answer) so = tt
has-tickets moves P (Seal number answer) so = tt
has-tickets moves P (DropTicket number answer) so = tt
has-tickets moves P (Commit asked tickets answer) so = tt
has-tickets moves P d so = absurd so

pub copied-none : (moves : Bool) (P : Change → Type 0) (m : Machine) → IsAtRest m.core → Copied moves P [] [] m m
copied-none moves P m rest = record { grew = grew-none (MayJoin moves P) m rest; tickets = subst (λ (ts : List Ticket). AreFor moves ts) (sym rest.tickets) tt }

module _ (moves : Bool) (P : Change → Type 0) (trusted : Type 0) (places : Places) where
  pub copies-walk : (first : List Entry) (events : List Event) (later : List Entry) (old m new : Machine) → AllCopy moves P events → Copied moves P first later old m → Alone trusted places 0 events m new
      → (more : List Entry) × Copied moves P first more old new
  copies-walk first [] later old m new all w same = (later, subst (λ (x : Machine). Copied moves P first later old x) (sym same) w)
  copies-walk first (e ∷ events) later old m new all w (next, moved, rest) =
      let s = ticket-step trusted places e m next (has-tickets moves P e.deed all.0) moved in
      let r = deed-copied moves P first later old m next w (onward-later m next s.0) places e.deed all.0 s.1 in
      copies-walk first events r.0 old next new all.1 r.1 rest

  -- where each was spent none is left
  pub settled-free : (events : List Event) (m new : Machine) → m.core.tickets ≡ [] → AllCopy moves P events → AreSettled events → Alone trusted places 0 events m new → new.core.tickets ≡ []
  settled-free events m new none all settled f = spent-free trusted places (Copies moves P) (has-tickets moves P) events m new none all settled f

  -- and the image in progress is what it was
  pub copies-idle : (events : List Event) (m new : Machine) → AllCopy moves P events → Alone trusted places 0 events m new → IsSameIn m new
  copies-idle events m new all f = still-idle trusted places (Copies moves P) (has-tickets moves P) events m new all f
