-- Steps of the script that stores new objects, one after the other: what they leave. What was stored already keeps its bytes.
use Rattle.std.proofs.Common.{◌≡◌, inl, inr, ℕ, ◌+◌, ◌==◌, ◌<◌, ◌≤◌, Bool, true, false, if◌then◌else◌, find, List, [], ◌∷◌, ◌++◌, length, Option, None, Some, Result, Ok, Err, refl, sym, ap, subst, ◌∙◌, arith}
use Rattle.std.proofs.lemmas.Bool.{and_parts, eqb-true}
use Rattle.std.proofs.lemmas.Option.{same_Some}
use Rattle.std.specs.List.{AllByRecursion, flat_map}
use Rattle.std.specs.Option.{option_map_or}
use Rattle.kinds.specs.Refusals.{foremost}
use Rattle.kinds.specs.declared.refusal.Refusal.{Refusal}
use Rattle.entries.specs.declared.change.Change.{Change}
use Rattle.entries.specs.declared.entry.Entry.{Entry}
use Rattle.inventory_answers.specs.declared.query.Query.{Query}
use Rattle.inventory_answers.specs.declared.reply.Answer.{Answer}
use Rattle.steps.specs.declared.asked.Asked.{Asked}
use Rattle.steps.specs.Events.{Deed, Event}
use Rattle.steps.specs.Events.Deed.{Ask, Commit, DropTicket, Force, OpenNew, Seal, WritePiece}
use Rattle.machine.specs.Alone.{Alone, with_contents}
use Rattle.command_steps.specs.copy_attempts.Outcomes.{MetBy}
use Rattle.machine.proofs.Elsewhere.{append-none, none-held, own-none}
use Rattle.machine.specs.Causes.{commit_refused, seal_refused, write_refused}
use Rattle.machine.specs.Changes.{all_tickets}
use Rattle.machine.specs.Machine.{Asks, Becomes, Case, Commits, Drops, Forces, IsLogFault, OpensNew, Places, Seals, Stays, WritesPiece, asked_change, committed, dropping, ended, halting, opened_new, stamped, stored_by, storing_contents, with_tickets}
use Rattle.machine.specs.State.{Core, Machine, Place, Ticket, is_storing, is_ticket, object_of, own_tickets, sealed, sealing, sight, storing, taking, ticket, took, without}
use Rattle.line_results.specs.Resting.{IsAtRest, Onward, entry}
use Rattle.line_results.specs.Trees.{KeepsBytes}
use Rattle.line_results.proofs.Keeping.{BringsVersions, Kept, brought, kept-as, kept-joined, kept-push, kept-sealed, kept-took, kept-without, not-sealed, sealed-full}
use Rattle.line_results.proofs.Runs.{onward-later}
use Rattle.line_results.proofs.Spent.{HasTickets, all-map, all-push, all-without, ticket-step}
use Rattle.line_results.proofs.Walking.{Grew, Under, are-more, grew-as, grew-halts, grew-none, joined-under, stamped-under, under-tickets}

-- ---- steps

-- the step opened the ticket with this number for so many bytes
abbrev pub IsOpening : (number size : ℕ) → Deed → Type 0
IsOpening number size (OpenNew pool bytes prefer (Ok ticket)) = (ticket ≡ number) × (bytes ≡ size)
IsOpening number size _ = ⊥

-- one of these steps did
abbrev pub WasOpened : (number size : ℕ) → List Event → Type 0
WasOpened number size events = MetBy (IsOpening number size) events

-- these steps opened the ticket as it is
abbrev pub IsOpened : (whole : List Event) → Ticket → Type 0
IsOpened whole t = WasOpened t.number t.size whole

abbrev pub AreOpened : (whole : List Event) → List Ticket → Type 0
AreOpened whole tickets = AllByRecursion (IsOpened whole) tickets

-- It asks, forces, opens a ticket for a new object, as one of these steps did, fills, seals or drops one, or commits; and of each change that joins by it P holds, where these steps opened the tickets
-- that there are.
abbrev pub Sends : (P : Change → Type 0) → (whole : List Event) → Deed → Type 0
Sends P whole (Ask query answer) = Unit {0}
Sends P whole (Force answer) = Unit {0}
Sends P whole (OpenNew pool size prefer (Ok number)) = WasOpened number size whole
Sends P whole (OpenNew pool size prefer (Err e)) = Unit {0}
Sends P whole (WritePiece number bytes answer) = Unit {0}
Sends P whole (Seal number answer) = Unit {0}
Sends P whole (DropTicket number answer) = Unit {0}
Sends P whole (Commit asked tickets answer) = BringsVersions asked × ((c : Change) (core : Core) → AreOpened whole core.tickets → asked_change 0 asked tickets core ≡ Some c → P c)
Sends P whole _ = ⊥

abbrev pub AllSend : (P : Change → Type 0) → (whole : List Event) → List Event → Type 0
AllSend P whole events = AllByRecursion (λ e. Sends P whole e.deed) events

pub has-tickets : (P : Change → Type 0) (whole : List Event) (d : Deed) → Sends P whole d → HasTickets d
has-tickets P whole (Ask query answer) so = tt
has-tickets P whole (Force answer) so = tt
has-tickets P whole (OpenNew pool size prefer answer) so = tt
has-tickets P whole (WritePiece number bytes answer) so = tt
has-tickets P whole (Seal number answer) so = tt
has-tickets P whole (DropTicket number answer) so = tt
has-tickets P whole (Commit asked tickets answer) so = tt
has-tickets P whole d so = absurd so

-- ---- tickets

-- the script's, for an object whose number wasn't drawn before this one
abbrev pub IsNew : (first : ℕ) → Ticket → Type 0
IsNew first t = (t.actor ≡ 0) × (object : ℕ) × (t.purpose ≡ storing object) × (first ≤ object)

abbrev pub AreNew : (first : ℕ) → List Ticket → Type 0
AreNew first tickets = AllByRecursion (IsNew first) tickets

new-took : (first number : ℕ) (bytes : List ℕ) (t : Ticket) → IsNew first t → IsNew first (if is_ticket 0 number t then took bytes t else t)
new-took first number bytes t h = elim (is_ticket 0 number t) as (λ b. IsNew first (if b then took bytes t else t)) [
  | true ↦ h
  | false ↦ h
]

new-sealed : (first number : ℕ) (t : Ticket) → IsNew first t → IsNew first (if is_ticket 0 number t then sealed t else t)
new-sealed first number t h = elim (is_ticket 0 number t) as (λ b. IsNew first (if b then sealed t else t)) [
  | true ↦ h
  | false ↦ h
]

new-own : (first : ℕ) (tickets : List Ticket) → AreNew first tickets → AreNew first (own_tickets 0 tickets)
new-own first [] h = tt
new-own first (t ∷ tickets) h = elim (t.actor == 0) as (λ b. AreNew first (if b then t ∷ own_tickets 0 tickets else own_tickets 0 tickets)) [
  | true ↦ (h.0, new-own first tickets h.1)
  | false ↦ new-own first tickets h.1
]

new-found : (first number : ℕ) (tickets : List Ticket) → AreNew first tickets → (found : Option Ticket) → ticket number tickets ≡ found → AreNew first (option_map_or (λ t. t ∷ []) found [])
new-found first number tickets h None is = tt
new-found first number [] h (Some t) is = absurd cc
new-found first number (x ∷ tickets) h (Some t) is =
    elim (x.number == number) as (λ b. (if b then Some x else ticket number tickets) ≡ Some t → AreNew first (t ∷ [])) [
      | true ↦ λ same. (subst (λ (y : Ticket). IsNew first y) (same_Some x t same) h.0, tt)
      | false ↦ λ later. new-found first number tickets h.1 (Some t) later
    ] is

new-append : (first : ℕ) (xs ys : List Ticket) → AreNew first xs → AreNew first ys → AreNew first (xs ++ ys)
new-append first [] ys h k = k
new-append first (x ∷ xs) ys h k = (h.0, new-append first xs ys h.1 k)

-- the caller's tickets with these numbers
new-all : (first : ℕ) (numbers : List ℕ) (tickets : List Ticket) → AreNew first tickets → AreNew first (flat_map (λ number. option_map_or (λ t. t ∷ []) (ticket number tickets) []) numbers)
new-all first [] tickets h = tt
new-all first (number ∷ numbers) tickets h =
    new-append first (option_map_or (λ t. t ∷ []) (ticket number tickets) []) _ (new-found first number tickets h (ticket number tickets) refl) (new-all first numbers tickets h)

-- none of them is for an object whose number was drawn before
not-stored : (first object : ℕ) (t : Ticket) → IsNew first t → object < first → stored_by object t ≡ false
not-stored first object t (own, number, is, high) low =
    elim (stored_by object t) as (λ b. stored_by object t ≡ b → b ≡ false) [
      | true ↦ λ yes. (let same : object_of t.purpose ≡ object = eqb-true (object_of t.purpose) object (and_parts (is_storing t.purpose) (object_of t.purpose == object) yes).1 in
          let of : object_of t.purpose ≡ number = ap object_of is in
          absurd (omega (arith, same, of, high, low)))
      | false ↦ λ no. refl
    ] refl

none-stored : (first object : ℕ) (tickets : List Ticket) → AreNew first tickets → object < first → find (stored_by object) tickets ≡ None
none-stored first object [] h low = refl
none-stored first object (t ∷ tickets) h low =
    ap (λ (b : Bool). if b then Some t else find (stored_by object) tickets) (not-stored first object t h.0 low) ∙ none-stored first object tickets h.1 low

bytes-kept : (first object : ℕ) (tickets : List Ticket) (contents : ℕ → List ℕ) → AreNew first tickets → object < first → storing_contents tickets contents object ≡ contents object
bytes-kept first object tickets contents h low = ap (λ (o : Option Ticket). option_map_or (λ (t : Ticket). t.bytes) o (contents object)) (none-stored first object tickets h low)

-- ---- what they leave

-- the machine but for the objects' bytes
abbrev over : (old m : Machine) → Machine
over old m = with_contents old.contents m

pub record Stored (P : Change → Type 0) (whole : List Event) (first later : List Entry) (old m : Machine) : Type 0 where
  pub grew : Grew P first later old (over old m)
  pub keeps : KeepsBytes old m
  pub next : old.core.next_object ≤ m.core.next_object
  pub tickets : AreNew old.core.next_object m.core.tickets
  pub kept : Kept later m.core.tickets m.core.next_object m.core.next_ticket m.contents
  pub opened : AreOpened whole m.core.tickets

abbrev pub Went : (P : Change → Type 0) → (whole : List Event) → (first : List Entry) → (old next : Machine) → Type 0
Went P whole first old next = (more : List Entry) × Stored P whole first more old next

-- which tickets there are
abbrev KeptIn : (later : List Entry) → Core → (contents : ℕ → List ℕ) → Type 0
KeptIn later c contents = Kept later c.tickets c.next_object c.next_ticket contents

opened-one : (whole : List Event) (number : ℕ) (f : Ticket → Ticket) → ((t : Ticket) → IsOpened whole t → IsOpened whole (f t)) → (t : Ticket) → IsOpened whole t → IsOpened whole (if is_ticket 0 number t then f t else t)
opened-one whole number f so t h = elim (is_ticket 0 number t) as (λ b. IsOpened whole (if b then f t else t)) [
  | true ↦ so t h
  | false ↦ h
]

opened-under : (added : List Entry) (size : ℕ) (place : Place) (old c : Core) → Under added old c → Under added old (opened_new 0 size place c)
opened-under added size place old c u = record { base = u.base; journal = u.journal; generation = u.generation; log_length = u.log_length; fresh = u.fresh; stamps = u.stamps; few = u.few }

over-onward : (old m next : Machine) → Onward m next → Onward (over old m) (over old next)
over-onward old m next x = record { counts = x.counts; since = x.since }

keeps-same : (old m next : Machine) → next.contents ≡ m.contents → KeepsBytes old m → KeepsBytes old next
keeps-same old m next same h object low = ap (λ (f : ℕ → List ℕ). f object) same ∙ h object low

keeps-stored : (old m next : Machine) (tickets : List Ticket) → AreNew old.core.next_object tickets → next.contents ≡ storing_contents tickets m.contents → KeepsBytes old m → KeepsBytes old next
keeps-stored old m next tickets are same h object low = ap (λ (f : ℕ → List ℕ). f object) same ∙ bytes-kept old.core.next_object object tickets m.contents are low ∙ h object low

module _ (P : Change → Type 0) (whole : List Event) (first later : List Entry) (old m next : Machine) (w : Stored P whole first later old m) (since : Onward m next) where
  -- the machine became this, which no fault halted that hadn't before
  stored-as : (more : List Entry) (d : Core) → Under (first ++ more) old.core d → AllByRecursion (λ e. (e.actor ≡ 0) × P e.change) more → d.fault ≡ m.core.fault → next.core ≡ d → KeepsBytes old next
      → old.core.next_object ≤ d.next_object → AreNew old.core.next_object d.tickets → KeptIn more d next.contents → AreOpened whole d.tickets → Stored P whole first more old next
  stored-as more d u are same is keeps high tickets kept opened = record {
    grew = grew-as P first later more d old (over old m) (over old next) w.grew u are same (over-onward old m next since) is refl;
    keeps = keeps;
    next = subst (λ (c : Core). old.core.next_object ≤ c.next_object) (sym is) high;
    tickets = subst (λ (c : Core). AreNew old.core.next_object c.tickets) (sym is) tickets;
    kept = subst (λ (c : Core). KeptIn more c next.contents) (sym is) kept;
    opened = subst (λ (c : Core). AreOpened whole c.tickets) (sym is) opened;
  }

  -- a fault halted it
  stored-halts : (more : List Entry) (d : Core) (file count : ℕ) → Under (first ++ more) old.core d → AllByRecursion (λ e. (e.actor ≡ 0) × P e.change) more → IsLogFault m next file count → next.core ≡ halting file count d
      → KeepsBytes old next → old.core.next_object ≤ d.next_object → AreNew old.core.next_object d.tickets → KeptIn more d next.contents → AreOpened whole d.tickets → Stored P whole first more old next
  stored-halts more d file count u are fault is keeps high tickets kept opened = record {
    grew = grew-halts P first later more d file count old (over old m) (over old next) w.grew u are fault (over-onward old m next since) is refl;
    keeps = keeps;
    next = subst (λ (c : Core). old.core.next_object ≤ c.next_object) (sym is) high;
    tickets = subst (λ (c : Core). AreNew old.core.next_object c.tickets) (sym is) tickets;
    kept = subst (λ (c : Core). KeptIn more c next.contents) (sym is) kept;
    opened = subst (λ (c : Core). AreOpened whole c.tickets) (sym is) opened;
  }

  -- the tickets are as they were
  same-kept : next.contents ≡ m.contents → KeptIn later m.core next.contents
  same-kept same = kept-as later m.core.tickets m.core.next_object m.core.next_ticket m.contents next.contents same w.kept

  stays-stored : Stays m next → Stored P whole first later old next
  stays-stored h = stored-as later m.core w.grew.core w.grew.are refl h.core (keeps-same old m next h.contents w.keeps) w.next w.tickets (same-kept h.contents) w.opened

  tickets-stored : (tickets : List Ticket) → AreNew old.core.next_object tickets → Kept later tickets m.core.next_object m.core.next_ticket m.contents → AreOpened whole tickets → Becomes (with_tickets tickets m.core) m next
      → Stored P whole first later old next
  tickets-stored tickets are kept opened h =
      stored-as later (with_tickets tickets m.core) (under-tickets (first ++ later) tickets old.core m.core w.grew.core) w.grew.are refl h.core (keeps-same old m next h.contents w.keeps) w.next are
      (kept-as later tickets m.core.next_object m.core.next_ticket m.contents next.contents h.contents kept) opened

  dropped-stored : (number : ℕ) → Becomes (dropping 0 number m.core) m next → Stored P whole first later old next
  dropped-stored number h =
      tickets-stored (without 0 (number ∷ []) m.core.tickets)
      (all-without (IsNew old.core.next_object) (IsNew old.core.next_object) (number ∷ []) (λ t so among. so) m.core.tickets w.tickets)
      (kept-without (number ∷ []) later m.core.tickets m.core.next_object m.core.next_ticket m.contents w.kept)
      (all-without (IsOpened whole) (IsOpened whole) (number ∷ []) (λ t so among. so) m.core.tickets w.opened) h

  ask-stored : (query : Query) (answer : Result Answer Refusal) → Asks 0 query m next answer → Stored P whole first later old next
  ask-stored query (Ok told) h = stays-stored h.1.1
  ask-stored query (Err e) (inl h) = stays-stored h.1
  ask-stored query (Err e) (inr h) = absurd h.1

  force-stored : (answer : Result ℕ Refusal) → Forces 0 m next answer → Stored P whole first later old next
  force-stored (Ok number) h =
      stored-as later (stamped next.moment m.core) (stamped-under (first ++ later) next.moment old.core m.core w.grew.core) w.grew.are refl h.1.1.core (keeps-same old m next h.1.1.contents w.keeps) w.next w.tickets
      (same-kept h.1.1.contents) w.opened
  force-stored (Err e) (inl h) = stays-stored h.1
  force-stored (Err e) (inr (none, (file, count, is, fault, becomes))) =
      stored-halts later m.core file count w.grew.core w.grew.are fault becomes.core (keeps-same old m next becomes.contents w.keeps) w.next w.tickets (same-kept becomes.contents) w.opened

  open-stored : (places : Places) (pool size prefer : ℕ) (answer : Result ℕ Refusal) → Sends P whole (OpenNew pool size prefer answer) → OpensNew places 0 pool size prefer m next answer → Stored P whole first later old next
  open-stored places pool size prefer (Ok number) so (placed, at, (none, (place, is, numbered, becomes))) =
      let high : old.core.next_object ≤ m.core.next_object = w.next in
      let t : Ticket = record { number = m.core.next_ticket; actor = 0; purpose = storing m.core.next_object; size = size; place = place; bytes = []; is_sealed = false } in
      stored-as later (opened_new 0 size place m.core) (opened-under (first ++ later) size place old.core m.core w.grew.core) w.grew.are refl becomes.core (keeps-same old m next becomes.contents w.keeps)
      (omega (arith, high)) (all-push (IsNew old.core.next_object) m.core.tickets t w.tickets (refl, m.core.next_object, refl, high))
      (kept-as later (opened_new 0 size place m.core).tickets (m.core.next_object + 1) (m.core.next_ticket + 1) m.contents next.contents becomes.contents
      (kept-push size place later m.core.tickets m.core.next_object m.core.next_ticket m.contents w.kept))
      (all-push (IsOpened whole) m.core.tickets t w.opened (subst (λ (n : ℕ). WasOpened n size whole) numbered so))
  open-stored places pool size prefer (Err e) so (placed, at, inl h) = stays-stored h.1
  open-stored places pool size prefer (Err e) so (placed, at, inr h) = absurd h.1

  write-stored : (number : ℕ) (bytes : List ℕ) (answer : Result ℕ Refusal) → WritesPiece 0 number bytes m next answer → Stored P whole first later old next
  write-stored number bytes (Ok count) (none, (t, is, counted, becomes)) =
      tickets-stored (taking 0 number bytes m.core.tickets) (all-map (IsNew old.core.next_object) (IsNew old.core.next_object) _ (new-took old.core.next_object number bytes) m.core.tickets w.tickets)
      (kept-took number bytes later m.core.tickets m.core.next_object m.core.next_ticket m.contents t is
      (not-sealed number (length bytes) (sight 0 m.core) t is (append-none (ended m) (write_refused number (length bytes) (sight 0 m.core)) (none-held (ended m ++ write_refused number (length bytes) (sight 0 m.core)) none)).1) w.kept)
      (all-map (IsOpened whole) (IsOpened whole) _ (opened-one whole number (took bytes) (λ x h. h)) m.core.tickets w.opened) becomes
  write-stored number bytes (Err e) (inl h) = stays-stored h.1
  write-stored number bytes (Err e) (inr (none, (t, file, is, has, why, rose, becomes))) = dropped-stored number becomes

  seal-stored : (number : ℕ) (answer : Result (Unit {0}) Refusal) → Seals 0 number m next answer → Stored P whole first later old next
  seal-stored number (Ok done) h =
      let full = sealed-full number (sight 0 m.core) (append-none (ended m) (seal_refused number (sight 0 m.core)) (none-held (ended m ++ seal_refused number (sight 0 m.core)) h.0)).1 in
      tickets-stored (sealing 0 number m.core.tickets) (all-map (IsNew old.core.next_object) (IsNew old.core.next_object) _ (new-sealed old.core.next_object number) m.core.tickets w.tickets)
      (kept-sealed number later m.core.tickets m.core.next_object m.core.next_ticket m.contents full.0 full.1 full.2 w.kept)
      (all-map (IsOpened whole) (IsOpened whole) _ (opened-one whole number sealed (λ x h. h)) m.core.tickets w.opened) h.1
  seal-stored number (Err e) (inl h) = stays-stored h.1
  seal-stored number (Err e) (inr (none, (t, file, is, has, why, rose, becomes))) = dropped-stored number becomes

  drop-stored : (number : ℕ) (answer : Result (Unit {0}) Refusal) → Drops 0 number m next answer → Stored P whole first later old next
  drop-stored number (Ok done) h = dropped-stored number h.1
  drop-stored number (Err e) (inl h) = stays-stored h.1
  drop-stored number (Err e) (inr h) = absurd h.1

  -- the tickets that are committed are the script's
  new-spent : (tickets : List ℕ) → AreNew old.core.next_object (all_tickets tickets (sight 0 m.core))
  new-spent tickets = new-all old.core.next_object tickets (own_tickets 0 m.core.tickets) (new-own old.core.next_object m.core.tickets w.tickets)

  new-left : (tickets : List ℕ) → AreNew old.core.next_object (without 0 tickets m.core.tickets)
  new-left tickets = all-without (IsNew old.core.next_object) (IsNew old.core.next_object) tickets (λ t so among. so) m.core.tickets w.tickets

  joined-stored : (c : Change) (tickets : List ℕ) → Under (first ++ (later ++ entry c ∷ [])) old.core (committed 0 c tickets m.core)
  joined-stored c tickets =
      joined-under first later c old.core (with_tickets (without 0 tickets m.core.tickets) m.core) (under-tickets (first ++ later) (without 0 tickets m.core.tickets) old.core m.core w.grew.core)

  -- those that are left behind it, and what it brings
  left-opened : (tickets : List ℕ) → AreOpened whole (without 0 tickets m.core.tickets)
  left-opened tickets = all-without (IsOpened whole) (IsOpened whole) tickets (λ t so among. so) m.core.tickets w.opened

  joined-kept : (asked : Asked) (tickets : List ℕ) (c : Change) (others : List Refusal) → BringsVersions asked → asked_change 0 asked tickets m.core ≡ Some c
      → foremost (ended m ++ (commit_refused 0 asked tickets (sight 0 m.core) ++ others)) ≡ None → next.contents ≡ storing_contents (all_tickets tickets (sight 0 m.core)) m.contents
      → Kept (later ++ entry c ∷ []) (without 0 tickets m.core.tickets) m.core.next_object m.core.next_ticket next.contents
  joined-kept asked tickets c others brings is none same =
      kept-as (later ++ entry c ∷ []) (without 0 tickets m.core.tickets) m.core.next_object m.core.next_ticket (storing_contents (all_tickets tickets (sight 0 m.core)) m.contents) next.contents same
      (kept-joined tickets later m.core.tickets m.core.next_object m.core.next_ticket m.contents w.kept c
      (brought asked tickets m.core c brings is (own-none (ended m) (commit_refused 0 asked tickets (sight 0 m.core)) others none)))

  commit-stored : (asked : Asked) (tickets : List ℕ) (answer : Result ℕ Refusal) → Sends P whole (Commit asked tickets answer) → Commits 0 asked tickets m next answer → Went P whole first old next
  commit-stored asked tickets (Ok n) (brings, p) (none, (c, is, numbered, joins)) = (
    later ++ entry c ∷ [],
    stored-as (later ++ entry c ∷ []) (committed 0 c tickets m.core) (joined-stored c tickets) (are-more P later c w.grew.are (p c m.core w.opened is)) refl joins.0
        (keeps-stored old m next (all_tickets tickets (sight 0 m.core)) (new-spent tickets) joins.1 w.keeps) w.next (new-left tickets) (joined-kept asked tickets c _ brings is none joins.1) (left-opened tickets),
  )
  commit-stored asked tickets (Err e) (brings, p) (inl h) = (later, stays-stored h.1)
  commit-stored asked tickets (Err e) (brings, p) (inr (none, (c, file, count, is, why, fault, joins))) = (
    later ++ entry c ∷ [],
    stored-halts (later ++ entry c ∷ []) (committed 0 c tickets m.core) file count (joined-stored c tickets) (are-more P later c w.grew.are (p c m.core w.opened is)) fault joins.0
        (keeps-stored old m next (all_tickets tickets (sight 0 m.core)) (new-spent tickets) joins.1 w.keeps) w.next (new-left tickets) (joined-kept asked tickets c _ brings is none joins.1) (left-opened tickets),
  )

  pub deed-stored : (places : Places) (d : Deed) → Sends P whole d → Case places 0 d m next → Went P whole first old next
  deed-stored places (Ask query answer) so h = (later, ask-stored query answer h)
  deed-stored places (Force answer) so h = (later, force-stored answer h)
  deed-stored places (OpenNew pool size prefer answer) so h = (later, open-stored places pool size prefer answer so h)
  deed-stored places (WritePiece number bytes answer) so h = (later, write-stored number bytes answer h)
  deed-stored places (Seal number answer) so h = (later, seal-stored number answer h)
  deed-stored places (DropTicket number answer) so h = (later, drop-stored number answer h)
  deed-stored places (Commit asked tickets answer) so h = commit-stored asked tickets answer so h
  deed-stored places d so h = absurd so

-- ---- all steps

pub stored-none : (P : Change → Type 0) (whole : List Event) (m : Machine) → IsAtRest m.core → Stored P whole [] [] m m
stored-none P whole m rest = record {
  grew = grew-none P m rest;
  keeps = λ object low. refl;
  next = omega arith;
  tickets = subst (λ (ts : List Ticket). AreNew m.core.next_object ts) (sym rest.tickets) tt;
  kept = subst (λ (ts : List Ticket). Kept [] ts m.core.next_object m.core.next_ticket m.contents) (sym rest.tickets) (tt, tt, tt);
  opened = subst (λ (ts : List Ticket). AreOpened whole ts) (sym rest.tickets) tt;
}

module _ (P : Change → Type 0) (whole : List Event) (trusted : Type 0) (places : Places) where
  pub sends-walk : (first : List Entry) (events : List Event) (later : List Entry) (old m new : Machine) → AllSend P whole events → Stored P whole first later old m → Alone trusted places 0 events m new
      → (more : List Entry) × Stored P whole first more old new
  sends-walk first [] later old m new all w same = (later, subst (λ (x : Machine). Stored P whole first later old x) (sym same) w)
  sends-walk first (e ∷ events) later old m new all w (next, moved, rest) =
      let s = ticket-step trusted places e m next (has-tickets P whole e.deed all.0) moved in
      let r = deed-stored P whole first later old m next w (onward-later m next s.0) places e.deed all.0 s.1 in
      sends-walk first events r.0 old next new all.1 r.1 rest

-- ---- numbers of tickets are drawn once

module _ (m next : Machine) where
  by-core : (c : Core) → next.core ≡ c → m.core.next_ticket ≤ c.next_ticket → m.core.next_ticket ≤ next.core.next_ticket
  by-core c is low = subst (λ (x : Core). m.core.next_ticket ≤ x.next_ticket) (sym is) low

  number-stays : Stays m next → m.core.next_ticket ≤ next.core.next_ticket
  number-stays h = by-core m.core h.core (omega arith)

  -- the number that is drawn next never falls
  number-rises : (P : Change → Type 0) (whole : List Event) (places : Places) (d : Deed) → Sends P whole d → Case places 0 d m next → m.core.next_ticket ≤ next.core.next_ticket
  number-rises P whole places (Ask query (Ok told)) so h = number-stays h.1.1
  number-rises P whole places (Ask query (Err e)) so (inl h) = number-stays h.1
  number-rises P whole places (Ask query (Err e)) so (inr h) = absurd h.1
  number-rises P whole places (Force (Ok number)) so h = by-core (stamped next.moment m.core) h.1.1.core (omega arith)
  number-rises P whole places (Force (Err e)) so (inl h) = number-stays h.1
  number-rises P whole places (Force (Err e)) so (inr (none, (file, count, is, fault, becomes))) = by-core (halting file count m.core) becomes.core (omega arith)
  number-rises P whole places (OpenNew pool size prefer (Ok number)) so (placed, at, (none, (place, is, numbered, becomes))) = by-core (opened_new 0 size place m.core) becomes.core (omega arith)
  number-rises P whole places (OpenNew pool size prefer (Err e)) so (placed, at, inl h) = number-stays h.1
  number-rises P whole places (OpenNew pool size prefer (Err e)) so (placed, at, inr h) = absurd h.1
  number-rises P whole places (WritePiece number bytes (Ok count)) so (none, (t, is, counted, becomes)) = by-core (with_tickets (taking 0 number bytes m.core.tickets) m.core) becomes.core (omega arith)
  number-rises P whole places (WritePiece number bytes (Err e)) so (inl h) = number-stays h.1
  number-rises P whole places (WritePiece number bytes (Err e)) so (inr (none, (t, file, is, has, why, rose, becomes))) = by-core (dropping 0 number m.core) becomes.core (omega arith)
  number-rises P whole places (Seal number (Ok done)) so h = by-core (with_tickets (sealing 0 number m.core.tickets) m.core) h.1.core (omega arith)
  number-rises P whole places (Seal number (Err e)) so (inl h) = number-stays h.1
  number-rises P whole places (Seal number (Err e)) so (inr (none, (t, file, is, has, why, rose, becomes))) = by-core (dropping 0 number m.core) becomes.core (omega arith)
  number-rises P whole places (DropTicket number (Ok done)) so h = by-core (dropping 0 number m.core) h.1.core (omega arith)
  number-rises P whole places (DropTicket number (Err e)) so (inl h) = number-stays h.1
  number-rises P whole places (DropTicket number (Err e)) so (inr h) = absurd h.1
  number-rises P whole places (Commit asked tickets (Ok n)) so (none, (c, is, numbered, joins)) = by-core (committed 0 c tickets m.core) joins.0 (omega arith)
  number-rises P whole places (Commit asked tickets (Err e)) so (inl h) = number-stays h.1
  number-rises P whole places (Commit asked tickets (Err e)) so (inr (none, (c, file, count, is, why, fault, joins))) = by-core (halting file count (committed 0 c tickets m.core)) joins.0 (omega arith)
  number-rises P whole places d so h = absurd so

  -- the ticket that is opened has the number that was drawn next, and the one behind it is drawn then
  opens-next : (P : Change → Type 0) (whole : List Event) (places : Places) (number size : ℕ) (d : Deed) → Case places 0 d m next → IsOpening number size d
      → (number ≡ m.core.next_ticket) × (next.core.next_ticket ≡ m.core.next_ticket + 1)
  opens-next P whole places number size (OpenNew pool bytes prefer (Ok ticket)) (placed, at, (none, (place, is, numbered, becomes))) (same, long) = (sym same ∙ numbered, ap (λ (c : Core). c.next_ticket) becomes.core)
  opens-next P whole places number size d h opening = absurd opening

one-size : (number first second : ℕ) (d : Deed) → IsOpening number first d → IsOpening number second d → first ≡ second
one-size number first second (OpenNew pool bytes prefer (Ok ticket)) h k = sym h.1 ∙ k.1
one-size number first second d h k = absurd h

module _ (P : Change → Type 0) (whole : List Event) (trusted : Type 0) (places : Places) where
  opened-high : (events : List Event) (m new : Machine) → AllSend P whole events → Alone trusted places 0 events m new → (number size : ℕ) → WasOpened number size events → m.core.next_ticket ≤ number
  opened-high [] m new all a number size opened = absurd opened
  opened-high (e ∷ events) m new all (next, moved, rest) number size (inl opening) =
      let s = ticket-step trusted places e m next (has-tickets P whole e.deed all.0) moved in
      let o : number ≡ m.core.next_ticket = (opens-next m next P whole places number size e.deed s.1 opening).0 in
      omega (arith, o)
  opened-high (e ∷ events) m new all (next, moved, rest) number size (inr later) =
      let s = ticket-step trusted places e m next (has-tickets P whole e.deed all.0) moved in
      let low : m.core.next_ticket ≤ next.core.next_ticket = number-rises m next P whole places e.deed all.0 s.1 in
      let high : next.core.next_ticket ≤ number = opened-high events next new all.1 rest number size later in
      omega (arith, low, high)

  -- a ticket with a number was opened for one size
  pub opened-once : (events : List Event) (m new : Machine) → AllSend P whole events → Alone trusted places 0 events m new → (number first second : ℕ) → WasOpened number first events → WasOpened number second events → first ≡ second
  opened-once [] m new all a number first second h k = absurd h
  opened-once (e ∷ events) m new all (next, moved, rest) number first second (inl h) (inl k) = one-size number first second e.deed h k
  opened-once (e ∷ events) m new all (next, moved, rest) number first second (inl h) (inr k) =
      let s = ticket-step trusted places e m next (has-tickets P whole e.deed all.0) moved in
      let o = opens-next m next P whole places number first e.deed s.1 h in
      let here : number ≡ m.core.next_ticket = o.0 in
      let later_on : next.core.next_ticket ≡ m.core.next_ticket + 1 = o.1 in
      let high : next.core.next_ticket ≤ number = opened-high events next new all.1 rest number second k in
      absurd (omega (arith, here, later_on, high))
  opened-once (e ∷ events) m new all (next, moved, rest) number first second (inr h) (inl k) =
      let s = ticket-step trusted places e m next (has-tickets P whole e.deed all.0) moved in
      let o = opens-next m next P whole places number second e.deed s.1 k in
      let here : number ≡ m.core.next_ticket = o.0 in
      let later_on : next.core.next_ticket ≡ m.core.next_ticket + 1 = o.1 in
      let high : next.core.next_ticket ≤ number = opened-high events next new all.1 rest number first h in
      absurd (omega (arith, here, later_on, high))
  opened-once (e ∷ events) m new all (next, moved, rest) number first second (inr h) (inr k) = opened-once events next new all.1 rest number first second h k
