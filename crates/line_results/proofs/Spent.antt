-- Tickets of the script, which has the machine alone: which steps spend them, and that none is left where each was spent.
use Rattle.std.proofs.Common.{◌≡◌, ◌⊎◌, inl, inr, ℕ, ◌==◌, ◌&&◌, ◌||◌, not, Bool, true, false, if◌then◌else◌, List, [], ◌∷◌, ◌++◌, length, is_some, map, Option, None, Some, Result, Ok, Err, refl, sym, ap, subst, ◌∙◌}
use Rattle.std.proofs.lemmas.Bool.{eq-eqb, false≢true, ne_eqb}
use Rattle.std.specs.List.{AllByRecursion, list_any}
use Rattle.kinds.specs.Refusals.{foremost, number_of}
use Rattle.kinds.specs.declared.refusal.Refusal.{Refusal}
use Rattle.kinds.specs.declared.refusal.Refusal.TheVariants as refused
use Rattle.inventory_answers.specs.declared.query.Query.{Query}
use Rattle.inventory_answers.specs.declared.reply.Answer.{Answer}
use Rattle.space.specs.declared.aim.Aim.{Aim}
use Rattle.steps.specs.Spent.{AreSettled, IsSettled, is_spent, spends}
use Rattle.steps.specs.declared.asked.Asked.{Asked}
use Rattle.steps.specs.Events.{Deed, Event}
use Rattle.steps.specs.Events.Deed.{Ask, Commit, CopyPiece, DropTicket, Force, OpenCopy, OpenNew, Seal, WritePiece}
use Rattle.machine.specs.Alone.{Alone, AreBytes, Moves, behind}
use Rattle.machine.specs.Causes.{copying_refused, drop_refused, seal_refused, write_refused}
use Rattle.machine.specs.Fits.{is_write_fault}
use Rattle.machine.specs.Machine.{Asks, Becomes, Case, Commits, CopiesPiece, Drops, Forces, Later, OpensCopy, OpensNew, Places, Seals, Stays, WritesPiece, dropping, ended}
use Rattle.machine.specs.State.{Core, Machine, Ticket, copying, is_among, is_ticket, own_tickets, sealed, sight, storing, ticket, took, without}
use Rattle.machine.proofs.Elsewhere.{append-all, ended-all, foremost-all}
use Rattle.machine.proofs.Mild.{mild-answered, mild-copy, mild-seal, mild-write}
use Rattle.line_results.proofs.Runs.{stepped}
use Rattle.line_results.proofs.Walking.{force-free}

-- ---- steps

-- It asks or forces; or it opens, fills, seals, drops or commits tickets.
abbrev pub HasTickets : Deed → Type 0
HasTickets (Ask query answer) = Unit {0}
HasTickets (Force answer) = Unit {0}
HasTickets (OpenNew pool size prefer answer) = Unit {0}
HasTickets (OpenCopy object a avoid answer) = Unit {0}
HasTickets (WritePiece number bytes answer) = Unit {0}
HasTickets (CopyPiece number answer) = Unit {0}
HasTickets (Seal number answer) = Unit {0}
HasTickets (DropTicket number answer) = Unit {0}
HasTickets (Commit asked tickets answer) = Unit {0}
HasTickets _ = ⊥

seen-same : (trusted : Type 0) (d : Deed) → HasTickets d → (contents seen : ℕ → List ℕ) → AreBytes trusted d contents seen → seen ≡ contents
seen-same trusted (Ask query answer) so contents seen h = h
seen-same trusted (Force answer) so contents seen h = h
seen-same trusted (OpenNew pool size prefer answer) so contents seen h = h
seen-same trusted (OpenCopy object a avoid answer) so contents seen h = h
seen-same trusted (WritePiece number bytes answer) so contents seen h = h
seen-same trusted (CopyPiece number answer) so contents seen h = h
seen-same trusted (Seal number answer) so contents seen h = h
seen-same trusted (DropTicket number answer) so contents seen h = h
seen-same trusted (Commit asked tickets answer) so contents seen h = h
seen-same trusted d so contents seen h = absurd so

left-same : (d : Deed) → HasTickets d → (contents : ℕ → List ℕ) (m : Machine) → behind d contents m ≡ m
left-same (Ask query answer) so contents m = refl
left-same (Force answer) so contents m = refl
left-same (OpenNew pool size prefer answer) so contents m = refl
left-same (OpenCopy object a avoid answer) so contents m = refl
left-same (WritePiece number bytes answer) so contents m = refl
left-same (CopyPiece number answer) so contents m = refl
left-same (Seal number answer) so contents m = refl
left-same (DropTicket number answer) so contents m = refl
left-same (Commit asked tickets answer) so contents m = refl
left-same d so contents m = absurd so

-- such a step is the machine's
pub ticket-step : (trusted : Type 0) (places : Places) (e : Event) (m next : Machine) → HasTickets e.deed → Moves trusted places 0 e m next → Later m next × Case places 0 e.deed m next
ticket-step trusted places e m next so moved = stepped trusted places e.n e.deed (e ∷ []) m next (seen-same trusted e.deed so) (left-same e.deed so) refl (next, moved, refl)

-- ---- lists of tickets

pub all-push : (Q : Ticket → Type 0) (tickets : List Ticket) (t : Ticket) → AllByRecursion Q tickets → Q t → AllByRecursion Q (tickets ++ t ∷ [])
all-push Q [] t h q = (q, tt)
all-push Q (x ∷ tickets) t h q = (h.0, all-push Q tickets t h.1 q)

pub all-map : (Q R : Ticket → Type 0) (f : Ticket → Ticket) → ((t : Ticket) → Q t → R (f t)) → (tickets : List Ticket) → AllByRecursion Q tickets → AllByRecursion R (map f tickets)
all-map Q R f so [] h = tt
all-map Q R f so (t ∷ tickets) h = (so t h.0, all-map Q R f so tickets h.1)

pub all-same : (Q R : Ticket → Type 0) → ((t : Ticket) → Q t → R t) → (tickets : List Ticket) → AllByRecursion Q tickets → AllByRecursion R tickets
all-same Q R so [] h = tt
all-same Q R so (t ∷ tickets) h = (so t h.0, all-same Q R so tickets h.1)

-- of those that are left it holds where they aren't among these
pub all-without : (Q R : Ticket → Type 0) (numbers : List ℕ) → ((t : Ticket) → Q t → is_among 0 numbers t ≡ false → R t) → (tickets : List Ticket) → AllByRecursion Q tickets → AllByRecursion R (without 0 numbers tickets)
all-without Q R numbers so [] h = tt
all-without Q R numbers so (t ∷ tickets) h =
    elim (is_among 0 numbers t) as (λ b. is_among 0 numbers t ≡ b → AllByRecursion R (if not b then t ∷ without 0 numbers tickets else without 0 numbers tickets)) [
      | true ↦ λ is. all-without Q R numbers so tickets h.1
      | false ↦ λ is. (so t h.0 is, all-without Q R numbers so tickets h.1)
    ] refl

-- ---- no ticket is left

-- the script's, and it is spent by one of these steps
abbrev IsDue : List Event → Ticket → Type 0
IsDue events t = (t.actor ≡ 0) × (is_spent t.number events ≡ true)

abbrev AreDue : List Event → List Ticket → Type 0
AreDue events tickets = AllByRecursion (IsDue events) tickets

still-due : (e : Event) (events : List Event) (t : Ticket) → spends t.number e.deed ≡ false → IsDue (e ∷ events) t → IsDue events t
still-due e events t other h = (h.0, sym (ap (λ b. b || is_spent t.number events) other) ∙ h.1)

-- a ticket of the script's isn't among those with these numbers
pub not-among : (numbers : List ℕ) (t : Ticket) → t.actor ≡ 0 → is_among 0 numbers t ≡ false → list_any (λ n. n == t.number) numbers ≡ false
not-among numbers t own h = (let same : (t.actor == 0) ≡ true = ap (λ a. a == 0) own in sym (ap (λ b. b && list_any (λ n. n == t.number) numbers) same) ∙ h)

not-one : (number : ℕ) (t : Ticket) → t.actor ≡ 0 → is_among 0 (number ∷ []) t ≡ false → (number == t.number) ≡ false
not-one number t own h = or-first (number == t.number) (not-among (number ∷ []) t own h) where
  or-first : (b : Bool) → (b || false) ≡ false → b ≡ false
  or-first true k = k
  or-first false k = refl

and-second : (a b : Bool) → b ≡ false → (a && b) ≡ false
and-second true b h = h
and-second false b h = refl

and-first : (a b : Bool) → a ≡ false → (a && b) ≡ false
and-first true b h = absurd (false≢true (sym h))
and-first false b h = refl

-- a ticket that isn't there has another number
other-number : (number : ℕ) (tickets : List Ticket) → is_some (ticket number (own_tickets 0 tickets)) ≡ false → AllByRecursion (λ t. t.actor ≡ 0 → (number == t.number) ≡ false) tickets
other-number number [] h = tt
other-number number (x ∷ tickets) h =
    elim (x.actor == 0) as (λ b. (x.actor == 0) ≡ b → is_some (ticket number (if b then x ∷ own_tickets 0 tickets else own_tickets 0 tickets)) ≡ false → AllByRecursion (λ t. t.actor ≡ 0 → (number == t.number) ≡ false) (x ∷ tickets)) [
      | true ↦ λ own none. own-other own none (λ rest. other-number number tickets rest)
      | false ↦ λ own none. ((λ zero. absurd (false≢true (sym own ∙ ap (λ a. a == 0) zero))), other-number number tickets none)
    ] refl h
  where
    own-other : (x.actor == 0) ≡ true → is_some (ticket number (x ∷ own_tickets 0 tickets)) ≡ false
        → (is_some (ticket number (own_tickets 0 tickets)) ≡ false → AllByRecursion (λ t. t.actor ≡ 0 → (number == t.number) ≡ false) tickets) → AllByRecursion (λ t. t.actor ≡ 0 → (number == t.number) ≡ false) (x ∷ tickets)
    own-other own none others =
        elim (x.number == number) as (λ b. (x.number == number) ≡ b → is_some (if b then Some x else ticket number (own_tickets 0 tickets)) ≡ false → AllByRecursion (λ t. t.actor ≡ 0 → (number == t.number) ≡ false) (x ∷ tickets)) [
          | true ↦ λ is odd. absurd (false≢true (sym odd))
          | false ↦ λ is later. ((λ zero. ne_eqb number x.number (λ same. false≢true (sym is ∙ eq-eqb x.number number (sym same)))), others later)
        ] refl none

-- what holds of each ticket where both do
both-all : (Q R S : Ticket → Type 0) → ((t : Ticket) → Q t → R t → S t) → (tickets : List Ticket) → AllByRecursion Q tickets → AllByRecursion R tickets → AllByRecursion S tickets
both-all Q R S so [] h k = tt
both-all Q R S so (t ∷ tickets) h k = (so t h.0 k.0, both-all Q R S so tickets h.1 k.1)

-- a refusal that ends a run isn't that a ticket isn't there
not-there : (m : Machine) (e : Refusal) → (foremost (ended m ++ []) ≡ Some e) ⊎ (e ≡ refused.Memory) → (number_of e == 10) ≡ false
not-there m e (inl h) = foremost-all (λ x. (number_of x == 10) ≡ false) (ended m ++ []) (append-all (λ x. (number_of x == 10) ≡ false) (ended m) [] (ended-all (λ x. (number_of x == 10) ≡ false) refl (λ file count. refl) m) tt) e h
not-there m e (inr h) = ap (λ (x : Refusal). number_of x == 10) h

module _ (e : Event) (events : List Event) (m next : Machine) (due : AreDue (e ∷ events) m.core.tickets) where
  -- nothing is spent by it
  same-due : next.core.tickets ≡ m.core.tickets → ((t : Ticket) → spends t.number e.deed ≡ false) → AreDue events next.core.tickets
  same-due is others = subst (λ (ts : List Ticket). AreDue events ts) (sym is) (all-same (IsDue (e ∷ events)) (IsDue events) (λ t h. still-due e events t (others t) h) m.core.tickets due)

  stays-due : Stays m next → ((t : Ticket) → spends t.number e.deed ≡ false) → AreDue events next.core.tickets
  stays-due h others = same-due (ap (λ (c : Core). c.tickets) h.core) others

  -- the one with this number is gone
  dropped-due : (number : ℕ) → Becomes (dropping 0 number m.core) m next → ((t : Ticket) → (number == t.number) ≡ false → spends t.number e.deed ≡ false) → AreDue events next.core.tickets
  dropped-due number h others =
      subst (λ (c : Core). AreDue events c.tickets) (sym h.core)
      (all-without (IsDue (e ∷ events)) (IsDue events) (number ∷ []) (λ t it among. still-due e events t (others t (not-one number t it.0 among)) it) m.core.tickets due)

due-took : (events : List Event) (number : ℕ) (bytes : List ℕ) (t : Ticket) → IsDue events t → IsDue events (if is_ticket 0 number t then took bytes t else t)
due-took events number bytes t h = elim (is_ticket 0 number t) as (λ b. IsDue events (if b then took bytes t else t)) [
  | true ↦ h
  | false ↦ h
]

due-sealed : (events : List Event) (number : ℕ) (t : Ticket) → IsDue events t → IsDue events (if is_ticket 0 number t then sealed t else t)
due-sealed events number t h = elim (is_ticket 0 number t) as (λ b. IsDue events (if b then sealed t else t)) [
  | true ↦ h
  | false ↦ h
]

module _ (places : Places) (n : ℕ) (events : List Event) (m next : Machine) where
  abbrev by : Deed → Event
  by d = record { n = n; deed = d }

  ask-due : (query : Query) (answer : Result Answer Refusal) → AreDue (by (Ask query answer) ∷ events) m.core.tickets → Asks 0 query m next answer → AreDue events next.core.tickets
  ask-due query (Ok told) due h = stays-due (by (Ask query (Ok told))) events m next due h.1.1 (λ t. refl)
  ask-due query (Err e) due (inl h) = stays-due (by (Ask query (Err e))) events m next due h.1 (λ t. refl)
  ask-due query (Err e) due (inr h) = absurd h.1

  open-due : (object : ℕ) (a : Aim) (avoid : ℕ) (answer : Result ℕ Refusal) → AreDue (by (OpenCopy object a avoid answer) ∷ events) m.core.tickets → IsSettled (OpenCopy object a avoid answer) events
      → OpensCopy places 0 object a avoid m next answer → AreDue events next.core.tickets
  open-due object a avoid (Ok number) due settled (placed, at, (none, (place, is, numbered, becomes))) =
      let t : Ticket = record { number = m.core.next_ticket; actor = 0; purpose = copying object a; size = _; place = place; bytes = []; is_sealed = false } in
      subst (λ (c : Core). AreDue events c.tickets) (sym becomes.core)
      (all-push (IsDue events) m.core.tickets t
      (all-same (IsDue (by (OpenCopy object a avoid (Ok number)) ∷ events)) (IsDue events) (λ x it. still-due (by (OpenCopy object a avoid (Ok number))) events x refl it) m.core.tickets due)
      (refl, subst (λ (k : ℕ). is_spent k events ≡ true) numbered settled))
  open-due object a avoid (Err e) due settled (placed, at, inl h) = stays-due (by (OpenCopy object a avoid (Err e))) events m next due h.1 (λ t. refl)
  open-due object a avoid (Err e) due settled (placed, at, inr h) = absurd h.1

  piece-due : (number : ℕ) (answer : Result ℕ Refusal) → AreDue (by (CopyPiece number answer) ∷ events) m.core.tickets → CopiesPiece 0 number m next answer → AreDue events next.core.tickets
  piece-due number (Ok count) due (none, (t, is, counted, takes)) =
      subst (λ (c : Core). AreDue events c.tickets) (sym takes.1.core)
      (all-map (IsDue (by (CopyPiece number (Ok count)) ∷ events)) (IsDue events) _ (λ x it. due-took events number _ x (still-due (by (CopyPiece number (Ok count))) events x refl it)) m.core.tickets due)
  piece-due number (Err e) due (inl h) =
      let mild : is_write_fault e ≡ false = mild-answered (ended m ++ copying_refused number (sight 0 m.core)) e (mild-copy m number (sight 0 m.core)) h.0 in
      stays-due (by (CopyPiece number (Err e))) events m next due h.1 (λ t. and-second (number == t.number) (number_of e == 25) mild)
  piece-due number (Err e) due (inr (none, inl (t, is, why, cant, stays))) =
      stays-due (by (CopyPiece number (Err e))) events m next due stays (λ x. and-second (number == x.number) (number_of e == 25) (ap (λ (y : Refusal). number_of y == 25) why))
  piece-due number (Err e) due (inr (none, inr (t, file, is, has, why, rose, becomes))) =
      dropped-due (by (CopyPiece number (Err e))) events m next due number becomes (λ x other. and-first (number == x.number) (number_of e == 25) other)

  seal-due : (number : ℕ) (answer : Result (Unit {0}) Refusal) → AreDue (by (Seal number answer) ∷ events) m.core.tickets → Seals 0 number m next answer → AreDue events next.core.tickets
  seal-due number (Ok done) due h =
      subst (λ (c : Core). AreDue events c.tickets) (sym h.1.core)
      (all-map (IsDue (by (Seal number (Ok done)) ∷ events)) (IsDue events) _ (λ x it. due-sealed events number x (still-due (by (Seal number (Ok done))) events x refl it)) m.core.tickets due)
  seal-due number (Err e) due (inl h) =
      let mild : is_write_fault e ≡ false = mild-answered (ended m ++ seal_refused number (sight 0 m.core)) e (mild-seal m number (sight 0 m.core)) h.0 in
      stays-due (by (Seal number (Err e))) events m next due h.1 (λ t. and-second (number == t.number) (number_of e == 25) mild)
  seal-due number (Err e) due (inr (none, (t, file, is, has, why, rose, becomes))) =
      dropped-due (by (Seal number (Err e))) events m next due number becomes (λ x other. and-first (number == x.number) (number_of e == 25) other)

  commit-due : (asked : Asked) (tickets : List ℕ) (answer : Result ℕ Refusal) → AreDue (by (Commit asked tickets answer) ∷ events) m.core.tickets → Commits 0 asked tickets m next answer → AreDue events next.core.tickets
  commit-due asked tickets (Ok last) due (none, (c, is, numbered, joins)) =
      subst (λ (k : Core). AreDue events k.tickets) (sym joins.0)
      (all-without (IsDue (by (Commit asked tickets (Ok last)) ∷ events)) (IsDue events) tickets
      (λ t it among. still-due (by (Commit asked tickets (Ok last))) events t (not-among tickets t it.0 among) it) m.core.tickets due)
  commit-due asked tickets (Err e) due (inl h) = stays-due (by (Commit asked tickets (Err e))) events m next due h.1 (λ t. refl)
  commit-due asked tickets (Err e) due (inr (none, (c, file, count, is, why, fault, joins))) =
      subst (λ (k : Core). AreDue events k.tickets) (sym joins.0)
      (all-without (IsDue (by (Commit asked tickets (Err e)) ∷ events)) (IsDue events) tickets (λ t it among. still-due (by (Commit asked tickets (Err e))) events t refl it) m.core.tickets due)

  -- a ticket that wasn't there to be dropped
  missing-due : (number : ℕ) (e : Refusal) → AreDue (by (DropTicket number (Err e)) ∷ events) m.core.tickets → Stays m next → (foremost (ended m ++ drop_refused number (sight 0 m.core)) ≡ Some e) ⊎ (e ≡ refused.Memory)
      → (found : Option Ticket) → ticket number (own_tickets 0 m.core.tickets) ≡ found → AreDue events next.core.tickets
  missing-due number e due stays held None is =
      subst (λ (c : Core). AreDue events c.tickets) (sym stays.core)
      (both-all (IsDue (by (DropTicket number (Err e)) ∷ events)) (λ t. t.actor ≡ 0 → (number == t.number) ≡ false) (IsDue events)
      (λ t it other. still-due (by (DropTicket number (Err e))) events t (and-first (number == t.number) (number_of e == 10) (other it.0)) it) m.core.tickets due
      (other-number number m.core.tickets (ap (λ (o : Option Ticket). is_some o) is)))
  missing-due number e due stays held (Some t) is =
      let none : drop_refused number (sight 0 m.core) ≡ [] = ap (λ (o : Option Ticket). of_there o) is in
      let there : (number_of e == 10) ≡ false = not-there m e (subst (λ (l : List Refusal). (foremost (ended m ++ l) ≡ Some e) ⊎ (e ≡ refused.Memory)) none held) in
      stays-due (by (DropTicket number (Err e))) events m next due stays (λ x. and-second (number == x.number) (number_of e == 10) there)
    where
      of_there : Option Ticket → List Refusal
      of_there None = refused.NotFound ∷ []
      of_there (Some x) = []

  drop-due : (number : ℕ) (answer : Result (Unit {0}) Refusal) → AreDue (by (DropTicket number answer) ∷ events) m.core.tickets → Drops 0 number m next answer → AreDue events next.core.tickets
  drop-due number (Ok done) due h = dropped-due (by (DropTicket number (Ok done))) events m next due number h.1 (λ t other. other)
  drop-due number (Err e) due (inl h) = missing-due number e due h.1 h.0 (ticket number (own_tickets 0 m.core.tickets)) refl
  drop-due number (Err e) due (inr h) = absurd h.1

  force-due : (answer : Result ℕ Refusal) → AreDue (by (Force answer) ∷ events) m.core.tickets → Forces 0 m next answer → AreDue events next.core.tickets
  force-due answer due h = same-due (by (Force answer)) events m next due (force-free m next answer h) (λ t. refl)

  new-due : (pool size prefer : ℕ) (answer : Result ℕ Refusal) → AreDue (by (OpenNew pool size prefer answer) ∷ events) m.core.tickets → IsSettled (OpenNew pool size prefer answer) events
      → OpensNew places 0 pool size prefer m next answer → AreDue events next.core.tickets
  new-due pool size prefer (Ok number) due settled (placed, at, (none, (place, is, numbered, becomes))) =
      let t : Ticket = record { number = m.core.next_ticket; actor = 0; purpose = storing m.core.next_object; size = size; place = place; bytes = []; is_sealed = false } in
      subst (λ (c : Core). AreDue events c.tickets) (sym becomes.core)
      (all-push (IsDue events) m.core.tickets t
      (all-same (IsDue (by (OpenNew pool size prefer (Ok number)) ∷ events)) (IsDue events) (λ x it. still-due (by (OpenNew pool size prefer (Ok number))) events x refl it) m.core.tickets due)
      (refl, subst (λ (k : ℕ). is_spent k events ≡ true) numbered settled))
  new-due pool size prefer (Err e) due settled (placed, at, inl h) = stays-due (by (OpenNew pool size prefer (Err e))) events m next due h.1 (λ t. refl)
  new-due pool size prefer (Err e) due settled (placed, at, inr h) = absurd h.1

  write-due : (number : ℕ) (bytes : List ℕ) (answer : Result ℕ Refusal) → AreDue (by (WritePiece number bytes answer) ∷ events) m.core.tickets → WritesPiece 0 number bytes m next answer → AreDue events next.core.tickets
  write-due number bytes (Ok count) due (none, (t, is, counted, becomes)) =
      subst (λ (c : Core). AreDue events c.tickets) (sym becomes.core)
      (all-map (IsDue (by (WritePiece number bytes (Ok count)) ∷ events)) (IsDue events) _ (λ x it. due-took events number bytes x (still-due (by (WritePiece number bytes (Ok count))) events x refl it)) m.core.tickets due)
  write-due number bytes (Err e) due (inl h) =
      let mild : is_write_fault e ≡ false = mild-answered (ended m ++ write_refused number (length bytes) (sight 0 m.core)) e (mild-write m number (length bytes) (sight 0 m.core)) h.0 in
      stays-due (by (WritePiece number bytes (Err e))) events m next due h.1 (λ t. and-second (number == t.number) (number_of e == 25) mild)
  write-due number bytes (Err e) due (inr (none, (t, file, is, has, why, rose, becomes))) =
      dropped-due (by (WritePiece number bytes (Err e))) events m next due number becomes (λ x other. and-first (number == x.number) (number_of e == 25) other)

  deed-due : (d : Deed) → HasTickets d → AreDue (by d ∷ events) m.core.tickets → IsSettled d events → Case places 0 d m next → AreDue events next.core.tickets
  deed-due (Ask query answer) so due settled h = ask-due query answer due h
  deed-due (Force answer) so due settled h = force-due answer due h
  deed-due (OpenNew pool size prefer answer) so due settled h = new-due pool size prefer answer due settled h
  deed-due (OpenCopy object a avoid answer) so due settled h = open-due object a avoid answer due settled h
  deed-due (WritePiece number bytes answer) so due settled h = write-due number bytes answer due h
  deed-due (CopyPiece number answer) so due settled h = piece-due number answer due h
  deed-due (Seal number answer) so due settled h = seal-due number answer due h
  deed-due (DropTicket number answer) so due settled h = drop-due number answer due h
  deed-due (Commit asked tickets answer) so due settled h = commit-due asked tickets answer due h
  deed-due d so due settled h = absurd so

-- ---- all steps

no-tickets : (tickets : List Ticket) → AreDue [] tickets → tickets ≡ []
no-tickets [] h = refl
no-tickets (t ∷ tickets) h = absurd (false≢true h.0.1)

module _ (trusted : Type 0) (places : Places) (Is : Deed → Type 0) (has : (d : Deed) → Is d → HasTickets d) where
  due-walk : (events : List Event) (m new : Machine) → AllByRecursion (λ e. Is e.deed) events → AreSettled events → AreDue events m.core.tickets → Alone trusted places 0 events m new → new.core.tickets ≡ []
  due-walk [] m new all settled due same = no-tickets new.core.tickets (subst (λ (x : Machine). AreDue [] x.core.tickets) (sym same) due)
  due-walk (e ∷ events) m new all settled due (next, moved, rest) =
      let s = ticket-step trusted places e m next (has e.deed all.0) moved in
      due-walk events next new all.1 settled.1 (deed-due places e.n events m next e.deed (has e.deed all.0) due settled.0 s.1) rest

  -- where each was spent none is left
  pub spent-free : (events : List Event) (m new : Machine) → m.core.tickets ≡ [] → AllByRecursion (λ e. Is e.deed) events → AreSettled events → Alone trusted places 0 events m new → new.core.tickets ≡ []
  spent-free events m new none all settled f = due-walk events m new all settled (subst (λ (ts : List Ticket). AreDue events ts) (sym none) tt) f
