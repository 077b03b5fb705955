-- Steps of the actor who has the machine alone, while it stores a file: what each leaves.
use Rattle.std.proofs.Common.{◌≡◌, ◌⊎◌, inl, inr, ℕ, ◌+◌, ◌==◌, ◌&&◌, not, nat_le, Bool, true, false, List, [], ◌∷◌, ◌++◌, length, Option, None, Some, Ok, Err, refl, sym, ap, subst, ◌∙◌}
use Rattle.std.proofs.lemmas.Bool.{eq-eqb}
use Rattle.std.specs.List.{AllByRecursion}
use Rattle.kinds.specs.Refusals.{bad_value, foremost, unless}
use Rattle.kinds.specs.declared.refusal.Refusal.{Refusal}
use Rattle.kinds.specs.declared.refusal.Refusal.TheVariants as refused
use Rattle.command_steps.specs.client_files.Sending.{stopping, unwritten}
use Rattle.machine.specs.Causes.{drop_refused, most_bytes, of_ticket, seal_refused, ticket_in_use, write_refused}
use Rattle.machine.specs.Machine.{Becomes, DropsTicket, Drops, Later, Seals, Stays, WritesPiece, dropping, ended, has_file, opened_new, with_tickets}
use Rattle.machine.specs.State.{Core, Machine, Place, Sight, Ticket, is_storing, sealing, sight, storing, taking, ticket, without}
use Rattle.machine.proofs.Elsewhere.{append-all, foremost-all, unless-all}
use Rattle.line_results.specs.Resting.{Onward, RoseFrom}
use Rattle.line_results.proofs.Runs.{Became, Stops, as_is, became-as, full-or, is-as, late-on, onward-later, onward-then, rose-from}

-- ---- what the machine became

pub as-onward : (c : Core) (old m : Machine) → Became c old m → Onward old (as_is c old m)
as-onward c old m b = record { counts = b.onward.counts; since = b.onward.since }

pub became-next : (c d : Core) (old mid new : Machine) → Became c old mid → Later (as_is c old mid) new → Becomes d (as_is c old mid) new → Became d old new
became-next c d old mid new b later next =
    record { core = next.core; contents = next.contents; onward = onward-then old (as_is c old mid) new (as-onward c old mid b) (onward-later (as_is c old mid) new later) }

pub became-kept : (c : Core) (old mid new : Machine) → Became c old mid → Later (as_is c old mid) new → Stays (as_is c old mid) new → Became c old new
became-kept c old mid new b later stays =
    record { core = stays.core; contents = stays.contents; onward = onward-then old (as_is c old mid) new (as-onward c old mid b) (onward-later (as_is c old mid) new later) }

-- ---- the file's ticket

-- it is for the next object, and has these bytes so far
abbrev pub ticket_with : (size : ℕ) → Place → (bytes : List ℕ) → (is : Bool) → Core → Ticket
ticket_with size place bytes is c = record { number = c.next_ticket; actor = 0; purpose = storing c.next_object; size = size; place = place; bytes = bytes; is_sealed = is }

-- the machine that has it, and the one that has it no more
abbrev pub holding : (size : ℕ) → Place → (bytes : List ℕ) → (is : Bool) → Core → Core
holding size place bytes is c = with_tickets (ticket_with size place bytes is c ∷ []) (opened_new 0 size place c)

abbrev pub idle : (size : ℕ) → Place → Core → Core
idle size place c = with_tickets [] (opened_new 0 size place c)

found-one : (number : ℕ) (t : Ticket) → number ≡ t.number → ticket number (t ∷ []) ≡ Some t
found-one number t is = rw (eq-eqb t.number number (sym is)) refl

-- it is the one that is there
pub is-ticket : (number size : ℕ) (place : Place) (bytes : List ℕ) (is : Bool) (c : Core) → number ≡ c.next_ticket
    → ticket number (sight 0 (holding size place bytes is c)).tickets ≡ Some (ticket_with size place bytes is c)
is-ticket number size place bytes is c h = found-one number (ticket_with size place bytes is c) h

-- without it there is none
pub gone-one : (number size : ℕ) (place : Place) (bytes : List ℕ) (is : Bool) (c : Core) → number ≡ c.next_ticket → dropping 0 number (holding size place bytes is c) ≡ idle size place c
gone-one number size place bytes is c h =
    let none : without 0 (number ∷ []) (ticket_with size place bytes is c ∷ []) ≡ [] = rw (eq-eqb number c.next_ticket h) refl in
    ap (λ (ts : List Ticket). with_tickets ts (opened_new 0 size place c)) none

took-one : (number size : ℕ) (place : Place) (bytes more : List ℕ) (c : Core) → number ≡ c.next_ticket
    → with_tickets (taking 0 number more (ticket_with size place bytes false c ∷ [])) (holding size place bytes false c) ≡ holding size place (bytes ++ more) false c
took-one number size place bytes more c h =
    let one : taking 0 number more (ticket_with size place bytes false c ∷ []) ≡ ticket_with size place (bytes ++ more) false c ∷ [] = rw (eq-eqb c.next_ticket number (sym h)) refl in
    ap (λ (ts : List Ticket). with_tickets ts (opened_new 0 size place c)) one

sealed-one : (number size : ℕ) (place : Place) (bytes : List ℕ) (c : Core) → number ≡ c.next_ticket
    → with_tickets (sealing 0 number (ticket_with size place bytes false c ∷ [])) (holding size place bytes false c) ≡ holding size place bytes true c
sealed-one number size place bytes c h =
    let one : sealing 0 number (ticket_with size place bytes false c ∷ []) ≡ ticket_with size place bytes true c ∷ [] = rw (eq-eqb c.next_ticket number (sym h)) refl in
    ap (λ (ts : List Ticket). with_tickets ts (opened_new 0 size place c)) one

-- ---- what refuses a piece, a seal and a drop

abbrev IsUnwritten : Refusal → Type 0
IsUnwritten e = unwritten e ≡ refused.Memory

unwritten-ticket : (rule : Ticket → List Refusal) → ((t : Ticket) → AllByRecursion IsUnwritten (rule t)) → (found : Option Ticket) → AllByRecursion IsUnwritten (of_ticket rule found)
unwritten-ticket rule h None = (refl, tt)
unwritten-ticket rule h (Some t) = h t

piece-unwritten : (number count : ℕ) (s : Sight) → AllByRecursion (λ e. unwritten e ≡ refused.Memory) (write_refused number count s)
piece-unwritten number count s =
    append-all IsUnwritten (unless (nat_le 1 count && nat_le count most_bytes) bad_value) _ (unless-all IsUnwritten (nat_le 1 count && nat_le count most_bytes) bad_value refl)
    (unwritten-ticket _ (λ t. append-all IsUnwritten (unless (is_storing t.purpose && not t.is_sealed) (ticket_in_use number)) _
    (unless-all IsUnwritten (is_storing t.purpose && not t.is_sealed) (ticket_in_use number) refl)
    (unless-all IsUnwritten (nat_le (length t.bytes + count) t.size) (refused.Changed t.size (length t.bytes + count)) refl)) (ticket number s.tickets))

seal-unwritten : (number : ℕ) (s : Sight) → AllByRecursion (λ e. unwritten e ≡ refused.Memory) (seal_refused number s)
seal-unwritten number s =
    unwritten-ticket _ (λ t. unless-all IsUnwritten (length t.bytes == t.size) (refused.Changed t.size (length t.bytes)) refl) (ticket number s.tickets)

drop-stopping : (found : Option Ticket) → AllByRecursion (λ e. stopping e ≡ refused.Memory) (of_ticket (λ t. []) found)
drop-stopping None = (refl, tt)
drop-stopping (Some t) = tt

-- ---- a step with the ticket

-- The step was refused: the run is full or memory was wanted, and the ticket is still there; or one of its volumes couldn't be written, and it is gone.
abbrev pub Fails : (size : ℕ) → Place → (bytes : List ℕ) → Refusal → (old new : Machine) → Type 0
Fails size place bytes e old new =
    (Stops new e × Became (holding size place bytes false old.core) old new)
    ⊎ ((file : ℕ) × (e ≡ refused.WriteFault file) × (has_file file (ticket_with size place bytes false old.core) ≡ true) × RoseFrom old new file × Became (idle size place old.core) old new)

held-full : (c : Core) (old mid new : Machine) (own : List Refusal) (e : Refusal) → c.fault ≡ None → Became c old mid → Later (as_is c old mid) new → AllByRecursion (λ x. unwritten x ≡ refused.Memory) own
    → (foremost (ended (as_is c old mid) ++ own) ≡ Some e) ⊎ (e ≡ refused.Memory) → Stops new (unwritten e)
held-full c old mid new own e none b later all (inl h) =
    elim (full-or (as_is c old mid) own e none h) as (λ _. Stops new (unwritten e)) [
      | inl s ↦ inl (ap unwritten s.0, late-on (as_is c old mid) new (onward-later (as_is c old mid) new later) s.1)
      | inr s ↦ inr (foremost-all (λ x. unwritten x ≡ refused.Memory) own all e s)
    ]
held-full c old mid new own e none b later all (inr h) = inr (ap unwritten h)

dropped : (number size : ℕ) (place : Place) (bytes : List ℕ) (old mid new : Machine) (e : Refusal) → number ≡ old.core.next_ticket → Became (holding size place bytes false old.core) old mid
    → Later (as_is (holding size place bytes false old.core) old mid) new
    → DropsTicket 0 number (as_is (holding size place bytes false old.core) old mid) e new → Fails size place bytes (unwritten e) old new
dropped number size place bytes old mid new e is b later d =
    let c : Core = holding size place bytes false old.core in
    let t : Ticket = ticket_with size place bytes false old.core in
    let some : Some t ≡ Some d.0 = sym (is-ticket number size place bytes false old.core is) ∙ d.2 in
    let same : t ≡ d.0 = cc in
    inr (
      d.1,
      ap unwritten d.4,
      subst (λ (x : Ticket). has_file d.1 x ≡ true) (sym same) d.3,
      rose-from old (as_is c old mid) new d.1 (as-onward c old mid b) d.5,
      became-as (dropping 0 number c) (idle size place old.core) old new (gone-one number size place bytes false old.core is) (became-next c (dropping 0 number c) old mid new b later d.6),
    )

pub wrote-piece : (number size : ℕ) (place : Place) (bytes more : List ℕ) (count : ℕ) (old mid new : Machine) → number ≡ old.core.next_ticket → Became (holding size place bytes false old.core) old mid
    → Later mid new → WritesPiece 0 number more mid new (Ok count) → Became (holding size place (bytes ++ more) false old.core) old new
wrote-piece number size place bytes more count old mid new is b later h =
    let c : Core = holding size place bytes false old.core in
    let at : Later (as_is c old mid) new × WritesPiece 0 number more (as_is c old mid) new (Ok count) =
    subst (λ (m : Machine). Later m new × WritesPiece 0 number more m new (Ok count)) (is-as c old mid b) (later, h) in
    became-as (with_tickets (taking 0 number more c.tickets) c) (holding size place (bytes ++ more) false old.core) old new (took-one number size place bytes more old.core is)
    (became-next c (with_tickets (taking 0 number more c.tickets) c) old mid new b at.0 at.1.1.3)

pub piece-refused : (number size : ℕ) (place : Place) (bytes more : List ℕ) (e : Refusal) (old mid new : Machine) → old.core.fault ≡ None → number ≡ old.core.next_ticket
    → Became (holding size place bytes false old.core) old mid → Later mid new → WritesPiece 0 number more mid new (Err e) → Fails size place bytes (unwritten e) old new
piece-refused number size place bytes more e old mid new none is b later h =
    let c : Core = holding size place bytes false old.core in
    let at : Later (as_is c old mid) new × WritesPiece 0 number more (as_is c old mid) new (Err e) =
    subst (λ (m : Machine). Later m new × WritesPiece 0 number more m new (Err e)) (is-as c old mid b) (later, h) in
    elim at.1 as (λ _. Fails size place bytes (unwritten e) old new) [
      | inl s ↦ inl (held-full c old mid new (write_refused number (length more) (sight 0 c)) e none b at.0 (piece-unwritten number (length more) (sight 0 c)) s.0, became-kept c old mid new b at.0 s.1)
      | inr s ↦ dropped number size place bytes old mid new e is b at.0 s.1
    ]

pub sealed-ticket : (number size : ℕ) (place : Place) (bytes : List ℕ) (old mid new : Machine) → number ≡ old.core.next_ticket → Became (holding size place bytes false old.core) old mid
    → Later mid new → Seals 0 number mid new (Ok tt) → Became (holding size place bytes true old.core) old new
sealed-ticket number size place bytes old mid new is b later h =
    let c : Core = holding size place bytes false old.core in
    let at : Later (as_is c old mid) new × Seals 0 number (as_is c old mid) new (Ok tt) = subst (λ (m : Machine). Later m new × Seals 0 number m new (Ok tt)) (is-as c old mid b) (later, h) in
    became-as (with_tickets (sealing 0 number c.tickets) c) (holding size place bytes true old.core) old new (sealed-one number size place bytes old.core is)
    (became-next c (with_tickets (sealing 0 number c.tickets) c) old mid new b at.0 at.1.1)

pub seal-refused : (number size : ℕ) (place : Place) (bytes : List ℕ) (e : Refusal) (old mid new : Machine) → old.core.fault ≡ None → number ≡ old.core.next_ticket
    → Became (holding size place bytes false old.core) old mid → Later mid new → Seals 0 number mid new (Err e) → Fails size place bytes (unwritten e) old new
seal-refused number size place bytes e old mid new none is b later h =
    let c : Core = holding size place bytes false old.core in
    let at : Later (as_is c old mid) new × Seals 0 number (as_is c old mid) new (Err e) = subst (λ (m : Machine). Later m new × Seals 0 number m new (Err e)) (is-as c old mid b) (later, h) in
    elim at.1 as (λ _. Fails size place bytes (unwritten e) old new) [
      | inl s ↦ inl (held-full c old mid new (seal_refused number (sight 0 c)) e none b at.0 (seal-unwritten number (sight 0 c)) s.0, became-kept c old mid new b at.0 s.1)
      | inr s ↦ dropped number size place bytes old mid new e is b at.0 s.1
    ]

-- The ticket was given back. Or that was refused, and it is still there.
pub gave-back : (number size : ℕ) (place : Place) (bytes : List ℕ) (is : Bool) (old mid new : Machine) → number ≡ old.core.next_ticket → Became (holding size place bytes is old.core) old mid
    → Later mid new → Drops 0 number mid new (Ok tt) → Became (idle size place old.core) old new
gave-back number size place bytes is old mid new same b later h =
    let c : Core = holding size place bytes is old.core in
    let at : Later (as_is c old mid) new × Drops 0 number (as_is c old mid) new (Ok tt) = subst (λ (m : Machine). Later m new × Drops 0 number m new (Ok tt)) (is-as c old mid b) (later, h) in
    became-as (dropping 0 number c) (idle size place old.core) old new (gone-one number size place bytes is old.core same) (became-next c (dropping 0 number c) old mid new b at.0 at.1.1)

drop-full : (c : Core) (old mid new : Machine) (number : ℕ) (e : Refusal) → c.fault ≡ None → Later (as_is c old mid) new
    → (foremost (ended (as_is c old mid) ++ drop_refused number (sight 0 c)) ≡ Some e) ⊎ (e ≡ refused.Memory) → Stops new (stopping e)
drop-full c old mid new number e none later (inl h) =
    elim (full-or (as_is c old mid) (drop_refused number (sight 0 c)) e none h) as (λ _. Stops new (stopping e)) [
      | inl s ↦ inl (ap stopping s.0, late-on (as_is c old mid) new (onward-later (as_is c old mid) new later) s.1)
      | inr s ↦ inr (foremost-all (λ x. stopping x ≡ refused.Memory) (drop_refused number (sight 0 c)) (drop-stopping (ticket number (sight 0 c).tickets)) e s)
    ]
drop-full c old mid new number e none later (inr h) = inr (ap stopping h)

pub not-given-back : (number size : ℕ) (place : Place) (bytes : List ℕ) (is : Bool) (e : Refusal) (old mid new : Machine) → old.core.fault ≡ None
    → Became (holding size place bytes is old.core) old mid → Later mid new → Drops 0 number mid new (Err e) → Stops new (stopping e) × Became (holding size place bytes is old.core) old new
not-given-back number size place bytes is e old mid new none b later h =
    let c : Core = holding size place bytes is old.core in
    let at : Later (as_is c old mid) new × Drops 0 number (as_is c old mid) new (Err e) = subst (λ (m : Machine). Later m new × Drops 0 number m new (Err e)) (is-as c old mid b) (later, h) in
    elim at.1 as (λ _. Stops new (stopping e) × Became (holding size place bytes is old.core) old new) [
      | inl s ↦ (drop-full c old mid new number e none at.0 s.0, became-kept c old mid new b at.0 s.1)
      | inr s ↦ absurd s.1
    ]
