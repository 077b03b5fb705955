-- Each step of a block leaves its tickets with what the block's turns tell of them.
use Rattle.std.proofs.Common.{◌≡◌, ◌⊎◌, ℕ, ◌+◌, ◌<◌, ◌==◌, ◌&&◌, Bool, true, false, not, inl, inr, List, [], ◌∷◌, ◌++◌, map, Option, Some, None, Result, Ok, Err, refl, sym, ap, subst, ◌∙◌, arith, if◌then◌else◌}
use Rattle.std.specs.Prelude.{IfOk, IfSome}
use Rattle.std.specs.List.{AllByRecursion, filter, find}
use Rattle.std.proofs.lemmas.Bool.{and_parts, eq-eqb, eqb-true, false≢true}
use Rattle.sha2.specs.Hashers.{Holds256}
use Rattle.sha2.specs.declared.Sha256.{Sha256}
use Rattle.store_api.specs.Disk.{History}
use Rattle.kinds.specs.declared.refusal.Refusal.{Refusal}
use Rattle.kinds.specs.declared.refusal.Refusal.TheVariants as refused
use Rattle.steps.specs.Events.{Deed, Event, event, is_listed, refusal}
use Rattle.steps.specs.Events.Deed.{OpenNew, OpenCopy, WritePiece, CopyPiece, Seal, Commit, DropTicket, ReadPiece, Ask, Image, Reuse, Force}
use Rattle.machine.specs.Alone.{behind, with_contents}
use Rattle.machine.specs.Fits.{TicketsAfter, TicketsDoubt, is_write_fault}
use Rattle.machine.specs.Machine.{Case, Made}
use Rattle.machine.specs.State.{Core, Machine, Purpose, Sight, Ticket, copying, inventory, is_storing, is_ticket, own_tickets, sealed, sealing, sight, storing, taking, ticket, took, without}
use Rattle.machine.specs.Turns.{Turn, events_of}
use Rattle.machine.proofs.Moves.{Moved, moves}
use Rattle.hall.specs.declared.seat.Seat.{Seat}
use Rattle.hall.specs.Good.{Is}
use Rattle.hall.specs.Held.{Hall, Held, IsHashed, IsSeatOf, purpose_of}
use Rattle.hall.specs.Placed.{hall_places}
use Rattle.hall.specs.Seats.{own_seat}
use Rattle.hall.specs.Steps.{Steps}
use Rattle.hall.specs.Taken.{IsAhead}
use Rattle.hall.proofs.Spots.{goes_where_aimed}
use Rattle.hall.proofs.TicketSteps.{ticket_is}
use Rattle.crew.specs.Knowing.{turn}
use Rattle.crew.specs.Passes.{Diary, Did}
use Rattle.crew.specs.Wrote.{HasBytes, HaveTaken, HoldsAhead, HoldsTaken, IsAsTold, taken, taken_behind, taken_from, then_bytes}
use Rattle.crew.proofs.Keeping.{events_else, events_here}
use Rattle.crew.proofs.Seating.{all_more}

-- ---- what events tell

from_more : (number : ℕ) (before : Option (List ℕ)) (events : List Event) (e : Event) → taken_from number before (events ++ e ∷ []) ≡ taken_behind number (taken_from number before events) e.deed
from_more number before [] e = refl
from_more number before (x ∷ events) e = from_more number (taken_behind number before x.deed) events e

pub taken_more : (number : ℕ) (events : List Event) (e : Event) → taken number (events ++ e ∷ []) ≡ taken_behind number (taken number events) e.deed
taken_more number events e = from_more number None events e

if_same : {A : Type 0} (number : ℕ) (x y : A) → (if number == number then x else y) ≡ x
if_same number x y = ap (λ b. if b then x else y) (eq-eqb number number refl)

-- a ticket that was opened took nothing
pub opened_holds : (number pool size prefer n : ℕ) (before after : List Event) (hasher : Sha256) → after ≡ before ++ event n (OpenNew pool size prefer (Ok number)) ∷ [] → Holds256 hasher [] → HoldsTaken number after hasher
opened_holds number pool size prefer n before after hasher is holds =
    ([], ap (taken number) is ∙ taken_more number before (event n (OpenNew pool size prefer (Ok number))) ∙ if_same number (Some []) (taken number before), holds)

-- a piece that was written is behind what the ticket took
pub written_holds : (number count n : ℕ) (piece : List ℕ) (before after : List Event) (hasher : Sha256) → after ≡ before ++ event n (WritePiece number piece (Ok count)) ∷ [] → HoldsAhead number before piece hasher
    → HoldsTaken number after hasher
written_holds number count n piece before after hasher is ahead = (
  ahead.0 ++ piece,
  ap (taken number) is ∙ taken_more number before (event n (WritePiece number piece (Ok count))) ∙ if_same number (then_bytes piece (taken number before)) (taken number before) ∙ ap (then_bytes piece) ahead.1,
  ahead.2,
)

-- a step that wrote it is told
pub wrote_holds : (number : ℕ) (piece : List ℕ) (hasher : Sha256) (old mid after last : Diary) (answer : Result ℕ Refusal) → mid ≡ old → ((n : ℕ) × (after ≡ (mid.0, mid.1 ++ event n (WritePiece number piece answer) ∷ []))) → last ≡ after
    → HoldsAhead number old.1 piece hasher → IfOk answer (λ count. HoldsTaken number last.1 hasher)
wrote_holds number piece hasher old mid after last (Ok count) same told noted ahead =
    written_holds number count told.0 piece old.1 last.1 hasher
    (ap (λ (d : Diary). d.1) noted ∙ ap (λ (d : Diary). d.1) told.1 ∙ ap (λ (d : Diary). d.1 ++ event told.0 (WritePiece number piece (Ok count)) ∷ []) same) ahead
wrote_holds number piece hasher old mid after last (Err e) same told noted ahead = tt

-- and one that opened it
pub open_holds : (number pool size prefer count count_after : ℕ) (hasher : Sha256) (old new : Diary)
    → ((n : ℕ) × Did old count (event n (OpenNew pool size prefer (Ok number)) ∷ []) new count_after × (is_listed (OpenNew pool size prefer (Ok number)) ≡ true))
    ⊎ ((refusal (OpenNew pool size prefer (Ok number)) ≡ Some refused.Memory) × Did old count [] new count_after)
    → Holds256 hasher [] → HoldsTaken number new.1 hasher
open_holds number pool size prefer count count_after hasher old new (inl made) holds = opened_holds number pool size prefer made.0 old.1 new.1 hasher made.1.1 holds
open_holds number pool size prefer count count_after hasher old new (inr not) holds = let never : None ≡ Some refused.Memory = not.0 in absurd cc

-- ---- lists

module _ {A : Type 0} (P : A → Type 0) where
  kept : (b : Bool) (x : A) (xs : List A) → P x → AllByRecursion P xs → AllByRecursion P (if b then x ∷ xs else xs)
  kept true x xs one all = (one, all)
  kept false x xs one all = all

  all_filter : (q : A → Bool) (xs : List A) → AllByRecursion P xs → AllByRecursion P (filter q xs)
  all_filter q [] all = tt
  all_filter q (x ∷ xs) all = kept (q x) x (filter q xs) all.0 (all_filter q xs all.1)

  here : (b : Bool) (y x : A) (o : Option A) → P y → (o ≡ Some x → P x) → (if b then Some y else o) ≡ Some x → P x
  here true y x o one rest is = subst P (let s : y ≡ x = cc in s) one
  here false y x o one rest is = rest is

  all_found : (q : A → Bool) (xs : List A) (x : A) → AllByRecursion P xs → find q xs ≡ Some x → P x
  all_found q [] x all is = absurd cc
  all_found q (y ∷ xs) x all is = here (q y) y x (find q xs) all.0 (all_found q xs x all.1) is

all_map : {A : Type 0} (P Q : A → Type 0) (f : A → A) (xs : List A) → ((x : A) → P x → Q (f x)) → AllByRecursion P xs → AllByRecursion Q (map f xs)
all_map P Q f [] each all = tt
all_map P Q f (x ∷ xs) each all = (each x all.0, all_map P Q f xs each all.1)

-- ---- tickets

module _ (actor number : ℕ) where
  abbrev Have : List ℕ → List Ticket → Type 0
  Have bytes tickets = AllByRecursion (HasBytes actor number bytes) tickets

  -- the ticket of the actor's with the number
  is_mine : (t : Ticket) → t.actor ≡ actor → t.number ≡ number → is_ticket actor number t ≡ true
  is_mine t mine same = ap (λ b. b && (t.number == number)) (eq-eqb t.actor actor mine) ∙ eq-eqb t.number number same

  -- it takes a piece
  took_one : (bytes piece : List ℕ) (t : Ticket) → HasBytes actor number bytes t → HasBytes actor number (bytes ++ piece) (if is_ticket actor number t then took piece t else t)
  took_one bytes piece t has = go (is_ticket actor number t) refl
    where
      go : (b : Bool) → is_ticket actor number t ≡ b → HasBytes actor number (bytes ++ piece) (if b then took piece t else t)
      go true e = λ mine same new unsealed. ap (λ (l : List ℕ). l ++ piece) (has mine same new unsealed)
      go false e = λ mine same new unsealed. absurd (false≢true (sym e ∙ is_mine t mine same))

  took_more : (bytes piece : List ℕ) (tickets : List Ticket) → Have bytes tickets → Have (bytes ++ piece) (taking actor number piece tickets)
  took_more bytes piece tickets have = all_map (HasBytes actor number bytes) (HasBytes actor number (bytes ++ piece)) (λ t. if is_ticket actor number t then took piece t else t) tickets (λ t. took_one bytes piece t) have

  -- another one does
  other_one : (other : ℕ) → (other ≡ number → ⊥) → (bytes piece : List ℕ) (t : Ticket) → HasBytes actor number bytes t → HasBytes actor number bytes (if is_ticket actor other t then took piece t else t)
  other_one other apart bytes piece t has = go (is_ticket actor other t) refl
    where
      go : (b : Bool) → is_ticket actor other t ≡ b → HasBytes actor number bytes (if b then took piece t else t)
      go true e = λ mine same new unsealed. absurd (apart (sym (eqb-true t.number other (and_parts (t.actor == actor) (t.number == other) e).1) ∙ same))
      go false e = has

  other_takes : (other : ℕ) → (other ≡ number → ⊥) → (bytes piece : List ℕ) (tickets : List Ticket) → Have bytes tickets → Have bytes (taking actor other piece tickets)
  other_takes other apart bytes piece tickets have =
      all_map (HasBytes actor number bytes) (HasBytes actor number bytes) (λ t. if is_ticket actor other t then took piece t else t) tickets (λ t. other_one other apart bytes piece t) have

  -- one is sealed
  sealed_one : (other : ℕ) (bytes : List ℕ) (t : Ticket) → HasBytes actor number bytes t → HasBytes actor number bytes (if is_ticket actor other t then sealed t else t)
  sealed_one other bytes t has = go (is_ticket actor other t)
    where
      go : (b : Bool) → HasBytes actor number bytes (if b then sealed t else t)
      go true = λ mine same new unsealed. absurd (false≢true (sym unsealed))
      go false = has

  sealed_all : (other : ℕ) (bytes : List ℕ) (tickets : List Ticket) → Have bytes tickets → Have bytes (sealing actor other tickets)
  sealed_all other bytes tickets have = all_map (HasBytes actor number bytes) (HasBytes actor number bytes) (λ t. if is_ticket actor other t then sealed t else t) tickets (λ t. sealed_one other bytes t) have

  -- ---- one step of the actor

  -- what is known before a step
  abbrev Knew : Option (List ℕ) → List Ticket → Type 0
  Knew before tickets = (bytes : List ℕ) → before ≡ Some bytes → Have bytes tickets

  module _ (before : Option (List ℕ)) (s : Sight) (knew : Knew before s.tickets) where
    same_left : (new : List Ticket) → new ≡ s.tickets → Knew before new
    same_left new is bytes e = subst (Have bytes) (sym is) (knew bytes e)

    some_gone : (numbers : List ℕ) (new : List Ticket) → new ≡ without actor numbers s.tickets → Knew before new
    some_gone numbers new is bytes e = subst (Have bytes) (sym is) (all_filter (HasBytes actor number bytes) _ s.tickets (knew bytes e))

    refused_left : (other : ℕ) (b : Bool) (new : List Ticket) → new ≡ (if b then without actor (other ∷ []) s.tickets else s.tickets) → Knew before new
    refused_left other true new is = some_gone (other ∷ []) new is
    refused_left other false new is = same_left new is

    doubt_left : (numbers : List ℕ) (e : Refusal) (new : List Ticket) → TicketsDoubt actor numbers e s.tickets new → Knew before new
    doubt_left numbers e new is = elim is as (λ _. Knew before new) [
      | inl same ↦ same_left new same
      | inr gone ↦ some_gone numbers new gone.1
    ]

    opened_left : (other size : ℕ) (t : Ticket) (new : List Ticket) → AllByRecursion (λ t. t.number < other) s.tickets → t.number ≡ other → t.bytes ≡ [] → new ≡ s.tickets ++ t ∷ []
        → Knew (if other == number then Some [] else before) new
    opened_left other size t new below is none are bytes = go (other == number) refl
      where
        fresh : (tickets : List Ticket) → other ≡ number → AllByRecursion (λ t. t.number < other) tickets → Have bytes tickets
        fresh [] same below = tt
        fresh (x ∷ tickets) same below = ((λ mine it new unsealed. absurd (let less : x.number < other = below.0 in omega (arith, less, it, same))), fresh tickets same below.1)

        go : (b : Bool) → (other == number) ≡ b → (if b then Some [] else before) ≡ Some bytes → Have bytes new
        go true e h =
            subst (Have bytes) (sym are) (all_more (HasBytes actor number bytes) s.tickets t (fresh s.tickets (eqb-true other number e) below) (λ mine same new unsealed. none ∙ (let n : [] ≡ bytes = cc in n)))
        go false e h =
            subst (Have bytes) (sym are) (all_more (HasBytes actor number bytes) s.tickets t (knew bytes h) (λ mine same new unsealed. absurd (false≢true (sym e ∙ eq-eqb other number (sym is ∙ same)))))

    copy_left : (t : Ticket) (new : List Ticket) → is_storing t.purpose ≡ false → new ≡ s.tickets ++ t ∷ [] → Knew before new
    copy_left t new copy are bytes e = subst (Have bytes) (sym are) (all_more (HasBytes actor number bytes) s.tickets t (knew bytes e) (λ mine same storing unsealed. absurd (false≢true (sym copy ∙ storing))))

    written_left : (other : ℕ) (piece : List ℕ) (new : List Ticket) → new ≡ taking actor other piece s.tickets → Knew (if other == number then then_bytes piece before else before) new
    written_left other piece new are bytes = go (other == number) refl
      where
        more : (o : Option (List ℕ)) → before ≡ o → then_bytes piece o ≡ Some bytes → Have bytes (taking actor number piece s.tickets)
        more None is h = absurd cc
        more (Some taken) is h = subst (λ l. Have l (taking actor number piece s.tickets)) (let n : taken ++ piece ≡ bytes = cc in n) (took_more taken piece s.tickets (knew taken is))

        go : (b : Bool) → (other == number) ≡ b → (if b then then_bytes piece before else before) ≡ Some bytes → Have bytes new
        go true e h = subst (Have bytes) (sym (are ∙ ap (λ n. taking actor n piece s.tickets) (eqb-true other number e))) (more before refl h)
        go false e h = subst (Have bytes) (sym are) (other_takes other (λ same. false≢true (sym e ∙ eq-eqb other number same)) bytes piece s.tickets (knew bytes h))

    copied_left : (other : ℕ) (piece : List ℕ) (new : List Ticket) → new ≡ taking actor other piece s.tickets → Knew (if other == number then None else before) new
    copied_left other piece new are bytes = go (other == number) refl
      where
        go : (b : Bool) → (other == number) ≡ b → (if b then None else before) ≡ Some bytes → Have bytes new
        go true e h = absurd cc
        go false e h = subst (Have bytes) (sym are) (other_takes other (λ same. false≢true (sym e ∙ eq-eqb other number same)) bytes piece s.tickets (knew bytes h))

    -- whatever the step was
    left : (contents : ℕ → List ℕ) (deed : Deed) (new : List Ticket) → TicketsAfter actor contents s deed new
        → ((pool size prefer other : ℕ) → deed ≡ OpenNew pool size prefer (Ok other) → AllByRecursion (λ t. t.number < other) s.tickets) → Knew (taken_behind number before deed) new
    left contents (OpenNew pool size prefer (Ok other)) new h fresh = opened_left other size _ new (fresh pool size prefer other refl) refl refl h.3
    left contents (OpenNew pool size prefer (Err e)) new h fresh = same_left new h
    left contents (OpenCopy object aim avoid (Ok other)) new h fresh = copy_left _ new (ap is_storing h.2.0) h.3
    left contents (OpenCopy object aim avoid (Err e)) new h fresh = same_left new h
    left contents (WritePiece other piece (Ok count)) new h fresh = written_left other piece new h
    left contents (WritePiece other piece (Err e)) new h fresh = refused_left other (is_write_fault e) new h
    left contents (CopyPiece other (Ok count)) new h fresh = copied_left other _ new h.2
    left contents (CopyPiece other (Err e)) new h fresh = refused_left other (is_write_fault e) new h
    left contents (Seal other (Ok done)) new h fresh = λ bytes e. subst (Have bytes) (sym h) (sealed_all other bytes s.tickets (knew bytes e))
    left contents (Seal other (Err e)) new h fresh = refused_left other (is_write_fault e) new h
    left contents (Commit asked numbers (Ok count)) new h fresh = some_gone numbers new h
    left contents (Commit asked numbers (Err e)) new h fresh = doubt_left numbers e new h
    left contents (DropTicket other (Ok done)) new h fresh = some_gone (other ∷ []) new h
    left contents (DropTicket other (Err e)) new h fresh = same_left new h
    left contents (ReadPiece object kept from offset wanted answer) new h fresh = same_left new h
    left contents (Ask query answer) new h fresh = same_left new h
    left contents (Image kind answer) new h fresh = same_left new h
    left contents (Reuse file answer) new h fresh = same_left new h
    left contents (Force answer) new h fresh = same_left new h

-- ---- a turn

-- what is left behind a read are other bytes of objects at most
behind_core : (deed : Deed) (contents : ℕ → List ℕ) (m : Machine) → (behind deed contents m).core ≡ m.core
behind_core (OpenNew pool size prefer answer) contents m = refl
behind_core (OpenCopy object aim avoid answer) contents m = refl
behind_core (WritePiece ticket bytes answer) contents m = refl
behind_core (CopyPiece ticket answer) contents m = refl
behind_core (Seal ticket answer) contents m = refl
behind_core (Commit asked tickets answer) contents m = refl
behind_core (DropTicket ticket answer) contents m = refl
behind_core (ReadPiece object kept from offset wanted answer) contents m = refl
behind_core (Ask query answer) contents m = refl
behind_core (Image kind answer) contents m = refl
behind_core (Reuse file answer) contents m = refl
behind_core (Force answer) contents m = refl

-- the number of a ticket that is opened is above those of all others
opened_above : (actor : ℕ) (deed : Deed) (old new : Machine) → Case hall_places actor deed old new → AllByRecursion (λ t. t.number < old.core.next_ticket) old.core.tickets → (pool size prefer other : ℕ)
    → deed ≡ OpenNew pool size prefer (Ok other) → AllByRecursion (λ t. t.number < other) (own_tickets actor old.core.tickets)
opened_above actor deed old new step below pool size prefer other is =
    let opens : Case hall_places actor (OpenNew pool size prefer (Ok other)) old new = subst (λ d. Case hall_places actor d old new) is step in
    subst (λ n. AllByRecursion (λ t. t.number < n) (own_tickets actor old.core.tickets)) (sym opens.2.1.2) (all_filter (λ t. t.number < old.core.next_ticket) _ old.core.tickets below)

module _ (turns : List Turn) (actor n : ℕ) (deed : Deed) (old new : Machine) (step : Case hall_places actor deed old new) (below : AllByRecursion (λ t. t.number < old.core.next_ticket) old.core.tickets)
    (have : HaveTaken turns old.core) where
  moved_so : Moved actor old.contents deed old.core new.core
  moved_so = moves hall_places goes_where_aimed actor deed old new step

  abbrev now : List Turn
  now = turns ++ turn actor (event n deed) ∷ []

  own_have : (number : ℕ) (bytes : List ℕ) → taken number (events_of actor now) ≡ Some bytes → AllByRecursion (HasBytes actor number bytes) (own_tickets actor new.core.tickets)
  own_have number bytes is =
      left actor number (taken number (events_of actor turns)) (sight actor old.core) (λ known e. have actor number known e) old.contents deed (own_tickets actor new.core.tickets) moved_so.tickets
      (opened_above actor deed old new step below) bytes
      (sym (taken_more number (events_of actor turns) (event n deed)) ∙ ap (taken number) (sym (events_here actor (event n deed) turns)) ∙ is)

  other_have : (other number : ℕ) (bytes : List ℕ) → (actor ≡ other → ⊥) → taken number (events_of other now) ≡ Some bytes → AllByRecursion (HasBytes other number bytes) (own_tickets other new.core.tickets)
  other_have other number bytes apart is =
      subst (AllByRecursion (HasBytes other number bytes)) (sym (moved_so.others other (λ same. apart (sym same))))
      (have other number bytes (ap (taken number) (sym (events_else other actor (event n deed) turns apart)) ∙ is))

  then_have : HaveTaken now new.core
  then_have other number bytes is = go (actor == other) refl
    where
      go : (b : Bool) → (actor == other) ≡ b → AllByRecursion (HasBytes other number bytes) (own_tickets other new.core.tickets)
      go true e =
          let same : actor ≡ other = eqb-true actor other e in
          subst (λ a. AllByRecursion (HasBytes a number bytes) (own_tickets a new.core.tickets)) same (own_have number bytes (subst (λ a. taken number (events_of a now) ≡ Some bytes) (sym same) is))
      go false e = other_have other number bytes (λ same. false≢true (sym e ∙ eq-eqb actor other same)) is

module _ {S : Type 0} (told : S → Option History) (moment : S → ℕ) (faults : S → ℕ → ℕ) where
  -- nothing is told
  pub none_told : (turns : List Turn) (hall : Hall S) → turns ≡ [] → ((m : Machine) × Is told moment faults hall m) → IsAsTold told moment faults turns hall
  none_told turns hall none is = (is.0, is.1, subst (λ (l : List Turn). HaveTaken l is.0.core) (sym none) (λ actor number bytes e. absurd cc))

  -- a step that is told
  pub still_told : (turns after : List Turn) (actor asked n : ℕ) (deed : Deed) (old new : Hall S) → IsAsTold told moment faults turns old → after ≡ turns ++ turn actor (event n deed) ∷ [] → asked ≡ actor
      → Steps told moment faults asked deed old new → IsAsTold told moment faults after new
  still_told turns after actor asked n deed old new it is same steps =
      let r = subst (λ (a : ℕ). Steps told moment faults a deed old new) same steps it.0 it.1 in (
        behind deed it.0.contents r.1,
        r.4,
        subst (λ (l : List Turn). HaveTaken l (behind deed it.0.contents r.1).core) (sym is)
            (subst (HaveTaken (turns ++ turn actor (event n deed) ∷ [])) (sym (behind_core deed it.0.contents r.1)) (then_have turns actor n deed (with_contents r.0 it.0) r.1 r.3.step it.1.good.numbers.below it.2)),
      )

  -- ---- a hasher of what the events tell is that of the ticket

  held_as : (purpose : _) (hashed : _) (b : Bool) (bytes other : List ℕ) → IsHashed purpose b hashed bytes → b ≡ false → bytes ≡ other → IsHashed purpose false hashed other
  held_as purpose hashed b bytes other is unsealed same = subst (IsHashed purpose false hashed) same (subst (λ c. IsHashed purpose c hashed bytes) unsealed is)

  pub is_ahead : (turns : List Turn) (hall : Hall S) (actor asked number : ℕ) (events : List Event) (piece : List ℕ) (hasher : Sha256) → IsAsTold told moment faults turns hall → events ≡ events_of actor turns → asked ≡ actor
      → HoldsAhead number events piece hasher → IfSome (own_seat asked number hall.held) (IsAhead piece hasher)
  is_ahead turns hall actor asked number events piece hasher it told_all same ahead = subst (λ (a : ℕ). IfSome (own_seat a number hall.held) (IsAhead piece hasher)) (sym same) (go (own_seat actor number hall.held) refl)
    where
      have : AllByRecursion (HasBytes actor number ahead.0) (own_tickets actor it.0.core.tickets)
      have = it.2 actor number ahead.0 (ap (taken number) (sym told_all) ∙ ahead.1)

      go : (o : Option Seat) → own_seat actor number hall.held ≡ o → IfSome o (IsAhead piece hasher)
      go None e = tt
      go (Some s) e = λ new unsealed.
          let found = ticket_is actor number hall.held it.0 it.1.core it.1.good.numbers.tickets s e in
          let t : Ticket = found.0 in
          let seat : IsSeatOf number s t = found.2 in
          let mine : t.actor ≡ actor = found.3.actor_is in
          let has : t.bytes ≡ ahead.0 =
          all_found (HasBytes actor number ahead.0) (λ t. t.number == number) (own_tickets actor it.0.core.tickets) t have found.1 mine seat.number (ap is_storing seat.purpose ∙ new) (seat.is_sealed ∙ unsealed) in
          (ahead.0, held_as s.purpose s.hashed s.is_sealed t.bytes ahead.0 seat.hashed unsealed has, ahead.2)
