-- An actor's ticket among the turns of several: it is there from the step that opened it up to the one that spends it.
use Rattle.std.proofs.Common.{◌≡◌, ◌∙◌, inl, inr, ℕ, ◌==◌, Bool, true, false, cond, if◌then◌else◌, None, Some, Result, Ok, Err, List, [], ◌∷◌, ◌++◌, map, refl, sym, ap, subst}
use Rattle.std.proofs.lemmas.Bool.{eq-eqb, eqb-true}
use Rattle.std.proofs.lemmas.List.{append-nil}
use Rattle.std.specs.List.{AllByRecursion}
use Rattle.kinds.specs.declared.refusal.Refusal.{Refusal}
use Rattle.space.specs.declared.aim.Aim.{Aim}
use Rattle.steps.specs.Events.{Deed, Event}
use Rattle.steps.specs.Events.Deed.{OpenNew, OpenCopy, WritePiece, CopyPiece, Seal, Commit, DropTicket, ReadPiece, Ask, Image, Reuse, Force}
use Rattle.machine.proofs.Moves.{Moved, moves}
use Rattle.machine.proofs.Tickets.{others-push, own-push}
use Rattle.machine.specs.Alone.{Moves, with_contents}
use Rattle.machine.specs.Machine.{Case, IsTicket, OpensCopy, OpensNew, Places, size_of}
use Rattle.machine.specs.State.{Core, Machine, Ticket, copying, inventory, is_ticket, own_tickets, sealed, storing, ticket, took}
use Rattle.machine.specs.Turns.{Turn, events_of}
use Rattle.crew.specs.Ran.{Turned}
use Rattle.block_results.proofs.BySteps.{core-left}
use Rattle.block_results.proofs.InOrder.{Stood, nowhere, nowhere-aimed, stood-within}

-- ---- tickets by number

-- each ticket changes, and keeps its number
ticket-mapped : (f : Ticket → Ticket) → ((t : Ticket) → (f t).number ≡ t.number) → (number : ℕ) (tickets : List Ticket) (t : Ticket) → ticket number tickets ≡ Some t → (x : Ticket) × (ticket number (map f tickets) ≡ Some x)
ticket-mapped f keeps number [] t h = absurd cc
ticket-mapped f keeps number (x ∷ tickets) t h =
    elim (x.number == number) as (λ b. (x.number == number) ≡ b → cond b (Some x) (ticket number tickets) ≡ Some t → (y : Ticket) × (cond ((f x).number == number) (Some (f x)) (ticket number (map f tickets)) ≡ Some y)) [
      | true ↦ λ e _. (f x, ap (λ (n : ℕ). cond (n == number) (Some (f x)) (ticket number (map f tickets))) (keeps x) ∙ ap (λ (b : Bool). cond b (Some (f x)) (ticket number (map f tickets))) e)
      | false ↦ λ e is.
          (let rest = ticket-mapped f keeps number tickets t is in
          (rest.0, ap (λ (n : ℕ). cond (n == number) (Some (f x)) (ticket number (map f tickets))) (keeps x) ∙ ap (λ (b : Bool). cond b (Some (f x)) (ticket number (map f tickets))) e ∙ rest.1))
    ] refl h

-- one more, with this number
ticket-pushed : (number : ℕ) (tickets : List Ticket) (t : Ticket) → t.number ≡ number → (x : Ticket) × (ticket number (tickets ++ (t ∷ [])) ≡ Some x)
ticket-pushed number [] t is = (t, ap (λ (b : Bool). cond b (Some t) None) (eq-eqb t.number number is))
ticket-pushed number (x ∷ tickets) t is = elim (x.number == number) as (λ b. (y : Ticket) × (cond b (Some x) (ticket number (tickets ++ (t ∷ []))) ≡ Some y)) [
  | true ↦ (x, refl)
  | false ↦ ticket-pushed number tickets t is
]

keeps-number : (actor number : ℕ) (f : Ticket → Ticket) → ((t : Ticket) → (f t).number ≡ t.number) → (t : Ticket) → (if is_ticket actor number t then f t else t).number ≡ t.number
keeps-number actor number f keeps t = elim (is_ticket actor number t) as (λ b. (if b then f t else t).number ≡ t.number) [
  | true ↦ keeps t
  | false ↦ refl
]

-- ---- other actors' steps

-- no step changes another actor's tickets
others-opened : (places : Places) (other actor pool size prefer : ℕ) (old new : Machine) (answer : Result ℕ Refusal) → (actor ≡ other → ⊥) → OpensNew places other pool size prefer old new answer
    → own_tickets actor new.core.tickets ≡ own_tickets actor old.core.tickets
others-opened places other actor pool size prefer old new (Ok number) n h =
    let t : Ticket = record { number = old.core.next_ticket; actor = other; purpose = storing old.core.next_object; size = size; place = h.2.1.0; bytes = []; is_sealed = false } in
    ap (λ (c : Core). own_tickets actor c.tickets) h.2.1.3.core ∙ others-push actor old.core.tickets t (λ (s : other ≡ actor). n (sym s))
others-opened places other actor pool size prefer old new (Err e) n h = elim h.2 as (λ _. own_tickets actor new.core.tickets ≡ own_tickets actor old.core.tickets) [
  | inl s ↦ ap (λ (c : Core). own_tickets actor c.tickets) s.1.core
  | inr f ↦ absurd f.1
]

others-copying : (places : Places) (other actor object : ℕ) (a : Aim) (avoid : ℕ) (old new : Machine) (answer : Result ℕ Refusal) → (actor ≡ other → ⊥) → OpensCopy places other object a avoid old new answer
    → own_tickets actor new.core.tickets ≡ own_tickets actor old.core.tickets
others-copying places other actor object a avoid old new (Ok number) n h =
    let t : Ticket = record { number = old.core.next_ticket; actor = other; purpose = copying object a; size = size_of object (inventory old.core); place = h.2.1.0; bytes = []; is_sealed = false } in
    ap (λ (c : Core). own_tickets actor c.tickets) h.2.1.3.core ∙ others-push actor old.core.tickets t (λ (s : other ≡ actor). n (sym s))
others-copying places other actor object a avoid old new (Err e) n h = elim h.2 as (λ _. own_tickets actor new.core.tickets ≡ own_tickets actor old.core.tickets) [
  | inl s ↦ ap (λ (c : Core). own_tickets actor c.tickets) s.1.core
  | inr f ↦ absurd f.1
]

others-by : (other actor : ℕ) (d : Deed) (old new : Machine) → (actor ≡ other → ⊥) → Case nowhere other d old new → own_tickets actor new.core.tickets ≡ own_tickets actor old.core.tickets
others-by other actor d old new n h = (let it : Moved other old.contents d old.core new.core = moves nowhere nowhere-aimed other d old new h in it.others actor n)

others-keep : (places : Places) (other actor : ℕ) (d : Deed) (old new : Machine) → (actor ≡ other → ⊥) → Case places other d old new → own_tickets actor new.core.tickets ≡ own_tickets actor old.core.tickets
others-keep places other actor (OpenNew pool size prefer answer) old new n h = others-opened places other actor pool size prefer old new answer n h
others-keep places other actor (OpenCopy object a avoid answer) old new n h = others-copying places other actor object a avoid old new answer n h
others-keep places other actor (WritePiece number bytes answer) old new n h = others-by other actor (WritePiece number bytes answer) old new n h
others-keep places other actor (CopyPiece number answer) old new n h = others-by other actor (CopyPiece number answer) old new n h
others-keep places other actor (Seal number answer) old new n h = others-by other actor (Seal number answer) old new n h
others-keep places other actor (Commit asked numbers answer) old new n h = others-by other actor (Commit asked numbers answer) old new n h
others-keep places other actor (DropTicket number answer) old new n h = others-by other actor (DropTicket number answer) old new n h
others-keep places other actor (ReadPiece object kept from offset wanted answer) old new n h = others-by other actor (ReadPiece object kept from offset wanted answer) old new n h
others-keep places other actor (Ask query answer) old new n h = others-by other actor (Ask query answer) old new n h
others-keep places other actor (Image kind answer) old new n h = others-by other actor (Image kind answer) old new n h
others-keep places other actor (Reuse file answer) old new n h = others-by other actor (Reuse file answer) old new n h
others-keep places other actor (Force answer) old new n h = others-by other actor (Force answer) old new n h

-- ---- the ticket

-- a step that leaves its actor each ticket that it has
abbrev pub Keeps : Deed → Type 0
Keeps (WritePiece number bytes (Ok count)) = Unit {0}
Keeps (Seal number (Ok done)) = Unit {0}
Keeps _ = ⊥

-- one that opens this one
abbrev pub Opens : (number : ℕ) → Deed → Type 0
Opens number (OpenNew pool size prefer (Ok it)) = it ≡ number
Opens number _ = ⊥

module _ (trusted : Type 0) (places : Places) (actor : ℕ) where
  -- the actor has a ticket with this number
  abbrev pub HasTicket : (number : ℕ) → Machine → Type 0
  HasTicket number m = (t : Ticket) × IsTicket actor number m t

  has-as : (number : ℕ) (old new : Machine) → own_tickets actor new.core.tickets ≡ own_tickets actor old.core.tickets → HasTicket number old → HasTicket number new
  has-as number old new same (t, is) = (t, ap (λ (l : List Ticket). ticket number l) same ∙ is)

  others-moved : (other number : ℕ) (e : Event) (old new : Machine) → (actor ≡ other → ⊥) → Moves trusted places other e old new → HasTicket number old → HasTicket number new
  others-moved other number e old new n m has =
      let core : new.core ≡ m.next.core = ap (λ (x : Machine). x.core) m.left ∙ core-left e.deed old.contents m.next in
      has-as number old new (ap (λ (c : Core). own_tickets actor c.tickets) core ∙ others-keep places other actor e.deed (with_contents m.seen old) m.next n m.made.step) has

  keeps-by : (number : ℕ) (d : Deed) (old new : Machine) → Keeps d → Case places actor d old new → HasTicket number old → HasTicket number new
  keeps-by number (WritePiece other bytes (Ok count)) old new k h (t, is) =
      let it : Moved actor old.contents (WritePiece other bytes (Ok count)) old.core new.core = moves nowhere nowhere-aimed actor (WritePiece other bytes (Ok count)) old new h in
      let next = ticket-mapped (λ x. if is_ticket actor other x then took bytes x else x) (keeps-number actor other (took bytes) (λ x. refl)) number (own_tickets actor old.core.tickets) t is in
      (next.0, ap (λ (l : List Ticket). ticket number l) it.tickets ∙ next.1)
  keeps-by number (Seal other (Ok done)) old new k h (t, is) =
      let it : Moved actor old.contents (Seal other (Ok done)) old.core new.core = moves nowhere nowhere-aimed actor (Seal other (Ok done)) old new h in
      let next = ticket-mapped (λ x. if is_ticket actor other x then sealed x else x) (keeps-number actor other sealed (λ x. refl)) number (own_tickets actor old.core.tickets) t is in
      (next.0, ap (λ (l : List Ticket). ticket number l) it.tickets ∙ next.1)
  keeps-by number d old new k h has = absurd k

  opens-by : (number : ℕ) (d : Deed) (old new : Machine) → Opens number d → Case places actor d old new → HasTicket number new
  opens-by number (OpenNew pool size prefer (Ok it)) old new is h =
      let t : Ticket = record { number = old.core.next_ticket; actor = actor; purpose = storing old.core.next_object; size = size; place = h.2.1.0; bytes = []; is_sealed = false } in
      let next = ticket-pushed number (own_tickets actor old.core.tickets) t (sym h.2.1.2 ∙ is) in
      (next.0, ap (λ (c : Core). ticket number (own_tickets actor c.tickets)) h.2.1.3.core ∙ ap (λ (l : List Ticket). ticket number l) (own-push actor old.core.tickets t refl) ∙ next.1)
  opens-by number d old new is h = absurd is

  core-next : (e : Event) (old new : Machine) (m : Moves trusted places actor e old new) (number : ℕ) → HasTicket number m.next → HasTicket number new
  core-next e old new m number (t, is) =
      let core : new.core ≡ m.next.core = ap (λ (x : Machine). x.core) m.left ∙ core-left e.deed old.contents m.next in
      (t, ap (λ (c : Core). ticket number (own_tickets actor c.tickets)) core ∙ is)

  keeps-moved : (number : ℕ) (e : Event) (old new : Machine) → Keeps e.deed → Moves trusted places actor e old new → HasTicket number old → HasTicket number new
  keeps-moved number e old new k m has = core-next e old new m number (keeps-by number e.deed (with_contents m.seen old) m.next k m.made.step has)

  opens-moved : (number : ℕ) (e : Event) (old new : Machine) → Opens number e.deed → Moves trusted places actor e old new → HasTicket number new
  opens-moved number e old new k m = core-next e old new m number (opens-by number e.deed (with_contents m.seen old) m.next k m.made.step)

  -- ---- among the turns

  -- the step with this deed, at a state where its actor has the ticket
  abbrev pub StoodWith : (number : ℕ) → Deed → List Turn → (old new : Machine) → Type 0
  StoodWith number d turns old new = (s : Stood trusted places actor (λ x. x ≡ d) turns old new) × HasTicket number s.meets.before

  behind : (number : ℕ) (d : Deed) (t : Turn) (turns : List Turn) (old next new : Machine) → Moves trusted places t.actor t.did old next → StoodWith number d turns next new → StoodWith number d (t ∷ turns) old new
  behind number d t turns old next new made (s, has) =
      (stood-within trusted places actor (λ x. x ≡ d) (t ∷ []) turns [] (t ∷ turns) old next new new (ap (λ (l : List Turn). t ∷ l) (sym (append-nil turns))) (next, made, refl) refl s, has)

  own-first : (x y : Event) (xs ys : List Event) → x ∷ xs ≡ y ∷ ys → x ≡ y
  own-first x y xs ys h = cc

  own-rest : (x y : Event) (xs ys : List Event) → x ∷ xs ≡ y ∷ ys → xs ≡ ys
  own-rest x y xs ys h = cc

  not-own : (t : Turn) → (t.actor == actor) ≡ false → actor ≡ t.actor → ⊥
  not-own t e same = (let odd : true ≡ false = sym (eq-eqb t.actor actor (sym same)) ∙ e in cc)

  as-own : (t : Turn) (old next : Machine) → (t.actor == actor) ≡ true → Moves trusted places t.actor t.did old next → Moves trusted places actor t.did old next
  as-own t old next e made = subst (λ (a : ℕ). Moves trusted places a t.did old next) (eqb-true t.actor actor e) made

  nothing-left : (fills rest : List Event) (c : Event) → [] ≡ fills ++ (c ∷ rest) → ⊥
  nothing-left [] rest c h = cc
  nothing-left (f ∷ fills) rest c h = cc

  own-here : (number : ℕ) (rest : List Event) (c : Event) (t : Turn) (turns : List Turn) (old next new : Machine) → Moves trusted places t.actor t.did old next → Turned trusted places turns next new → (t.actor == actor) ≡ true → t.did ≡ c
      → HasTicket number old → StoodWith number c.deed (t ∷ turns) old new
  own-here number rest c t turns old next new made later e same has = (
    record {
      turn = t;
      mine = eqb-true t.actor actor e;
      is = ap (λ (x : Event). x.deed) same;
      meets = record { front = []; back = turns; parts = refl; before = old; after = next; led = refl; made = made; leads = later };
    },
    has,
  )

  -- behind steps that keep it
  pub kept-to : (number : ℕ) (fills rest : List Event) (c : Event) (turns : List Turn) (old new : Machine) → Turned trusted places turns old new → HasTicket number old → AllByRecursion (λ e. Keeps e.deed) fills
      → events_of actor turns ≡ fills ++ (c ∷ rest) → StoodWith number c.deed turns old new
  kept-to number fills rest c [] old new is has keep cut = absurd (nothing-left fills rest c cut)
  kept-to number [] rest c (t ∷ turns) old new (next, made, later) has keep cut =
      elim (t.actor == actor) as (λ b. (t.actor == actor) ≡ b → (if b then t.did ∷ events_of actor turns else events_of actor turns) ≡ c ∷ rest → StoodWith number c.deed (t ∷ turns) old new) [
        | true ↦ λ e is. own-here number rest c t turns old next new made later e (own-first t.did c (events_of actor turns) rest is) has
        | false ↦ λ e is. behind number c.deed t turns old next new made (kept-to number [] rest c turns next new later (others-moved t.actor number t.did old next (not-own t e) made has) keep is)
      ] refl cut
  kept-to number (f ∷ fills) rest c (t ∷ turns) old new (next, made, later) has keep cut =
      elim (t.actor == actor) as (λ b. (t.actor == actor) ≡ b → (if b then t.did ∷ events_of actor turns else events_of actor turns) ≡ f ∷ (fills ++ (c ∷ rest)) → StoodWith number c.deed (t ∷ turns) old new) [
        | true ↦ λ e is.
            behind number c.deed t turns old next new made
            (kept-to number fills rest c turns next new later
            (keeps-moved number t.did old next (subst (λ (x : Event). Keeps x.deed) (sym (own-first t.did f (events_of actor turns) (fills ++ (c ∷ rest)) is)) keep.0) (as-own t old next e made) has) keep.1
            (own-rest t.did f (events_of actor turns) (fills ++ (c ∷ rest)) is))
        | false ↦ λ e is. behind number c.deed t turns old next new made (kept-to number (f ∷ fills) rest c turns next new later (others-moved t.actor number t.did old next (not-own t e) made has) keep is)
      ] refl cut

  -- behind the step that opened it, and others that keep it
  pub opened-to : (number : ℕ) (front fills rest : List Event) (o c : Event) (turns : List Turn) (old new : Machine) → Turned trusted places turns old new → Opens number o.deed → AllByRecursion (λ e. Keeps e.deed) fills
      → events_of actor turns ≡ front ++ (o ∷ (fills ++ (c ∷ rest))) → StoodWith number c.deed turns old new
  opened-to number front fills rest o c [] old new is opens keep cut = absurd (nothing-left front (fills ++ (c ∷ rest)) o cut)
  opened-to number [] fills rest o c (t ∷ turns) old new (next, made, later) opens keep cut =
      elim (t.actor == actor) as (λ b. (t.actor == actor) ≡ b → (if b then t.did ∷ events_of actor turns else events_of actor turns) ≡ o ∷ (fills ++ (c ∷ rest)) → StoodWith number c.deed (t ∷ turns) old new) [
        | true ↦ λ e is.
            behind number c.deed t turns old next new made
            (kept-to number fills rest c turns next new later
            (opens-moved number t.did old next (subst (λ (x : Event). Opens number x.deed) (sym (own-first t.did o (events_of actor turns) (fills ++ (c ∷ rest)) is)) opens) (as-own t old next e made)) keep
            (own-rest t.did o (events_of actor turns) (fills ++ (c ∷ rest)) is))
        | false ↦ λ e is. behind number c.deed t turns old next new made (opened-to number [] fills rest o c turns next new later opens keep is)
      ] refl cut
  opened-to number (f ∷ front) fills rest o c (t ∷ turns) old new (next, made, later) opens keep cut =
      elim (t.actor == actor) as (λ b. (t.actor == actor) ≡ b → (if b then t.did ∷ events_of actor turns else events_of actor turns) ≡ f ∷ (front ++ (o ∷ (fills ++ (c ∷ rest)))) → StoodWith number c.deed (t ∷ turns) old new) [
        | true ↦ λ e is.
            behind number c.deed t turns old next new made
            (opened-to number front fills rest o c turns next new later opens keep (own-rest t.did f (events_of actor turns) (front ++ (o ∷ (fills ++ (c ∷ rest)))) is))
        | false ↦ λ e is. behind number c.deed t turns old next new made (opened-to number (f ∷ front) fills rest o c turns next new later opens keep is)
      ] refl cut
