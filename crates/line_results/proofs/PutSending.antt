-- A file's bytes go into a ticket, where one actor has the machine alone and it was at rest.
use Rattle.std.proofs.Common.{◌≡◌, ◌⊎◌, inl, inr, ℕ, ◌+◌, ◌-◌, ◌^◌, ◌≤◌, ◌<◌, nat_lt, Bool, true, false, zero, suc, List, [], ◌∷◌, ◌++◌, length, drop, take, append_assoc, append-nil, Option, None, Some, Result, Ok, Err, refl, sym, ap, subst, ◌∙◌, arith, take_all}
use Rattle.std.proofs.Math.Seq.{drop-length}
use Rattle.std.specs.List.{AllByRecursion}
use Rattle.sha2.specs.Sha256.{sha256}
use Rattle.kinds.specs.Refusals.{unless}
use Rattle.kinds.specs.ValueForms.{digest_with}
use Rattle.kinds.specs.declared.refusal.Holder.{Holder}
use Rattle.kinds.specs.declared.refusal.Refusal.{Refusal}
use Rattle.kinds.specs.declared.refusal.Refusal.TheVariants as refused
use Rattle.kinds.specs.declared.segment.Digest.{Digest}
use Rattle.entries.specs.declared.entry.Entry.{Entry}
use Rattle.client_trees.specs.Files.{ClientFile}
use Rattle.command_steps.specs.client_files.Reading.{EndsEarly, GoesOn, TreeFails}
use Rattle.command_steps.specs.client_files.Sending.{Breaks, Fills, GivesUp, Sends, Spends, Writes, Wrote, behind_drop, bytes_by, failing, stopping, unopened, unwritten, written}
use Rattle.command_steps.specs.client_files.declared.outcome.Came.{Came}
use Rattle.space.specs.declared.aim.Aim.TheVariants as aim
use Rattle.steps.specs.Calls.{IsStep, Made}
use Rattle.steps.specs.Events.{Deed, Event, event, has_number, is_listed, refusal}
use Rattle.steps.specs.Events.Deed.{OpenNew, WritePiece, Seal, DropTicket}
use Rattle.command_steps.specs.sessions.Putting.{SendsOnce, sealed_of}
use Rattle.command_steps.specs.sessions.Putting as putting
use Rattle.command_steps.specs.sessions.Waiting.{Held, Waited}
use Rattle.command_steps.specs.sessions.declared.sending.Sealed.{Sealed}
use Rattle.machine.specs.Alone.{Alone}
use Rattle.machine.specs.Causes.{new_refused}
use Rattle.machine.specs.Machine.{Becomes, Case, IsPlaced, Later, OpensNew, Places, can_place_new, durable, ended, freed, has_file, opened_new, placing_refused, space, with_tickets}
use Rattle.machine.specs.State.{Core, Machine, Place, Ticket, inventory, sight, unforced}
use Rattle.machine.proofs.Answering.{alone-none as own-none}
use Rattle.machine.proofs.Elsewhere.{append-all, foremost-all, unless-all}
use Rattle.line_results.specs.Files.{IsPlacedIn, why_no_place}
use Rattle.line_results.specs.Resting.{IsAtRest, NobodyHolds, Onward, RoseFrom}
use Rattle.line_results.proofs.PutSteps.{Fails, gave-back, holding, idle, not-given-back, piece-refused, seal-refused, sealed-ticket, ticket_with, wrote-piece}
use Rattle.line_results.proofs.Runs.{Became, Stops, alone-none, alone-parts, became-as, became-none, full-or, late-on, onward-later, stepped}

-- ---- a step that was made, or for which memory was wanted

abbrev pub Either : (places : Places) → Deed → (old new : Machine) → Type 0
Either places deed old new = (Later old new × Case places 0 deed old new × (is_listed deed ≡ true)) ⊎ ((refusal deed ≡ Some refused.Memory) × (new ≡ old))

open-either : (trusted : Type 0) (places : Places) (pool size : ℕ) (answer : Result ℕ Refusal) (events : List Event) (old new : Machine) → Made (OpenNew pool size 0 answer) events
    → Alone trusted places 0 events old new → Either places (OpenNew pool size 0 answer) old new
open-either trusted places pool size answer events old new (inl h) a =
    let s = stepped trusted places h.0 (OpenNew pool size 0 answer) events old new (λ c seen b. b) (λ c m. refl) h.1 a in inl (s.0, s.1, h.2)
open-either trusted places pool size answer events old new (inr h) a = inr (h.0, alone-none trusted places 0 events old new h.1 a)

write-either : (trusted : Type 0) (places : Places) (number : ℕ) (bytes : List ℕ) (answer : Result ℕ Refusal) (events : List Event) (old new : Machine) → Made (WritePiece number bytes answer) events
    → Alone trusted places 0 events old new → Either places (WritePiece number bytes answer) old new
write-either trusted places number bytes answer events old new (inl h) a =
    let s = stepped trusted places h.0 (WritePiece number bytes answer) events old new (λ c seen b. b) (λ c m. refl) h.1 a in inl (s.0, s.1, h.2)
write-either trusted places number bytes answer events old new (inr h) a = inr (h.0, alone-none trusted places 0 events old new h.1 a)

seal-either : (trusted : Type 0) (places : Places) (number : ℕ) (answer : Result (Unit {0}) Refusal) (events : List Event) (old new : Machine) → Made (Seal number answer) events
    → Alone trusted places 0 events old new → Either places (Seal number answer) old new
seal-either trusted places number answer events old new (inl h) a =
    let s = stepped trusted places h.0 (Seal number answer) events old new (λ c seen b. b) (λ c m. refl) h.1 a in inl (s.0, s.1, h.2)
seal-either trusted places number answer events old new (inr h) a = inr (h.0, alone-none trusted places 0 events old new h.1 a)

pub memory-of : (e : Refusal) → Some e ≡ Some refused.Memory → e ≡ refused.Memory
memory-of e h = cc

-- ---- the ticket is opened

-- nobody holds what is refused here
abbrev IsNobody : Refusal → Type 0
IsNobody e = (h : Holder) → e ≡ refused.Busy h → ⊥

nobody-placed : (can : Bool) (Is : Result Place Refusal → Type 0) (placed : Result Place Refusal) → ((h : Holder) → Is (Err (refused.Busy h)) → ⊥) → IsPlaced can Is placed
    → AllByRecursion IsNobody (placing_refused can placed)
nobody-placed true Is (Ok place) free h = tt
nobody-placed true Is (Err e) free h = ((λ holder is. free holder (subst (λ (x : Refusal). Is (Err x)) is h)), tt)
nobody-placed false Is placed free h = tt

-- where the machine is at rest nothing waits for a force
none-freed : (c : Core) → length c.stamps ≡ length c.journal → (space c).freed ≡ []
none-freed c durable_all =
    let none : unforced c ≡ [] = ap (λ (n : ℕ). drop n c.journal) durable_all ∙ drop-length c.journal in
    ap (λ (l : List Entry). freed (durable c) l) none

nobody-held : (places : Places) (pool size : ℕ) (old : Machine) (placed : Result Place Refusal) → NobodyHolds places → IsAtRest old.core → IsPlacedIn places pool size old.core placed
    → (e : Refusal) → why_no_place pool size old.core placed ≡ Some e → (h : Holder) → e ≡ refused.Busy h → ⊥
nobody-held places pool size old placed nobody rest is e why =
    let c : Core = old.core in
    foremost-all IsNobody _
    (append-all IsNobody (new_refused pool size (sight 0 c)) _
    (append-all IsNobody (unless (nat_lt size (2 ^ 44)) refused.TooLarge) _ (unless-all IsNobody (nat_lt size (2 ^ 44)) refused.TooLarge (λ h s. absurd cc))
    (unless-all IsNobody _ refused.NotFound (λ h s. absurd cc)))
    (append-all IsNobody (placing_refused (can_place_new pool size (sight 0 c)) placed) _
    (nobody-placed (can_place_new pool size (sight 0 c)) (places (inventory c) (space c) 0 size (aim.New pool) 0 0) placed
    (λ h s. (nobody (inventory c) (space c) 0 size (aim.New pool) 0 0 h (subst (λ (ts : List Ticket). AllByRecursion (λ t. t.actor ≡ 0) ts) (sym rest.tickets) tt) s).1 (none-freed c rest.durable)) is)
    (append-all IsNobody (unless (nat_lt (c.next_object + 1) (2 ^ 62)) refused.InventoryFull) _
    (unless-all IsNobody (nat_lt (c.next_object + 1) (2 ^ 62)) refused.InventoryFull (λ h s. absurd cc))
    (unless-all IsNobody (nat_lt (c.next_ticket + 1) (2 ^ 62)) refused.InventoryFull (λ h s. absurd cc))))) e why

-- it is opened, in this place
abbrev pub Opens : Places → (pool size : ℕ) → (old new : Machine) → (ticket : ℕ) → Type 0
Opens places pool size old new ticket =
    (place : Place) × IsPlacedIn places pool size old.core (Ok place) × (why_no_place pool size old.core (Ok place) ≡ None) × (ticket ≡ old.core.next_ticket)
    × Became (holding size place [] false old.core) old new

opened : (places : Places) (pool size number : ℕ) (old new : Machine) → IsAtRest old.core → Later old new → OpensNew places 0 pool size 0 old new (Ok number) → Opens places pool size old new number
opened places pool size number old new rest later h =
    let c : Core = old.core in
    let why : why_no_place pool size c h.0 ≡ None = own-none (ended old) _ h.2.0 in
    let place : Place = h.2.1.0 in
    let is : h.0 ≡ Ok place = h.2.1.1 in
    let t : Ticket = ticket_with size place [] false c in
    let same : opened_new 0 size place c ≡ holding size place [] false c = ap (λ (ts : List Ticket). with_tickets (ts ++ t ∷ []) (opened_new 0 size place c)) rest.tickets in
    let becomes : Becomes (opened_new 0 size place c) old new = h.2.1.3 in (
      place,
      subst (λ (r : Result Place Refusal). IsPlacedIn places pool size c r) is h.1,
      subst (λ (r : Result Place Refusal). why_no_place pool size c r ≡ None) is why,
      h.2.1.2,
      record { core = becomes.core ∙ same; contents = becomes.contents; onward = onward-later old new later },
    )

-- it isn't opened, and nothing changed
abbrev pub OpensNot : Places → (pool size : ℕ) → (old new : Machine) → Refusal → Type 0
OpensNot places pool size old new e =
    Became old.core old new × (((placed : Result Place Refusal) × IsPlacedIn places pool size old.core placed × (why_no_place pool size old.core placed ≡ Some e)) ⊎ Stops new e)

not-opened : (places : Places) (pool size : ℕ) (e : Refusal) (old new : Machine) → IsAtRest old.core → Later old new → OpensNew places 0 pool size 0 old new (Err e) → OpensNot places pool size old new e
not-opened places pool size e old new rest later h =
    elim h.2 as (λ _. OpensNot places pool size old new e) [
      | inl s ↦ (
        record { core = s.1.core; contents = s.1.contents; onward = onward-later old new later },
        elim s.0 as (λ _. ((placed : Result Place Refusal) × IsPlacedIn places pool size old.core placed × (why_no_place pool size old.core placed ≡ Some e)) ⊎ Stops new e) [
          | inl held ↦ elim (full-or old _ e rest.fault held) as (λ _. ((placed : Result Place Refusal) × IsPlacedIn places pool size old.core placed × (why_no_place pool size old.core placed ≡ Some e)) ⊎ Stops new e) [
            | inl full ↦ inr (inl (full.0, late-on old new (onward-later old new later) full.1))
            | inr own ↦ inl (h.0, h.1, own)
          ]
          | inr memory ↦ inr (inr memory)
        ],
      )
      | inr s ↦ absurd s.1
    ]

-- what a file without a ticket is answered
abbrev IsAsIs : Refusal → Type 0
IsAsIs e = ((h : Holder) × (e ≡ refused.Busy h)) ⊎ (sealed_of (unopened e) ≡ Err e)

as-answered : (e : Refusal) → has_number (10 ∷ 20 ∷ 21 ∷ 29 ∷ 31 ∷ 40 ∷ 41 ∷ 50 ∷ []) e ≡ true → IsAsIs e
as-answered refused.NotFound h = inr refl
as-answered (refused.NoSpace pool) h = inr refl
as-answered (refused.Busy holder) h = inl (holder, refl)
as-answered refused.TooLarge h = inr refl
as-answered refused.InventoryFull h = inr refl
as-answered (refused.LogFault file count) h = inr refl
as-answered refused.RunFull h = inr refl
as-answered refused.Memory h = inr refl
as-answered e h = absurd cc

open-listed : (pool size : ℕ) (e : Refusal) → is_listed (OpenNew pool size 0 (Err e)) ≡ true → has_number (10 ∷ 20 ∷ 21 ∷ 29 ∷ 31 ∷ 40 ∷ 41 ∷ 50 ∷ []) e ≡ true
unfolding is_listed
open-listed pool size e h = h

-- ---- what comes of a file

-- the run ended, and what was there is as it was
pub record Keeps (old new : Machine) : Type 0 where
  pub base : new.core.base ≡ old.core.base
  pub journal : new.core.journal ≡ old.core.journal
  pub stamps : new.core.stamps ≡ old.core.stamps
  pub generation : new.core.generation ≡ old.core.generation
  pub log_length : new.core.log_length ≡ old.core.log_length
  pub contents : new.contents ≡ old.contents
  pub onward : Onward old new

-- The file isn't stored: it has no place; or one of its volumes couldn't be written; or the run ended; or a call on the tree failed.
abbrev pub SentNot : Places → (pool : ℕ) → (text : List ℕ) → (old new : Machine) → Refusal → Type 0
SentNot places pool text old new e =
    ((placed : Result Place Refusal) × IsPlacedIn places pool (length text) old.core placed × (why_no_place pool (length text) old.core placed ≡ Some e) × Became old.core old new
    × (e ≡ refused.TreeFault → ⊥))
    ⊎ ((place : Place) × (file : ℕ) × IsPlacedIn places pool (length text) old.core (Ok place) × (why_no_place pool (length text) old.core (Ok place) ≡ None) × (e ≡ refused.WriteFault file)
    × (has_file file (ticket_with (length text) place text true old.core) ≡ true) × RoseFrom old new file × Became (idle (length text) place old.core) old new)
    ⊎ (Stops new e × Keeps old new)
    ⊎ ((place : Place) × (e ≡ refused.TreeFault) × Became (idle (length text) place old.core) old new)

-- its ticket is sealed, with its bytes
abbrev pub SentTo : Places → (pool : ℕ) → (text : List ℕ) → (old new : Machine) → Sealed → Type 0
SentTo places pool text old new s =
    (place : Place) × IsPlacedIn places pool (length text) old.core (Ok place) × (why_no_place pool (length text) old.core (Ok place) ≡ None)
    × (s ≡ record { ticket = old.core.next_ticket; digest = digest_with (sha256 text) }) × Became (holding (length text) place text true old.core) old new

-- its ticket is sealed; or it isn't stored
abbrev pub Sent : Places → (pool : ℕ) → (text : List ℕ) → (old new : Machine) → Result Sealed Refusal → Type 0
Sent places pool text old new result =
    ((s : Sealed) × (result ≡ Ok s) × SentTo places pool text old new s) ⊎ ((e : Refusal) × (result ≡ Err e) × SentNot places pool text old new e)

keeps-of : (c : Core) (old new : Machine) → c.base ≡ old.core.base → c.journal ≡ old.core.journal → c.stamps ≡ old.core.stamps → c.generation ≡ old.core.generation → c.log_length ≡ old.core.log_length
    → Became c old new → Keeps old new
keeps-of c old new base journal stamps generation log b = record {
  base = ap (λ (x : Core). x.base) b.core ∙ base;
  journal = ap (λ (x : Core). x.journal) b.core ∙ journal;
  stamps = ap (λ (x : Core). x.stamps) b.core ∙ stamps;
  generation = ap (λ (x : Core). x.generation) b.core ∙ generation;
  log_length = ap (λ (x : Core). x.log_length) b.core ∙ log;
  contents = b.contents;
  onward = b.onward;
}

pub keeps-held : (size : ℕ) (place : Place) (bytes : List ℕ) (is : Bool) (old new : Machine) → Became (holding size place bytes is old.core) old new → Keeps old new
keeps-held size place bytes is old new b = keeps-of (holding size place bytes is old.core) old new refl refl refl refl refl b

pub keeps-idle : (size : ℕ) (place : Place) (old new : Machine) → Became (idle size place old.core) old new → Keeps old new
keeps-idle size place old new b = keeps-of (idle size place old.core) old new refl refl refl refl refl b

pub keeps-all : (old new : Machine) → Became old.core old new → Keeps old new
keeps-all old new b = keeps-of old.core old new refl refl refl refl refl b

-- ---- bytes

one-written : (trusted : Type 0) (places : Places) (number size : ℕ) (place : Place) (bytes : List ℕ) (n : ℕ) (deed : Deed) (old mid new : Machine) → number ≡ old.core.next_ticket → Writes number deed
    → Became (holding size place bytes false old.core) old mid → Alone trusted places 0 (event n deed ∷ []) mid new → Became (holding size place (bytes ++ bytes_by deed) false old.core) old new
one-written trusted places number size place bytes n (WritePiece given more (Ok done)) old mid new is w b a =
    let s = stepped trusted places n (WritePiece given more (Ok done)) (event n (WritePiece given more (Ok done)) ∷ []) mid new (λ c seen x. x) (λ c m. refl) refl a in
    wrote-piece given size place bytes more done old mid new (w ∙ is) b s.0 s.1
one-written trusted places number size place bytes n deed old mid new is w b a = absurd w

wrote : (trusted : Type 0) (places : Places) (number size : ℕ) (place : Place) (bytes : List ℕ) (events : List Event) (old mid new : Machine) → number ≡ old.core.next_ticket
    → AllByRecursion (λ e. Writes number e.deed) events → Became (holding size place bytes false old.core) old mid → Alone trusted places 0 events mid new
    → Became (holding size place (bytes ++ written events) false old.core) old new
wrote trusted places number size place bytes [] old mid new is all b a =
    subst (λ (m : Machine). Became (holding size place (bytes ++ []) false old.core) old m) (sym a)
    (became-as (holding size place bytes false old.core) (holding size place (bytes ++ []) false old.core) old mid (ap (λ (l : List ℕ). holding size place l false old.core) (sym (append-nil bytes))) b)
wrote trusted places number size place bytes (e ∷ events) old mid new is all b a =
    let first : Became (holding size place (bytes ++ bytes_by e.deed) false old.core) old a.0 = one-written trusted places number size place bytes e.n e.deed old mid a.0 is all.0 b (a.0, a.1, refl) in
    let rest : Became (holding size place ((bytes ++ bytes_by e.deed) ++ written events) false old.core) old new =
    wrote trusted places number size place (bytes ++ bytes_by e.deed) events old a.0 new is all.1 first a.2 in
    became-as (holding size place ((bytes ++ bytes_by e.deed) ++ written events) false old.core) (holding size place (bytes ++ (bytes_by e.deed ++ written events)) false old.core) old new
    (ap (λ (l : List ℕ). holding size place l false old.core) (append_assoc bytes (bytes_by e.deed) (written events))) rest

-- these bytes were written
wrote-these : (trusted : Type 0) (places : Places) (file : Option ClientFile) (number size : ℕ) (place : Place) (bytes : List ℕ) (events : List Event) (old mid new : Machine) → number ≡ old.core.next_ticket
    → Wrote file number bytes events → Became (holding size place [] false old.core) old mid → Alone trusted places 0 events mid new → Became (holding size place bytes false old.core) old new
wrote-these trusted places file number size place bytes events old mid new is w b a =
    became-as (holding size place (written events) false old.core) (holding size place bytes false old.core) old new (ap (λ (l : List ℕ). holding size place l false old.core) w.whole)
    (wrote trusted places number size place [] events old mid new is w.only b a)

-- The ticket isn't filled for this cause: a step was refused, or the tree failed.
abbrev Unfilled : (size : ℕ) → Place → Refusal → (old new : Machine) → Type 0
Unfilled size place e old new = (bytes : List ℕ) × (Fails size place bytes e old new ⊎ ((e ≡ refused.TreeFault) × Became (holding size place bytes false old.core) old new))

early-never : (f : ClientFile) (at : ℕ) (e : Refusal) → at < length f.bytes → EndsEarly (Some f) at (length f.bytes) e → ⊥
early-never f at e below h = let l : length f.bytes ≤ at = h.1 in let b : at < length f.bytes = below in absurd (omega (arith, l, b))

on-never : (f : ClientFile) (e : Refusal) → GoesOn (Some f) (length f.bytes) e → ⊥
on-never f e h = let l : length f.bytes < length f.bytes = h.1 in absurd (omega (arith, l))

unmade : (places : Places) (number size : ℕ) (place : Place) (bytes more : List ℕ) (why e : Refusal) (old mid new : Machine) → old.core.fault ≡ None → number ≡ old.core.next_ticket → e ≡ unwritten why
    → Became (holding size place bytes false old.core) old mid → Either places (WritePiece number more (Err why)) mid new → Unfilled size place e old new
unmade places number size place bytes more why e old mid new none is cause b (inl s) =
    (bytes, inl (subst (λ (x : Refusal). Fails size place bytes x old new) (sym cause) (piece-refused number size place bytes more why old mid new none is b s.0 s.1)))
unmade places number size place bytes more why e old mid new none is cause b (inr s) =
    (bytes, inl (inl (inr (cause ∙ ap unwritten (memory-of why s.0)), subst (λ (m : Machine). Became (holding size place bytes false old.core) old m) (sym s.1) b)))

unsealed : (places : Places) (number size : ℕ) (place : Place) (bytes : List ℕ) (why e : Refusal) (old mid new : Machine) → old.core.fault ≡ None → number ≡ old.core.next_ticket → e ≡ unwritten why
    → Became (holding size place bytes false old.core) old mid → Either places (Seal number (Err why)) mid new → Unfilled size place e old new
unsealed places number size place bytes why e old mid new none is cause b (inl s) =
    (bytes, inl (subst (λ (x : Refusal). Fails size place bytes x old new) (sym cause) (seal-refused number size place bytes why old mid new none is b s.0 s.1)))
unsealed places number size place bytes why e old mid new none is cause b (inr s) =
    (bytes, inl (inl (inr (cause ∙ ap unwritten (memory-of why s.0)), subst (λ (m : Machine). Became (holding size place bytes false old.core) old m) (sym s.1) b)))

tree-or : (f : ClientFile) (place : Place) (bytes : List ℕ) (before after : ℕ) (e : Refusal) (old new : Machine) → length bytes < length f.bytes → TreeFails before after e ⊎ EndsEarly (Some f) (length bytes) (length f.bytes) e
    → Became (holding (length f.bytes) place bytes false old.core) old new → Unfilled (length f.bytes) place e old new
tree-or f place bytes before after e old new below (inl t) b = (bytes, inr (t.0, b))
tree-or f place bytes before after e old new below (inr t) b = absurd (early-never f (length bytes) e below t)

tree-behind : (f : ClientFile) (place : Place) (bytes : List ℕ) (before after : ℕ) (e : Refusal) (old new : Machine) → TreeFails before after e ⊎ GoesOn (Some f) (length f.bytes) e
    → Became (holding (length f.bytes) place bytes false old.core) old new → Unfilled (length f.bytes) place e old new
tree-behind f place bytes before after e old new (inl t) b = (bytes, inr (t.0, b))
tree-behind f place bytes before after e old new (inr t) b = absurd (on-never f e t)

broke : (trusted : Type 0) (places : Places) (f : ClientFile) (number before after : ℕ) (place : Place) (e : Refusal) (events : List Event) (old mid new : Machine) → old.core.fault ≡ None
    → number ≡ old.core.next_ticket → Breaks (Some f) number (length f.bytes) before after e events → Became (holding (length f.bytes) place [] false old.core) old mid → Alone trusted places 0 events mid new
    → Unfilled (length f.bytes) place e old new
broke trusted places f number before after place e events old mid new none is h b a =
    let bytes : List ℕ = h.0 in
    let xs = h.2.0 in
    let ys = h.2.1 in
    let cut = alone-parts trusted places 0 events xs ys mid new h.2.2 a in
    let w : Became (holding (length f.bytes) place bytes false old.core) old cut.0 = wrote-these trusted places (Some f) number (length f.bytes) place bytes xs old mid cut.0 is h.2.3 b cut.1 in
    elim h.2.4 as (λ _. Unfilled (length f.bytes) place e old new) [
      | inl t ↦ tree-or f place bytes before after e old new h.1 t.1 (subst (λ (m : Machine). Became (holding (length f.bytes) place bytes false old.core) old m) (sym (alone-none trusted places 0 ys cut.0 new t.0 cut.2)) w)
      | inr t ↦ unmade places number (length f.bytes) place bytes t.0 t.1 e old cut.0 new none is t.2 w (write-either trusted places number t.0 (Err t.1) ys cut.0 new t.3 cut.2)
    ]

unfilled : (trusted : Type 0) (places : Places) (f : ClientFile) (number before after : ℕ) (place : Place) (e : Refusal) (events : List Event) (old mid new : Machine) → old.core.fault ≡ None
    → number ≡ old.core.next_ticket → Fills (Some f) number (length f.bytes) before after events (Err e) → Became (holding (length f.bytes) place [] false old.core) old mid
    → Alone trusted places 0 events mid new → Unfilled (length f.bytes) place e old new
unfilled trusted places f number before after place e events old mid new none is (inl h) b a = broke trusted places f number before after place e events old mid new none is h b a
unfilled trusted places f number before after place e events old mid new none is (inr (inl h)) b a =
    tree-behind f place h.1.0 before after e old new h.2 (wrote-these trusted places (Some f) number (length f.bytes) place h.1.0 events old mid new is h.1.1 b a)
unfilled trusted places f number before after place e events old mid new none is (inr (inr h)) b a =
    let xs = h.3.0 in
    let ys = h.3.1 in
    let cut = alone-parts trusted places 0 events xs ys mid new h.3.2 a in
    let bytes : List ℕ = h.3.3.0 in
    let w : Became (holding (length f.bytes) place bytes false old.core) old cut.0 = wrote-these trusted places (Some f) number (length f.bytes) place bytes xs old mid cut.0 is h.3.3.1 b cut.1 in
    unsealed places number (length f.bytes) place bytes h.1 e old cut.0 new none is h.2 w (seal-either trusted places number (Err h.1) ys cut.0 new h.3.4 cut.2)

filled : (trusted : Type 0) (places : Places) (f : ClientFile) (number before after : ℕ) (place : Place) (digest : Digest) (events : List Event) (old mid new : Machine)
    → number ≡ old.core.next_ticket → Fills (Some f) number (length f.bytes) before after events (Ok digest) → Became (holding (length f.bytes) place [] false old.core) old mid
    → Alone trusted places 0 events mid new → Became (holding (length f.bytes) place f.bytes true old.core) old new × (digest ≡ digest_with (sha256 f.bytes))
filled trusted places f number before after place digest events old mid new is h b a =
    let xs = h.1.0 in
    let ys = h.1.1 in
    let cut = alone-parts trusted places 0 events xs ys mid new h.1.2 a in
    let copies = h.1.3 in
    let bytes : List ℕ = copies.0 in
    let long : length bytes ≡ length f.bytes = copies.2 in
    let same : bytes ≡ f.bytes = sym copies.1.front ∙ ap (λ (n : ℕ). take n f.bytes) long ∙ take_all (length f.bytes) f.bytes (omega arith) in
    let w : Became (holding (length f.bytes) place bytes false old.core) old cut.0 = wrote-these trusted places (Some f) number (length f.bytes) place bytes xs old mid cut.0 is copies.1 b cut.1 in
    let s = stepped trusted places h.1.4.0 (Seal number (Ok tt)) ys cut.0 new (λ c seen x. x) (λ c m. refl) h.1.4.1 cut.2 in (
      subst (λ (l : List ℕ). Became (holding (length f.bytes) place l true old.core) old new) same (sealed-ticket number (length f.bytes) place bytes old cut.0 new is w s.0 s.1),
      copies.3 ∙ ap (λ (l : List ℕ). digest_with (sha256 l)) same,
    )

-- ---- given up

-- what is left behind it
abbrev Down : (size : ℕ) → (text : List ℕ) → Place → Refusal → (old new : Machine) → Type 0
Down size text place why old new =
    (Stops new why × Keeps old new)
    ⊎ ((file : ℕ) × (why ≡ refused.WriteFault file) × (has_file file (ticket_with size place text true old.core) ≡ true) × RoseFrom old new file × Became (idle size place old.core) old new)
    ⊎ ((why ≡ refused.TreeFault) × Became (idle size place old.core) old new)

abbrev Came_down : (size : ℕ) → (text : List ℕ) → Place → Result Came Refusal → (old new : Machine) → Type 0
Came_down size text place result old new = (why : Refusal) × (sealed_of result ≡ Err why) × Down size text place why old new

up-full : (trusted : Type 0) (places : Places) (number size : ℕ) (text : List ℕ) (place : Place) (events : List Event) (result : Result Came Refusal) (old mid new : Machine) → GivesUp number refused.RunFull events result
    → Stops mid refused.RunFull → Keeps old mid → Alone trusted places 0 events mid new → Came_down size text place result old new
up-full trusted places number size text place events result old mid new (inl g) stops keeps a =
    let same : new ≡ mid = alone-none trusted places 0 events mid new g.1 a in
    (refused.RunFull, ap sealed_of g.2, inl (subst (λ (m : Machine). Stops m refused.RunFull × Keeps old m) (sym same) (stops, keeps)))
up-full trusted places number size text place events result old mid new (inr g) stops keeps a = absurd cc

-- the drop of the ticket, behind a cause that stands for want of memory or that the tree gave
dropping-by : (trusted : Type 0) (places : Places) (number size : ℕ) (text : List ℕ) (place : Place) (bytes : List ℕ) (why : Refusal) (answer : Result (Unit {0}) Refusal) (events : List Event) (result : Result Came Refusal)
    (old mid new : Machine) → old.core.fault ≡ None → number ≡ old.core.next_ticket → Became (holding size place bytes false old.core) old mid → IsStep (DropTicket number answer) events → result ≡ behind_drop why answer
    → ((new ≡ new) → Keeps old new → sealed_of (failing why) ≡ Err refused.Memory) → Alone trusted places 0 events mid new → Came_down size text place result old new
dropping-by trusted places number size text place bytes why (Ok tt) events result old mid new none is b step said known a =
    let s = stepped trusted places step.0 (DropTicket number (Ok tt)) events mid new (λ c seen x. x) (λ c m. refl) step.1 a in
    let keeps : Keeps old new = keeps-idle size place old new (gave-back number size place bytes false old mid new is b s.0 s.1) in
    (refused.Memory, ap sealed_of said ∙ known refl keeps, inl (inr refl, keeps))
dropping-by trusted places number size text place bytes why (Err other) events result old mid new none is b step said known a =
    let s = stepped trusted places step.0 (DropTicket number (Err other)) events mid new (λ c seen x. x) (λ c m. refl) step.1 a in
    let left = not-given-back number size place bytes false other old mid new none b s.0 s.1 in
    (stopping other, ap sealed_of said, inl (left.0, keeps-held size place bytes false old new left.1))

up-memory : (trusted : Type 0) (places : Places) (number size : ℕ) (text : List ℕ) (place : Place) (bytes : List ℕ) (events : List Event) (result : Result Came Refusal) (old mid new : Machine) → old.core.fault ≡ None
    → number ≡ old.core.next_ticket → GivesUp number refused.Memory events result → Became (holding size place bytes false old.core) old mid → Alone trusted places 0 events mid new
    → Came_down size text place result old new
up-memory trusted places number size text place bytes events result old mid new none is (inl g) b a = absurd cc
up-memory trusted places number size text place bytes events result old mid new none is (inr g) b a =
    dropping-by trusted places number size text place bytes refused.Memory g.1 events result old mid new none is b g.2 g.3 (λ _ k. refl) a

up-fault : (trusted : Type 0) (places : Places) (number size file : ℕ) (text : List ℕ) (place : Place) (events : List Event) (result : Result Came Refusal) (old mid new : Machine)
    → GivesUp number (refused.WriteFault file) events result → has_file file (ticket_with size place text true old.core) ≡ true → RoseFrom old mid file → Became (idle size place old.core) old mid
    → Alone trusted places 0 events mid new → Came_down size text place result old new
up-fault trusted places number size file text place events result old mid new (inl g) has rose b a =
    let same : new ≡ mid = alone-none trusted places 0 events mid new g.1 a in (
      refused.WriteFault file,
      ap sealed_of g.2,
      inr (inl (file, refl, has, subst (λ (m : Machine). RoseFrom old m file) (sym same) rose, subst (λ (m : Machine). Became (idle size place old.core) old m) (sym same) b)),
    )
up-fault trusted places number size file text place events result old mid new (inr g) has rose b a = absurd cc

up-tree : (trusted : Type 0) (places : Places) (number size : ℕ) (text : List ℕ) (place : Place) (bytes : List ℕ) (events : List Event) (result : Result Came Refusal) (old mid new : Machine) → old.core.fault ≡ None
    → number ≡ old.core.next_ticket → GivesUp number refused.TreeFault events result → Became (holding size place bytes false old.core) old mid
    → Alone trusted places 0 events mid new → Came_down size text place result old new
up-tree trusted places number size text place bytes events result old mid new none is (inl g) b a = absurd cc
up-tree trusted places number size text place bytes events result old mid new none is (inr g) b a =
    elim g.1 as (λ (answer : Result (Unit {0}) Refusal). IsStep (DropTicket number answer) events → result ≡ behind_drop refused.TreeFault answer → Came_down size text place result old new) [
      | Ok done ↦ λ step said.
          (let s = stepped trusted places step.0 (DropTicket number (Ok tt)) events mid new (λ c seen x. x) (λ c m. refl) step.1 a in
          let answered : sealed_of result ≡ Err refused.TreeFault = ap sealed_of said in
          let down : Down size text place refused.TreeFault old new = inr (inr (refl, gave-back number size place bytes false old mid new is b s.0 s.1)) in
          (refused.TreeFault, answered, down))
      | Err other ↦ λ step said.
          (let s = stepped trusted places step.0 (DropTicket number (Err other)) events mid new (λ c seen x. x) (λ c m. refl) step.1 a in
          let left = not-given-back number size place bytes false other old mid new none b s.0 s.1 in
          let answered : sealed_of result ≡ Err (stopping other) = ap sealed_of said in
          let down : Down size text place (stopping other) old new = inl (left.0, keeps-held size place bytes false old new left.1) in
          (stopping other, answered, down))
    ] g.2 g.3

gave-up : (trusted : Type 0) (places : Places) (number size : ℕ) (text : List ℕ) (place : Place) (e : Refusal) (events : List Event) (result : Result Came Refusal) (old mid new : Machine) → old.core.fault ≡ None
    → number ≡ old.core.next_ticket → GivesUp number e events result → Unfilled size place e old mid → Alone trusted places 0 events mid new
    → Came_down size text place result old new
gave-up trusted places number size text place e events result old mid new none is g (bytes, inl (inl (stops, b))) a =
    elim stops as (λ _. Came_down size text place result old new) [
      | inl full ↦ up-full trusted places number size text place events result old mid new (subst (λ (x : Refusal). GivesUp number x events result) full.0 g) (inl (refl, full.1)) (keeps-held size place bytes false old mid b) a
      | inr memory ↦ up-memory trusted places number size text place bytes events result old mid new none is (subst (λ (x : Refusal). GivesUp number x events result) memory g) b a
    ]
gave-up trusted places number size text place e events result old mid new none is g (bytes, inl (inr fault)) a =
    up-fault trusted places number size fault.0 text place events result old mid new (subst (λ (x : Refusal). GivesUp number x events result) fault.1 g) fault.2 fault.3 fault.4 a
gave-up trusted places number size text place e events result old mid new none is g (bytes, inr tree) a =
    up-tree trusted places number size text place bytes events result old mid new none is (subst (λ (x : Refusal). GivesUp number x events result) tree.0 g) tree.1 a

-- ---- one try

spent : (trusted : Type 0) (places : Places) (f : ClientFile) (pool number before after : ℕ) (events : List Event) (result : Result Came Refusal) (old mid new : Machine) → old.core.fault ≡ None
    → Spends (Some f) number (length f.bytes) before after events result → Opens places pool (length f.bytes) old mid number
    → Alone trusted places 0 events mid new → Sent places pool f.bytes old new (sealed_of result)
spent trusted places f pool number before after events result old mid new none (inl h) o a =
    let done = filled trusted places f number before after o.0 h.0 events old mid new o.3 h.1 o.4 a in
    inl (
      record { ticket = number; digest = h.0 },
      ap sealed_of h.2,
      (o.0, o.1, o.2, ap (λ (n : ℕ). record { ticket = n; digest = h.0 }) o.3 ∙ ap (λ (d : Digest). record { ticket = old.core.next_ticket; digest = d }) done.1, done.0),
    )
spent trusted places f pool number before after events result old mid new none (inr h) o a =
    let e : Refusal = h.0 in
    let cut = alone-parts trusted places 0 events h.1.0 h.1.1 mid new h.1.2 a in
    let u : Unfilled (length f.bytes) o.0 e old cut.0 = unfilled trusted places f number before after o.0 e h.1.0 old mid cut.0 none o.3 h.1.3 o.4 cut.1 in
    let down = gave-up trusted places number (length f.bytes) f.bytes o.0 e h.1.1 result old cut.0 new none o.3 h.1.4 u cut.2 in
    inr (
      down.0,
      down.1,
      elim down.2 as (λ _. SentNot places pool f.bytes old new down.0) [
        | inl stops ↦ inr (inr (inl stops))
        | inr more ↦ elim more as (λ _. SentNot places pool f.bytes old new down.0) [
          | inl fault ↦ inr (inl (o.0, fault.0, o.1, o.2, fault.1, fault.2, fault.3, fault.4))
          | inr tree ↦ inr (inr (inr (o.0, tree.0, tree.1)))
        ]
      ],
    )

unopened-sent : (places : Places) (pool : ℕ) (text : List ℕ) (e : Refusal) (old new : Machine) → NobodyHolds places → IsAtRest old.core → Either places (OpenNew pool (length text) 0 (Err e)) old new
    → Sent places pool text old new (sealed_of (unopened e))
unopened-sent places pool text e old new nobody rest (inr s) =
    let memory : e ≡ refused.Memory = memory-of e s.0 in
    let b : Became old.core old new = subst (λ (m : Machine). Became old.core old m) (sym s.1) (became-none old) in
    inr (refused.Memory, ap (λ (x : Refusal). sealed_of (unopened x)) memory, inr (inr (inl (inr refl, keeps-all old new b))))
unopened-sent places pool text e old new nobody rest (inl s) =
    let o : OpensNot places pool (length text) old new e = not-opened places pool (length text) e old new rest s.0 s.1 in
    elim (as-answered e (open-listed pool (length text) e s.2)) as (λ _. Sent places pool text old new (sealed_of (unopened e))) [
      | inl busy ↦ absurd (elim o.1 as (λ _. ⊥) [
        | inl placed ↦ nobody-held places pool (length text) old placed.0 nobody rest placed.1 e placed.2 busy.0 busy.1
        | inr stops ↦ elim stops as (λ _. ⊥) [
          | inl full ↦ (let w : refused.Busy busy.0 ≡ refused.RunFull = sym busy.1 ∙ full.0 in absurd cc)
          | inr memory ↦ (let w : refused.Busy busy.0 ≡ refused.Memory = sym busy.1 ∙ memory in absurd cc)
        ]
      ])
      | inr said ↦ inr (
        e,
        said,
        elim o.1 as (λ _. SentNot places pool text old new e) [
          | inl placed ↦ inl (
            placed.0,
            placed.1,
            placed.2,
            o.0,
            λ tree.
                (let w : has_number (10 ∷ 20 ∷ 21 ∷ 29 ∷ 31 ∷ 40 ∷ 41 ∷ 50 ∷ []) refused.TreeFault ≡ true =
                subst (λ (x : Refusal). has_number (10 ∷ 20 ∷ 21 ∷ 29 ∷ 31 ∷ 40 ∷ 41 ∷ 50 ∷ []) x ≡ true) tree (open-listed pool (length text) e s.2) in absurd cc),
          )
          | inr stops ↦ inr (inr (inl (stops, keeps-all old new o.0)))
        ],
      )
    ]

opens-sent : (places : Places) (pool size number : ℕ) (old new : Machine) → IsAtRest old.core → Either places (OpenNew pool size 0 (Ok number)) old new → Opens places pool size old new number
opens-sent places pool size number old new rest (inl s) = opened places pool size number old new rest s.0 s.1
opens-sent places pool size number old new rest (inr s) = absurd cc

sent : (trusted : Type 0) (places : Places) (f : ClientFile) (pool before after : ℕ) (events : List Event) (result : Result Came Refusal) (old new : Machine) → NobodyHolds places → IsAtRest old.core
    → Sends (Some f) pool (length f.bytes) before after events result → Alone trusted places 0 events old new
    → Sent places pool f.bytes old new (sealed_of result)
sent trusted places f pool before after events result old new nobody rest (inl h) a =
    subst (λ (r : Result Came Refusal). Sent places pool f.bytes old new (sealed_of r)) (sym h.2)
    (unopened-sent places pool f.bytes h.0 old new nobody rest (open-either trusted places pool (length f.bytes) (Err h.0) events old new h.1 a))
sent trusted places f pool before after events result old new nobody rest (inr h) a =
    let number : ℕ = h.0 in
    let cut = alone-parts trusted places 0 events h.1.0 h.1.1 old new h.1.2 a in
    let o : Opens places pool (length f.bytes) old cut.0 number =
    opens-sent places pool (length f.bytes) number old cut.0 rest (open-either trusted places pool (length f.bytes) (Ok number) h.1.0 old cut.0 h.1.3 cut.1) in
    spent trusted places f pool number before after h.1.1 result old cut.0 new rest.fault h.1.4 o cut.2

sent-once : (trusted : Type 0) (places : Places) (f : ClientFile) (pool : ℕ) (result : Result Sealed Refusal) (events : List Event) (old new : Machine) → NobodyHolds places → IsAtRest old.core
    → SendsOnce (Some f) pool (length f.bytes) result events → Alone trusted places 0 events old new → Sent places pool f.bytes old new result
sent-once trusted places f pool result events old new nobody rest h a =
    subst (λ (r : Result Sealed Refusal). Sent places pool f.bytes old new r) (sym h.4)
    (sent trusted places f pool h.0 h.1 events h.2 old new nobody rest h.3.order a)

-- ---- no try waits

err-of : (a b : Refusal) (r : Result Sealed Refusal) → r ≡ Err a → r ≡ Err b → a ≡ b
err-of a b r h k = cc

never-busy : (places : Places) (pool : ℕ) (text : List ℕ) (holder : Holder) (old new : Machine) → NobodyHolds places → IsAtRest old.core → Sent places pool text old new (Err (refused.Busy holder)) → ⊥
never-busy places pool text holder old new nobody rest (inl s) = absurd cc
never-busy places pool text holder old new nobody rest (inr s) =
    let is : refused.Busy holder ≡ s.0 = err-of (refused.Busy holder) s.0 (Err (refused.Busy holder)) refl s.1 in
    elim s.2 as (λ _. ⊥) [
      | inl placed ↦ nobody-held places pool (length text) old placed.0 nobody rest placed.1 s.0 placed.2 holder (sym is)
      | inr more ↦ elim more as (λ _. ⊥) [
        | inl fault ↦ (let w : refused.Busy holder ≡ refused.WriteFault fault.1 = is ∙ fault.4 in absurd cc)
        | inr rest_of ↦ elim rest_of as (λ _. ⊥) [
          | inl stops ↦ elim stops.0 as (λ _. ⊥) [
            | inl full ↦ (let w : refused.Busy holder ≡ refused.RunFull = is ∙ full.0 in absurd cc)
            | inr memory ↦ (let w : refused.Busy holder ≡ refused.Memory = is ∙ memory in absurd cc)
          ]
          | inr tree ↦ (let w : refused.Busy holder ≡ refused.TreeFault = is ∙ tree.1 in absurd cc)
        ]
      ]
    ]

never-held : (trusted : Type 0) (places : Places) (f : ClientFile) (pool : ℕ) (answer : Result (Unit {0}) Refusal) (events : List Event) (old new : Machine) → NobodyHolds places → IsAtRest old.core
    → Held (SendsOnce (Some f) pool (length f.bytes)) events answer → Alone trusted places 0 events old new → ⊥
never-held trusted places f pool answer events old new nobody rest h a =
    let cut = alone-parts trusted places 0 events h.1.0 h.1.1 old new h.1.2 a in
    never-busy places pool f.bytes h.0 old cut.0 nobody rest (sent-once trusted places f pool (Err (refused.Busy h.0)) h.1.0 old cut.0 nobody rest h.1.3 cut.1)

never-waited : (trusted : Type 0) (places : Places) (f : ClientFile) (pool waited : ℕ) (events : List Event) (old new : Machine) → NobodyHolds places → IsAtRest old.core
    → Waited (SendsOnce (Some f) pool (length f.bytes)) waited events → Alone trusted places 0 events old new → (waited ≡ 0) × (new ≡ old)
never-waited trusted places f pool zero events old new nobody rest h a = (refl, alone-none trusted places 0 events old new h a)
never-waited trusted places f pool (suc n) events old new nobody rest h a =
    let cut = alone-parts trusted places 0 events h.0 h.1 old new h.2 a in
    let none = never-waited trusted places f pool n h.0 old cut.0 nobody rest h.3 cut.1 in
    absurd (never-held trusted places f pool (Ok tt) h.1 old new nobody rest h.4 (subst (λ (m : Machine). Alone trusted places 0 h.1 m new) none.1 cut.2))

-- a file is sent
pub sends-come-to : (trusted : Type 0) (places : Places) (f : ClientFile) (pool : ℕ) (events : List Event) (result : Result Sealed Refusal) (old new : Machine) → NobodyHolds places → IsAtRest old.core
    → putting.Sends (Some f) pool (length f.bytes) events result → Alone trusted places 0 events old new → Sent places pool f.bytes old new result
sends-come-to trusted places f pool events result old new nobody rest h a =
    let cut = alone-parts trusted places 0 events h.1.0 h.1.1 old new h.1.2 a in
    let none = never-waited trusted places f pool h.0 h.1.0 old cut.0 nobody rest h.1.3 cut.1 in
    let b : Alone trusted places 0 h.1.1 old new = subst (λ (m : Machine). Alone trusted places 0 h.1.1 m new) none.1 cut.2 in
    elim h.1.4 as (λ _. Sent places pool f.bytes old new result) [
      | inl t ↦ sent-once trusted places f pool result h.1.1 old new nobody rest t.1 b
      | inr more ↦ elim more as (λ _. Sent places pool f.bytes old new result) [
        | inl t ↦ absurd (never-held trusted places f pool (Err t.0) h.1.1 old new nobody rest t.1 b)
        | inr t ↦ (let w : 0 ≡ 2 ^ 64 - 1 = sym none.0 ∙ t.0 in absurd cc)
      ]
    ]
