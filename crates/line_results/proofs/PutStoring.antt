-- The transaction that stores a file with its ticket, where one actor has the machine alone and it was at rest.
use Rattle.std.proofs.Common.{◌≡◌, ◌⊎◌, inl, inr, ℕ, ◌<◌, true, false, List, [], ◌∷◌, ◌++◌, length, append-nil, Option, None, Some, Result, Ok, Err, refl, sym, ap, subst, ◌∙◌}
use Rattle.std.proofs.lemmas.Bool.{eq-eqb}
use Rattle.std.specs.Option.{option_map_or}
use Rattle.sha2.specs.Sha256.{sha256}
use Rattle.kinds.specs.Names.{is_same_name}
use Rattle.kinds.specs.Refusals.{bad_value, foremost, unless}
use Rattle.kinds.specs.ValueForms.{digest_with}
use Rattle.kinds.specs.declared.refusal.Refusal.{Refusal}
use Rattle.kinds.specs.declared.refusal.Refusal.TheVariants as refused
use Rattle.kinds.specs.declared.segment.Digest.{Digest}
use Rattle.entries.specs.declared.change.Change.{Change}
use Rattle.steps.specs.declared.asked.Asked.{Asked}
use Rattle.steps.specs.Calls.{IsStep, Made}
use Rattle.steps.specs.Events.{Event}
use Rattle.steps.specs.Events.Deed.{Commit, DropTicket, Force}
use Rattle.admin_words.specs.declared.files.FilePut.{FilePut}
use Rattle.command_steps.specs.Owns.{row_put}
use Rattle.command_steps.specs.sessions.InTurn.{OrMemory}
use Rattle.command_steps.specs.sessions.Putting as putting
use Rattle.command_steps.specs.sessions.Putting.{GivesBack, behind_drop, is_lasting, unplaced}
use Rattle.machine.specs.Alone.{Alone, with_contents}
use Rattle.machine.specs.Causes.{are_there, change_refused, commit_refused, digest_refused, digests_refused, of_tickets, storing_refused, ticket_in_use}
use Rattle.machine.specs.Changes.{all_tickets}
use Rattle.machine.specs.Machine.{Commits, Forces, Later, Places, asked_change, committed, ended, halting, held_refused, made, stamped, storing_contents}
use Rattle.machine.specs.State.{Core, Machine, Place, Sight, Ticket, is_storing, sight, ticket}
use Rattle.machine.proofs.Answering.{alone-none as own-none}
use Rattle.line_results.specs.Files.{backed_up, contents_with, ticket_of}
use Rattle.line_results.specs.Resting.{Onward, RoseFrom, why_not}
use Rattle.line_results.proofs.PutSteps.{as-onward, gave-back, gone-one, holding, idle, not-given-back}
use Rattle.line_results.proofs.Runs.{Became, Stops, alone-none, as_is, full-or, is-as, late-on, onward-later, onward-then, rose-from, stepped}
use Rattle.line_results.proofs.PutSending.{Either, memory-of}

commit-either : (trusted : Type 0) (places : Places) (asked : Asked) (numbers : List ℕ) (answer : Result ℕ Refusal) (events : List Event) (old new : Machine) → Made (Commit asked numbers answer) events
    → Alone trusted places 0 events old new → Either places (Commit asked numbers answer) old new
commit-either trusted places asked numbers answer events old new (inl h) a =
    let s = stepped trusted places h.0 (Commit asked numbers answer) events old new (λ c seen b. b) (λ c m. refl) h.1 a in inl (s.0, s.1, h.2)
commit-either trusted places asked numbers answer events old new (inr h) a = inr (h.0, alone-none trusted places 0 events old new h.1 a)

pub force-either : (trusted : Type 0) (places : Places) (answer : Result ℕ Refusal) (events : List Event) (old new : Machine) → Made (Force answer) events
    → Alone trusted places 0 events old new → Either places (Force answer) old new
force-either trusted places answer events old new (inl h) a =
    let s = stepped trusted places h.0 (Force answer) events old new (λ c seen b. b) (λ c m. refl) h.1 a in inl (s.0, s.1, h.2)
force-either trusted places answer events old new (inr h) a = inr (h.0, alone-none trusted places 0 events old new h.1 a)

-- ---- what is asked

pub same-self : (xs : List ℕ) → is_same_name xs xs ≡ true
same-self [] = refl
same-self (x ∷ xs) = rw (eq-eqb x x refl) (same-self xs)

-- the file's ticket in the hall that has it
abbrev held : FilePut → Place → Core → Core
held p place c = holding (length p.text) place p.text true c

abbrev digest_put : FilePut → Digest
digest_put p = digest_with (sha256 p.text)

-- what a session asks
abbrev pub asked_put : (filespace : ℕ) → FilePut → (class : List ℕ) → Asked
asked_put filespace p class = putting.backed_up filespace (row_put p) class (digest_put p)

found-own : (p : FilePut) (place : Place) (c : Core) → ticket c.next_ticket (sight 0 (held p place c)).tickets ≡ Some (ticket_of p place c)
found-own p place c = rw (eq-eqb c.next_ticket c.next_ticket refl) refl

one-ticket : (found : Option Ticket) (number : ℕ) (s : Sight) (t : Ticket) → ticket number s.tickets ≡ Some t → all_tickets (number ∷ []) s ≡ t ∷ []
one-ticket found number s t h = rw h refl

own-tickets : (p : FilePut) (place : Place) (c : Core) → all_tickets (c.next_ticket ∷ []) (sight 0 (held p place c)) ≡ ticket_of p place c ∷ []
own-tickets p place c = one-ticket None c.next_ticket (sight 0 (held p place c)) (ticket_of p place c) (found-own p place c)

own-change : (filespace : ℕ) (p : FilePut) (class : List ℕ) (place : Place) (c : Core)
    → asked_change 0 (asked_put filespace p class) (c.next_ticket ∷ []) (held p place c) ≡ Some (backed_up filespace p class place c)
own-change filespace p class place c = rw (own-tickets p place c) refl

-- ---- what refuses it

five : (a b c d e f : List Refusal) → a ≡ [] → b ≡ [] → c ≡ [] → d ≡ [] → e ≡ f → a ++ (b ++ (c ++ (d ++ e))) ≡ f
five a b c d e f p q r s t =
    ap (λ (l : List Refusal). l ++ (b ++ (c ++ (d ++ e)))) p ∙ ap (λ (l : List Refusal). l ++ (c ++ (d ++ e))) q ∙ ap (λ (l : List Refusal). l ++ (d ++ e)) r ∙ ap (λ (l : List Refusal). l ++ e) s ∙ t

there-one : (number : ℕ) (s : Sight) (t : Ticket) → ticket number s.tickets ≡ Some t → are_there (number ∷ []) s ≡ []
there-one number s t h = rw h refl

of-one : (rule : Ticket → List Refusal) (number : ℕ) (s : Sight) (t : Ticket) → ticket number s.tickets ≡ Some t → rule t ≡ [] → of_tickets rule (number ∷ []) s ≡ []
of-one rule number s t h none = rw h (rw none refl)

digests-one : (given : Digest) (number : ℕ) (s : Sight) (t : Ticket) → ticket number s.tickets ≡ Some t → digest_refused given (Some t) ≡ [] → digests_refused (given ∷ []) (number ∷ []) s ≡ []
digests-one given number s t h none = rw h (rw none refl)

storing-one : (given : Digest) (number : ℕ) (s : Sight) (t : Ticket) → ticket number s.tickets ≡ Some t → unless (is_storing t.purpose) bad_value ≡ [] → digest_refused given (Some t) ≡ [] → storing_refused (given ∷ []) (number ∷ []) s ≡ []
storing-one given number s t h is none =
    ap (λ (l : List Refusal). l ++ digests_refused (given ∷ []) (number ∷ []) s) (of-one (λ x. unless (is_storing x.purpose) bad_value) number s t h is) ∙ digests-one given number s t h none

digest-same : (p : FilePut) (place : Place) (c : Core) → digest_refused (digest_put p) (Some (ticket_of p place c)) ≡ []
digest-same p place c = rw (same-self (digest_put p).0) refl

own-refused : (filespace : ℕ) (p : FilePut) (class : List ℕ) (place : Place) (c : Core)
    → commit_refused 0 (asked_put filespace p class) (c.next_ticket ∷ []) (sight 0 (held p place c)) ≡ change_refused 0 (Some (backed_up filespace p class place c)) (sight 0 c)
own-refused filespace p class place c =
    let s : Sight = sight 0 (held p place c) in
    let t : Ticket = ticket_of p place c in
    let is : ticket c.next_ticket s.tickets ≡ Some t = found-own p place c in
    five _ _ _ _ _ _ (there-one c.next_ticket s t is) refl (storing-one (digest_put p) c.next_ticket s t is refl (digest-same p place c))
    (of-one (λ x. unless x.is_sealed (ticket_in_use x.number)) c.next_ticket s t is refl)
    (ap (λ (o : Option Change). change_refused 0 o s) (own-change filespace p class place c))

-- ---- the commit

-- the machine with the new object's bytes, and otherwise as it was
abbrev pub stored_in : FilePut → Place → Machine → Machine
stored_in p place old = with_contents (contents_with p place old) old

-- the core behind the transaction
abbrev pub joined_core : (filespace : ℕ) → FilePut → (class : List ℕ) → Place → Core → Core
joined_core filespace p class place c = made 0 (backed_up filespace p class place c) (idle (length p.text) place c)

-- It joined; or the log failed, which halts the machine; or it is refused, and its ticket is there.
abbrev pub Joined : (filespace : ℕ) → FilePut → (class : List ℕ) → Place → (old new : Machine) → Type 0
Joined filespace p class place old new =
    (why_not (backed_up filespace p class place old.core) old.core ≡ None) × Became (joined_core filespace p class place old.core) (stored_in p place old) new

abbrev pub InDoubt : Core → (old base new : Machine) → Refusal → Type 0
InDoubt c old base new e = (file : ℕ) × (count : ℕ) × (e ≡ refused.LogFault file count) × (file < 4) × RoseFrom old new file × Became (halting file count c) base new

abbrev pub JoinsNot : (filespace : ℕ) → FilePut → (class : List ℕ) → Place → (old new : Machine) → Refusal → Type 0
JoinsNot filespace p class place old new e =
    ((why_not (backed_up filespace p class place old.core) old.core ≡ None) × InDoubt (joined_core filespace p class place old.core) old (stored_in p place old) new e)
    ⊎ (((why_not (backed_up filespace p class place old.core) old.core ≡ Some e) ⊎ Stops new e) × Became (held p place old.core) old new)

spent-core : (filespace : ℕ) (p : FilePut) (class : List ℕ) (place : Place) (c : Core)
    → committed 0 (backed_up filespace p class place c) (c.next_ticket ∷ []) (held p place c) ≡ joined_core filespace p class place c
spent-core filespace p class place c =
    ap (λ (x : Core). made 0 (backed_up filespace p class place c) x) (gone-one c.next_ticket (length p.text) place p.text true c refl)

some-of : {A : Type 0} (a b : A) → Some a ≡ Some b → a ≡ b
some-of a b h = cc

-- the refusals that a commit finds, without those of others
commit-list : (filespace : ℕ) (p : FilePut) (class : List ℕ) (place : Place) (old : Machine) (first : List Refusal)
    → first ++ (commit_refused 0 (asked_put filespace p class) (old.core.next_ticket ∷ []) (sight 0 (held p place old.core))
    ++ option_map_or (λ change. held_refused change (held p place old.core)) (asked_change 0 (asked_put filespace p class) (old.core.next_ticket ∷ []) (held p place old.core)) [])
    ≡ first ++ change_refused 0 (Some (backed_up filespace p class place old.core)) (sight 0 old.core)
commit-list filespace p class place old first =
    let c : Core = held p place old.core in
    let own : List Refusal = change_refused 0 (Some (backed_up filespace p class place old.core)) (sight 0 old.core) in
    ap (λ (o : Option Change). first ++ (commit_refused 0 (asked_put filespace p class) (old.core.next_ticket ∷ []) (sight 0 c) ++ option_map_or (λ change. held_refused change c) o []))
    (own-change filespace p class place old.core)
    ∙ ap (λ (l : List Refusal). first ++ l) (append-nil (commit_refused 0 (asked_put filespace p class) (old.core.next_ticket ∷ []) (sight 0 c)) ∙ own-refused filespace p class place old.core)

joins : (filespace : ℕ) (p : FilePut) (class : List ℕ) (place : Place) (number : ℕ) (old mid new : Machine) → Became (held p place old.core) old mid → Later mid new
    → Commits 0 (asked_put filespace p class) (old.core.next_ticket ∷ []) mid new (Ok number) → Joined filespace p class place old new
joins filespace p class place number old mid new b later h =
    let c : Core = held p place old.core in
    let m : Machine = as_is c old mid in
    let it : Change = backed_up filespace p class place old.core in
    let at : Later m new × Commits 0 (asked_put filespace p class) (old.core.next_ticket ∷ []) m new (Ok number) =
    subst (λ (x : Machine). Later x new × Commits 0 (asked_put filespace p class) (old.core.next_ticket ∷ []) x new (Ok number)) (is-as c old mid b) (later, h) in
    let none : why_not it old.core ≡ None = own-none (ended m) _ (ap foremost (sym (commit-list filespace p class place old (ended m))) ∙ at.1.0) in
    let change : Change = at.1.1.0 in
    let same : change ≡ it = some-of change it (sym at.1.1.1 ∙ own-change filespace p class place old.core) in
    let left = at.1.1.3 in
    let core : new.core ≡ joined_core filespace p class place old.core =
    left.0 ∙ ap (λ (x : Change). committed 0 x (old.core.next_ticket ∷ []) c) same ∙ spent-core filespace p class place old.core in
    let contents : new.contents ≡ contents_with p place old = left.1 ∙ ap (λ (ts : List Ticket). storing_contents ts old.contents) (own-tickets p place old.core) in
    (none, record { core = core; contents = contents; onward = (let o : Onward old new = onward-then old m new (as-onward c old mid b) (onward-later m new at.0) in record { counts = o.counts; since = o.since }) })

joins-not : (filespace : ℕ) (p : FilePut) (class : List ℕ) (place : Place) (e : Refusal) (old mid new : Machine) → old.core.fault ≡ None → Became (held p place old.core) old mid → Later mid new
    → Commits 0 (asked_put filespace p class) (old.core.next_ticket ∷ []) mid new (Err e) → JoinsNot filespace p class place old new e
joins-not filespace p class place e old mid new none b later h =
    let c : Core = held p place old.core in
    let m : Machine = as_is c old mid in
    let it : Change = backed_up filespace p class place old.core in
    let at : Later m new × Commits 0 (asked_put filespace p class) (old.core.next_ticket ∷ []) m new (Err e) =
    subst (λ (x : Machine). Later x new × Commits 0 (asked_put filespace p class) (old.core.next_ticket ∷ []) x new (Err e)) (is-as c old mid b) (later, h) in
    let on : Onward old new = onward-then old m new (as-onward c old mid b) (onward-later m new at.0) in
    elim at.1 as (λ _. JoinsNot filespace p class place old new e) [
      | inl s ↦ (let stays : Became c old new = record { core = s.1.core; contents = s.1.contents; onward = on } in
          elim s.0 as (λ _. JoinsNot filespace p class place old new e) [
            | inl w ↦ elim (full-or m (change_refused 0 (Some it) (sight 0 old.core)) e none (ap foremost (sym (commit-list filespace p class place old (ended m))) ∙ w)) as (λ _. JoinsNot filespace p class place old new e) [
              | inl f ↦ inr (inr (inl (f.0, late-on m new (onward-later m new at.0) f.1)), stays)
              | inr own ↦ inr (inl own, stays)
            ]
            | inr memory ↦ inr (inr (inr memory), stays)
          ])
      | inr s ↦ (let why : why_not it old.core ≡ None = own-none (ended m) _ (ap foremost (sym (commit-list filespace p class place old (ended m))) ∙ s.0) in
          let d = s.1 in
          let same : d.0 ≡ it = some-of d.0 it (sym d.3 ∙ own-change filespace p class place old.core) in
          let left = d.6 in
          let core : new.core ≡ halting d.1 d.2 (joined_core filespace p class place old.core) =
          left.0 ∙ ap (λ (x : Change). halting d.1 d.2 (committed 0 x (old.core.next_ticket ∷ []) c)) same ∙ ap (λ (x : Core). halting d.1 d.2 x) (spent-core filespace p class place old.core) in
          let contents : new.contents ≡ contents_with p place old = left.1 ∙ ap (λ (ts : List Ticket). storing_contents ts old.contents) (own-tickets p place old.core) in
          inl (why, (d.1, d.2, d.4, d.5.0, rose-from old m new d.1 (as-onward c old mid b) d.5.1, record { core = core; contents = contents; onward = record { counts = on.counts; since = on.since } })))
    ]

-- ---- the force behind it

-- all is durable; or the log failed; or it wasn't forced
abbrev pub Forced : Core → (base new : Machine) → Type 0
Forced c base new = (moment : ℕ) × Became (stamped moment c) base new

abbrev pub ForcedNot : Core → (old base new : Machine) → Refusal → Type 0
ForcedNot c old base new e = InDoubt c old base new e ⊎ (Stops new e × Became c base new)

pub forced : (c : Core) (last : ℕ) (base mid new : Machine) → Became c base mid → Later mid new → Forces 0 mid new (Ok last) → Forced c base new
forced c last base mid new b later h =
    let m : Machine = as_is c base mid in
    let at : Later m new × Forces 0 m new (Ok last) = subst (λ (x : Machine). Later x new × Forces 0 x new (Ok last)) (is-as c base mid b) (later, h) in
    (new.moment, record { core = at.1.1.1.core; contents = at.1.1.1.contents; onward = onward-then base m new (as-onward c base mid b) (onward-later m new at.0) })

-- `old` has the counts of `base`
pub not-forced : (c : Core) (e : Refusal) (old base mid new : Machine) → c.fault ≡ None → Onward old base → Became c base mid → Later mid new → Forces 0 mid new (Err e) → ForcedNot c old base new e
not-forced c e old base mid new none low b later h =
    let m : Machine = as_is c base mid in
    let at : Later m new × Forces 0 m new (Err e) = subst (λ (x : Machine). Later x new × Forces 0 x new (Err e)) (is-as c base mid b) (later, h) in
    let on : Onward base new = onward-then base m new (as-onward c base mid b) (onward-later m new at.0) in
    elim at.1 as (λ _. ForcedNot c old base new e) [
      | inl s ↦ (let stays : Became c base new = record { core = s.1.core; contents = s.1.contents; onward = on } in
          elim s.0 as (λ _. ForcedNot c old base new e) [
            | inl w ↦ elim (full-or m [] e none (ap foremost (append-nil (ended m)) ∙ w)) as (λ _. ForcedNot c old base new e) [
              | inl f ↦ inr (inl (f.0, late-on m new (onward-later m new at.0) f.1), stays)
              | inr f ↦ absurd cc
            ]
            | inr memory ↦ inr (inr memory, stays)
          ])
      | inr s ↦ (let d = s.1 in
          inl (d.0, d.1, d.2, d.3.0, rose-from old m new d.0 (onward-then old base m low (as-onward c base mid b)) d.3.1, record { core = d.4.core; contents = d.4.contents; onward = on }))
    ]

-- ---- the ticket is given back behind a refusal

-- It is back, and what the session answers is what stands for the refusal; or that was refused for want of memory or a full run, or couldn't be.
abbrev pub Back : FilePut → Place → (why e : Refusal) → (old mid new : Machine) → Type 0
Back p place why e old mid new =
    ((is_lasting why ≡ true) × (e ≡ unplaced why) × (new ≡ mid))
    ⊎ ((is_lasting why ≡ false) × (e ≡ unplaced why) × Became (idle (length p.text) place old.core) old new)
    ⊎ ((is_lasting why ≡ false) × Stops new e × Became (held p place old.core) old new)

pub gives-back : (trusted : Type 0) (places : Places) (p : FilePut) (place : Place) (why e : Refusal) (events : List Event) (old mid new : Machine) → old.core.fault ≡ None
    → GivesBack old.core.next_ticket why events e → (is_lasting why ≡ false → Became (held p place old.core) old mid) → Alone trusted places 0 events mid new → Back p place why e old mid new
gives-back trusted places p place why e events old mid new none (inl g) b a = inl (g.0, g.2, alone-none trusted places 0 events mid new g.1 a)
gives-back trusted places p place why e events old mid new none (inr g) b a =
    let there : Became (held p place old.core) old mid = b g.0 in
    elim g.1 as (λ (answer : Result (Unit {0}) Refusal). IsStep (DropTicket old.core.next_ticket answer) events → e ≡ behind_drop why answer → Back p place why e old mid new) [
      | Ok done ↦ λ step said.
          (let s = stepped trusted places step.0 (DropTicket old.core.next_ticket (Ok tt)) events mid new (λ c seen x. x) (λ c m. refl) step.1 a in
          let left : Became (idle (length p.text) place old.core) old new = gave-back old.core.next_ticket (length p.text) place p.text true old mid new refl there s.0 s.1 in
          let it : e ≡ unplaced why = said in
          inr (inl (g.0, it, left)))
      | Err other ↦ λ step said.
          (let s = stepped trusted places step.0 (DropTicket old.core.next_ticket (Err other)) events mid new (λ c seen x. x) (λ c m. refl) step.1 a in
          let left = not-given-back old.core.next_ticket (length p.text) place p.text true other old mid new none there s.0 s.1 in
          let stops : Stops new e = subst (λ (x : Refusal). Stops new x) (sym said) left.0 in
          inr (inr (g.0, stops, left.1)))
    ] g.2 g.3

-- ---- the session's calls

pub commits-ok : (trusted : Type 0) (places : Places) (filespace : ℕ) (p : FilePut) (class : List ℕ) (place : Place) (number : ℕ) (events : List Event) (old mid new : Machine) → Became (held p place old.core) old mid
    → OrMemory (putting.CommitsOne (asked_put filespace p class) old.core.next_ticket) events (Ok number) → Alone trusted places 0 events mid new → Joined filespace p class place old new
commits-ok trusted places filespace p class place number events old mid new b (inl h) a =
    elim (commit-either trusted places (asked_put filespace p class) (old.core.next_ticket ∷ []) (Ok number) events mid new h a) as (λ _. Joined filespace p class place old new) [
      | inl s ↦ joins filespace p class place number old mid new b s.0 s.1
      | inr s ↦ absurd cc
    ]
commits-ok trusted places filespace p class place number events old mid new b (inr h) a = absurd cc

wanted : (filespace : ℕ) (p : FilePut) (class : List ℕ) (place : Place) (e : Refusal) (old mid new : Machine) → Became (held p place old.core) old mid → e ≡ refused.Memory → new ≡ mid
    → JoinsNot filespace p class place old new e
wanted filespace p class place e old mid new b memory same = inr (inr (inr memory), subst (λ (m : Machine). Became (held p place old.core) old m) (sym same) b)

err-memory : (e : Refusal) (r : Result ℕ Refusal) → r ≡ Err e → r ≡ Err refused.Memory → e ≡ refused.Memory
err-memory e r h k = cc

pub commits-err : (trusted : Type 0) (places : Places) (filespace : ℕ) (p : FilePut) (class : List ℕ) (place : Place) (e : Refusal) (events : List Event) (old mid new : Machine) → old.core.fault ≡ None
    → Became (held p place old.core) old mid → OrMemory (putting.CommitsOne (asked_put filespace p class) old.core.next_ticket) events (Err e) → Alone trusted places 0 events mid new
    → JoinsNot filespace p class place old new e
commits-err trusted places filespace p class place e events old mid new none b (inl h) a =
    elim (commit-either trusted places (asked_put filespace p class) (old.core.next_ticket ∷ []) (Err e) events mid new h a) as (λ _. JoinsNot filespace p class place old new e) [
      | inl s ↦ joins-not filespace p class place e old mid new none b s.0 s.1
      | inr s ↦ wanted filespace p class place e old mid new b (memory-of e s.0) s.1
    ]
commits-err trusted places filespace p class place e events old mid new none b (inr h) a =
    wanted filespace p class place e old mid new b (err-memory e (Err e) refl h.1) (alone-none trusted places 0 events mid new h.0 a)

-- the ticket is there where it may be given back
pub still-held : (filespace : ℕ) (p : FilePut) (class : List ℕ) (place : Place) (why : Refusal) (old mid : Machine) → JoinsNot filespace p class place old mid why → is_lasting why ≡ false
    → Became (holding (length p.text) place p.text true old.core) old mid
still-held filespace p class place why old mid (inl j) not = (let w : is_lasting (refused.LogFault j.1.0 j.1.1) ≡ false = subst (λ (x : Refusal). is_lasting x ≡ false) j.1.2 not in absurd cc)
still-held filespace p class place why old mid (inr j) not = j.1

pub forces-ok : (trusted : Type 0) (places : Places) (c : Core) (last : ℕ) (events : List Event) (base mid new : Machine) → Became c base mid → Made (Force (Ok last)) events → Alone trusted places 0 events mid new
    → Forced c base new
forces-ok trusted places c last events base mid new b h a = elim (force-either trusted places (Ok last) events mid new h a) as (λ _. Forced c base new) [
  | inl s ↦ forced c last base mid new b s.0 s.1
  | inr s ↦ absurd cc
]

pub forces-err : (trusted : Type 0) (places : Places) (c : Core) (e : Refusal) (events : List Event) (old base mid new : Machine) → c.fault ≡ None → Onward old base → Became c base mid → Made (Force (Err e)) events
    → Alone trusted places 0 events mid new → ForcedNot c old base new e
forces-err trusted places c e events old base mid new none low b h a = elim (force-either trusted places (Err e) events mid new h a) as (λ _. ForcedNot c old base new e) [
  | inl s ↦ not-forced c e old base mid new none low b s.0 s.1
  | inr s ↦ inr (inr (memory-of e s.0), subst (λ (m : Machine). Became c base m) (sym s.1) b)
]
