-- What each step of the machine leaves, as the actor has it then, and that it leaves what others have.
use Rattle.std.proofs.Common.{◌≡◌, ◌⊎◌, inl, inr, ℕ, ◌+◌, ◌||◌, Bool, true, false, Contains, List, [], ◌∷◌, ◌++◌, length, is_some, Option, Some, None, Result, Ok, Err, refl, sym, ap, subst, ◌∙◌, if◌then◌else◌}
use Rattle.std.proofs.lemmas.List.{append-nil}
use Rattle.kinds.specs.Refusals.{foremost}
use Rattle.kinds.specs.declared.refusal.Refusal.{Refusal}
use Rattle.kinds.specs.declared.refusal.Refusal.TheVariants as refusal
use Rattle.kinds.specs.declared.segment.Digest.{Digest}
use Rattle.steps.specs.entries.declared.change.Change.{Change}
use Rattle.steps.specs.entries.declared.change.Change.TheVariants as change
use Rattle.steps.specs.entries.declared.entry.Entry.{Entry}
use Rattle.steps.specs.inventory_answers.declared.query.Query.{Query}
use Rattle.steps.specs.inventory_answers.declared.reply.Answer.{Answer}
use Rattle.steps.specs.inventory_rows.State.{Inv}
use Rattle.steps.specs.space.declared.aim.Aim.{Aim}
use Rattle.steps.specs.space.Placing.{walked}
use Rattle.steps.specs.declared.asked.Asked.{Asked}
use Rattle.steps.specs.declared.image.ImageKind.{ImageKind}
use Rattle.steps.specs.declared.image.ImageKind.TheVariants as image
use Rattle.steps.specs.declared.image.ImageReply.{ImageReply}
use Rattle.steps.specs.declared.image.ImageReply.TheVariants as reply
use Rattle.steps.specs.Events.{Deed}
use Rattle.steps.specs.Events.Deed.{OpenNew, OpenCopy, WritePiece, CopyPiece, Seal, Commit, DropTicket, ReadPiece, Ask, Image, Reuse, Force}
use Rattle.machine.specs.Causes.{copying_refused, image_refused, seal_refused, write_refused}
use Rattle.machine.specs.Fits.{ImageAfter, IsCopying, IsEnd, IsOpened, IsStoring, Joined, TicketsAfter, TicketsRefused, drops_image, is_log_fault, is_write_fault, picture_of}
use Rattle.machine.specs.Laws.{GoesWhereAimed}
use Rattle.machine.specs.Machine.{BackupBegun, Becomes, Case, CheckpointBegun, CheckpointFails, Commits, Continues, CopiesPiece, Drops, DropsTicket, Forces, GoesOn, Images, IsPlaced, OpensCopy, OpensNew, Places, Space, Reads, Asks, Reuses, Seals, Stays, StopsShort, WritesPiece, BeginsBackup, BeginsCheckpoint, WroteMore, begun, can_place_copy, ended, halting, image_file, in_progress, made, next_count, size_of, space, stamped, with_image, with_tickets}
use Rattle.machine.specs.Pieces.{piece}
use Rattle.machine.specs.State.{Core, Image as Picture, Machine, Place, Ticket, backup, checkpoint, copying, inventory, object_of, own_image, own_tickets, sealing, sight, storing, taking, without}
use Rattle.machine.proofs.Elsewhere.{append-none, none-held}
use Rattle.machine.proofs.Mild.{mild-answered, mild-copy, mild-next, mild-seal, mild-write}
use Rattle.machine.proofs.Pictures.{none-begun, others-begun, others-none, own-begun, own-is}
use Rattle.machine.proofs.Tickets.{others-push, others-sealing, others-taking, others-without, own-push, own-sealing, own-taking, own-without}

-- what joins, as a list
abbrev pub entries_of : ℕ → Option Change → List Entry
entries_of actor None = []
entries_of actor (Some c) = record { actor = actor; change = c } ∷ []

-- the step as its actor sees it, and that no other actor's tickets and image change
pub record Moved (actor : ℕ) (contents : ℕ → List ℕ) (deed : Deed) (old new : Core) : Type 0 where
  pub joined : Option Change
  pub base : new.base ≡ old.base
  pub journal : new.journal ≡ old.journal ++ entries_of actor joined
  pub joins : Joined (sight actor old) deed joined
  pub tickets : TicketsAfter actor contents (sight actor old) deed (own_tickets actor new.tickets)
  pub image : ImageAfter (sight actor old) deed (own_image actor new.image)
  pub others : (other : ℕ) → (other ≡ actor → ⊥) → own_tickets other new.tickets ≡ own_tickets other old.tickets
  pub other_image : (other : ℕ) → (other ≡ actor → ⊥) → own_image other new.image ≡ own_image other old.image

abbrev Leads : ℕ → Deed → Machine → Machine → Type 0
Leads actor deed old new = Moved actor old.contents deed old.core new.core

-- nothing joined, and only tickets changed
only-tickets : (actor : ℕ) (contents : ℕ → List ℕ) (deed : Deed) (old new : Core) → new.base ≡ old.base → new.journal ≡ old.journal → new.image ≡ old.image
    → Joined (sight actor old) deed None → TicketsAfter actor contents (sight actor old) deed (own_tickets actor new.tickets) → ImageAfter (sight actor old) deed (own_image actor old.image)
    → ((other : ℕ) → (other ≡ actor → ⊥) → own_tickets other new.tickets ≡ own_tickets other old.tickets) → Moved actor contents deed old new
only-tickets actor contents deed old new base journal image joins tickets after others = record {
  joined = None;
  base = base;
  journal = journal ∙ sym (append-nil old.journal);
  joins = joins;
  tickets = tickets;
  image = subst (λ (i : Option Picture). ImageAfter (sight actor old) deed (own_image actor i)) (sym image) after;
  others = others;
  other_image = λ other n. ap (own_image other) image;
}

-- nothing changed
stays-led : (actor : ℕ) (deed : Deed) (old new : Machine) → Stays old new → Joined (sight actor old.core) deed None
    → TicketsAfter actor old.contents (sight actor old.core) deed (own_tickets actor old.core.tickets) → ImageAfter (sight actor old.core) deed (own_image actor old.core.image) → Leads actor deed old new
stays-led actor deed old new h joins tickets image =
    subst (λ (c : Core). Moved actor old.contents deed old.core c) (sym h.core)
    (only-tickets actor old.contents deed old.core old.core refl refl refl joins tickets image (λ other n. refl))

-- ---- space

opens-new : (places : Places) (actor number size prefer : ℕ) (old new : Machine) (answer : Result ℕ Refusal) → OpensNew places actor number size prefer old new answer
    → Leads actor (OpenNew number size prefer answer) old new
opens-new places actor number size prefer old new (Ok it) h =
    let d = h.2.1 in
    let t : Ticket = record { number = old.core.next_ticket; actor = actor; purpose = storing old.core.next_object; size = size; place = d.0; bytes = []; is_sealed = false } in
    subst (λ (c : Core). Moved actor old.contents (OpenNew number size prefer (Ok it)) old.core c) (sym d.3.core)
    (only-tickets actor old.contents (OpenNew number size prefer (Ok it)) old.core _ refl refl refl tt
    (subst (λ (n : ℕ). IsOpened actor n size IsStoring (own_tickets actor old.core.tickets) (own_tickets actor (old.core.tickets ++ t ∷ []))) (sym d.2)
    (storing old.core.next_object, d.0, (old.core.next_object, refl), own-push actor old.core.tickets t refl))
    refl (λ other n. others-push other old.core.tickets t (λ (s : actor ≡ other). n (sym s))))
opens-new places actor number size prefer old new (Err e) h = elim h.2 as (λ _. Leads actor (OpenNew number size prefer (Err e)) old new) [
  | inl s ↦ stays-led actor (OpenNew number size prefer (Err e)) old new s.1 tt refl refl
  | inr f ↦ absurd f.1
]

-- placing was asked, where it can be, and what it answered goes where it was aimed
placed-where : (places : Places) → GoesWhereAimed places → (can : Bool) (v : Inv) (s : Space) (actor size : ℕ) (a : Aim) (avoid : ℕ) (placed : Result Place Refusal) (place : Place)
    → IsPlaced can (places v s actor size a 0 avoid) placed → placed ≡ Ok place → Contains (walked a v.stores) place.pool
placed-where places goes true v s actor size a avoid placed place h is = goes v s actor size a 0 avoid place (subst (places v s actor size a 0 avoid) is h)
placed-where places goes false v s actor size a avoid placed place h is = let never : Err refusal.NotFound ≡ Ok place = sym h ∙ is in absurd cc

opens-copy : (places : Places) → GoesWhereAimed places → (actor object : ℕ) (a : Aim) (avoid : ℕ) (old new : Machine) (answer : Result ℕ Refusal) → OpensCopy places actor object a avoid old new answer
    → Leads actor (OpenCopy object a avoid answer) old new
opens-copy places goes actor object a avoid old new (Ok it) h =
    let d = h.2.1 in
    let t : Ticket = record { number = old.core.next_ticket; actor = actor; purpose = copying object a; size = size_of object (inventory old.core); place = d.0; bytes = []; is_sealed = false } in
    subst (λ (c : Core). Moved actor old.contents (OpenCopy object a avoid (Ok it)) old.core c) (sym d.3.core)
    (only-tickets actor old.contents (OpenCopy object a avoid (Ok it)) old.core _ refl refl refl tt
    (subst (λ (n : ℕ). IsOpened actor n (size_of object (inventory old.core)) (IsCopying object a (inventory old.core)) (own_tickets actor old.core.tickets) (own_tickets actor (old.core.tickets ++ t ∷ []))) (sym d.2) (
      copying object a,
      d.0,
      (refl, placed-where places goes (can_place_copy object a (inventory old.core)) (inventory old.core) (space old.core) actor (size_of object (inventory old.core)) a avoid h.0 d.0 h.1 d.1),
      own-push actor old.core.tickets t refl,
    ))
    refl (λ other n. others-push other old.core.tickets t (λ (s : actor ≡ other). n (sym s))))
opens-copy places goes actor object a avoid old new (Err e) h = elim h.2 as (λ _. Leads actor (OpenCopy object a avoid (Err e)) old new) [
  | inl s ↦ stays-led actor (OpenCopy object a avoid (Err e)) old new s.1 tt refl refl
  | inr f ↦ absurd f.1
]

-- ---- pieces

with-tickets : (actor : ℕ) (deed : Deed) (old new : Machine) (tickets : List Ticket) → Becomes (with_tickets tickets old.core) old new
    → Joined (sight actor old.core) deed None → TicketsAfter actor old.contents (sight actor old.core) deed (own_tickets actor tickets)
    → ImageAfter (sight actor old.core) deed (own_image actor old.core.image)
    → ((other : ℕ) → (other ≡ actor → ⊥) → own_tickets other tickets ≡ own_tickets other old.core.tickets) → Leads actor deed old new
with-tickets actor deed old new tickets h joins after image others =
    subst (λ (c : Core). Moved actor old.contents deed old.core c) (sym h.core)
    (only-tickets actor old.contents deed old.core (with_tickets tickets old.core) refl refl refl joins after image others)

-- the tickets behind a refusal that isn't a write fault
mild-tickets : (actor number : ℕ) (e : Refusal) (tickets : List Ticket) → is_write_fault e ≡ false → TicketsRefused actor number e tickets tickets
mild-tickets actor number e tickets h = sym (ap (λ (b : Bool). if b then without actor (number ∷ []) tickets else tickets) h)

dropped-tickets : (actor number : ℕ) (e : Refusal) (tickets : List Ticket) → is_write_fault e ≡ true → TicketsRefused actor number e (own_tickets actor tickets) (own_tickets actor (without actor (number ∷ []) tickets))
dropped-tickets actor number e tickets h =
    own-without actor (number ∷ []) tickets ∙ sym (ap (λ (b : Bool). if b then without actor (number ∷ []) (own_tickets actor tickets) else own_tickets actor tickets) h)

is-write-fault : (e : Refusal) (file : ℕ) → e ≡ refusal.WriteFault file → is_write_fault e ≡ true
is-write-fault e file h = subst (λ x. is_write_fault x ≡ true) (sym h) refl

is-log-fault : (e : Refusal) (file count : ℕ) → e ≡ refusal.LogFault file count → is_log_fault e ≡ true
is-log-fault e file count h = subst (λ x. is_log_fault x ≡ true) (sym h) refl

drops-ticket : (actor number : ℕ) (deed : Deed) (old new : Machine) (e : Refusal) → DropsTicket actor number old e new
    → Joined (sight actor old.core) deed None → ImageAfter (sight actor old.core) deed (own_image actor old.core.image)
    → (TicketsRefused actor number e (own_tickets actor old.core.tickets) (own_tickets actor (without actor (number ∷ []) old.core.tickets)) → TicketsAfter actor old.contents (sight actor old.core) deed (own_tickets actor (without actor (number ∷ []) old.core.tickets)))
    → Leads actor deed old new
drops-ticket actor number deed old new e h joins image is =
    with-tickets actor deed old new (without actor (number ∷ []) old.core.tickets) h.6 joins (is (dropped-tickets actor number e old.core.tickets (is-write-fault e h.1 h.4))) image
    (λ other n. others-without actor other (number ∷ []) old.core.tickets n)

writes : (actor number : ℕ) (bytes : List ℕ) (old new : Machine) (answer : Result ℕ Refusal) → WritesPiece actor number bytes old new answer → Leads actor (WritePiece number bytes answer) old new
writes actor number bytes old new (Ok count) h =
    with-tickets actor (WritePiece number bytes (Ok count)) old new (taking actor number bytes old.core.tickets) h.1.3 tt (own-taking actor number bytes old.core.tickets) refl
    (λ other n. others-taking actor other number bytes old.core.tickets n)
writes actor number bytes old new (Err e) h = elim h as (λ _. Leads actor (WritePiece number bytes (Err e)) old new) [
  | inl s ↦ stays-led actor (WritePiece number bytes (Err e)) old new s.1 tt
      (mild-tickets actor number e (own_tickets actor old.core.tickets) (mild-answered (ended old ++ write_refused number (length bytes) (sight actor old.core)) e (mild-write old number (length bytes) (sight actor old.core)) s.0)) refl
  | inr f ↦ drops-ticket actor number (WritePiece number bytes (Err e)) old new e f.1 tt refl (λ r. r)
]

copies : (actor number : ℕ) (old new : Machine) (answer : Result ℕ Refusal) → CopiesPiece actor number old new answer → Leads actor (CopyPiece number answer) old new
copies actor number old new (Ok count) h =
    let t : Ticket = h.1.0 in
    let bytes : List ℕ = piece (length t.bytes) (next_count t) (old.contents (object_of t.purpose)) in
    with-tickets actor (CopyPiece number (Ok count)) old new (taking actor number bytes old.core.tickets) h.1.3.1 tt (t, h.1.1, own-taking actor number bytes old.core.tickets) refl
    (λ other n. others-taking actor other number bytes old.core.tickets n)
copies actor number old new (Err e) h = elim h as (λ _. Leads actor (CopyPiece number (Err e)) old new) [
  | inl s ↦ stays-led actor (CopyPiece number (Err e)) old new s.1 tt
      (mild-tickets actor number e (own_tickets actor old.core.tickets) (mild-answered (ended old ++ copying_refused number (sight actor old.core)) e (mild-copy old number (sight actor old.core)) s.0)) refl
  | inr f ↦ elim f.1 as (λ _. Leads actor (CopyPiece number (Err e)) old new) [
    | inl u ↦ stays-led actor (CopyPiece number (Err e)) old new u.4 tt (mild-tickets actor number e (own_tickets actor old.core.tickets) (subst (λ x. is_write_fault x ≡ false) (sym u.2) refl)) refl
    | inr d ↦ drops-ticket actor number (CopyPiece number (Err e)) old new e d tt refl (λ r. r)
  ]
]

seals : (actor number : ℕ) (old new : Machine) (answer : Result (Unit {0}) Refusal) → Seals actor number old new answer → Leads actor (Seal number answer) old new
seals actor number old new (Ok done) h =
    with-tickets actor (Seal number (Ok done)) old new (sealing actor number old.core.tickets) h.1 tt (own-sealing actor number old.core.tickets) refl
    (λ other n. others-sealing actor other number old.core.tickets n)
seals actor number old new (Err e) h = elim h as (λ _. Leads actor (Seal number (Err e)) old new) [
  | inl s ↦ stays-led actor (Seal number (Err e)) old new s.1 tt
      (mild-tickets actor number e (own_tickets actor old.core.tickets) (mild-answered (ended old ++ seal_refused number (sight actor old.core)) e (mild-seal old number (sight actor old.core)) s.0)) refl
  | inr f ↦ drops-ticket actor number (Seal number (Err e)) old new e f.1 tt refl (λ r. r)
]

-- ---- transactions

commits : (actor : ℕ) (asked : Asked) (numbers : List ℕ) (old new : Machine) (answer : Result ℕ Refusal) → Commits actor asked numbers old new answer → Leads actor (Commit asked numbers answer) old new
commits actor asked numbers old new (Ok number) h =
    let d = h.1 in
    subst (λ (c : Core). Moved actor old.contents (Commit asked numbers (Ok number)) old.core c) (sym d.3.0) (record {
      joined = Some d.0;
      base = refl;
      journal = refl;
      joins = d.1;
      tickets = own-without actor numbers old.core.tickets;
      image = refl;
      others = λ other n. others-without actor other numbers old.core.tickets n;
      other_image = λ other n. refl;
    })
commits actor asked numbers old new (Err e) h = elim h as (λ _. Leads actor (Commit asked numbers (Err e)) old new) [
  | inl s ↦ stays-led actor (Commit asked numbers (Err e)) old new s.1 (inl tt) (inl refl) refl
  | inr f ↦ (let d = f.1 in
      subst (λ (c : Core). Moved actor old.contents (Commit asked numbers (Err e)) old.core c) (sym d.6.0) (record {
        joined = Some d.0;
        base = refl;
        journal = refl;
        joins = inr (is-log-fault e d.1 d.2 d.4, d.3);
        tickets = inr (is-log-fault e d.1 d.2 d.4, own-without actor numbers old.core.tickets);
        image = refl;
        others = λ other n. others-without actor other numbers old.core.tickets n;
        other_image = λ other n. refl;
      }))
]

drops : (actor number : ℕ) (old new : Machine) (answer : Result (Unit {0}) Refusal) → Drops actor number old new answer → Leads actor (DropTicket number answer) old new
drops actor number old new (Ok done) h =
    with-tickets actor (DropTicket number (Ok done)) old new (without actor (number ∷ []) old.core.tickets) h.1 tt (own-without actor (number ∷ []) old.core.tickets) refl
    (λ other n. others-without actor other (number ∷ []) old.core.tickets n)
drops actor number old new (Err e) h = elim h as (λ _. Leads actor (DropTicket number (Err e)) old new) [
  | inl s ↦ stays-led actor (DropTicket number (Err e)) old new s.1 tt refl refl
  | inr f ↦ absurd f.1
]

reads : (actor object : ℕ) (kept : Digest) (from offset wanted : ℕ) (old new : Machine) (answer : Result (List ℕ) Refusal) → Reads actor object kept from offset wanted old new answer
    → Leads actor (ReadPiece object kept from offset wanted answer) old new
reads actor object kept from offset wanted old new (Ok bytes) h = stays-led actor (ReadPiece object kept from offset wanted (Ok bytes)) old new h.1.2 tt refl refl
reads actor object kept from offset wanted old new (Err e) h = elim h as (λ _. Leads actor (ReadPiece object kept from offset wanted (Err e)) old new) [
  | inl s ↦ stays-led actor (ReadPiece object kept from offset wanted (Err e)) old new s.1 tt refl refl
  | inr f ↦ stays-led actor (ReadPiece object kept from offset wanted (Err e)) old new f.1.2 tt refl refl
]

asks : (actor : ℕ) (query : Query) (old new : Machine) (answer : Result Answer Refusal) → Asks actor query old new answer → Leads actor (Ask query answer) old new
asks actor query old new (Ok told) h = stays-led actor (Ask query (Ok told)) old new h.1.1 tt refl refl
asks actor query old new (Err e) h = elim h as (λ _. Leads actor (Ask query (Err e)) old new) [
  | inl s ↦ stays-led actor (Ask query (Err e)) old new s.1 tt refl refl
  | inr f ↦ absurd f.1
]

-- a transaction joins, and tickets and image stay
joining : (actor : ℕ) (deed : Deed) (old : Machine) (left new : Core) (c : Change) → new ≡ left → left.base ≡ old.core.base → left.journal ≡ old.core.journal ++ entries_of actor (Some c)
    → left.tickets ≡ old.core.tickets → left.image ≡ old.core.image → Joined (sight actor old.core) deed (Some c)
    → TicketsAfter actor old.contents (sight actor old.core) deed (own_tickets actor old.core.tickets) → ImageAfter (sight actor old.core) deed (own_image actor old.core.image)
    → Moved actor old.contents deed old.core new
joining actor deed old left new c is base journal tickets image joins after picture =
    subst (λ (x : Core). Moved actor old.contents deed old.core x) (sym is) (record {
      joined = Some c;
      base = base;
      journal = journal;
      joins = joins;
      tickets = subst (λ (ts : List Ticket). TicketsAfter actor old.contents (sight actor old.core) deed (own_tickets actor ts)) (sym tickets) after;
      image = subst (λ (i : Option Picture). ImageAfter (sight actor old.core) deed (own_image actor i)) (sym image) picture;
      others = λ other n. ap (own_tickets other) tickets;
      other_image = λ other n. ap (own_image other) image;
    })

-- no transaction joins, and tickets and image stay
standing : (actor : ℕ) (deed : Deed) (old : Machine) (left new : Core) → new ≡ left → left.base ≡ old.core.base → left.journal ≡ old.core.journal
    → left.tickets ≡ old.core.tickets → left.image ≡ old.core.image → Joined (sight actor old.core) deed None
    → TicketsAfter actor old.contents (sight actor old.core) deed (own_tickets actor old.core.tickets) → ImageAfter (sight actor old.core) deed (own_image actor old.core.image)
    → Moved actor old.contents deed old.core new
standing actor deed old left new is base journal tickets image joins after picture =
    subst (λ (x : Core). Moved actor old.contents deed old.core x) (sym is)
    (only-tickets actor old.contents deed old.core left base journal image joins
    (subst (λ (ts : List Ticket). TicketsAfter actor old.contents (sight actor old.core) deed (own_tickets actor ts)) (sym tickets) after) picture (λ other n. ap (own_tickets other) tickets))

reuses : (actor file : ℕ) (old new : Machine) (answer : Result ℕ Refusal) → Reuses actor file old new answer → Leads actor (Reuse file answer) old new
reuses actor file old new (Ok number) h =
    joining actor (Reuse file (Ok number)) old (stamped new.moment (made actor (change.Reuse file) old.core)) new.core (change.Reuse file) h.1.1.core refl refl refl refl refl refl refl
reuses actor file old new (Err e) h = elim h as (λ _. Leads actor (Reuse file (Err e)) old new) [
  | inl s ↦ stays-led actor (Reuse file (Err e)) old new s.1 (inl tt) refl refl
  | inr f ↦ (let d = f.1 in
      joining actor (Reuse file (Err e)) old (halting d.0 d.1 (made actor (change.Reuse file) old.core)) new.core (change.Reuse file) d.4.core refl refl refl refl (inr (is-log-fault e d.0 d.1 d.2, refl)) refl refl)
]

forces : (actor : ℕ) (old new : Machine) (answer : Result ℕ Refusal) → Forces actor old new answer → Leads actor (Force answer) old new
forces actor old new (Ok number) h = standing actor (Force (Ok number)) old (stamped new.moment old.core) new.core h.1.1.core refl refl refl refl tt refl refl
forces actor old new (Err e) h = elim h as (λ _. Leads actor (Force (Err e)) old new) [
  | inl s ↦ stays-led actor (Force (Err e)) old new s.1 tt refl refl
  | inr f ↦ standing actor (Force (Err e)) old (halting f.1.0 f.1.1 old.core) new.core f.1.4.core refl refl refl refl tt refl refl
]

-- ---- images

-- none was in progress where a beginning isn't refused
no-image : (first : List Refusal) (found : Option Picture) (others : List Refusal) → foremost (first ++ (in_progress found ++ others)) ≡ None → found ≡ None
no-image first found others h =
    let all : first ++ (in_progress found ++ others) ≡ [] = none-held (first ++ (in_progress found ++ others)) h in
    let rest : in_progress found ++ others ≡ [] = (append-none first (in_progress found ++ others) all).1 in
    none-begun found (append-none (in_progress found) others rest).0

no-image-behind : (first own : List Refusal) (found : Option Picture) → foremost (first ++ (own ++ in_progress found)) ≡ None → found ≡ None
no-image-behind first own found h =
    let all : first ++ (own ++ in_progress found) ≡ [] = none-held (first ++ (own ++ in_progress found)) h in
    let rest : own ++ in_progress found ≡ [] = (append-none first (own ++ in_progress found) all).1 in
    none-begun found (append-none own (in_progress found) rest).1

-- another actor has none before and behind a beginning
other-begins : (actor other : ℕ) (found : Option Picture) (i : Picture) → i.actor ≡ actor → found ≡ None → (other ≡ actor → ⊥) → own_image other (Some i) ≡ own_image other found
other-begins actor other found i mine none n = others-begun other i (λ (s : i.actor ≡ other). n (sym s ∙ mine)) ∙ sym (ap (own_image other) none)

-- what is left stands, whether or not the stamps came
or-stamped : (actor : ℕ) (deed : Deed) (old : Machine) (file count moment : ℕ) (left new : Core) → new ≡ halting file count left → (left ≡ old.core) ⊎ (left ≡ stamped moment old.core)
    → Joined (sight actor old.core) deed None → TicketsAfter actor old.contents (sight actor old.core) deed (own_tickets actor old.core.tickets)
    → ImageAfter (sight actor old.core) deed (own_image actor old.core.image) → Moved actor old.contents deed old.core new
or-stamped actor deed old file count moment left new is (inl s) joins tickets image =
    standing actor deed old (halting file count left) new is (ap (λ (c : Core). c.base) s) (ap (λ (c : Core). c.journal) s) (ap (λ (c : Core). c.tickets) s) (ap (λ (c : Core). c.image) s) joins tickets image
or-stamped actor deed old file count moment left new is (inr s) joins tickets image =
    standing actor deed old (halting file count left) new is (ap (λ (c : Core). c.base) s) (ap (λ (c : Core). c.journal) s) (ap (λ (c : Core). c.tickets) s) (ap (λ (c : Core). c.image) s) joins tickets image

begins-checkpoint : (actor : ℕ) (old new : Machine) (answer : Result ImageReply Refusal) → BeginsCheckpoint actor old new answer → Leads actor (Image image.Checkpoint answer) old new
begins-checkpoint actor old new (Ok told) h =
    let d : CheckpointBegun actor old told new = h.1 in
    let i : Picture = record { actor = actor; picture = checkpoint; file = image_file old.core; seq = (inventory old.core).number; unwritten = d.0; copied = 0 } in
    let none : old.core.image ≡ None = no-image (ended old) old.core.image _ h.0 in
    subst (λ (t : ImageReply). Moved actor old.contents (Image image.Checkpoint (Ok t)) old.core new.core) (sym d.1)
    (subst (λ (c : Core). Moved actor old.contents (Image image.Checkpoint (Ok (reply.Begun (image_file old.core) (inventory old.core).number))) old.core c) (sym d.2.core) (record {
      joined = None;
      base = refl;
      journal = sym (append-nil old.core.journal);
      joins = tt;
      tickets = refl;
      image = (i, own-begun actor i refl, refl, refl, refl);
      others = λ other n. refl;
      other_image = λ other n. other-begins actor other old.core.image i refl none n;
    }))
begins-checkpoint actor old new (Err e) h = elim h as (λ _. Leads actor (Image image.Checkpoint (Err e)) old new) [
  | inl s ↦ stays-led actor (Image image.Checkpoint (Err e)) old new s.1 (inl tt) refl refl
  | inr f ↦ (let d : CheckpointFails old e new = f.1 in or-stamped actor (Image image.Checkpoint (Err e)) old d.0 d.1 d.2 d.3 new.core d.7.core d.6 (inl tt) refl refl)
]

in-doubt : (e f : Refusal) → (is_log_fault f || is_write_fault f) ≡ true → e ≡ f → (is_log_fault e || is_write_fault e) ≡ true
in-doubt e f h s = subst (λ x. (is_log_fault x || is_write_fault x) ≡ true) (sym s) h

-- a backup that begins, of either kind
backup-begins : (actor : ℕ) (after : Option ℕ) (kind : ImageKind) (held : List Refusal) (old new : Machine) (answer : Result ImageReply Refusal)
    → ((file seq : ℕ) → Joined (sight actor old.core) (Image kind (Ok (reply.Begun file seq))) (Some (change.DbBegin file after)))
    → ((e : Refusal) (file : ℕ) → (is_log_fault e || is_write_fault e) ≡ true → Joined (sight actor old.core) (Image kind (Err e)) (Some (change.DbBegin file after)))
    → ((e : Refusal) → Joined (sight actor old.core) (Image kind (Err e)) None)
    → ((e : Refusal) → ImageAfter (sight actor old.core) (Image kind (Err e)) (own_image actor old.core.image))
    → picture_of kind ≡ backup
    → BeginsBackup actor after held old new answer → Leads actor (Image kind answer) old new
backup-begins actor after kind held old new (Ok told) joins doubt nothing stays is h =
    let d : BackupBegun actor after old told new = h.1 in
    let i : Picture = record { actor = actor; picture = backup; file = old.core.next_file; seq = (inventory old.core).number + 1; unwritten = d.0; copied = 0 } in
    let none : old.core.image ≡ None = no-image-behind (ended old) held old.core.image h.0 in
    subst (λ (t : ImageReply). Moved actor old.contents (Image kind (Ok t)) old.core new.core) (sym d.1)
    (subst (λ (c : Core). Moved actor old.contents (Image kind (Ok (reply.Begun old.core.next_file ((inventory old.core).number + 1)))) old.core c) (sym d.2.core) (record {
      joined = Some (change.DbBegin old.core.next_file after);
      base = refl;
      journal = refl;
      joins = joins old.core.next_file ((inventory old.core).number + 1);
      tickets = refl;
      image = (i, own-begun actor i refl, refl, refl, sym is);
      others = λ other n. refl;
      other_image = λ other n. other-begins actor other old.core.image i refl none n;
    }))
backup-begins actor after kind held old new (Err e) joins doubt nothing stays is h = elim h as (λ _. Leads actor (Image kind (Err e)) old new) [
  | inl s ↦ stays-led actor (Image kind (Err e)) old new s.1 (nothing e) refl (stays e)
  | inr f ↦ elim f.1 as (λ _. Leads actor (Image kind (Err e)) old new) [
    | inl d ↦ joining actor (Image kind (Err e)) old (halting d.0 d.1 (begun actor after old.core)) new.core (change.DbBegin old.core.next_file after) d.4.core refl refl refl refl
        (doubt e old.core.next_file (in-doubt e (refusal.LogFault d.0 d.1) refl d.2)) refl (stays e)
    | inr d ↦ joining actor (Image kind (Err e)) old (stamped d.0 (begun actor after old.core)) new.core (change.DbBegin old.core.next_file after) d.3.core refl refl refl refl
        (doubt e old.core.next_file (in-doubt e (refusal.WriteFault old.core.next_file) refl d.1)) refl (stays e)
  ]
]

pub record SameImage (i j : Picture) : Type 0 where
  pub actor : j.actor ≡ i.actor
  pub picture : j.picture ≡ i.picture
  pub file : j.file ≡ i.file
  pub seq : j.seq ≡ i.seq

same-image : (i j : Picture) (c : Core) → WroteMore i j c → SameImage i j
same-image i j c (inl w) = record { actor = ap (λ (x : Picture). x.actor) w.1; picture = ap (λ (x : Picture). x.picture) w.1; file = ap (λ (x : Picture). x.file) w.1; seq = ap (λ (x : Picture). x.seq) w.1 }
same-image i j c (inr w) = record { actor = ap (λ (x : Picture). x.actor) w.4; picture = ap (λ (x : Picture). x.picture) w.4; file = ap (λ (x : Picture). x.file) w.4; seq = ap (λ (x : Picture). x.seq) w.4 }

goes-on : (actor : ℕ) (old new : Machine) (told : ImageReply) → GoesOn actor old told new → Leads actor (Image image.Next (Ok told)) old new
goes-on actor old new (reply.Begun file seq) h = absurd h
goes-on actor old new reply.More h =
    let i : Picture = h.0 in
    let j : Picture = h.1 in
    let same : SameImage i j = same-image i j old.core h.3 in
    let mine = own-is actor old.core.image i h.2 in
    subst (λ (c : Core). Moved actor old.contents (Image image.Next (Ok reply.More)) old.core c) (sym h.4.core) (record {
      joined = None;
      base = refl;
      journal = sym (append-nil old.core.journal);
      joins = tt;
      tickets = refl;
      image = (i, j, h.2, own-begun actor j (same.actor ∙ mine.1), same.seq, same.file, same.picture);
      others = λ other n. refl;
      other_image = λ other n. others-begun other j (λ (s : j.actor ≡ other). n (sym s ∙ (same.actor ∙ mine.1))) ∙ sym (others-none actor other old.core.image i n h.2);
    })
goes-on actor old new (reply.Done seq) h =
    let i : Picture = h.0 in
    elim h.4 as (λ _. Leads actor (Image image.Next (Ok (reply.Done seq))) old new) [
      | inl f ↦ subst (λ (c : Core). Moved actor old.contents (Image image.Next (Ok (reply.Done seq))) old.core c) (sym f.2.core) (record {
        joined = None;
        base = refl;
        journal = sym (append-nil old.core.journal);
        joins = subst (λ (o : Option Picture). IsEnd o None) (sym h.1) f.0;
        tickets = refl;
        image = refl;
        others = λ other n. refl;
        other_image = λ other n. sym (others-none actor other old.core.image i n h.1);
      })
      | inr f ↦ subst (λ (c : Core). Moved actor old.contents (Image image.Next (Ok (reply.Done seq))) old.core c) (sym f.2.core) (record {
        joined = Some (change.DbEnd i.file);
        base = refl;
        journal = refl;
        joins = subst (λ (o : Option Picture). IsEnd o (Some (change.DbEnd i.file))) (sym h.1) (f.0, refl);
        tickets = refl;
        image = refl;
        others = λ other n. refl;
        other_image = λ other n. sym (others-none actor other old.core.image i n h.1);
      })
    ]

-- the image is dropped behind such a refusal
image-dropped : (e : Refusal) (found : Option Picture) → drops_image e ≡ true → None ≡ (if drops_image e then None else found)
image-dropped e found h = sym (ap (λ (b : Bool). if b then None else found) h)

image-stays : (e : Refusal) (found : Option Picture) → drops_image e ≡ false → found ≡ (if drops_image e then None else found)
image-stays e found h = sym (ap (λ (b : Bool). if b then None else found) h)

drops-by : (e f : Refusal) → drops_image f ≡ true → e ≡ f → drops_image e ≡ true
drops-by e f h s = subst (λ x. drops_image x ≡ true) (sym s) h

keeps-by : (e f : Refusal) → drops_image f ≡ false → e ≡ f → drops_image e ≡ false
keeps-by e f h s = subst (λ x. drops_image x ≡ false) (sym s) h

-- the actor's image is gone, and nothing joined
image-goes : (actor : ℕ) (e : Refusal) (old new : Machine) (i : Picture) → own_image actor old.core.image ≡ Some i → drops_image e ≡ true → Becomes (with_image None old.core) old new
    → Leads actor (Image image.Next (Err e)) old new
image-goes actor e old new i is h becomes =
    subst (λ (c : Core). Moved actor old.contents (Image image.Next (Err e)) old.core c) (sym becomes.core) (record {
      joined = None;
      base = refl;
      journal = sym (append-nil old.core.journal);
      joins = inl tt;
      tickets = refl;
      image = image-dropped e (own_image actor old.core.image) h;
      others = λ other n. refl;
      other_image = λ other n. sym (others-none actor other old.core.image i n is);
    })

stops-short : (actor : ℕ) (e : Refusal) (old new : Machine) → StopsShort actor old e new → Leads actor (Image image.Next (Err e)) old new
stops-short actor e old new h =
    let i : Picture = h.0 in
    elim h.2 as (λ _. Leads actor (Image image.Next (Err e)) old new) [
      | inl d ↦ image-goes actor e old new i h.1 (drops-by e (refusal.WriteFault i.file) refl d.1) d.3
      | inr rest ↦ elim rest as (λ _. Leads actor (Image image.Next (Err e)) old new) [
        | inl d ↦ image-goes actor e old new i h.1 (drops-by e refusal.InventoryFull refl d.2) d.4
        | inr d ↦ (let stays : own_image actor old.core.image ≡ (if drops_image e then None else own_image actor old.core.image) = image-stays e (own_image actor old.core.image) (keeps-by e (refusal.LogFault d.0 d.1) refl d.4) in
            elim d.6 as (λ _. Leads actor (Image image.Next (Err e)) old new) [
              | inl s ↦ or-stamped actor (Image image.Next (Err e)) old d.0 d.1 d.2 d.3 new.core d.7.core (inl s) (inl tt) refl stays
              | inr more ↦ elim more as (λ _. Leads actor (Image image.Next (Err e)) old new) [
                | inl s ↦ or-stamped actor (Image image.Next (Err e)) old d.0 d.1 d.2 d.3 new.core d.7.core (inr s) (inl tt) refl stays
                | inr s ↦ joining actor (Image image.Next (Err e)) old (halting d.0 d.1 d.3) new.core (change.DbEnd i.file) d.7.core
                    (ap (λ (c : Core). c.base) s.1) (ap (λ (c : Core). c.journal) s.1) (ap (λ (c : Core). c.tickets) s.1) (ap (λ (c : Core). c.image) s.1)
                    (inr (in-doubt e (refusal.LogFault d.0 d.1) refl d.4, subst (λ (o : Option Picture). IsEnd o (Some (change.DbEnd i.file))) (sym h.1) (s.0, refl))) refl stays
              ]
            ])
      ]
    ]

continues : (actor : ℕ) (old new : Machine) (answer : Result ImageReply Refusal) → Continues actor old new answer → Leads actor (Image image.Next answer) old new
continues actor old new (Ok told) h = goes-on actor old new told h.1
continues actor old new (Err e) h = elim h as (λ _. Leads actor (Image image.Next (Err e)) old new) [
  | inl s ↦ stays-led actor (Image image.Next (Err e)) old new s.1 (inl tt) refl (image-stays e (own_image actor old.core.image) (mild-next old (is_some (own_image actor old.core.image)) e s.0))
  | inr f ↦ stops-short actor e old new f.1
]

images : (actor : ℕ) (kind : ImageKind) (old new : Machine) (answer : Result ImageReply Refusal) → Images actor kind old new answer → Leads actor (Image kind answer) old new
images actor image.Checkpoint old new answer h = begins-checkpoint actor old new answer h
images actor image.Backup old new answer h =
    backup-begins actor None image.Backup (image_refused image.Backup (sight actor old.core)) old new answer (λ file seq. refl) (λ e file d. inr (d, (file, refl))) (λ e. inl tt) (λ e. refl) refl h
images actor (image.Since after) old new answer h =
    backup-begins actor (Some after) (image.Since after) (image_refused (image.Since after) (sight actor old.core)) old new answer (λ file seq. refl) (λ e file d. inr (d, (file, refl))) (λ e. inl tt) (λ e. refl) refl h
images actor image.Next old new answer h = continues actor old new answer h

-- every step leads so
pub moves : (places : Places) → GoesWhereAimed places → (actor : ℕ) (deed : Deed) (old new : Machine) → Case places actor deed old new → Moved actor old.contents deed old.core new.core
moves places goes actor (OpenNew number size prefer answer) old new h = opens-new places actor number size prefer old new answer h
moves places goes actor (OpenCopy object a avoid answer) old new h = opens-copy places goes actor object a avoid old new answer h
moves places goes actor (WritePiece number bytes answer) old new h = writes actor number bytes old new answer h
moves places goes actor (CopyPiece number answer) old new h = copies actor number old new answer h
moves places goes actor (Seal number answer) old new h = seals actor number old new answer h
moves places goes actor (Commit asked numbers answer) old new h = commits actor asked numbers old new answer h
moves places goes actor (DropTicket number answer) old new h = drops actor number old new answer h
moves places goes actor (ReadPiece object kept from offset wanted answer) old new h = reads actor object kept from offset wanted old new answer h
moves places goes actor (Ask query answer) old new h = asks actor query old new answer h
moves places goes actor (Image kind answer) old new h = images actor kind old new answer h
moves places goes actor (Reuse file answer) old new h = reuses actor file old new answer h
moves places goes actor (Force answer) old new h = forces actor old new answer h
