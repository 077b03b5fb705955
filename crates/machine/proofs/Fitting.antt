-- Runs of the machine fit the histories that go on as they do, for each actor by itself.
use Rattle.std.proofs.Common.{◌≡◌, ℕ, ◌+◌, ◌-◌, ◌<◌, ◌≤◌, ◌==◌, Bool, true, false, not, is_some, nat_le, List, [], ◌∷◌, ◌++◌, length, take, Option, Some, None, Ok, Err, refl, sym, ap, subst, ◌∙◌, arith, append_assoc, if◌then◌else◌}
use Rattle.std.proofs.Math.Seq.{get_or-append_seam, take-append_seam}
use Rattle.std.proofs.lemmas.Bool.{eqb-true, eqb-false}
use Rattle.std.proofs.lemmas.List.{length-append}
use Rattle.std.proofs.lemmas.Option.{slice_get-get_or}
use Rattle.std.specs.List.{slice_get}
use Rattle.kinds.specs.Refusals.{bad_value, foremost, unless}
use Rattle.kinds.specs.declared.refusal.Refusal.{Refusal}
use Rattle.steps.specs.entries.declared.change.Change.{Change}
use Rattle.steps.specs.entries.declared.entry.Entry.{Entry}
use Rattle.steps.specs.inventory_rows.version_groups.declared.versions.Version.{Version}
use Rattle.steps.specs.inventory_rows.Search.{version}
use Rattle.steps.specs.inventory_rows.State.{Inv}
use Rattle.item_refusals.specs.inventory_rules.Journal.{Journal}
use Rattle.item_refusals.specs.inventory_rules.Run.{journal_of}
use Rattle.item_refusals.specs.inventory_rules.Versions.{of_version}
use Rattle.steps.specs.Events.{Deed, Event}
use Rattle.steps.specs.Events.Deed.{OpenNew, OpenCopy, WritePiece, CopyPiece, Seal, Commit, DropTicket, ReadPiece, Ask, Image, Reuse, Force}
use Rattle.machine.specs.Causes.{copying_refused, most_bytes, object_gone, of_ticket, ticket_in_use}
use Rattle.machine.specs.Fits.{Fits, History, IsStored, Joined, JoinsAt, ImageAfter, Own, Step, TicketsAfter, entries_to, inv, number_after, sight_at}
use Rattle.machine.specs.Laws.{GoesWhereAimed, RefusesElsewhere}
use Rattle.machine.specs.Machine.{Made, Places, next_count, read_count}
use Rattle.machine.specs.Pieces.{piece}
use Rattle.machine.specs.Says.{Says}
use Rattle.machine.specs.State.{Core, Image as Picture, Machine, Sight, Ticket, after, inventory, is_storing, object_of, own_image, own_tickets, sight, taking, ticket}
use Rattle.machine.specs.Turns.{Agrees, GoesOn, Runs, Turn, events_of, own_in}
use Rattle.machine.proofs.Cases.{made-says}
use Rattle.machine.proofs.Elsewhere.{append-none, none-held}
use Rattle.machine.proofs.Histories.{after-number}
use Rattle.machine.proofs.Moves.{Moved, entries_of, moves}
use Rattle.machine.proofs.Runs.{fits-none, fits-step}
use Rattle.machine.proofs.Stored.{stores}

-- ---- what the actor sees

entries-are : (w : History) (c : Core) (n : ℕ) (more : List Entry) → w.base ≡ c.base → w.journal ≡ c.journal ++ more → n ≡ (inventory c).number → entries_to w n ≡ c.journal
entries-are w c n more base journal is =
    let number : (inventory c).number ≡ c.base.number + length c.journal = after-number c.base c.journal in
    let first : w.base.number ≡ c.base.number = ap (λ (v : Inv). v.number) base in
    let k : n - w.base.number ≡ length c.journal = omega arith in
    ap (λ i. take i w.journal) k ∙ ap (take (length c.journal)) journal ∙ take-append_seam c.journal more

abbrev seen : ℕ → Core → Inv → List Entry → Sight
seen actor c base entries = record {
  first = base.number;
  next_file = c.next_file;
  journal = journal_of base entries;
  inventory = after base entries;
  tickets = own_tickets actor c.tickets;
  image = own_image actor c.image;
}

sees : (w : History) (actor reached : ℕ) (c : Core) (n : ℕ) (more : List Entry) → w.base ≡ c.base → w.journal ≡ c.journal ++ more → n ≡ (inventory c).number
    → sight_at w (own_in actor reached c) n c.next_file ≡ sight actor c
unfolding inv
sees w actor reached c n more base journal is =
    ap (λ (b : Inv). seen actor c b (entries_to w n)) base ∙ ap (λ (entries : List Entry). seen actor c c.base entries) (entries-are w c n more base journal is)

-- ---- bytes of objects that are kept

version-there : (j : Journal) (object : ℕ) (rule : Version → List Refusal) (found : Option Version) → of_version j object rule found ≡ [] → is_some found ≡ true
version-there j object rule None h = absurd cc
version-there j object rule (Some w) h = refl

read-there : (object : ℕ) (m : Machine) (actor : ℕ) (first : List Refusal) (rule : Version → List Refusal)
    → foremost (first ++ of_version (sight actor m.core).journal object rule (version object (inventory m.core))) ≡ None → is_some (version object (inventory m.core)) ≡ true
read-there object m actor first rule h =
    version-there (sight actor m.core).journal object rule (version object (inventory m.core))
    (append-none first _ (none-held (first ++ of_version (sight actor m.core).journal object rule (version object (inventory m.core))) h)).1

says-agrees : (w : History) (actor : ℕ) (m : Machine) (deed : Deed) → Agrees w m → Says actor m.contents (sight actor m.core) deed → Says actor w.contents (sight actor m.core) deed
unfolding Says
says-agrees w actor m (OpenNew number size prefer answer) agrees h = h
says-agrees w actor m (OpenCopy object a avoid answer) agrees h = h
says-agrees w actor m (WritePiece number bytes answer) agrees h = h
says-agrees w actor m (CopyPiece number answer) agrees h = h
says-agrees w actor m (Seal number answer) agrees h = h
says-agrees w actor m (Commit asked numbers answer) agrees h = h
says-agrees w actor m (DropTicket number answer) agrees h = h
says-agrees w actor m (ReadPiece object kept from offset wanted (Ok bytes)) agrees h =
    (h.0, h.1 ∙ ap (piece offset (read_count object wanted offset (inventory m.core))) (sym (agrees object (read-there object m actor (unless (nat_le wanted most_bytes) bad_value) _ h.0))))
says-agrees w actor m (ReadPiece object kept from offset wanted (Err e)) agrees h = h
says-agrees w actor m (Ask query answer) agrees h = h
says-agrees w actor m (Image kind answer) agrees h = h
says-agrees w actor m (Reuse file answer) agrees h = h
says-agrees w actor m (Force answer) agrees h = h

-- the object of a ticket that takes bytes is kept
copied-kept : (t : Ticket) (number : ℕ) (s : Sight) (b : Bool) → (if b then ticket_in_use number ∷ [] else unless (not t.is_sealed) (ticket_in_use number) ++ object_gone (object_of t.purpose) s) ≡ []
    → is_some (version (object_of t.purpose) s.inventory) ≡ true
copied-kept t number s true h = absurd cc
copied-kept t number s false h = version-there s.journal (object_of t.purpose) (λ w. []) (version (object_of t.purpose) s.inventory) (append-none (unless (not t.is_sealed) (ticket_in_use number)) _ h).1

copying-kept : (t : Ticket) (number : ℕ) (s : Sight) → ticket number s.tickets ≡ Some t → foremost (copying_refused number s) ≡ None → is_some (version (object_of t.purpose) s.inventory) ≡ true
copying-kept t number s is h =
    copied-kept t number s (is_storing t.purpose)
    (subst (λ (o : Option Ticket). of_ticket (λ t. if is_storing t.purpose then ticket_in_use number ∷ [] else unless (not t.is_sealed) (ticket_in_use number) ++ object_gone (object_of t.purpose) s) o ≡ []) is (none-held (copying_refused number s) h))

tickets-agree : (w : History) (actor : ℕ) (m : Machine) (deed : Deed) (new : List Ticket) → Agrees w m → Says actor m.contents (sight actor m.core) deed
    → TicketsAfter actor m.contents (sight actor m.core) deed new → TicketsAfter actor w.contents (sight actor m.core) deed new
unfolding Says
tickets-agree w actor m (OpenNew number size prefer (Ok it)) new agrees says h = h
tickets-agree w actor m (OpenNew number size prefer (Err e)) new agrees says h = h
tickets-agree w actor m (OpenCopy object a avoid (Ok it)) new agrees says h = h
tickets-agree w actor m (OpenCopy object a avoid (Err e)) new agrees says h = h
tickets-agree w actor m (WritePiece number bytes (Ok count)) new agrees says h = h
tickets-agree w actor m (WritePiece number bytes (Err e)) new agrees says h = h
tickets-agree w actor m (CopyPiece number (Ok count)) new agrees says h =
    let t : Ticket = h.0 in
    let same : m.contents (object_of t.purpose) ≡ w.contents (object_of t.purpose) = sym (agrees (object_of t.purpose) (copying-kept t number (sight actor m.core) h.1 says.0)) in
    (t, h.1, h.2 ∙ ap (λ (bytes : List ℕ). taking actor number (piece (length t.bytes) (next_count t) bytes) (own_tickets actor m.core.tickets)) same)
tickets-agree w actor m (CopyPiece number (Err e)) new agrees says h = h
tickets-agree w actor m (Seal number (Ok done)) new agrees says h = h
tickets-agree w actor m (Seal number (Err e)) new agrees says h = h
tickets-agree w actor m (Commit asked numbers (Ok number)) new agrees says h = h
tickets-agree w actor m (Commit asked numbers (Err e)) new agrees says h = h
tickets-agree w actor m (DropTicket number (Ok done)) new agrees says h = h
tickets-agree w actor m (DropTicket number (Err e)) new agrees says h = h
tickets-agree w actor m (ReadPiece object kept from offset wanted answer) new agrees says h = h
tickets-agree w actor m (Ask query answer) new agrees says h = h
tickets-agree w actor m (Image kind answer) new agrees says h = h
tickets-agree w actor m (Reuse file answer) new agrees says h = h
tickets-agree w actor m (Force answer) new agrees says h = h

-- ---- what joins

slice-seam : (entries : List Entry) (e : Entry) (rest : List Entry) → slice_get (entries ++ e ∷ rest) (length entries) ≡ Some e
slice-seam entries e rest =
    let l : length (entries ++ e ∷ rest) ≡ length entries + length (e ∷ rest) = length-append entries (e ∷ rest) in
    let b : length entries < length (entries ++ e ∷ rest) = omega arith in
    slice_get-get_or (entries ++ e ∷ rest) (length entries) e b ∙ ap Some (get_or-append_seam entries e rest e)

joins-at : (w : History) (actor : ℕ) (old : Core) (n : ℕ) (joined : Option Change) (rest : List Entry) → w.base ≡ old.base → w.journal ≡ old.journal ++ (entries_of actor joined ++ rest) → n ≡ (inventory old).number
    → JoinsAt w actor n joined
joins-at w actor old n None rest base journal is = tt
joins-at w actor old n (Some c) rest base journal is =
    let number : (inventory old).number ≡ old.base.number + length old.journal = after-number old.base old.journal in
    let first : w.base.number ≡ old.base.number = ap (λ (v : Inv). v.number) base in
    let k : n - w.base.number ≡ length old.journal = omega arith in
    ap (slice_get w.journal) k ∙ ap (λ (js : List Entry). slice_get js (length old.journal)) journal ∙ slice-seam old.journal (record { actor = actor; change = c }) rest

joined-length : (actor n : ℕ) (joined : Option Change) → number_after n joined ≡ n + length (entries_of actor joined)
joined-length actor n None = omega arith
joined-length actor n (Some c) = omega arith

-- the number behind a step is the database's
number-behind : (actor n : ℕ) (joined : Option Change) (old new : Core) → n ≡ (inventory old).number → new.base ≡ old.base → new.journal ≡ old.journal ++ entries_of actor joined
    → number_after n joined ≡ (inventory new).number
number-behind actor n joined old new is base journal =
    let a : (inventory old).number ≡ old.base.number + length old.journal = after-number old.base old.journal in
    let b : (inventory new).number ≡ new.base.number + length new.journal = after-number new.base new.journal in
    let f : new.base.number ≡ old.base.number = ap (λ (v : Inv). v.number) base in
    let l : length new.journal ≡ length old.journal + length (entries_of actor joined) = ap length journal ∙ length-append old.journal (entries_of actor joined) in
    let m : number_after n joined ≡ n + length (entries_of actor joined) = joined-length actor n joined in
    omega arith

-- ---- one step

-- a history that goes on as the hall does behind a step goes on as it does before it
goes-before : (places : Places) → GoesWhereAimed places → (actor : ℕ) (e : Event) (old new : Machine) (w : History) → Made places actor e old new → GoesOn new.core w → GoesOn old.core w
goes-before places aimed actor e old new w made goes =
    let m : Moved actor old.contents e.deed old.core new.core = moves places aimed actor e.deed old new made.step in
    record {
      base = goes.base ∙ m.base;
      rest = entries_of actor m.joined ++ goes.rest;
      journal = goes.journal ∙ ap (λ (js : List Entry). js ++ goes.rest) m.journal ∙ append_assoc old.core.journal (entries_of actor m.joined) goes.rest;
    }

step-fits : (places : Places) → RefusesElsewhere places → GoesWhereAimed places → (w : History) (actor reached : ℕ) (e : Event) (old new : Machine) → Made places actor e old new → Agrees w old → Agrees w new
    → GoesOn new.core w → reached ≤ (inventory old.core).number
    → (last : ℕ) × (last ≤ (inventory new.core).number) × Step w actor (own_in actor reached old.core) e (own_in actor last new.core)
unfolding goes-before
step-fits places elsewhere aimed w actor reached e old new made agrees behind_it goes l =
    let m : Moved actor old.contents e.deed old.core new.core = moves places aimed actor e.deed old new made.step in
    let before : GoesOn old.core w = goes-before places aimed actor e old new w made goes in
    let says : Says actor old.contents (sight actor old.core) e.deed = made-says places elsewhere actor e.deed old new made.step in
    let same : sight_at w (own_in actor reached old.core) e.n old.core.next_file ≡ sight actor old.core = sees w actor reached old.core e.n before.rest before.base before.journal made.number in
    let behind : number_after e.n m.joined ≡ (inventory new.core).number = number-behind actor e.n m.joined old.core new.core made.number m.base m.journal in
    let number : (inventory old.core).number ≡ old.core.base.number + length old.core.journal = after-number old.core.base old.core.journal in
    let first : w.base.number ≡ old.core.base.number = ap (λ (v : Inv). v.number) before.base in
    let long : length w.journal ≡ length old.core.journal + length before.rest = ap length before.journal ∙ length-append old.core.journal before.rest in
    let at : e.n ≡ (inventory old.core).number = made.number in (
      number_after e.n m.joined,
      omega arith,
      record {
        since = omega arith;
        begun = omega arith;
        within = omega arith;
        next_file = old.core.next_file;
        says = subst (λ (s : Sight). Says actor w.contents s e.deed) (sym same) (says-agrees w actor old e.deed agrees says);
        joined = m.joined;
        joins = subst (λ (s : Sight). Joined s e.deed m.joined) (sym same) m.joins;
        joins_at = joins-at w actor old.core e.n m.joined goes.rest before.base before.journal made.number;
        stored = subst (λ (s : Sight). IsStored w.contents s e.deed) (sym same) (stores places w actor e.deed old new made.step behind_it);
        has = record {
          reached = refl;
          tickets = subst (λ (s : Sight). TicketsAfter actor w.contents s e.deed (own_tickets actor new.core.tickets)) (sym same) (tickets-agree w actor old e.deed (own_tickets actor new.core.tickets) agrees says m.tickets);
          image = subst (λ (s : Sight). ImageAfter s e.deed (own_image actor new.core.image)) (sym same) m.image;
        };
      },
    )

-- ---- runs

runs-before : (places : Places) → GoesWhereAimed places → (w : History) (old new : Machine) (turns : List Turn) → Runs places w old turns new → GoesOn new.core w → GoesOn old.core w
runs-before places aimed w old new [] runs goes = subst (λ (m : Machine). GoesOn m.core w) runs.0 goes
runs-before places aimed w old new (t ∷ turns) runs goes = goes-before places aimed t.actor t.did old runs.0 w runs.1 (runs-before places aimed w runs.0 new turns runs.3 goes)

-- where a run begins the history agrees
runs-agree : (places : Places) (w : History) (old new : Machine) (turns : List Turn) → Runs places w old turns new → Agrees w old
runs-agree places w old new [] runs = runs.1
runs-agree places w old new (t ∷ turns) runs = runs.2

abbrev own_with : ℕ → List Ticket → Option Picture → Own
own_with reached tickets image = record { reached = reached; tickets = tickets; image = image }

-- another actor's step leaves what this one has
own-stays : (actor reached : ℕ) (old new : Core) → own_tickets actor new.tickets ≡ own_tickets actor old.tickets → own_image actor new.image ≡ own_image actor old.image → own_in actor reached new ≡ own_in actor reached old
own-stays actor reached old new tickets image = ap (λ (ts : List Ticket). own_with reached ts (own_image actor new.image)) tickets ∙ ap (own_with reached (own_tickets actor old.tickets)) image

others-step : (places : Places) → GoesWhereAimed places → (w : History) (actor reached : ℕ) (t : Turn) (old new : Machine) → (t.actor == actor) ≡ false → Made places t.actor t.did old new
    → reached ≤ (inventory old.core).number → (reached ≤ (inventory new.core).number) × (own_in actor reached new.core ≡ own_in actor reached old.core)
others-step places aimed w actor reached t old new other made l =
    let m : Moved t.actor old.contents t.did.deed old.core new.core = moves places aimed t.actor t.did.deed old new made.step in
    let n : actor ≡ t.actor → ⊥ = λ (h : actor ≡ t.actor). eqb-false t.actor actor other (sym h) in
    let behind : number_after t.did.n m.joined ≡ (inventory new.core).number = number-behind t.actor t.did.n m.joined old.core new.core made.number m.base m.journal in
    let grows : number_after t.did.n m.joined ≡ t.did.n + length (entries_of t.actor m.joined) = joined-length t.actor t.did.n m.joined in
    let at : t.did.n ≡ (inventory old.core).number = made.number in
    (omega arith, own-stays actor reached old.core new.core (m.others actor n) (m.other_image actor n))

pub turns-fit : (places : Places) → RefusesElsewhere places → GoesWhereAimed places → (w : History) (actor reached : ℕ) (old new : Machine) (turns : List Turn) → Runs places w old turns new → GoesOn new.core w
    → reached ≤ (inventory old.core).number
    → (last : ℕ) × (last ≤ (inventory new.core).number) × Fits w actor (own_in actor reached old.core) (events_of actor turns) (own_in actor last new.core)
turns-fit places elsewhere aimed w actor reached old new [] runs goes l =
    subst (λ (m : Machine). (last : ℕ) × (last ≤ (inventory m.core).number) × Fits w actor (own_in actor reached old.core) [] (own_in actor last m.core)) (sym runs.0)
    (reached, l, fits-none w actor (own_in actor reached old.core))
turns-fit places elsewhere aimed w actor reached old new (t ∷ turns) runs goes l =
    let next : Machine = runs.0 in
    let between : GoesOn next.core w = runs-before places aimed w next new turns runs.3 goes in
    elim (t.actor == actor) as (λ b. (t.actor == actor) ≡ b → (last : ℕ) × (last ≤ (inventory new.core).number) × Fits w actor (own_in actor reached old.core) (if b then t.did ∷ events_of actor turns else events_of actor turns) (own_in actor last new.core)) [
      | true ↦ λ e.
          (let made : Made places actor t.did old next = subst (λ (a : ℕ). Made places a t.did old next) (eqb-true t.actor actor e) runs.1 in
          let s = step-fits places elsewhere aimed w actor reached t.did old next made runs.2 (runs-agree places w next new turns runs.3) between l in
          let r = turns-fit places elsewhere aimed w actor s.0 next new turns runs.3 goes s.1 in
          (r.0, r.1, fits-step w actor (own_in actor reached old.core) (own_in actor s.0 next.core) (own_in actor r.0 new.core) t.did (events_of actor turns) s.2 r.2))
      | false ↦ λ e.
          (let o = others-step places aimed w actor reached t old next e runs.1 l in
          let r = turns-fit places elsewhere aimed w actor reached next new turns runs.3 goes o.0 in
          (r.0, r.1, subst (λ (own : Own). Fits w actor own (events_of actor turns) (own_in actor r.0 new.core)) o.1 r.2))
    ] refl
