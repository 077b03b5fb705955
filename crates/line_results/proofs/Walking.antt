-- Steps of the script that takes no ticket and begins no image, one after the other: what they leave.
use Rattle.std.proofs.Common.{◌≡◌, ◌⊎◌, inl, inr, ℕ, ◌+◌, ◌<◌, ◌≤◌, List, [], ◌∷◌, ◌++◌, length, drop, replicate, Option, None, Some, Result, Ok, Err, refl, sym, ap, subst, ◌∙◌, arith}
use Rattle.std.proofs.lemmas.List.{append-nil, append_assoc, length-append, length-replicate}
use Rattle.std.specs.List.{AllByRecursion}
use Rattle.kinds.specs.declared.refusal.Refusal.{Refusal}
use Rattle.kinds.specs.declared.segment.Digest.{Digest}
use Rattle.entries.specs.declared.change.Change.{Change}
use Rattle.entries.specs.declared.change.Change.TheVariants as change
use Rattle.entries.specs.declared.entry.Entry.{Entry}
use Rattle.inventory_answers.specs.declared.query.Query.{Query}
use Rattle.inventory_answers.specs.declared.reply.Answer.{Answer}
use Rattle.steps.specs.declared.asked.Asked.{Asked}
use Rattle.steps.specs.Events.{Deed, Event, event}
use Rattle.steps.specs.Events.Deed.{Ask, Commit, Force, ReadPiece, Reuse}
use Rattle.machine.specs.Alone.{Alone, AreBytes, Moves, behind, with_contents}
use Rattle.machine.specs.Machine.{Asks, Case, Commits, Forces, IsLogFault, Later, Places, Reads, Reuses, Stays, asked_change, committed, halting, made, record_length, records_length, stamped, with_image, with_tickets}
use Rattle.machine.specs.State.{Core, Image, Machine, Ticket, unforced, without}
use Rattle.line_results.specs.Resting.{IsAtRest, Onward, RoseFrom, entry}
use Rattle.line_results.proofs.Changed.{spent-none}
use Rattle.line_results.proofs.Forced.{stamped-durable}
use Rattle.line_results.proofs.Runs.{onward-later, onward-none, onward-then, rose-from, rose-on, stepped}

-- ---- steps

-- It asks, forces, commits a change without tickets, or reuses a volume; and of each change that joins by it P holds.
abbrev pub Walks : (P : Change → Type 0) → Deed → Type 0
Walks P (Ask query answer) = Unit {0}
Walks P (Force answer) = Unit {0}
Walks P (Commit asked tickets answer) = (tickets ≡ []) × ((c : Change) (core : Core) → asked_change 0 asked [] core ≡ Some c → P c)
Walks P (Reuse file answer) = P (change.Reuse file)
Walks P _ = ⊥

-- it reads a piece of an object
abbrev pub IsRead : Deed → Type 0
IsRead (ReadPiece object kept from offset wanted answer) = Unit {0}
IsRead _ = ⊥

abbrev pub MayWalk : (P : Change → Type 0) → Deed → Type 0
MayWalk P d = Walks P d ⊎ IsRead d

abbrev pub AllWalk : (P : Change → Type 0) → List Event → Type 0
AllWalk P events = AllByRecursion (λ e. MayWalk P e.deed) events

-- transactions of the script, of which P holds
abbrev pub AreOf : (P : Change → Type 0) → List Entry → Type 0
AreOf P added = AllByRecursion (λ e. (e.actor ≡ 0) × P e.change) added

pub all-walk : (Is : Deed → Type 0) (P : Change → Type 0) → ((d : Deed) → Is d → Walks P d) → (events : List Event) → AllByRecursion (λ e. Is e.deed) events → AllWalk P events
all-walk Is P so [] h = tt
all-walk Is P so (e ∷ events) h = (inl (so e.deed h.0), all-walk Is P so events h.1)

-- where some of them read
pub all-may-walk : (Is : Deed → Type 0) (P : Change → Type 0) → ((d : Deed) → Is d → MayWalk P d) → (events : List Event) → AllByRecursion (λ e. Is e.deed) events → AllWalk P events
all-may-walk Is P so [] h = tt
all-may-walk Is P so (e ∷ events) h = (so e.deed h.0, all-may-walk Is P so events h.1)

pub are-more : (P : Change → Type 0) (added : List Entry) (w : Change) → AreOf P added → P w → AreOf P (added ++ entry w ∷ [])
are-more P [] w h p = ((refl, p), tt)
are-more P (e ∷ added) w h p = (h.0, are-more P added w h.1 p)

-- of which Q holds too, where it holds of each change of which P does
pub are-as : (P Q : Change → Type 0) → ((c : Change) → P c → Q c) → (added : List Entry) → AreOf P added → AreOf Q added
are-as P Q so [] h = tt
are-as P Q so (e ∷ added) h = ((h.0.0, so e.change h.0.1), are-as P Q so added h.1)

-- ---- the hall

-- behind these transactions of the script the newest image is the one that was there, and what had a stamp has it
pub record Under (added : List Entry) (old c : Core) : Type 0 where
  pub base : c.base ≡ old.base
  pub journal : c.journal ≡ old.journal ++ added
  pub generation : c.generation ≡ old.generation
  pub log_length : c.log_length ≡ old.log_length + records_length added
  pub fresh : List ℕ
  pub stamps : c.stamps ≡ old.stamps ++ fresh
  pub few : length c.stamps ≤ length c.journal

no-records : (n : ℕ) → n ≡ n + records_length []
no-records n = let none : records_length [] ≡ 0 = refl in omega (arith, none)

pub under-none : (c : Core) → IsAtRest c → Under [] c c
under-none c rest = record {
  base = refl;
  journal = sym (append-nil c.journal);
  generation = refl;
  log_length = no-records c.log_length;
  fresh = [];
  stamps = sym (append-nil c.stamps);
  few = (let all : length c.stamps ≡ length c.journal = rest.durable in omega (arith, all));
}

records-more : (added : List Entry) (e : Entry) → records_length (added ++ e ∷ []) ≡ records_length added + record_length e
records-more [] e = (let one : records_length (e ∷ []) ≡ record_length e + 0 = refl in let none : records_length [] ≡ 0 = refl in omega (arith, one, none))
records-more (x ∷ added) e =
    let rest = records-more added e in
    let long : records_length ((x ∷ added) ++ e ∷ []) ≡ record_length x + records_length (added ++ e ∷ []) = refl in
    let short : records_length (x ∷ added) ≡ record_length x + records_length added = refl in
    omega (arith, rest, long, short)

made-under : (added : List Entry) (w : Change) (old c : Core) → Under added old c → Under (added ++ entry w ∷ []) old (made 0 w c)
made-under added w old c u = record {
  base = u.base;
  journal = ap (λ (l : List Entry). l ++ entry w ∷ []) u.journal ∙ append_assoc old.journal added (entry w ∷ []);
  generation = u.generation;
  log_length = (let more = records-more added (entry w) in let long : c.log_length ≡ old.log_length + records_length added = u.log_length in omega (arith, more, long));
  fresh = u.fresh;
  stamps = u.stamps;
  few = (let long : length (c.journal ++ entry w ∷ []) ≡ length c.journal + 1 = length-append c.journal (entry w ∷ []) in let few : length c.stamps ≤ length c.journal = u.few in omega (arith, long, few));
}

halting-under : (added : List Entry) (file count : ℕ) (old c : Core) → Under added old c → Under added old (halting file count c)
halting-under added file count old c u = record {
  base = u.base;
  journal = u.journal;
  generation = u.generation;
  log_length = u.log_length;
  fresh = u.fresh;
  stamps = u.stamps;
  few = u.few;
}

pub stamped-under : (added : List Entry) (moment : ℕ) (old c : Core) → Under added old c → Under added old (stamped moment c)
stamped-under added moment old c u = record {
  base = u.base;
  journal = u.journal;
  generation = u.generation;
  log_length = u.log_length;
  fresh = u.fresh ++ replicate (length (unforced c)) moment;
  stamps = ap (λ (l : List ℕ). l ++ replicate (length (unforced c)) moment) u.stamps ∙ append_assoc old.stamps u.fresh (replicate (length (unforced c)) moment);
  few = (let all : length (stamped moment c).stamps ≡ length (stamped moment c).journal = stamped-durable moment c u.few in omega (arith, all));
}

under-as : (added : List Entry) (old c d : Core) → d ≡ c → Under added old c → Under added old d
under-as added old c d same u = subst (λ (k : Core). Under added old k) (sym same) u

-- one more joined behind these
pub joined-under : (first later : List Entry) (w : Change) (old c : Core) → Under (first ++ later) old c → Under (first ++ (later ++ entry w ∷ [])) old (made 0 w c)
joined-under first later w old c u = subst (λ (l : List Entry). Under l old (made 0 w c)) (append_assoc first later (entry w ∷ [])) (made-under (first ++ later) w old c u)

pub under-tickets : (added : List Entry) (tickets : List Ticket) (old c : Core) → Under added old c → Under added old (with_tickets tickets c)
under-tickets added tickets old c u = record { base = u.base; journal = u.journal; generation = u.generation; log_length = u.log_length; fresh = u.fresh; stamps = u.stamps; few = u.few }

pub under-image : (added : List Entry) (i : Option Image) (old c : Core) → Under added old c → Under added old (with_image i c)
under-image added i old c u = record { base = u.base; journal = u.journal; generation = u.generation; log_length = u.log_length; fresh = u.fresh; stamps = u.stamps; few = u.few }

-- no ticket is spent
pub spent-same : (w : Change) (c : Core) → c.tickets ≡ [] → committed 0 w [] c ≡ made 0 w c
spent-same w c none = ap (λ (k : Core). made 0 w k) (spent-none c none)

-- ---- the machine

-- the count of the file whose fault halted the machine rose
abbrev pub RoseIn : (old m : Machine) → Option (ℕ × ℕ) → Type 0
RoseIn old m None = Unit {0}
RoseIn old m (Some f) = (f.0 < 4) × RoseFrom old m f.0

rose-in-on : (old m n : Machine) (fault : Option (ℕ × ℕ)) → Onward m n → RoseIn old m fault → RoseIn old n fault
rose-in-on old m n None x h = tt
rose-in-on old m n (Some f) x h = (h.0, rose-on old m n f.0 h.1 x)

-- Transactions were made, and behind them others, of each of which P holds; no object's bytes changed.
pub record Grew (P : Change → Type 0) (first later : List Entry) (old m : Machine) : Type 0 where
  pub core : Under (first ++ later) old.core m.core
  pub are : AreOf P later
  pub contents : m.contents ≡ old.contents
  pub onward : Onward old m
  pub fault : RoseIn old m m.core.fault

pub grew-none : (P : Change → Type 0) (m : Machine) → IsAtRest m.core → Grew P [] [] m m
grew-none P m rest = record {
  core = under-none m.core rest;
  are = tt;
  contents = refl;
  onward = onward-none m;
  fault = subst (λ (f : Option (ℕ × ℕ)). RoseIn m m f) (sym rest.fault) tt;
}

-- the machine became this, which no fault halted that hadn't before
pub grew-as : (P : Change → Type 0) (first later more : List Entry) (d : Core) (old m next : Machine) → Grew P first later old m → Under (first ++ more) old.core d → AreOf P more → d.fault ≡ m.core.fault → Onward m next → next.core ≡ d
    → next.contents ≡ m.contents → Grew P first more old next
grew-as P first later more d old m next w u are same since is bytes = record {
  core = under-as (first ++ more) old.core d next.core is u;
  are = are;
  contents = bytes ∙ w.contents;
  onward = onward-then old m next w.onward since;
  fault = subst (λ (f : Option (ℕ × ℕ)). RoseIn old next f) (sym (ap (λ (k : Core). k.fault) is ∙ same)) (rose-in-on old m next m.core.fault since w.fault);
}

-- a fault halted it
pub grew-halts : (P : Change → Type 0) (first later more : List Entry) (d : Core) (file count : ℕ) (old m next : Machine) → Grew P first later old m → Under (first ++ more) old.core d → AreOf P more → IsLogFault m next file count → Onward m next
    → next.core ≡ halting file count d → next.contents ≡ m.contents → Grew P first more old next
grew-halts P first later more d file count old m next w u are fault since is bytes = record {
  core = under-as (first ++ more) old.core (halting file count d) next.core is (halting-under (first ++ more) file count old.core d u);
  are = are;
  contents = bytes ∙ w.contents;
  onward = onward-then old m next w.onward since;
  fault = subst (λ (f : Option (ℕ × ℕ)). RoseIn old next f) (sym (ap (λ (k : Core). k.fault) is)) (fault.0, rose-from old m next file w.onward fault.1);
}

pub grew-stays : (P : Change → Type 0) (first later : List Entry) (old m next : Machine) → Grew P first later old m → Onward m next → Stays m next → Grew P first later old next
grew-stays P first later old m next w since h = grew-as P first later later m.core old m next w w.core w.are refl since h.core h.contents

-- only tickets changed
pub grew-tickets : (P : Change → Type 0) (first later : List Entry) (tickets : List Ticket) (old m next : Machine) → Grew P first later old m → Onward m next → next.core ≡ with_tickets tickets m.core → next.contents ≡ m.contents
    → Grew P first later old next
grew-tickets P first later tickets old m next w since is bytes =
    grew-as P first later later (with_tickets tickets m.core) old m next w (under-tickets (first ++ later) tickets old.core m.core w.core) w.are refl since is bytes

-- a force
pub force-grew : (P : Change → Type 0) (first later : List Entry) (old m next : Machine) (answer : Result ℕ Refusal) → Grew P first later old m → Onward m next → Forces 0 m next answer → Grew P first later old next
force-grew P first later old m next (Ok number) w since h =
    grew-as P first later later (stamped next.moment m.core) old m next w (stamped-under (first ++ later) next.moment old.core m.core w.core) w.are refl since h.1.1.core h.1.1.contents
force-grew P first later old m next (Err e) w since (inl h) = grew-stays P first later old m next w since h.1
force-grew P first later old m next (Err e) w since (inr (none, (file, count, is, fault, becomes))) =
    grew-halts P first later later m.core file count old m next w w.core w.are fault since becomes.core becomes.contents

-- a force leaves the tickets
pub force-free : (m next : Machine) (answer : Result ℕ Refusal) → Forces 0 m next answer → next.core.tickets ≡ m.core.tickets
force-free m next (Ok number) h = ap (λ (c : Core). c.tickets) h.1.1.core
force-free m next (Err e) (inl h) = ap (λ (c : Core). c.tickets) h.1.core
force-free m next (Err e) (inr (none, (file, count, is, fault, becomes))) = ap (λ (c : Core). c.tickets) becomes.core

-- and the image in progress
pub force-image : (m next : Machine) (answer : Result ℕ Refusal) → Forces 0 m next answer → next.core.image ≡ m.core.image
force-image m next (Ok number) h = ap (λ (c : Core). c.image) h.1.1.core
force-image m next (Err e) (inl h) = ap (λ (c : Core). c.image) h.1.core
force-image m next (Err e) (inr (none, (file, count, is, fault, becomes))) = ap (λ (c : Core). c.image) becomes.core

-- a read leaves the hall
read-core : (object : ℕ) (kept : Digest) (from offset wanted : ℕ) (answer : Result (List ℕ) Refusal) (m next : Machine) → Reads 0 object kept from offset wanted m next answer → next.core ≡ m.core
read-core object kept from offset wanted (Ok bytes) m next h = h.1.2.core
read-core object kept from offset wanted (Err e) m next (inl h) = h.1.core
read-core object kept from offset wanted (Err e) m next (inr (none, (is, lost, stays))) = stays.core

-- ---- each step

-- So it is, no ticket is held, and no image is in progress.
pub record Walked (P : Change → Type 0) (first later : List Entry) (old m : Machine) : Type 0 where
  pub grew : Grew P first later old m
  pub free : m.core.tickets ≡ []
  pub idle : m.core.image ≡ None

pub walked-none : (P : Change → Type 0) (m : Machine) → IsAtRest m.core → Walked P [] [] m m
walked-none P m rest = record { grew = grew-none P m rest; free = rest.tickets; idle = rest.image }

abbrev Went : (P : Change → Type 0) → (first : List Entry) → (old next : Machine) → Type 0
Went P first old next = (more : List Entry) × Walked P first more old next

module _ (P : Change → Type 0) (first later : List Entry) (old m next : Machine) (w : Walked P first later old m) (since : Onward m next) where
  stays-walk : Stays m next → Walked P first later old next
  stays-walk h = record { grew = grew-stays P first later old m next w.grew since h; free = ap (λ (c : Core). c.tickets) h.core ∙ w.free; idle = ap (λ (c : Core). c.image) h.core ∙ w.idle }

  ask-walk : (query : Query) (answer : Result Answer Refusal) → Asks 0 query m next answer → Walked P first later old next
  ask-walk query (Ok told) h = stays-walk h.1.1
  ask-walk query (Err e) (inl h) = stays-walk h.1
  ask-walk query (Err e) (inr h) = absurd h.1

  force-walk : (answer : Result ℕ Refusal) → Forces 0 m next answer → Walked P first later old next
  force-walk answer h = record { grew = force-grew P first later old m next answer w.grew since h; free = force-free m next answer h ∙ w.free; idle = force-image m next answer h ∙ w.idle }

  -- one more joined
  join-made : (c : Change) → P c → next.core ≡ committed 0 c [] m.core → next.contents ≡ m.contents → Walked P first (later ++ entry c ∷ []) old next
  join-made c p is bytes =
      let same : next.core ≡ made 0 c m.core = is ∙ spent-same c m.core w.free in
      record {
        grew = grew-as P first later (later ++ entry c ∷ []) (made 0 c m.core) old m next w.grew (joined-under first later c old.core m.core w.grew.core) (are-more P later c w.grew.are p) refl since same bytes;
        free = ap (λ (k : Core). k.tickets) same ∙ w.free;
        idle = ap (λ (k : Core). k.image) same ∙ w.idle;
      }

  -- one more joined, and a fault halted the machine
  join-halts : (c : Change) (file count : ℕ) → P c → IsLogFault m next file count → next.core ≡ halting file count (committed 0 c [] m.core) → next.contents ≡ m.contents → Walked P first (later ++ entry c ∷ []) old next
  join-halts c file count p fault is bytes =
      let same : next.core ≡ halting file count (made 0 c m.core) = is ∙ ap (λ (k : Core). halting file count k) (spent-same c m.core w.free) in
      record {
        grew = grew-halts P first later (later ++ entry c ∷ []) (made 0 c m.core) file count old m next w.grew (joined-under first later c old.core m.core w.grew.core) (are-more P later c w.grew.are p) fault since same bytes;
        free = ap (λ (k : Core). k.tickets) same ∙ w.free;
        idle = ap (λ (k : Core). k.image) same ∙ w.idle;
      }

  join-walk : (asked : Asked) (answer : Result ℕ Refusal) → ((c : Change) (core : Core) → asked_change 0 asked [] core ≡ Some c → P c) → Commits 0 asked [] m next answer → Went P first old next
  join-walk asked (Ok number) p (none, (c, is, numbered, joins)) = (later ++ entry c ∷ [], join-made c (p c m.core is) joins.0 joins.1)
  join-walk asked (Err e) p (inl h) = (later, stays-walk h.1)
  join-walk asked (Err e) p (inr (none, (c, file, count, is, why, fault, joins))) = (later ++ entry c ∷ [], join-halts c file count (p c m.core is) fault joins.0 joins.1)

  reuse-walk : (file : ℕ) (answer : Result ℕ Refusal) → P (change.Reuse file) → Reuses 0 file m next answer → Went P first old next
  reuse-walk file (Ok number) p h = (
    later ++ entry (change.Reuse file) ∷ [],
    record {
      grew = grew-as P first later (later ++ entry (change.Reuse file) ∷ []) (stamped next.moment (made 0 (change.Reuse file) m.core)) old m next w.grew
          (stamped-under (first ++ (later ++ entry (change.Reuse file) ∷ [])) next.moment old.core (made 0 (change.Reuse file) m.core) (joined-under first later (change.Reuse file) old.core m.core w.grew.core))
          (are-more P later (change.Reuse file) w.grew.are p) refl since h.1.1.core h.1.1.contents;
      free = ap (λ (k : Core). k.tickets) h.1.1.core ∙ w.free;
      idle = ap (λ (k : Core). k.image) h.1.1.core ∙ w.idle;
    },
  )
  reuse-walk file (Err e) p (inl h) = (later, stays-walk h.1)
  reuse-walk file (Err e) p (inr (none, (log, count, is, fault, becomes))) = (
    later ++ entry (change.Reuse file) ∷ [],
    record {
      grew = grew-halts P first later (later ++ entry (change.Reuse file) ∷ []) (made 0 (change.Reuse file) m.core) log count old m next w.grew
          (joined-under first later (change.Reuse file) old.core m.core w.grew.core) (are-more P later (change.Reuse file) w.grew.are p) fault since becomes.core becomes.contents;
      free = ap (λ (k : Core). k.tickets) becomes.core ∙ w.free;
      idle = ap (λ (k : Core). k.image) becomes.core ∙ w.idle;
    },
  )

  deed-walk : (places : Places) (d : Deed) → Walks P d → Case places 0 d m next → Went P first old next
  deed-walk places (Ask query answer) so h = (later, ask-walk query answer h)
  deed-walk places (Force answer) so h = (later, force-walk answer h)
  deed-walk places (Commit asked tickets answer) so h = join-walk asked answer so.1 (subst (λ (ts : List ℕ). Commits 0 asked ts m next answer) so.0 h)
  deed-walk places (Reuse file answer) so h = reuse-walk file answer so h
  deed-walk places d so h = absurd so

-- no step of these reads bytes
seen-same : (trusted : Type 0) (P : Change → Type 0) (d : Deed) → Walks P d → (contents seen : ℕ → List ℕ) → AreBytes trusted d contents seen → seen ≡ contents
seen-same trusted P (Ask query answer) so contents seen h = h
seen-same trusted P (Force answer) so contents seen h = h
seen-same trusted P (Commit asked tickets answer) so contents seen h = h
seen-same trusted P (Reuse file answer) so contents seen h = h
seen-same trusted P d so contents seen h = absurd so

left-same : (P : Change → Type 0) (d : Deed) → Walks P d → (contents : ℕ → List ℕ) (m : Machine) → behind d contents m ≡ m
left-same P (Ask query answer) so contents m = refl
left-same P (Force answer) so contents m = refl
left-same P (Commit asked tickets answer) so contents m = refl
left-same P (Reuse file answer) so contents m = refl
left-same P d so contents m = absurd so

-- ---- all steps

module _ (trusted : Type 0) (places : Places) (P : Change → Type 0) (first : List Entry) where
  -- what is read is looked at nowhere
  read-walk : (n : ℕ) (d : Deed) (later : List Entry) (old m next : Machine) → IsRead d → Walked P first later old m → Moves trusted places 0 (event n d) m next → Walked P first later old next
  read-walk n (ReadPiece object kept from offset wanted answer) later old m next so w moved =
      let core : moved.next.core ≡ m.core = read-core object kept from offset wanted answer (with_contents moved.seen m) moved.next moved.made.step in
      let end : Machine = with_contents m.contents moved.next in
      subst (λ (x : Machine). Walked P first later old x) (sym moved.left)
      (stays-walk P first later old m end w (record { counts = moved.made.later.counts; since = moved.made.later.since }) (record { core = core; contents = refl }))
  read-walk n d later old m next so w moved = absurd so

  event-walk : (e : Event) (later : List Entry) (old m next : Machine) → MayWalk P e.deed → Walked P first later old m → Moves trusted places 0 e m next → Went P first old next
  event-walk e later old m next (inl so) w moved =
      let s = stepped trusted places e.n e.deed (e ∷ []) m next (seen-same trusted P e.deed so) (left-same P e.deed so) refl (next, moved, refl) in
      deed-walk P first later old m next w (onward-later m next s.0) places e.deed so s.1
  event-walk e later old m next (inr so) w moved = (later, read-walk e.n e.deed later old m next so w moved)

  pub walk : (events : List Event) (later : List Entry) (old m new : Machine) → AllWalk P events → Walked P first later old m → Alone trusted places 0 events m new → (more : List Entry) × Walked P first more old new
  walk [] later old m new all w same = (later, subst (λ (x : Machine). Walked P first later old x) (sym same) w)
  walk (e ∷ events) later old m new all w (next, moved, rest) =
      let r = event-walk e later old m next all.0 w moved in
      walk events r.0 old next new all.1 r.1 rest

pub rose-in-as : (old m p q : Machine) → ((file : ℕ) → RoseFrom old m file → RoseFrom p q file) → (fault : Option (ℕ × ℕ)) → RoseIn old m fault → RoseIn p q fault
rose-in-as old m p q f None h = tt
rose-in-as old m p q f (Some x) h = (h.0, f x.0 h.1)

-- what was made is in front of what is to come, and the objects have the bytes that they have by then
pub grew-since : (Q : Change → Type 0) (later : List Entry) (old m : Machine) → Under later old.core m.core → Onward old m → RoseIn old m m.core.fault → Grew Q later [] (with_contents m.contents old) m
grew-since Q later old m core onward fault = record {
  core = subst (λ (l : List Entry). Under l old.core m.core) (sym (append-nil later)) core;
  are = tt;
  contents = refl;
  onward = record { counts = onward.counts; since = onward.since };
  fault = rose-in-as old m (with_contents m.contents old) m (λ file h. h) m.core.fault fault;
}
