-- A checkpoint where one actor has the machine alone: it is begun and written to its end, or the run ended.
use Rattle.std.proofs.Common.{◌≡◌, ◌⊎◌, inl, inr, ℕ, zero, suc, ◌+◌, ◌-◌, ◌%◌, ◌^◌, ◌≤◌, nat_lt, Bool, true, false, is_some, List, [], ◌∷◌, ◌++◌, length, drop, Option, None, Some, if◌then◌else◌, Result, Ok, Err, refl, sym, ap, subst, ◌∙◌, arith}
use Rattle.std.proofs.lemmas.Bool.{eq-eqb, ltb-false}
use Rattle.std.proofs.lemmas.List.{append-nil, drop_all}
use Rattle.std.proofs.lemmas.Option.{same_Some}
use Rattle.kinds.specs.Refusals.{foremost, unless}
use Rattle.kinds.specs.declared.refusal.Holder.{Holder}
use Rattle.kinds.specs.declared.refusal.Refusal.{Refusal}
use Rattle.kinds.specs.declared.refusal.Refusal.TheVariants as refused
use Rattle.command_steps.specs.client_files.Sending.{stopping as broken_off}
use Rattle.command_steps.specs.copy_attempts.Attempts.{stopping}
use Rattle.steps.specs.declared.image.ImageKind.TheVariants as image
use Rattle.steps.specs.declared.image.ImageReply.{ImageReply}
use Rattle.steps.specs.declared.image.ImageReply.TheVariants as reply
use Rattle.steps.specs.Calls.{Made}
use Rattle.steps.specs.Events.{Deed, Event, event, refusal}
use Rattle.steps.specs.Events.Deed.{Image}
use Rattle.machine.proofs.Histories.{after-number}
use Rattle.machine.specs.Alone.{Alone, Moves}
use Rattle.machine.specs.Causes.{image_refused}
use Rattle.machine.specs.Machine.{BeginsCheckpoint, CheckpointBegun, CheckpointFails, Continues as GoesOnWith, Finishes, GoesOn, Later, Places, StopsShort, WroteMore, checkpointed, ending, halting, in_progress, records_length, stamped, with_image}
use Rattle.machine.specs.State.{Core, Image as Written, Machine, backup, checkpoint, inventory, own_image, sight}
use Rattle.command_steps.specs.sessions.Checkpoints.{AreMore, Begins, BreaksOff, Checkpoints as CheckpointsBy, Continues, Opens}
use Rattle.command_steps.specs.sessions.Waiting.{Held, Waited}
use Rattle.line_results.specs.Commands.{IsStopped}
use Rattle.line_results.specs.Files.{Checkpoints}
use Rattle.line_results.specs.Resting.{IsAtRest, IsLate, Leaves, SameBytes, SameImage}
use Rattle.line_results.proofs.Asked.{stopped-err}
use Rattle.line_results.proofs.Forced.{Faulted, stamped-durable, stamped-none}
use Rattle.line_results.proofs.Leaving.{ended-leaves, nearly-all, rest-as, still-leaves}
use Rattle.line_results.proofs.Runs.{AreLast, Became, Refuses, Stops, alone-none, alone-parts, as_is, became-as, became-same, becomes-became, ends-err, ends-ok, is-as, late-ends, one-or-none, onward-then, rose-from, stepped, stops-run}

-- ---- an image in progress

-- a checkpoint of the actor's own, of the database as it is
pub record IsMine (i : Written) (c : Core) : Type 0 where
  pub actor : i.actor ≡ 0
  pub picture : i.picture ≡ checkpoint
  pub seq : i.seq ≡ (inventory c).number

-- it is being written, and nothing else changed
abbrev pub IsWriting : (old new : Machine) → Type 0
IsWriting old new = (i : Written) × IsMine i old.core × Became (with_image (Some i) old.core) old new

-- ---- its beginning

abbrev begin_own : Machine → List Refusal
begin_own old = image_refused image.Checkpoint (sight 0 old.core) ++ (in_progress old.core.image ++ unless (nat_lt (old.core.generation + 1) (2 ^ 62)) refused.InventoryFull)

-- there is no generation behind the newest
abbrev pub IsLastImage : Machine → Type 0
IsLastImage old = 2 ^ 62 ≤ old.core.generation + 1

last-image : (b : Bool) (e : Refusal) → foremost (unless b refused.InventoryFull) ≡ Some e → (b ≡ false) × (e ≡ refused.InventoryFull)
last-image true e h = absurd cc
last-image false e h = (refl, sym (same_Some refused.InventoryFull e h))

begin-full : (old : Machine) (e : Refusal) → IsAtRest old.core → foremost (begin_own old) ≡ Some e → (e ≡ refused.InventoryFull) × IsLastImage old
begin-full old e rest h =
    let is = last-image (nat_lt (old.core.generation + 1) (2 ^ 62)) e
    (subst (λ (i : Option Written). foremost (in_progress i ++ unless (nat_lt (old.core.generation + 1) (2 ^ 62)) refused.InventoryFull) ≡ Some e) rest.image h) in
    (is.1, ltb-false (old.core.generation + 1) (2 ^ 62) is.0)

-- how it begins: by the machine's answer
abbrev BeginFails : (old new : Machine) → Refusal → Type 0
BeginFails old new e = ((Stops new e ⊎ ((e ≡ refused.InventoryFull) × IsLastImage old)) × Became old.core old new) ⊎ Faulted old.core old new e

abbrev BeginStep : (old new : Machine) → Result ImageReply Refusal → Type 0
BeginStep old new (Ok told) = (IsLate old → ⊥) × IsWriting old new
BeginStep old new (Err e) = (IsLate old → AreLast e) × BeginFails old new e

left-same : (moment : ℕ) (c left : Core) → length c.stamps ≡ length c.journal → (left ≡ c) ⊎ (left ≡ stamped moment c) → left ≡ c
left-same moment c left h (inl is) = is
left-same moment c left h (inr is) = is ∙ stamped-none moment c h

begin-refused : (e : Refusal) (old new : Machine) → IsAtRest old.core → Later old new → Refuses (begin_own old) (CheckpointFails old) old new e → BeginFails old new e
begin-refused e old new rest later (inl (inl s, b)) = inl (inl s, b)
begin-refused e old new rest later (inl (inr f, b)) = inl (inr (begin-full old e rest f), b)
begin-refused e old new rest later (inr (soon, none, (file, count, moment, left, is, fault, same, becomes))) =
    inr (
      file,
      count,
      is,
      fault,
      became-as (halting file count left) (halting file count old.core) old new (ap (λ (k : Core). halting file count k) (left-same moment old.core left rest.durable same))
          (becomes-became (halting file count left) old new later becomes),
    )

begin-made : (answer : Result ImageReply Refusal) (old new : Machine) → IsAtRest old.core → Later old new → BeginsCheckpoint 0 old new answer → BeginStep old new answer
begin-made (Ok told) old new rest later h =
    let t = ends-ok (begin_own old) (CheckpointBegun 0 old) (CheckpointFails old) old new told h in
    let i : Written = record { actor = 0; picture = checkpoint; file = (old.core.generation + 1) % 2; seq = (inventory old.core).number; unwritten = t.2.0; copied = 0 } in (
      t.0,
      (
        i,
        record { actor = refl; picture = refl; seq = refl },
        became-as (with_image (Some i) (stamped new.moment old.core)) (with_image (Some i) old.core) old new
            (ap (λ (k : Core). with_image (Some i) k) (stamped-none new.moment old.core rest.durable)) (becomes-became (with_image (Some i) (stamped new.moment old.core)) old new later t.2.2),
      ),
    )
begin-made (Err e) old new rest later h = (
  λ l. late-ends (begin_own old) (CheckpointBegun 0 old) (CheckpointFails old) old new e l h,
  begin-refused e old new rest later (ends-err (begin_own old) (CheckpointBegun 0 old) (CheckpointFails old) old new e rest.fault later h),
)

begin-not : (answer : Result ImageReply Refusal) (old new : Machine) → refusal (Image image.Checkpoint answer) ≡ Some refused.Memory → new ≡ old → BeginStep old new answer
begin-not (Ok told) old new h same = absurd cc
begin-not (Err e) old new h same = let is : e ≡ refused.Memory = same_Some e refused.Memory h in (λ l. inr is, inl (inl (inr is), became-same old new same))

module _ (trusted : Type 0) (places : Places) where
  begin-step : (answer : Result ImageReply Refusal) (events : List Event) (old new : Machine) → IsAtRest old.core → Made (Image image.Checkpoint answer) events → Alone trusted places 0 events old new
      → BeginStep old new answer
  begin-step answer events old new rest made f =
      elim (one-or-none trusted places (Image image.Checkpoint answer) events old new (λ contents seen h. h) (λ contents m. refl) made f) as (λ _. BeginStep old new answer) [
        | inl s ↦ begin-made answer old new rest s.0 s.1
        | inr s ↦ begin-not answer old new s.0 s.1
      ]

-- by what the session makes of it
abbrev pub BeginEnds : (old new : Machine) → Result ℕ Refusal → Type 0
BeginEnds old new (Ok seq) = (IsLate old → ⊥) × IsWriting old new
BeginEnds old new (Err e) = (IsLate old → AreLast e) × (BeginFails old new e ⊎ ((e ≡ refused.Memory) × IsWriting old new))

stopping-last : (e why : Refusal) → e ≡ stopping why → AreLast why → AreLast e
stopping-last e why same (inl is) = inl (same ∙ ap stopping is)
stopping-last e why same (inr is) = inr (same ∙ ap stopping is)

stopping-fails : (e why : Refusal) (old new : Machine) → e ≡ stopping why → BeginFails old new why → BeginFails old new e
stopping-fails e why old new same (inl (inl (inl (is, late)), b)) = inl (inl (inl (same ∙ ap stopping is, late)), b)
stopping-fails e why old new same (inl (inl (inr is), b)) = inl (inl (inr (same ∙ ap stopping is)), b)
stopping-fails e why old new same (inl (inr (is, last), b)) = inl (inr (same ∙ ap stopping is, last), b)
stopping-fails e why old new same (inr (file, count, is, fault, b)) = inr (file, count, same ∙ ap stopping is, fault, b)

begun-wanted : (e : Refusal) (old new : Machine) (told : ImageReply) → e ≡ refused.Memory → BeginStep old new (Ok told) → BeginEnds old new (Err e)
begun-wanted e old new told is (soon, w) = (λ l. absurd (soon l), inr (is, w))

begun-refused : (e why : Refusal) (old new : Machine) → e ≡ stopping why → BeginStep old new (Err why) → BeginEnds old new (Err e)
begun-refused e why old new same (last, h) = (λ l. stopping-last e why same (last l), inl (stopping-fails e why old new same h))

module _ (trusted : Type 0) (places : Places) where
  begins : (result : Result ℕ Refusal) (events : List Event) (old new : Machine) → IsAtRest old.core → Begins result events → Alone trusted places 0 events old new → BeginEnds old new result
  begins (Ok seq) events old new rest (file, made) f = begin-step trusted places (Ok (reply.Begun file seq)) events old new rest made f
  begins (Err e) events old new rest (inl (why, same, made)) f = begun-refused e why old new same (begin-step trusted places (Err why) events old new rest made f)
  begins (Err e) events old new rest (inr (told, same, made)) f = begun-wanted e old new told same (begin-step trusted places (Ok told) events old new rest made f)

-- nobody has to be waited for
never-busy : (h : Holder) (old new : Machine) → BeginEnds old new (Err (refused.Busy h)) → ⊥
never-busy h old new (last, inl (inl (inl (inl (is, late)), b))) = cc
never-busy h old new (last, inl (inl (inl (inr is), b))) = cc
never-busy h old new (last, inl (inl (inr (is, full), b))) = cc
never-busy h old new (last, inl (inr (file, count, is, fault, b))) = cc
never-busy h old new (last, inr (is, w)) = cc

module _ (trusted : Type 0) (places : Places) where
  held-never : (events : List Event) (answer : Result (Unit {0}) Refusal) (old new : Machine) → IsAtRest old.core → Held Begins events answer → Alone trusted places 0 events old new → ⊥
  held-never events answer old new rest (h, (xs, ys, cut, tried, awaited)) f =
      let parts = alone-parts trusted places 0 events xs ys old new cut f in
      never-busy h old parts.0 (begins trusted places (Err (refused.Busy h)) xs old parts.0 rest tried parts.1)

  waited-none : (number : ℕ) (events : List Event) (old new : Machine) → IsAtRest old.core → Waited Begins number events → Alone trusted places 0 events old new → new ≡ old
  waited-none zero events old new rest none f = alone-none trusted places 0 events old new none f
  waited-none (suc number) events old new rest (xs, ys, cut, waited, held) f =
      let parts = alone-parts trusted places 0 events xs ys old new cut f in
      let same : parts.0 ≡ old = waited-none number xs old parts.0 rest waited parts.1 in
      absurd (held-never ys (Ok tt) parts.0 new (subst (λ (m : Machine). IsAtRest m.core) (sym same) rest) held parts.2)

  opens : (events : List Event) (result : Result ℕ Refusal) (old new : Machine) → IsAtRest old.core → Opens events result → Alone trusted places 0 events old new → BeginEnds old new result
  opens events result old new rest (number, (xs, ys, cut, waited, inl (none, tried))) f =
      let parts = alone-parts trusted places 0 events xs ys old new cut f in
      let same : parts.0 ≡ old = waited-none number xs old parts.0 rest waited parts.1 in
      begins trusted places result ys old new rest tried (subst (λ (m : Machine). Alone trusted places 0 ys m new) same parts.2)
  opens events result old new rest (number, (xs, ys, cut, waited, inr (inl (e, held, is)))) f =
      let parts = alone-parts trusted places 0 events xs ys old new cut f in
      let same : parts.0 ≡ old = waited-none number xs old parts.0 rest waited parts.1 in
      absurd (held-never ys (Err e) old new rest held (subst (λ (m : Machine). Alone trusted places 0 ys m new) same parts.2))
  opens events result old new rest (number, (xs, ys, cut, waited, inr (inr (all, none, is)))) f =
      let parts = alone-parts trusted places 0 events xs ys old new cut f in
      let same : new ≡ old = alone-none trusted places 0 ys parts.0 new none parts.2 ∙ waited-none number xs old parts.0 rest waited parts.1 in
      subst (λ (r : Result ℕ Refusal). BeginEnds old new r) (sym is) (λ l. inr refl, inl (inl (inl (inr refl), became-same old new same)))

-- ---- its pieces

own-mine : (i : Written) → i.actor ≡ 0 → own_image 0 (Some i) ≡ Some i
own-mine i h = ap (λ (b : Bool). if b then Some i else None) (eq-eqb i.actor 0 h)

found-mine : (i j : Written) → i.actor ≡ 0 → own_image 0 (Some i) ≡ Some j → i ≡ j
found-mine i j mine h = same_Some i j (sym (own-mine i mine) ∙ h)

more-mine : (i j : Written) (c k : Core) → IsMine i c → WroteMore i j k → IsMine j c
more-mine i j c k mine (inl (less, is)) = record {
  actor = ap (λ (x : Written). x.actor) is ∙ mine.actor;
  picture = ap (λ (x : Written). x.picture) is ∙ mine.picture;
  seq = ap (λ (x : Written). x.seq) is ∙ mine.seq;
}
more-mine i j c k mine (inr (none, of, more, most, is)) = record {
  actor = ap (λ (x : Written). x.actor) is ∙ mine.actor;
  picture = ap (λ (x : Written). x.picture) is ∙ mine.picture;
  seq = ap (λ (x : Written). x.seq) is ∙ mine.seq;
}

as-onward : (c : Core) (old mid new : Machine) → Became c old mid → Later (as_is c old mid) new → (first : Core) → Became first (as_is c old mid) new → Became first old new
as-onward c old mid new b later first k = record {
  core = k.core;
  contents = k.contents;
  onward = onward-then old (as_is c old mid) new (record { counts = b.onward.counts; since = b.onward.since }) k.onward;
}

-- where one step led from an image that is being written
abbrev At : (old mid new : Machine) → Written → Result ImageReply Refusal → Type 0
At old mid new i answer = Later (as_is (with_image (Some i) old.core) old mid) new × GoesOnWith 0 (as_is (with_image (Some i) old.core) old mid) new answer

at-it : (answer : Result ImageReply Refusal) (old mid new : Machine) (w : IsWriting old mid) → Later mid new → GoesOnWith 0 mid new answer → At old mid new w.0 answer
at-it answer old mid new w later h = subst (λ (m : Machine). Later m new × GoesOnWith 0 m new answer) (is-as (with_image (Some w.0) old.core) old mid w.2) (later, h)

next-more : (old mid new : Machine) → IsWriting old mid → Later mid new → GoesOnWith 0 mid new (Ok reply.More) → IsWriting old new
next-more old mid new w later h =
    let at = at-it (Ok reply.More) old mid new w later h in
    let c : Core = with_image (Some w.0) old.core in
    let g : GoesOn 0 (as_is c old mid) reply.More new = at.1.1 in
    let same : w.0 ≡ g.0 = found-mine w.0 g.0 w.1.actor g.2 in
    let mine : IsMine g.0 old.core = subst (λ (x : Written). IsMine x old.core) same w.1 in (
      g.1,
      more-mine g.0 g.1 old.core c mine g.3,
      as-onward c old mid new w.2 at.0 (with_image (Some g.1) old.core) (becomes-became (with_image (Some g.1) c) (as_is c old mid) new at.0 g.4),
    )

-- it is whole: the newest image has the next generation, and nothing is behind it
pub record IsWhole (old new : Machine) : Type 0 where
  pub seq : ℕ
  pub is : seq ≡ (inventory old.core).number
  pub moment : ℕ
  pub image : Option Written
  pub written : Written
  pub same : written.seq ≡ seq
  pub became : Became (checkpointed moment written (with_image image old.core)) old new

not-backup : (i : Written) (c : Core) → IsMine i c → i.picture ≡ backup → ⊥
not-backup i c mine is = let both : checkpoint ≡ backup = sym mine.picture ∙ is in cc

finished : (i : Written) (old mid new : Machine) → IsMine i old.core → Became (with_image (Some i) old.core) old mid → Later (as_is (with_image (Some i) old.core) old mid) new
    → Finishes 0 i (as_is (with_image (Some i) old.core) old mid) new → IsWhole old new
finished i old mid new mine b later (inl (picture, copied, becomes)) =
    let c : Core = with_image (Some i) old.core in
    record {
      seq = i.seq;
      is = mine.seq;
      moment = new.moment;
      image = Some i;
      written = i;
      same = refl;
      became = as-onward c old mid new b later (checkpointed new.moment i c) (becomes-became (checkpointed new.moment i c) (as_is c old mid) new later becomes);
    }
finished i old mid new mine b later (inr (picture, legal, becomes)) = absurd (not-backup i old.core mine picture)

next-done : (seq : ℕ) (old mid new : Machine) → IsWriting old mid → Later mid new → GoesOnWith 0 mid new (Ok (reply.Done seq)) → IsWhole old new
next-done seq old mid new w later h =
    let at = at-it (Ok (reply.Done seq)) old mid new w later h in
    let c : Core = with_image (Some w.0) old.core in
    let g : GoesOn 0 (as_is c old mid) (reply.Done seq) new = at.1.1 in
    let same : w.0 ≡ g.0 = found-mine w.0 g.0 w.1.actor g.1 in
    finished w.0 old mid new w.1 w.2 at.0 (subst (λ (x : Written). Finishes 0 x (as_is c old mid) new) (sym same) g.4)

next-begun : (file seq : ℕ) (old mid new : Machine) → IsWriting old mid → Later mid new → GoesOnWith 0 mid new (Ok (reply.Begun file seq)) → ⊥
next-begun file seq old mid new w later h = let at = at-it (Ok (reply.Begun file seq)) old mid new w later h in at.1.1

-- the image is still being written, or the log failed
abbrev pub BreakEnds : (old new : Machine) → Refusal → Type 0
BreakEnds old new e = (Stops new e × IsWriting old new) ⊎ ((i : Written) × Faulted (with_image (Some i) old.core) old new e)

next-left : (i j : Written) (moment : ℕ) (old : Machine) (core : Core) → IsAtRest old.core → IsMine j old.core
    → (core ≡ with_image (Some i) old.core) ⊎ (core ≡ stamped moment (with_image (Some i) old.core)) ⊎ ((j.picture ≡ backup) × (core ≡ ending 0 j (with_image (Some i) old.core))) → core ≡ with_image (Some i) old.core
next-left i j moment old core rest mine (inl is) = is
next-left i j moment old core rest mine (inr (inl is)) = is ∙ stamped-none moment (with_image (Some i) old.core) rest.durable
next-left i j moment old core rest mine (inr (inr (picture, is))) = absurd (not-backup j old.core mine picture)

next-refused : (e : Refusal) (i : Written) (old mid new : Machine) → IsAtRest old.core → IsMine i old.core → Became (with_image (Some i) old.core) old mid → Later (as_is (with_image (Some i) old.core) old mid) new
    → Refuses (image_refused image.Next (sight 0 (with_image (Some i) old.core))) (StopsShort 0 (as_is (with_image (Some i) old.core) old mid)) (as_is (with_image (Some i) old.core) old mid) new e → BreakEnds old new e
next-refused e i old mid new rest mine b later (inl (inl s, k)) = inl (s, (i, mine, as-onward (with_image (Some i) old.core) old mid new b later (with_image (Some i) old.core) k))
next-refused e i old mid new rest mine b later (inl (inr f, k)) =
    let none : foremost [] ≡ Some e = subst (λ (o : Option Written). foremost (unless (is_some o) refused.NotFound) ≡ Some e) (own-mine i mine.actor) f in
    absurd cc
next-refused e i old mid new rest mine b later (inr (soon, none, (j, is, inl (picture, why, rose, becomes)))) =
    absurd (not-backup j old.core (subst (λ (x : Written). IsMine x old.core) (found-mine i j mine.actor is) mine) picture)
next-refused e i old mid new rest mine b later (inr (soon, none, (j, is, inr (inl (picture, whole, why, legal, becomes))))) =
    absurd (not-backup j old.core (subst (λ (x : Written). IsMine x old.core) (found-mine i j mine.actor is) mine) picture)
next-refused e i old mid new rest mine b later (inr (soon, none, (j, is, inr (inr (file, count, moment, core, why, fault, same, becomes))))) =
    let c : Core = with_image (Some i) old.core in
    let its : core ≡ c = next-left i j moment old core rest (subst (λ (x : Written). IsMine x old.core) (found-mine i j mine.actor is) mine) same in
    inr (
      i,
      (
        file,
        count,
        why,
        (fault.0, rose-from old (as_is c old mid) new file (record { counts = b.onward.counts; since = b.onward.since }) fault.1, fault.2),
        as-onward c old mid new b later (halting file count c)
            (became-as (halting file count core) (halting file count c) (as_is c old mid) new (ap (λ (k : Core). halting file count k) its) (becomes-became (halting file count core) (as_is c old mid) new later becomes)),
      ),
    )

next-err : (e : Refusal) (old mid new : Machine) → IsAtRest old.core → IsWriting old mid → Later mid new → GoesOnWith 0 mid new (Err e) → BreakEnds old new e
next-err e old mid new rest w later h =
    let at = at-it (Err e) old mid new w later h in
    let c : Core = with_image (Some w.0) old.core in
    next-refused e w.0 old mid new rest w.1 w.2 at.0
    (ends-err (image_refused image.Next (sight 0 c)) (λ (told : ImageReply) (after : Machine). GoesOn 0 (as_is c old mid) told after) (StopsShort 0 (as_is c old mid)) (as_is c old mid) new e rest.fault at.0 at.1)

broken-ends : (e why : Refusal) (old new : Machine) → e ≡ broken_off why → BreakEnds old new why → BreakEnds old new e
broken-ends e why old new same (inl (inl (is, late), w)) = inl (inl (same ∙ ap broken_off is, late), w)
broken-ends e why old new same (inl (inr is, w)) = inl (inr (same ∙ ap broken_off is), w)
broken-ends e why old new same (inr (i, (file, count, is, fault, b))) = inr (i, (file, count, same ∙ ap broken_off is, fault, b))

module _ (trusted : Type 0) (places : Places) where
  next-step : (answer : Result ImageReply Refusal) (events : List Event) (old new : Machine) → Made (Image image.Next answer) events → Alone trusted places 0 events old new
      → (Later old new × GoesOnWith 0 old new answer) ⊎ ((refusal (Image image.Next answer) ≡ Some refused.Memory) × (new ≡ old))
  next-step answer events old new made f =
      elim (one-or-none trusted places (Image image.Next answer) events old new (λ contents seen h. h) (λ contents m. refl) made f)
      as (λ _. (Later old new × GoesOnWith 0 old new answer) ⊎ ((refusal (Image image.Next answer) ≡ Some refused.Memory) × (new ≡ old))) [
        | inl s ↦ inl (s.0, s.1)
        | inr s ↦ inr s
      ]

  all-more : (events : List Event) (old mid new : Machine) → AreMore events → IsWriting old mid → Alone trusted places 0 events mid new → IsWriting old new
  all-more [] old mid new more w f = subst (λ (m : Machine). IsWriting old m) (sym f) w
  all-more (e ∷ events) old mid new more w f =
      let moved : Moves trusted places 0 (event e.n (Image image.Next (Ok reply.More))) mid f.0 = subst (λ (d : Deed). Moves trusted places 0 (event e.n d) mid f.0) more.0 f.1 in
      let s = stepped trusted places e.n (Image image.Next (Ok reply.More)) (event e.n (Image image.Next (Ok reply.More)) ∷ []) mid f.0 (λ contents seen h. h) (λ contents m. refl) refl (f.0, moved, refl) in
      all-more events old f.0 new more.1 (next-more old mid f.0 w s.0 s.1) f.2

next-finishes : (seq : ℕ) (old mid new : Machine) → IsWriting old mid → (Later mid new × GoesOnWith 0 mid new (Ok (reply.Done seq))) ⊎ ((refusal (Image image.Next (Ok (reply.Done seq))) ≡ Some refused.Memory) × (new ≡ mid))
    → IsWhole old new
next-finishes seq old mid new w (inl s) = next-done seq old mid new w s.0 s.1
next-finishes seq old mid new w (inr s) = let none : None ≡ Some refused.Memory = s.0 in absurd cc

writing-as : (old mid new : Machine) → IsWriting old mid → new ≡ mid → IsWriting old new
writing-as old mid new w same = subst (λ (m : Machine). IsWriting old m) (sym same) w

next-breaks : (e why : Refusal) (old mid new : Machine) → IsAtRest old.core → IsWriting old mid → e ≡ broken_off why
    → (Later mid new × GoesOnWith 0 mid new (Err why)) ⊎ ((refusal (Image image.Next (Err why)) ≡ Some refused.Memory) × (new ≡ mid)) → BreakEnds old new e
next-breaks e why old mid new rest w same (inl s) = broken-ends e why old new same (next-err why old mid new rest w s.0 s.1)
next-breaks e why old mid new rest w same (inr s) =
    broken-ends e why old new same (inl (inr (same_Some why refused.Memory s.0), writing-as old mid new w s.1))

next-odd : (file seq : ℕ) (e : Refusal) (old mid new : Machine) → IsWriting old mid
    → (Later mid new × GoesOnWith 0 mid new (Ok (reply.Begun file seq))) ⊎ ((refusal (Image image.Next (Ok (reply.Begun file seq))) ≡ Some refused.Memory) × (new ≡ mid)) → BreakEnds old new e
next-odd file seq e old mid new w (inl s) = absurd (next-begun file seq old mid new w s.0 s.1)
next-odd file seq e old mid new w (inr s) = let none : None ≡ Some refused.Memory = s.0 in absurd cc

-- it is written to its end, or not
abbrev pub WriteEnds : (old new : Machine) → Result ℕ Refusal → Type 0
WriteEnds old new (Ok seq) = IsWhole old new
WriteEnds old new (Err e) = BreakEnds old new e

module _ (trusted : Type 0) (places : Places) where
  breaks : (count : ℕ) (e : Refusal) (events : List Event) (old mid new : Machine) → IsAtRest old.core → IsWriting old mid → BreaksOff count e events → Alone trusted places 0 events mid new → BreakEnds old new e
  breaks count e events old mid new rest w (inl (why, same, made)) f = next-breaks e why old mid new rest w same (next-step trusted places (Err why) events mid new made f)
  breaks count e events old mid new rest w (inr (inl (file, seq, same, made))) f = next-odd file seq e old mid new w (next-step trusted places (Ok (reply.Begun file seq)) events mid new made f)
  breaks count e events old mid new rest w (inr (inr (all, same, none))) f = inl (inr same, writing-as old mid new w (alone-none trusted places 0 events mid new none f))

  continues : (events : List Event) (result : Result ℕ Refusal) (old mid new : Machine) → IsAtRest old.core → IsWriting old mid → Continues events result → Alone trusted places 0 events mid new → WriteEnds old new result
  continues events (Ok seq) old mid new rest w (xs, ys, cut, more, done) f =
      let parts = alone-parts trusted places 0 events xs ys mid new cut f in
      next-finishes seq old parts.0 new (all-more trusted places xs old mid parts.0 more w parts.1) (next-step trusted places (Ok (reply.Done seq)) ys parts.0 new done parts.2)
  continues events (Err e) old mid new rest w (zs, (xs, ys, cut, more, broken)) f =
      let parts = alone-parts trusted places 0 events xs ys mid new cut f in
      breaks (length zs) e ys old parts.0 new rest (all-more trusted places xs old mid parts.0 more.1 w parts.1) broken parts.2

-- ---- the whole

-- What a checkpoint comes to.
pub record Checkpointed (old new : Machine) (result : Result ℕ Refusal) : Type 0 where
  pub came : Checkpoints old new result
  pub leaves : Leaves result [] old new
  pub bytes : SameBytes old new
  pub image : (e : Refusal) → result ≡ Err e → SameImage old new × (new.core.log_length ≡ old.core.log_length)
  pub late : IsLate old → IsStopped result

-- what a machine leaves whose journal, generation and log are as they were
abbrev IsSame : Core → Core → Type 0
IsSame c d = (d.generation ≡ c.generation) × (d.log_length ≡ c.log_length)

same-image : (c : Core) (old new : Machine) → Became c old new → IsSame old.core c → SameImage old new × (new.core.log_length ≡ old.core.log_length)
same-image c old new b s = (ap (λ (x : Core). x.generation) b.core ∙ s.0, ap (λ (x : Core). x.log_length) b.core ∙ s.1)

whole-came : (seq : ℕ) (old new : Machine) → IsAtRest old.core → (IsLate old → ⊥) → IsWhole old new → Checkpointed old new (Ok seq)
whole-came seq old new rest soon w =
    let d : Core = checkpointed w.moment w.written (with_image w.image old.core) in
    let long : (inventory old.core).number ≡ old.core.base.number + length old.core.journal = after-number old.core.base old.core.journal in
    let first : w.seq ≡ (inventory old.core).number = w.is in
    let its : w.written.seq ≡ w.seq = w.same in
    let none : drop (w.written.seq - old.core.base.number) old.core.journal ≡ [] = drop_all (w.written.seq - old.core.base.number) old.core.journal (omega (arith, long, first, its)) in
    let empty : new.core.log_length ≡ 0 = ap (λ (x : Core). x.log_length) w.became.core ∙ ap records_length none in
    let next : new.core.generation ≡ old.core.generation + 1 = ap (λ (x : Core). x.generation) w.became.core in
    let rests : IsAtRest d = record {
      tickets = rest.tickets;
      image = refl;
      durable = stamped-durable w.moment (with_image w.image old.core) (let all : length old.core.stamps ≡ length old.core.journal = rest.durable in omega (arith, all));
      fault = rest.fault;
    } in
    record {
      came = (next, empty);
      leaves = record {
        adds = record { base = ap (λ (x : Core). x.base) w.became.core; journal = ap (λ (x : Core). x.journal) w.became.core ∙ sym (append-nil old.core.journal) };
        onward = w.became.onward;
        log = inr (next, empty);
        nearly = nearly-all new.core (rest-as new.core d w.became.core rests).durable;
        rests = λ h. rest-as new.core d w.became.core rests;
        durable = λ h. inl (rest-as new.core d w.became.core rests).durable;
      };
      bytes = w.became.contents;
      image = λ e h. absurd cc;
      late = λ l. absurd (soon l);
    }

-- an image is left where the run ended
writing-came : (e : Refusal) (old new : Machine) → IsAtRest old.core → (IsLate old → AreLast e) → Stops new e → IsWriting old new → Checkpointed old new (Err e)
writing-came e old new rest last (inl (is, late)) (i, mine, b) =
    subst (λ (x : Refusal). Checkpointed old new (Err x)) (sym is)
    (record {
      came = inr late;
      leaves = ended-leaves (Err refused.RunFull) (with_image (Some i) old.core) old new (record { base = refl; journal = refl; generation = refl; log_length = refl }) b (nearly-all old.core rest.durable) refl (inl refl);
      bytes = b.contents;
      image = λ f h. same-image (with_image (Some i) old.core) old new b (refl, refl);
      late = λ l. inl refl;
    })
writing-came e old new rest last (inr is) (i, mine, b) =
    subst (λ (x : Refusal). Checkpointed old new (Err x)) (sym is)
    (record {
      came = inr tt;
      leaves = ended-leaves (Err refused.Memory) (with_image (Some i) old.core) old new (record { base = refl; journal = refl; generation = refl; log_length = refl }) b (nearly-all old.core rest.durable) refl (inr rest.durable);
      bytes = b.contents;
      image = λ f h. same-image (with_image (Some i) old.core) old new b (refl, refl);
      late = λ l. inr refl;
    })

faulted-came : (e : Refusal) (image : Option Written) (old new : Machine) → IsAtRest old.core → (IsLate old → AreLast e) → Faulted (with_image image old.core) old new e → Checkpointed old new (Err e)
faulted-came e image old new rest last (file, count, is, fault, b) =
    subst (λ (x : Refusal). Checkpointed old new (Err x)) (sym is)
    (record {
      came = inr (fault.0, fault.1);
      leaves = ended-leaves (Err (refused.LogFault file count)) (halting file count (with_image image old.core)) old new (record { base = refl; journal = refl; generation = refl; log_length = refl }) b (nearly-all old.core rest.durable) refl (inl refl);
      bytes = b.contents;
      image = λ f h. same-image (halting file count (with_image image old.core)) old new b (refl, refl);
      late = λ l. stopped-err ℕ (refused.LogFault file count) (subst AreLast is (last l));
    })

still-came : (e : Refusal) (old new : Machine) → IsAtRest old.core → (IsLate old → AreLast e) → Stops new e ⊎ ((e ≡ refused.InventoryFull) × IsLastImage old) → Became old.core old new → Checkpointed old new (Err e)
still-came e old new rest last (inl s) b =
    record { came = inr (stops-run old new e s); leaves = still-leaves (Err e) old new rest b; bytes = b.contents; image = λ f h. same-image old.core old new b (refl, refl); late = λ l. stopped-err ℕ e (last l) }
still-came e old new rest last (inr full) b =
    record { came = inl full; leaves = still-leaves (Err e) old new rest b; bytes = b.contents; image = λ f h. same-image old.core old new b (refl, refl); late = λ l. stopped-err ℕ e (last l) }

begin-came : (e : Refusal) (old new : Machine) → IsAtRest old.core → BeginEnds old new (Err e) → Checkpointed old new (Err e)
begin-came e old new rest (last, inl (inl (h, b))) = still-came e old new rest last h b
begin-came e old new rest (last, inl (inr f)) = faulted-came e old.core.image old new rest last f
begin-came e old new rest (last, inr (is, w)) = writing-came e old new rest last (inr is) w

write-came : (result : Result ℕ Refusal) (old new : Machine) → IsAtRest old.core → (IsLate old → ⊥) → WriteEnds old new result → Checkpointed old new result
write-came (Ok seq) old new rest soon w = whole-came seq old new rest soon w
write-came (Err e) old new rest soon (inl (s, w)) = writing-came e old new rest (λ l. absurd (soon l)) s w
write-came (Err e) old new rest soon (inr (i, f)) = faulted-came e (Some i) old new rest (λ l. absurd (soon l)) f

module _ (trusted : Type 0) (places : Places) where
  pub checkpoints : (events : List Event) (result : Result ℕ Refusal) (old new : Machine) → IsAtRest old.core → CheckpointsBy events result → Alone trusted places 0 events old new → Checkpointed old new result
  checkpoints events result old new rest (inl (e, opened, is)) f =
      subst (λ (r : Result ℕ Refusal). Checkpointed old new r) (sym is) (begin-came e old new rest (opens trusted places events (Err e) old new rest opened f))
  checkpoints events result old new rest (inr (seq, (xs, ys, cut, opened, written))) f =
      let parts = alone-parts trusted places 0 events xs ys old new cut f in
      let begun = opens trusted places xs (Ok seq) old parts.0 rest opened parts.1 in
      write-came result old new rest begun.0 (continues trusted places ys result old parts.0 new rest begun.1 written parts.2)
