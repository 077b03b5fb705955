-- A change where one actor has the machine alone: it is committed and forced, or refused by what refuses it, or the run ended.
use Rattle.std.proofs.Common.{◌≡◌, ◌⊎◌, inl, inr, ℕ, zero, suc, ◌+◌, ◌==◌, Bool, true, false, List, [], ◌∷◌, ◌++◌, length, Option, None, Some, Result, Ok, Err, refl, sym, ap, subst, ◌∙◌, arith}
use Rattle.std.proofs.lemmas.List.{append-nil, length-append}
use Rattle.std.proofs.lemmas.Bool.{false≢true}
use Rattle.std.proofs.lemmas.Option.{same_Some}
use Rattle.std.specs.Option.{option_map_or}
use Rattle.kinds.specs.Refusals.{bad_value, foremost, unless}
use Rattle.kinds.specs.declared.change.PoolChange.{PoolChange}
use Rattle.kinds.specs.declared.change.PoolChange.TheVariants as store
use Rattle.kinds.specs.declared.change.Verb.TheVariants as verb
use Rattle.kinds.specs.declared.refusal.Holder.{Holder}
use Rattle.kinds.specs.declared.refusal.Refusal.{Refusal}
use Rattle.kinds.specs.declared.refusal.Refusal.TheVariants as refused
use Rattle.entries.specs.declared.change.Change.{Change}
use Rattle.entries.specs.declared.change.Change.TheVariants as change
use Rattle.entries.specs.declared.entry.Entry.{Entry}
use Rattle.inventory_rows.specs.pool_rows.PoolRows.{pool_named, volume_named}
use Rattle.steps.specs.declared.asked.Asked.TheVariants.{Plain}
use Rattle.steps.specs.Calls.{Made}
use Rattle.steps.specs.Events.{Event, refusal}
use Rattle.steps.specs.Events.Deed.{Commit}
use Rattle.machine.specs.Alone.{Alone}
use Rattle.machine.specs.Causes.{change_refused, commit_refused, is_plain}
use Rattle.machine.specs.Machine.{Commits as CommitsOne, IsLogFault, Joins as JoinsOne, Later, Places, asked_change, committed, halting, has_file, held_by, held_refused, made, record_length, records_length, stamped, with_tickets, written_by}
use Rattle.machine.specs.State.{Core, Image, Machine, Ticket, inventory, sight, without}
use Rattle.command_steps.specs.sessions.Changing.{Changes, Commits as Tries, Joins}
use Rattle.command_steps.specs.sessions.Waiting.{Held, Waited}
use Rattle.line_results.specs.Commands.{IsStopped, drawn}
use Rattle.line_results.specs.Resting.{Commits, IsAtRest, IsLate, IsNearlyDurable, Leaves, Makes, Onward, SameBytes, SameImage, entry, has_broken, has_ended, why_not}
use Rattle.line_results.proofs.Asked.{stopped-err}
use Rattle.line_results.proofs.Forced.{Faulted, Forced, WaitEnds, force-step, stamped-durable, wait-step}
use Rattle.line_results.proofs.Leaving.{ended-leaves, nearly-all, nearly-as, nearly-joined, rest-as, still-leaves}
use Rattle.line_results.proofs.Runs.{AreLast, Became, Refuses, Stops, alone-none, alone-parts, as_is, became-same, became-still, ends-err, ends-ok, is-as, late-ends, late-on, one-or-none, onward-then, rose-from, stops-run, onward-later}

-- ---- what others hold, where there is no ticket and no image

none-found : (f : ℕ → List Refusal) → ((n : ℕ) → f n ≡ []) → (found : Option ℕ) → option_map_or f found [] ≡ []
none-found f h None = refl
none-found f h (Some n) = h n

store-free : (p : PoolChange) (c : Core) → c.tickets ≡ [] → held_refused (change.Pool p) c ≡ []
store-free (store.DevClass v1 class capacity) c none = refl
store-free (store.Pool verb.Define name class kind rule) c none = refl
store-free (store.Pool verb.Update name class kind rule) c none = refl
store-free (store.Pool verb.Delete name class kind rule) c none =
    none-found (λ it. held_by (λ t. t.place.pool == it) c.tickets) (λ it. ap (λ (ts : List Ticket). held_by (λ t. t.place.pool == it) ts) none) (pool_named name (inventory c).stores)
store-free (store.Volume verb.Define name number file capacity access) c none = refl
store-free (store.Volume verb.Update name number file capacity access) c none = refl
store-free (store.Volume verb.Delete name number file capacity access) c none =
    none-found (λ it. held_by (has_file it) c.tickets) (λ it. ap (λ (ts : List Ticket). held_by (has_file it) ts) none) (volume_named name (inventory c).stores)

none-holds : (what : Change) (c : Core) → c.tickets ≡ [] → c.image ≡ None → held_refused what c ≡ []
none-holds (change.Day day) c none free = refl
none-holds (change.Policy p) c none free = refl
none-holds (change.Object p) c none free = refl
none-holds (change.Pool p) c none free = store-free p c none
none-holds (change.Backup p) c none free = refl
none-holds (change.Rebind p) c none free = refl
none-holds (change.Gone p) c none free = refl
none-holds (change.Move p) c none free = refl
none-holds (change.Copy p) c none free = refl
none-holds (change.DropCopies p) c none free = refl
none-holds (change.Expire p) c none free = refl
none-holds (change.Discard p) c none free = refl
none-holds (change.Reuse file) c none free = refl
none-holds (change.DbBegin file after) c none free = refl
none-holds (change.DbEnd file) c none free = refl
none-holds (change.DbDelete file) c none free = ap (λ (i : Option Image). written_by file i) free
none-holds (change.Hold p) c none free = refl

-- ---- a commit

-- what refuses it
abbrev own : Change → Machine → List Refusal
own what old =
    commit_refused 0 (Plain what) [] (sight 0 old.core)
    ++ option_map_or (λ change. held_refused change old.core) (asked_change 0 (Plain what) [] old.core) []

own-is : (what : Change) (old : Machine) → is_plain what ≡ true → IsAtRest old.core → own what old ≡ change_refused 0 (Some (drawn what old)) (sight 0 old.core)
own-is what old plain rest =
    ap (λ (b : Bool). (unless b bad_value ++ change_refused 0 (Some (drawn what old)) (sight 0 old.core)) ++ held_refused (drawn what old) old.core) plain
    ∙ ap (λ (l : List Refusal). change_refused 0 (Some (drawn what old)) (sight 0 old.core) ++ l) (none-holds (drawn what old) old.core rest.tickets rest.image)
    ∙ append-nil (change_refused 0 (Some (drawn what old)) (sight 0 old.core))

own-why : (what : Change) (old : Machine) (o : Option Refusal) → is_plain what ≡ true → IsAtRest old.core → foremost (own what old) ≡ o → why_not (drawn what old) old.core ≡ o
own-why what old o plain rest h = ap foremost (sym (own-is what old plain rest)) ∙ h

-- no ticket is spent
pub spent-none : (c : Core) → c.tickets ≡ [] → with_tickets (without 0 [] c.tickets) c ≡ c
spent-none c h = ap (λ (ts : List Ticket). with_tickets (without 0 [] ts) c) h ∙ ap (λ (ts : List Ticket). with_tickets ts c) (sym h)

committed-is : (what drawn : Change) (c : Core) → c.tickets ≡ [] → Some drawn ≡ Some what → committed 0 what [] c ≡ made 0 drawn c
committed-is what drawn c none is =
    ap (λ (k : Core). made 0 what k) (spent-none c none) ∙ ap (λ (x : Change). made 0 x c) (sym (same_Some drawn what is))

abbrev Does : Change → Machine → ℕ → Machine → Type 0
Does what old number after =
    (change : Change) × (asked_change 0 (Plain what) [] old.core ≡ Some change) × (number ≡ (inventory old.core).number + 1)
    × JoinsOne 0 change [] (committed 0 change [] old.core) old after

abbrev Fails : Change → Machine → Refusal → Machine → Type 0
Fails what old e after =
    (change : Change) × (file : ℕ) × (count : ℕ) × (asked_change 0 (Plain what) [] old.core ≡ Some change) × (e ≡ refused.LogFault file count) × IsLogFault old after file count
    × JoinsOne 0 change [] (halting file count (committed 0 change [] old.core)) old after

-- it joined; or it is refused by what refuses it, or the run ended, by a fault behind it or before
abbrev pub JoinFails : Change → (old new : Machine) → Refusal → Type 0
JoinFails what old new e =
    ((Stops new e ⊎ (why_not (drawn what old) old.core ≡ Some e)) × Became old.core old new)
    ⊎ ((why_not (drawn what old) old.core ≡ None) × Faulted (made 0 (drawn what old) old.core) old new e)

abbrev pub JoinEnds : Change → (old new : Machine) → Result ℕ Refusal → Type 0
JoinEnds what old new (Ok number) = (IsLate old → ⊥) × (why_not (drawn what old) old.core ≡ None) × Became (made 0 (drawn what old) old.core) old new
JoinEnds what old new (Err e) = (IsLate old → AreLast e) × JoinFails what old new e

join-refused : (what : Change) (e : Refusal) (old new : Machine) → is_plain what ≡ true → IsAtRest old.core → Later old new → Refuses (own what old) (Fails what old) old new e → JoinFails what old new e
join-refused what e old new plain rest later (inl (inl s, b)) = inl (inl s, b)
join-refused what e old new plain rest later (inl (inr f, b)) = inl (inr (own-why what old (Some e) plain rest f), b)
join-refused what e old new plain rest later (inr (soon, none, (change, file, count, is, why, fault, joins))) =
    inr (
      own-why what old None plain rest none,
      (
        file,
        count,
        why,
        fault,
        record {
          core = joins.0 ∙ ap (λ (k : Core). halting file count k) (committed-is change (drawn what old) old.core rest.tickets is);
          contents = joins.1;
          onward = onward-later old new later;
        },
      ),
    )

join-made : (what : Change) (answer : Result ℕ Refusal) (old new : Machine) → is_plain what ≡ true → IsAtRest old.core → Later old new → CommitsOne 0 (Plain what) [] old new answer → JoinEnds what old new answer
join-made what (Ok number) old new plain rest later h =
    let t = ends-ok (own what old) (Does what old) (Fails what old) old new number h in
    let joins = t.2.3 in (
      t.0,
      own-why what old None plain rest t.1,
      record {
        core = joins.0 ∙ committed-is t.2.0 (drawn what old) old.core rest.tickets t.2.1;
        contents = joins.1;
        onward = onward-later old new later;
      },
    )
join-made what (Err e) old new plain rest later h = (
  λ l. late-ends (own what old) (Does what old) (Fails what old) old new e l h,
  join-refused what e old new plain rest later (ends-err (own what old) (Does what old) (Fails what old) old new e rest.fault later h),
)

join-not : (what : Change) (answer : Result ℕ Refusal) (old new : Machine) → refusal (Commit (Plain what) [] answer) ≡ Some refused.Memory → new ≡ old → JoinEnds what old new answer
join-not what (Ok number) old new h same = absurd cc
join-not what (Err e) old new h same =
    let is : e ≡ refused.Memory = same_Some e refused.Memory h in
    (λ l. inr is, inl (inl (inr is), became-same old new same))

module _ (trusted : Type 0) (places : Places) where
  pub join-step : (what : Change) (answer : Result ℕ Refusal) (events : List Event) (old new : Machine) → is_plain what ≡ true → IsAtRest old.core → Made (Commit (Plain what) [] answer) events
      → Alone trusted places 0 events old new → JoinEnds what old new answer
  join-step what answer events old new plain rest made f =
      elim (one-or-none trusted places (Commit (Plain what) [] answer) events old new (λ contents seen h. h) (λ contents m. refl) made f) as (λ _. JoinEnds what old new answer) [
        | inl s ↦ join-made what answer old new plain rest s.0 s.1
        | inr s ↦ join-not what answer old new s.0 s.1
      ]

-- ---- from an earlier state

as-onward : (c : Core) (old m : Machine) → Became c old m → Onward old (as_is c old m)
as-onward c old m b = record { counts = b.onward.counts; since = b.onward.since }

became-since : (c : Core) (old mid new : Machine) → Became old.core old mid → Became c (as_is old.core old mid) new → Became c old new
became-since c old mid new b k = record { core = k.core; contents = k.contents; onward = onward-then old (as_is old.core old mid) new (as-onward old.core old mid b) k.onward }

pub faulted-since : (c : Core) (old mid new : Machine) (e : Refusal) → Became old.core old mid → Faulted c (as_is old.core old mid) new e → Faulted c old new e
faulted-since c old mid new e b (file, count, is, fault, k) =
    (file, count, is, (fault.0, rose-from old (as_is old.core old mid) new file (as-onward old.core old mid b) fault.1, fault.2), became-since (halting file count c) old mid new b k)

fails-since : (what : Change) (e : Refusal) (old mid new : Machine) → Became old.core old mid → JoinFails what (as_is old.core old mid) new e → JoinFails what old new e
fails-since what e old mid new b (inl (h, k)) = inl (h, became-since old.core old mid new b k)
fails-since what e old mid new b (inr (none, f)) = inr (none, faulted-since (made 0 (drawn what old) old.core) old mid new e b f)

joins-as : (what : Change) (answer : Result ℕ Refusal) (old mid new : Machine) → Became old.core old mid → JoinEnds what (as_is old.core old mid) new answer → JoinEnds what old new answer
joins-as what (Ok number) old mid new b (soon, none, k) = (λ l. soon (late-on old (as_is old.core old mid) (as-onward old.core old mid b) l), none, became-since (made 0 (drawn what old) old.core) old mid new b k)
joins-as what (Err e) old mid new b (last, h) = (λ l. last (late-on old (as_is old.core old mid) (as-onward old.core old mid b) l), fails-since what e old mid new b h)

joins-since : (what : Change) (answer : Result ℕ Refusal) (old mid new : Machine) → Became old.core old mid → JoinEnds what mid new answer → JoinEnds what old new answer
joins-since what answer old mid new b h = joins-as what answer old mid new b (subst (λ (m : Machine). JoinEnds what m new answer) (is-as old.core old mid b) h)

-- ---- tries

-- a try that found it held is refused so by what refuses it, and then nothing was done but waiting
pub record IsHeld (what : Change) (old new : Machine) (h : Holder) : Type 0 where
  pub still : Became old.core old new
  pub why : why_not (drawn what old) old.core ≡ Some (refused.Busy h)
  pub soon : IsLate old → ⊥

not-last : (h : Holder) → AreLast (refused.Busy h) → ⊥
not-last h (inl is) = cc
not-last h (inr is) = cc

not-stops : (h : Holder) (new : Machine) → Stops new (refused.Busy h) → ⊥
not-stops h new (inl is) = let same : refused.Busy h ≡ refused.RunFull = is.0 in cc
not-stops h new (inr is) = cc

held-of : (what : Change) (h : Holder) (old new : Machine) → JoinEnds what old new (Err (refused.Busy h)) → IsHeld what old new h
held-of what h old new (last, inl (inl s, b)) = absurd (not-stops h new s)
held-of what h old new (last, inl (inr why, b)) = record { still = b; why = why; soon = λ l. not-last h (last l) }
held-of what h old new (last, inr (none, (file, count, is, fault, k))) = absurd cc

-- the answer of a wait behind a try that found it held
abbrev HeldEnds : Change → (old new : Machine) → Result (Unit {0}) Refusal → Type 0
HeldEnds what old new (Ok done) = Became old.core old new × (IsLate old → ⊥)
HeldEnds what old new (Err e) = (IsLate old → ⊥) × (((Stops new e ⊎ (why_not (drawn what old) old.core ≡ Some e)) × Became old.core old new) ⊎ Faulted old.core old new e)

held-wait : (what : Change) (h : Holder) (answer : Result (Unit {0}) Refusal) (old mid new : Machine) → IsHeld what old mid h → WaitEnds h (as_is old.core old mid) new answer → HeldEnds what old new answer
held-wait what h (Ok done) old mid new it w = (became-since old.core old mid new it.still w, it.soon)
held-wait what h (Err e) old mid new it (inl (inl s, k)) = (it.soon, inl (inl s, became-since old.core old mid new it.still k))
held-wait what h (Err e) old mid new it (inl (inr is, k)) =
    (it.soon, inl (inr (subst (λ (x : Refusal). why_not (drawn what old) old.core ≡ Some x) (sym is) it.why), became-since old.core old mid new it.still k))
held-wait what h (Err e) old mid new it (inr f) = (it.soon, inr (faulted-since old.core old mid new e it.still f))

module _ (trusted : Type 0) (places : Places) where
  held-ends : (what : Change) (events : List Event) (answer : Result (Unit {0}) Refusal) (old new : Machine) → is_plain what ≡ true → IsAtRest old.core → Held (Tries (Plain what)) events answer
      → Alone trusted places 0 events old new → HeldEnds what old new answer
  held-ends what events answer old new plain rest (h, (xs, ys, cut, tried, awaited)) f =
      let parts = alone-parts trusted places 0 events xs ys old new cut f in
      let it = held-of what h old parts.0 (join-step trusted places what (Err (refused.Busy h)) xs old parts.0 plain rest tried parts.1) in
      held-wait what h answer old parts.0 new it
      (subst (λ (m : Machine). WaitEnds h m new answer) (is-as old.core old parts.0 it.still)
      (wait-step trusted places h answer ys parts.0 new (rest-as parts.0.core old.core it.still.core rest) awaited parts.2))

  waited-ends : (what : Change) (number : ℕ) (events : List Event) (old new : Machine) → is_plain what ≡ true → IsAtRest old.core → Waited (Tries (Plain what)) number events
      → Alone trusted places 0 events old new → Became old.core old new
  waited-ends what zero events old new plain rest none f = became-same old new (alone-none trusted places 0 events old new none f)
  waited-ends what (suc number) events old new plain rest (xs, ys, cut, waited, held) f =
      let parts = alone-parts trusted places 0 events xs ys old new cut f in
      let b = waited-ends what number xs old parts.0 plain rest waited parts.1 in
      became-still old.core old parts.0 new b (held-ends what ys (Ok tt) parts.0 new plain (rest-as parts.0.core old.core b.core rest) held parts.2).0

-- ---- all tries

-- it joined; or it is refused by what refuses it, or the run ended, by a fault behind it or before
abbrev pub TryEnds : Change → (old new : Machine) → Result ℕ Refusal → Type 0
TryEnds what old new (Ok number) = (IsLate old → ⊥) × (why_not (drawn what old) old.core ≡ None) × Became (made 0 (drawn what old) old.core) old new
TryEnds what old new (Err e) = (IsLate old → AreLast e) × (JoinFails what old new e ⊎ Faulted old.core old new e)

try-of : (what : Change) (answer : Result ℕ Refusal) (old new : Machine) → JoinEnds what old new answer → TryEnds what old new answer
try-of what (Ok number) old new h = h
try-of what (Err e) old new h = (h.0, inl h.1)

held-as : (what : Change) (e : Refusal) (old mid new : Machine) → Became old.core old mid → HeldEnds what (as_is old.core old mid) new (Err e) → TryEnds what old new (Err e)
held-as what e old mid new b (soon, inl (h, k)) = (λ l. absurd (soon (late-on old (as_is old.core old mid) (as-onward old.core old mid b) l)), inl (inl (h, became-since old.core old mid new b k)))
held-as what e old mid new b (soon, inr f) = (λ l. absurd (soon (late-on old (as_is old.core old mid) (as-onward old.core old mid b) l)), inr (faulted-since old.core old mid new e b f))

module _ (trusted : Type 0) (places : Places) where
  tries-end : (what : Change) (events : List Event) (result : Result ℕ Refusal) (old new : Machine) → is_plain what ≡ true → IsAtRest old.core → Joins (Plain what) events result
      → Alone trusted places 0 events old new → TryEnds what old new result
  tries-end what events result old new plain rest (number, (xs, ys, cut, waited, inl (none, tried))) f =
      let parts = alone-parts trusted places 0 events xs ys old new cut f in
      let b = waited-ends trusted places what number xs old parts.0 plain rest waited parts.1 in
      try-of what result old new (joins-since what result old parts.0 new b (join-step trusted places what result ys parts.0 new plain (rest-as parts.0.core old.core b.core rest) tried parts.2))
  tries-end what events result old new plain rest (number, (xs, ys, cut, waited, inr (inl (e, held, is)))) f =
      let parts = alone-parts trusted places 0 events xs ys old new cut f in
      let b = waited-ends trusted places what number xs old parts.0 plain rest waited parts.1 in
      subst (λ (r : Result ℕ Refusal). TryEnds what old new r) (sym is)
      (held-as what e old parts.0 new b
      (subst (λ (m : Machine). HeldEnds what m new (Err e)) (is-as old.core old parts.0 b)
      (held-ends trusted places what ys (Err e) parts.0 new plain (rest-as parts.0.core old.core b.core rest) held parts.2)))
  tries-end what events result old new plain rest (number, (xs, ys, cut, waited, inr (inr (all, none, is)))) f =
      let parts = alone-parts trusted places 0 events xs ys old new cut f in
      let b = waited-ends trusted places what number xs old parts.0 plain rest waited parts.1 in
      subst (λ (r : Result ℕ Refusal). TryEnds what old new r) (sym is)
      (λ l. inr refl, inl (inl (inl (inr refl), became-still old.core old parts.0 new b (became-same parts.0 new (alone-none trusted places 0 ys parts.0 new none parts.2)))))

-- ---- what a transaction leaves

pub record HasJoined (c : Change) (old d : Core) : Type 0 where
  pub base : d.base ≡ old.base
  pub journal : d.journal ≡ old.journal ++ entry c ∷ []
  pub generation : d.generation ≡ old.generation
  pub log_length : d.log_length ≡ old.log_length + record_length (entry c)

one-record : (e : Entry) → record_length e ≡ records_length (e ∷ [])
one-record e = omega arith

pub joined-leaves : {A : Type 0} (result : Result A Refusal) (c : Change) (d : Core) (old new : Machine) → HasJoined c old.core d → Became d old new → IsNearlyDurable d → (has_ended result ≡ false → IsAtRest d)
    → (has_broken result ≡ false → (length d.stamps ≡ length d.journal) ⊎ ((has_ended result ≡ true) × (entry c ∷ [] ≡ [] → ⊥))) → Leaves result (entry c ∷ []) old new
joined-leaves result c d old new j b nearly rests durable = record {
  adds = record { base = ap (λ (x : Core). x.base) b.core ∙ j.base; journal = ap (λ (x : Core). x.journal) b.core ∙ j.journal };
  onward = b.onward;
  log = inl (ap (λ (x : Core). x.generation) b.core ∙ j.generation, ap (λ (x : Core). x.log_length) b.core ∙ j.log_length ∙ ap (λ (n : ℕ). old.core.log_length + n) (one-record (entry c)));
  nearly = nearly-as new.core d b.core nearly;
  rests = λ h. rest-as new.core d b.core (rests h);
  durable = λ h. subst (λ (x : Core). (length x.stamps ≡ length x.journal) ⊎ ((has_ended result ≡ true) × (entry c ∷ [] ≡ [] → ⊥))) (sym b.core) (durable h);
}

-- ---- the whole

-- What a change comes to.
pub record Changed (what : Change) (old new : Machine) (result : Result ℕ Refusal) : Type 0 where
  pub added : List Entry
  pub commits : Commits (drawn what old) old new result added
  pub leaves : Leaves result added old new
  pub image : SameImage old new
  pub bytes : SameBytes old new
  pub late : IsLate old → IsStopped result

some-added : (c : Change) → entry c ∷ [] ≡ [] → ⊥
some-added c h = cc

-- it joined behind durable ones
made-nearly : (c : Change) (old : Core) → IsAtRest old → IsNearlyDurable (made 0 c old)
made-nearly c old rest = nearly-joined old.stamps old.journal (entry c) rest.durable

-- it was made durable
changed-forced : (what : Change) (number moment : ℕ) (old new : Machine) → IsAtRest old.core → (IsLate old → ⊥) → why_not (drawn what old) old.core ≡ None
    → Became (stamped moment (made 0 (drawn what old) old.core)) old new → Changed what old new (Ok number)
changed-forced what number moment old new rest soon none b =
    let c : Change = drawn what old in
    let long : length (old.core.journal ++ entry c ∷ []) ≡ length old.core.journal + 1 = length-append old.core.journal (entry c ∷ []) in
    let all : length old.core.stamps ≡ length old.core.journal = rest.durable in
    let rests : IsAtRest (stamped moment (made 0 c old.core)) = record {
      tickets = rest.tickets;
      image = rest.image;
      durable = stamped-durable moment (made 0 c old.core) (omega (arith, long, all));
      fault = rest.fault;
    } in
    record {
      added = entry c ∷ [];
      commits = (none, refl);
      leaves = joined-leaves (Ok number) c (stamped moment (made 0 c old.core)) old new (record { base = refl; journal = refl; generation = refl; log_length = refl }) b (nearly-all (stamped moment (made 0 c old.core)) rests.durable) (λ h. rests) (λ h. inl rests.durable);
      image = ap (λ (x : Core). x.generation) b.core;
      bytes = b.contents;
      late = λ l. absurd (soon l);
    }

-- it joined, and then the log failed
changed-faulted : (what : Change) (e : Refusal) (old new : Machine) → IsAtRest old.core → (IsLate old → AreLast e) → why_not (drawn what old) old.core ≡ None → Faulted (made 0 (drawn what old) old.core) old new e
    → Changed what old new (Err e)
changed-faulted what e old new rest last none (file, count, is, fault, b) =
    let c : Change = drawn what old in
    subst (λ (x : Refusal). Changed what old new (Err x)) (sym is)
    (record {
      added = entry c ∷ [];
      commits = inr ((fault.0, fault.1), inr (none, refl));
      leaves = joined-leaves (Err (refused.LogFault file count)) c (halting file count (made 0 c old.core)) old new (record { base = refl; journal = refl; generation = refl; log_length = refl }) b (made-nearly c old.core rest)
          (λ h. absurd (false≢true (sym h))) (λ h. absurd (false≢true (sym h)));
      image = ap (λ (x : Core). x.generation) b.core;
      bytes = b.contents;
      late = λ l. stopped-err ℕ (refused.LogFault file count) (subst AreLast is (last l));
    })

-- nothing joined, and the log failed
changed-halted : (what : Change) (e : Refusal) (old new : Machine) → IsAtRest old.core → (IsLate old → AreLast e) → Faulted old.core old new e → Changed what old new (Err e)
changed-halted what e old new rest last (file, count, is, fault, b) =
    subst (λ (x : Refusal). Changed what old new (Err x)) (sym is)
    (record {
      added = [];
      commits = inr ((fault.0, fault.1), inl refl);
      leaves = ended-leaves (Err (refused.LogFault file count)) (halting file count old.core) old new (record { base = refl; journal = refl; generation = refl; log_length = refl }) b (nearly-all old.core rest.durable) refl (inl refl);
      image = ap (λ (x : Core). x.generation) b.core;
      bytes = b.contents;
      late = λ l. stopped-err ℕ (refused.LogFault file count) (subst AreLast is (last l));
    })

-- it isn't made, or the run ended before it
changed-not : (what : Change) (e : Refusal) (old new : Machine) → IsAtRest old.core → (IsLate old → AreLast e) → Stops new e ⊎ (why_not (drawn what old) old.core ≡ Some e) → Became old.core old new
    → Changed what old new (Err e)
changed-not what e old new rest last (inl s) b =
    record { added = []; commits = inr (stops-run old new e s, inl refl); leaves = still-leaves (Err e) old new rest b; image = ap (λ (x : Core). x.generation) b.core; bytes = b.contents; late = λ l. stopped-err ℕ e (last l) }
changed-not what e old new rest last (inr why) b =
    record { added = []; commits = inl (why, refl); leaves = still-leaves (Err e) old new rest b; image = ap (λ (x : Core). x.generation) b.core; bytes = b.contents; late = λ l. stopped-err ℕ e (last l) }

changed-err : (what : Change) (e : Refusal) (old new : Machine) → IsAtRest old.core → TryEnds what old new (Err e) → Changed what old new (Err e)
changed-err what e old new rest (last, inl (inl (h, b))) = changed-not what e old new rest last h b
changed-err what e old new rest (last, inl (inr (none, f))) = changed-faulted what e old new rest last none f
changed-err what e old new rest (last, inr f) = changed-halted what e old new rest last f

-- it joined, and wasn't forced
unforced-full : (what : Change) (old new : Machine) → IsAtRest old.core → (IsLate old → ⊥) → why_not (drawn what old) old.core ≡ None → IsLate new → Became (made 0 (drawn what old) old.core) old new
    → Changed what old new (Err refused.RunFull)
unforced-full what old new rest soon none late b =
    let c : Change = drawn what old in
    record {
      added = entry c ∷ [];
      commits = inr (late, inr (none, refl));
      leaves = joined-leaves (Err refused.RunFull) c (made 0 c old.core) old new (record { base = refl; journal = refl; generation = refl; log_length = refl }) b (made-nearly c old.core rest)
          (λ h. absurd (false≢true (sym h))) (λ h. absurd (false≢true (sym h)));
      image = ap (λ (x : Core). x.generation) b.core;
      bytes = b.contents;
      late = λ l. absurd (soon l);
    }

unforced-wanted : (what : Change) (old new : Machine) → IsAtRest old.core → (IsLate old → ⊥) → why_not (drawn what old) old.core ≡ None → Became (made 0 (drawn what old) old.core) old new
    → Changed what old new (Err refused.Memory)
unforced-wanted what old new rest soon none b =
    let c : Change = drawn what old in
    record {
      added = entry c ∷ [];
      commits = inr (tt, inr (none, refl));
      leaves = joined-leaves (Err refused.Memory) c (made 0 c old.core) old new (record { base = refl; journal = refl; generation = refl; log_length = refl }) b (made-nearly c old.core rest)
          (λ h. absurd (false≢true (sym h))) (λ h. inr (refl, some-added c));
      image = ap (λ (x : Core). x.generation) b.core;
      bytes = b.contents;
      late = λ l. absurd (soon l);
    }

changed-unforced : (what : Change) (e : Refusal) (old new : Machine) → IsAtRest old.core → (IsLate old → ⊥) → why_not (drawn what old) old.core ≡ None → Stops new e → Became (made 0 (drawn what old) old.core) old new
    → Changed what old new (Err e)
changed-unforced what e old new rest soon none (inl s) b = subst (λ (x : Refusal). Changed what old new (Err x)) (sym s.0) (unforced-full what old new rest soon none s.1 b)
changed-unforced what e old new rest soon none (inr is) b = subst (λ (x : Refusal). Changed what old new (Err x)) (sym is) (unforced-wanted what old new rest soon none b)

-- ---- behind the commit

forced-behind : (c : Core) (moment : ℕ) (old mid new : Machine) → Became c old mid → Became (stamped moment mid.core) mid new → Became (stamped moment c) old new
forced-behind c moment old mid new a b = record { core = b.core ∙ ap (λ (k : Core). stamped moment k) a.core; contents = b.contents ∙ a.contents; onward = onward-then old mid new a.onward b.onward }

faulted-behind : (c : Core) (e : Refusal) (old mid new : Machine) → Became c old mid → Faulted mid.core mid new e → Faulted c old new e
faulted-behind c e old mid new a (file, count, is, fault, b) = (
  file,
  count,
  is,
  (fault.0, rose-from old mid new file a.onward fault.1, fault.2),
  record {
    core = b.core ∙ ap (λ (k : Core). halting file count k) a.core;
    contents = b.contents ∙ a.contents;
    onward = onward-then old mid new a.onward b.onward;
  },
)

changed-force : (what : Change) (number : ℕ) (e : Refusal) (old mid new : Machine) → IsAtRest old.core → TryEnds what old mid (Ok number) → Forced mid new (Err e) → Changed what old new (Err e)
changed-force what number e old mid new rest (soon, none, a) (inl (s, b)) = changed-unforced what e old new rest soon none s (became-still (made 0 (drawn what old) old.core) old mid new a b)
changed-force what number e old mid new rest (soon, none, a) (inr f) =
    changed-faulted what e old new rest (λ l. absurd (soon l)) none (faulted-behind (made 0 (drawn what old) old.core) e old mid new a f)

module _ (trusted : Type 0) (places : Places) where
  pub changes : (what : Change) (events : List Event) (result : Result ℕ Refusal) (old new : Machine) → is_plain what ≡ true → IsAtRest old.core → Changes what events result
      → Alone trusted places 0 events old new → Changed what old new result
  changes what events (Ok number) old new plain rest (last, (xs, ys, cut, joins, forced)) f =
      let parts = alone-parts trusted places 0 events xs ys old new cut f in
      let t = tries-end trusted places what xs (Ok number) old parts.0 plain rest joins parts.1 in
      changed-forced what number new.moment old new rest t.0 t.1
      (forced-behind (made 0 (drawn what old) old.core) new.moment old parts.0 new t.2
      (force-step trusted places (Ok last) ys parts.0 new (ap (λ (k : Core). k.fault) t.2.core ∙ rest.fault) forced parts.2))
  changes what events (Err e) old new plain rest (inl joins) f = changed-err what e old new rest (tries-end trusted places what events (Err e) old new plain rest joins f)
  changes what events (Err e) old new plain rest (inr (number, (xs, ys, cut, joins, forced))) f =
      let parts = alone-parts trusted places 0 events xs ys old new cut f in
      let t = tries-end trusted places what xs (Ok number) old parts.0 plain rest joins parts.1 in
      changed-force what number e old parts.0 new rest t (force-step trusted places (Err e) ys parts.0 new (ap (λ (k : Core). k.fault) t.2.core ∙ rest.fault) forced parts.2)

  pub makes : (what : Change) (events : List Event) (number : ℕ) (old new : Machine) → is_plain what ≡ true → IsAtRest old.core → Changes what events (Ok number)
      → Alone trusted places 0 events old new → (why_not (drawn what old) old.core ≡ None) × Makes (drawn what old) old new
  makes what events number old new plain rest (last, (xs, ys, cut, joins, forced)) f =
      let parts = alone-parts trusted places 0 events xs ys old new cut f in
      let t = tries-end trusted places what xs (Ok number) old parts.0 plain rest joins parts.1 in
      let b = forced-behind (made 0 (drawn what old) old.core) new.moment old parts.0 new t.2
      (force-step trusted places (Ok last) ys parts.0 new (ap (λ (k : Core). k.fault) t.2.core ∙ rest.fault) forced parts.2) in
      (t.1, (new.moment, b.core, b.contents, b.onward))
