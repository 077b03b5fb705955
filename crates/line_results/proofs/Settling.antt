-- All is made durable behind steps of the script that leave no ticket and no image in progress: what is left then, and how it may end the run.
use Rattle.std.proofs.Common.{◌≡◌, ◌⊎◌, inl, inr, ℕ, ◌+◌, ◌<◌, ◌≤◌, max, nat_lt, Bool, true, false, List, [], ◌∷◌, ◌++◌, length, Option, None, Some, Result, Ok, Err, refl, sym, ap, subst, ◌∙◌, arith}
use Rattle.std.proofs.lemmas.Bool.{false≢true, ltb-false, ltb-true}
use Rattle.std.proofs.lemmas.List.{append-nil, length-append}
use Rattle.std.proofs.lemmas.Option.{same_Some}
use Rattle.kinds.specs.Refusals.{foremost, unless}
use Rattle.kinds.specs.declared.refusal.Refusal.{Refusal}
use Rattle.kinds.specs.declared.refusal.Refusal.TheVariants as refused
use Rattle.entries.specs.declared.change.Change.{Change}
use Rattle.entries.specs.declared.entry.Entry.{Entry}
use Rattle.script_loop.specs.declared.ends.Halt.{Halt}
use Rattle.steps.specs.Calls.{Made}
use Rattle.steps.specs.Events.{Event, has_number, is_listed, refusal}
use Rattle.steps.specs.Events.Deed.{Force}
use Rattle.machine.specs.Alone.{Alone}
use Rattle.machine.specs.Machine.{ForceFails, Forces, Later, Places, Stays, ended, halted, last_moment, records_length, stamped}
use Rattle.machine.specs.State.{Core, Machine}
use Rattle.command_steps.specs.Answers.{halt_by}
use Rattle.command_steps.specs.Doing.{Forcing, behind_force, within_run}
use Rattle.command_steps.specs.declared.outcome.Outcome.{Outcome}
use Rattle.line_results.specs.Commands.{IsStopped}
use Rattle.line_results.specs.Resting.{Adds, EndsRun, IsAtRest, IsLate, LogEnds, Onward, RoseFrom, SameBytes, SameImage, has_broken, has_ended}
use Rattle.line_results.proofs.Asked.{stopped-err}
use Rattle.line_results.proofs.Forced.{stamped-durable}
use Rattle.line_results.proofs.Leaving.{Left}
use Rattle.line_results.proofs.Runs.{AreLast, ends-since, late-first, late-on, none-full, one-or-none, onward-later, onward-none, onward-then, rose-from, rose-on}
use Rattle.line_results.proofs.Walking.{Grew, RoseIn, Under, force-free, force-grew, force-image}

-- ---- why a force is refused

-- a fault that had halted the machine
not-late : (m : Machine) → nat_lt m.moment last_moment ≡ true → IsLate m → ⊥
not-late m soon late = (let less : m.moment < last_moment = ltb-true m.moment last_moment soon in let most : last_moment ≤ m.moment = late in omega (arith, less, most))

-- The run is full; or memory was wanted; or the machine is halted, by a fault of a file whose count rose, and it isn't late.
abbrev pub Refuses : (old m new : Machine) → Refusal → Type 0
Refuses old m new e =
    ((e ≡ refused.RunFull) × IsLate new)
    ⊎ ((e ≡ refused.Memory)
    ⊎ ((file : ℕ) × (count : ℕ) × (e ≡ refused.LogFault file count) × (file < 4) × RoseFrom old new file × (IsLate m → ⊥)))

halted-as : (old m new : Machine) (fault : Option (ℕ × ℕ)) (e : Refusal) → (IsLate m → ⊥) → RoseIn old m fault → Onward m new → foremost (halted fault) ≡ Some e → Refuses old m new e
halted-as old m new None e soon rose on h = absurd cc
halted-as old m new (Some f) e soon rose on h =
    let is : e ≡ refused.LogFault f.0 f.1 = sym (same_Some (refused.LogFault f.0 f.1) e h) in
    inr (inr (f.0, f.1, is, rose.0, rose-on old m new f.0 rose.1 on, soon))

held-as : (old m new : Machine) (soon : Bool) (e : Refusal) → nat_lt m.moment last_moment ≡ soon → (IsLate m → IsLate new) → (nat_lt m.moment last_moment ≡ false → IsLate m) → RoseIn old m m.core.fault → Onward m new
    → foremost (unless soon refused.RunFull ++ halted m.core.fault) ≡ Some e → Refuses old m new e
held-as old m new true e is on late rose since h = halted-as old m new m.core.fault e (not-late m is) rose since h
held-as old m new false e is on late rose since h =
    let full : Some refused.RunFull ≡ Some e = sym (late-first false m.core.fault [] refl) ∙ ap (λ (l : List Refusal). foremost l) (append-nil (unless false refused.RunFull ++ halted m.core.fault)) ∙ h in
    inl (sym (same_Some refused.RunFull e full), on (late is))

-- ---- a force

-- It was made, where no fault had halted the machine, and nothing is in doubt behind it; or it was refused so.
abbrev pub Forced : (old m new : Machine) → Result ℕ Refusal → Type 0
Forced old m new (Ok number) = (m.core.fault ≡ None) × (IsLate m → ⊥) × (new.core ≡ stamped new.moment m.core)
Forced old m new (Err e) = Refuses old m new e

no-fault : (fault : Option (ℕ × ℕ)) → foremost (halted fault) ≡ None → fault ≡ None
no-fault None h = refl
no-fault (Some f) h = absurd cc

no-fault-in : (m : Machine) (soon : Bool) → nat_lt m.moment last_moment ≡ soon → foremost (unless soon refused.RunFull ++ halted m.core.fault) ≡ None → m.core.fault ≡ None
no-fault-in m true is h = no-fault m.core.fault h
no-fault-in m false is h =
    let full : foremost (unless false refused.RunFull ++ halted m.core.fault) ≡ Some refused.RunFull = ap (λ (l : List Refusal). foremost l) (sym (append-nil (unless false refused.RunFull ++ halted m.core.fault))) ∙ late-first false m.core.fault [] refl in
    (let odd : None ≡ Some refused.RunFull = sym h ∙ full in absurd cc)

late-of : (m : Machine) → nat_lt m.moment last_moment ≡ false → IsLate m
late-of m h = ltb-false m.moment last_moment h

made-forced : (old m new : Machine) (answer : Result ℕ Refusal) → RoseIn old m m.core.fault → Onward old m → Later m new → Forces 0 m new answer → Forced old m new answer
made-forced old m new (Ok number) rose on later h =
    let all : foremost (ended m ++ []) ≡ None = ap (λ (l : List Refusal). foremost l) (append-nil (ended m)) ∙ h.0 in
    (no-fault-in m (nat_lt m.moment last_moment) refl h.0, (none-full m [] all).0, h.1.1.core)
made-forced old m new (Err e) rose on later (inl (inl h, stays)) =
    held-as old m new (nat_lt m.moment last_moment) e refl (λ l. late-on m new (onward-later m new later) l) (late-of m) rose (onward-later m new later) h
made-forced old m new (Err e) rose on later (inl (inr h, stays)) = inr (inl h)
made-forced old m new (Err e) rose on later (inr (none, (file, count, is, fault, becomes))) =
    let all : foremost (ended m ++ []) ≡ None = ap (λ (l : List Refusal). foremost l) (append-nil (ended m)) ∙ none in
    inr (inr (file, count, is, fault.0, rose-from old m new file on fault.1, (none-full m [] all).0))

not-made : (old m new : Machine) (answer : Result ℕ Refusal) → refusal (Force answer) ≡ Some refused.Memory → Forced old m new answer
not-made old m new (Ok number) h = absurd cc
not-made old m new (Err e) h = inr (inl (same_Some e refused.Memory h))

-- the force, and what was made until then
pub record WasForced (P : Change → Type 0) (first later : List Entry) (old m new : Machine) (answer : Result ℕ Refusal) : Type 0 where
  pub grew : Grew P first later old new
  pub free : m.core.tickets ≡ [] → new.core.tickets ≡ []
  pub idle : m.core.image ≡ None → new.core.image ≡ None
  pub forced : Forced old m new answer

module _ (trusted : Type 0) (places : Places) (P : Change → Type 0) (first later : List Entry) where
  pub forced-behind : (answer : Result ℕ Refusal) (events : List Event) (old m new : Machine) → Grew P first later old m → Made (Force answer) events → Alone trusted places 0 events m new
      → WasForced P first later old m new answer
  forced-behind answer events old m new w made f =
      elim (one-or-none trusted places (Force answer) events m new (λ contents seen h. h) (λ contents x. refl) made f) as (λ _. WasForced P first later old m new answer) [
        | inl s ↦ record {
          grew = force-grew P first later old m new answer w (onward-later m new s.0) s.1;
          free = λ none. force-free m new answer s.1 ∙ none;
          idle = λ none. force-image m new answer s.1 ∙ none;
          forced = made-forced old m new answer w.fault w.onward s.0 s.1;
        }
        | inr s ↦ record {
          grew = subst (λ (x : Machine). Grew P first later old x) (sym s.1) w;
          free = λ none. subst (λ (x : Machine). x.core.tickets ≡ []) (sym s.1) none;
          idle = λ none. subst (λ (x : Machine). x.core.image ≡ None) (sym s.1) none;
          forced = not-made old m new answer s.0;
        }
      ]

-- ---- what is left

ends-of : (old m new : Machine) (e : Refusal) → Refuses old m new e → EndsRun old new e
ends-of old m new e (inl h) = subst (λ (x : Refusal). EndsRun old new x) (sym h.0) h.1
ends-of old m new e (inr (inl h)) = subst (λ (x : Refusal). EndsRun old new x) (sym h) tt
ends-of old m new e (inr (inr (file, count, is, few, rose, soon))) = subst (λ (x : Refusal). EndsRun old new x) (sym is) (few, rose)

has-ended : (old m new : Machine) (e : Refusal) → Refuses old m new e → has_number (40 ∷ 41 ∷ 50 ∷ []) e ≡ true
has-ended old m new e (inl h) = ap (λ (x : Refusal). has_number (40 ∷ 41 ∷ 50 ∷ []) x) h.0
has-ended old m new e (inr (inl h)) = ap (λ (x : Refusal). has_number (40 ∷ 41 ∷ 50 ∷ []) x) h
has-ended old m new e (inr (inr (file, count, is, few, rose, soon))) = ap (λ (x : Refusal). has_number (40 ∷ 41 ∷ 50 ∷ []) x) is

last-of : (old m new : Machine) (e : Refusal) → Refuses old m new e → IsLate m → AreLast e
last-of old m new e (inl h) late = inl h.0
last-of old m new e (inr (inl h)) late = inr h
last-of old m new e (inr (inr (file, count, is, few, rose, soon))) late = absurd (soon late)

-- a result behind a force that was made ends the run for want of memory alone
within-ends : (said : Result Outcome Refusal) (e : Refusal) (how : Halt) → within_run said ≡ Err e → halt_by e ≡ Some how → e ≡ refused.Memory
within-ends (Ok it) e how h is = absurd cc
within-ends (Err (refused.LogFault file count)) e how h is = (let same : Err refused.Memory ≡ Err e = h in cc)
within-ends (Err refused.RunFull) e how h is = (let same : Err refused.Memory ≡ Err e = h in cc)
within-ends (Err refused.Memory) e how h is = (let same : Err refused.Memory ≡ Err e = h in cc)
within-ends (Err f) e how h is = (let same : f ≡ e = cc in let none : halt_by f ≡ None = refl in let odd : None ≡ Some how = sym none ∙ ap (λ (x : Refusal). halt_by x) same ∙ is in absurd cc)

-- What is left behind the force, where all came to this.
pub record Settled (added : List Entry) (old new : Machine) (result : Result Outcome Refusal) : Type 0 where
  pub left : Left result added old new
  pub doubt : length new.core.journal ≤ length new.core.stamps + length added
  pub image : SameImage old new
  pub bytes : SameBytes old new
  pub ends : (e : Refusal) (how : Halt) → result ≡ Err e → halt_by e ≡ Some how → EndsRun old new e
  pub late : IsLate old → IsStopped result

under-adds : (added : List Entry) (old new : Machine) → Under added old.core new.core → Adds added old new
under-adds added old new u = record { base = u.base; journal = u.journal }

under-log : (added : List Entry) (old new : Machine) → Under added old.core new.core → LogEnds added old new
under-log added old new u = inl (u.generation, u.log_length)

-- transactions of before keep their stamps
under-doubt : (added : List Entry) (old new : Core) → IsAtRest old → Under added old new → length new.journal ≤ length new.stamps + length added
under-doubt added old new rest u =
    let all : length old.stamps ≡ length old.journal = rest.durable in
    let made : length new.journal ≡ length old.journal + length added = ap (λ (l : List Entry). length l) u.journal ∙ length-append old.journal added in
    let kept : length new.stamps ≡ length old.stamps + length u.fresh = ap (λ (l : List ℕ). length l) u.stamps ∙ length-append old.stamps u.fresh in
    omega (arith, all, made, kept)

under-durable : (added : List Entry) (old new : Core) → IsAtRest old → Under added old new → added ≡ [] → length new.stamps ≡ length new.journal
under-durable added old new rest u none =
    let most : length new.journal ≤ length new.stamps + length added = under-doubt added old new rest u in
    let few : length new.stamps ≤ length new.journal = u.few in
    let short : length added ≡ 0 = ap (λ (l : List Entry). length l) none in
    omega (arith, most, few, short)

durable-or : (added rest : List Entry) (old new : Core) (over : Bool) → added ≡ rest → over ≡ true → IsAtRest old → Under added old new → (length new.stamps ≡ length new.journal) ⊎ ((over ≡ true) × (added ≡ [] → ⊥))
durable-or added [] old new over is so at u = inl (under-durable added old new at u is)
durable-or added (e ∷ rest) old new over is so at u = inr (so, λ none. (let odd : e ∷ rest ≡ [] = sym is ∙ none in cc))

-- it has no ticket and no image in progress
abbrev IsClear : Machine → Type 0
IsClear m = (m.core.tickets ≡ []) × (m.core.image ≡ None)

-- at rest, behind a force that was made
forced-rest : (added : List Entry) (moment : ℕ) (m : Core) (old new : Core) → Under added old m → new.tickets ≡ [] → new.image ≡ None → m.fault ≡ None → new ≡ stamped moment m → IsAtRest new
forced-rest added moment m old new u free idle none is = record {
  tickets = free;
  image = idle;
  durable = subst (λ (k : Core). length k.stamps ≡ length k.journal) (sym is) (stamped-durable moment m u.few);
  fault = ap (λ (k : Core). k.fault) is ∙ none;
}

module _ (P : Change → Type 0) (first later : List Entry) (old m new : Machine) (rest : IsAtRest old.core) (w : Grew P first later old m) where
  forced-settled : (number : ℕ) (came result : Result Outcome Refusal) → (has_ended result ≡ false → IsClear m) → WasForced P first later old m new (Ok number) → result ≡ within_run came → Settled (first ++ later) old new result
  forced-settled number came result free f is =
      let v : Under (first ++ later) old.core new.core = f.grew.core in
      let all : length new.core.stamps ≡ length new.core.journal = subst (λ (k : Core). length k.stamps ≡ length k.journal) (sym f.forced.2) (stamped-durable new.moment m.core w.core.few) in
      record {
        left = record {
          adds = under-adds (first ++ later) old new v;
          onward = f.grew.onward;
          log = under-log (first ++ later) old new v;
          rests = λ h. forced-rest (first ++ later) new.moment m.core old.core new.core w.core (f.free (free h).0) (f.idle (free h).1) f.forced.0 f.forced.2;
          durable = λ h. inl all;
        };
        doubt = under-doubt (first ++ later) old.core new.core rest v;
        image = v.generation;
        bytes = f.grew.contents;
        ends = λ e how same halts. (let memory : e ≡ refused.Memory = within-ends came e how (sym is ∙ same) halts in subst (λ (x : Refusal). EndsRun old new x) (sym memory) tt);
        late = λ l. absurd (f.forced.1 (late-on old m w.onward l));
      }

  refused-settled : (e : Refusal) (result : Result Outcome Refusal) → WasForced P first later old m new (Err e) → result ≡ Err e → Settled (first ++ later) old new result
  refused-settled e result f is =
      let v : Under (first ++ later) old.core new.core = f.grew.core in
      let over : has_ended result ≡ true = ap (λ (r : Result Outcome Refusal). has_ended r) is ∙ has-ended old m new e f.forced in
      record {
        left = record {
          adds = under-adds (first ++ later) old new v;
          onward = f.grew.onward;
          log = under-log (first ++ later) old new v;
          rests = λ h. absurd (false≢true (sym h ∙ over));
          durable = λ h. durable-or (first ++ later) (first ++ later) old.core new.core (has_ended result) refl over rest v;
        };
        doubt = under-doubt (first ++ later) old.core new.core rest v;
        image = v.generation;
        bytes = f.grew.contents;
        ends = λ x how same halts. (let one : e ≡ x = (let both : Err e ≡ Err x = sym is ∙ same in cc) in subst (λ (y : Refusal). EndsRun old new y) one (ends-of old m new e f.forced));
        late = λ l. subst (λ (r : Result Outcome Refusal). IsStopped r) (sym is) (stopped-err Outcome e (last-of old m new e f.forced (late-on old m w.onward l)));
      }

  settled : (answer : Result ℕ Refusal) (came result : Result Outcome Refusal) → (has_ended result ≡ false → IsClear m) → WasForced P first later old m new answer → result ≡ behind_force came answer → Settled (first ++ later) old new result
  settled (Ok number) came result free f is = forced-settled number came result free f is
  settled (Err e) came result free f is = refused-settled e result f is

-- ---- tickets

-- a ticket may be left where nobody can give it back: the hall is halted, or the run is full
abbrev pub may_stay : Result Outcome Refusal → Bool
may_stay (Ok it) = false
may_stay (Err e) = has_number (40 ∷ 41 ∷ []) e

-- and an image where memory was wanted, too: where the run goes on neither is
within-over : (came : Result Outcome Refusal) → has_ended (within_run came) ≡ false → has_ended came ≡ false
within-over (Ok it) h = refl
within-over (Err (refused.LogFault file count)) h = absurd (false≢true (sym h))
within-over (Err refused.RunFull) h = absurd (false≢true (sym h))
within-over (Err e) h = h

pub over-stays : (came : Result Outcome Refusal) → has_ended came ≡ false → may_stay came ≡ false
over-stays (Ok it) h = refl
over-stays (Err (refused.LogFault file count)) h = absurd (false≢true (sym h))
over-stays (Err refused.RunFull) h = absurd (false≢true (sym h))
over-stays (Err e) h = refl

refused-over : (e : Refusal) (events : List Event) → Made (Force (Err e)) events → has_number (40 ∷ 41 ∷ 50 ∷ []) e ≡ true
unfolding is_listed
refused-over e events (inl (n, is, listed)) = over-listed e listed where
  over-listed : (x : Refusal) → has_number (40 ∷ 41 ∷ []) x ≡ true → has_number (40 ∷ 41 ∷ 50 ∷ []) x ≡ true
  over-listed (refused.LogFault file count) h = refl
  over-listed refused.RunFull h = refl
  over-listed x h = absurd (false≢true h)
refused-over e events (inr (memory, none)) = ap (λ (x : Refusal). has_number (40 ∷ 41 ∷ 50 ∷ []) x) (same_Some e refused.Memory memory)

goes-on : (came result : Result Outcome Refusal) (events : List Event) → Forcing came events result → has_ended result ≡ false → has_ended came ≡ false
goes-on came result events (Ok number, made, is) h = within-over came (ap (λ (r : Result Outcome Refusal). has_ended r) (sym is) ∙ h)
goes-on came result events (Err e, made, is) h = absurd (false≢true (sym h ∙ (ap (λ (r : Result Outcome Refusal). has_ended r) is ∙ refused-over e events made)))

-- steps of which P holds, and then the force; no ticket and no image is left, unless one may be
pub settles : (trusted : Type 0) (places : Places) (P : Change → Type 0) (first later : List Entry) (came result : Result Outcome Refusal) (events : List Event) (old m new : Machine) → IsAtRest old.core
    → Grew P first later old m → (may_stay came ≡ false → m.core.tickets ≡ []) → (has_ended came ≡ false → m.core.image ≡ None) → Forcing came events result → Alone trusted places 0 events m new
    → Settled (first ++ later) old new result
settles trusted places P first later came result events old m new rest w free idle (answer, made, is) f =
    settled P first later old m new rest w answer came result
    (λ h. (let over = goes-on came result events (answer, made, is) h in (free (over-stays came over), idle over))) (forced-behind trusted places P first later answer events old m new w made f) is
