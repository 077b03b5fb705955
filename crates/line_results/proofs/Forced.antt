-- A force, and what waits where nothing is held.
use Rattle.std.proofs.Common.{◌≡◌, ◌⊎◌, inl, inr, ℕ, ◌+◌, ◌-◌, ◌≤◌, List, [], ◌++◌, length, drop, replicate, None, Some, Result, Ok, Err, refl, sym, ap, subst, ◌∙◌, arith}
use Rattle.std.proofs.lemmas.List.{append-nil, drop_all, length-append, length-drop, length-replicate}
use Rattle.std.proofs.lemmas.Option.{same_Some}
use Rattle.kinds.specs.declared.refusal.Holder.{Holder}
use Rattle.kinds.specs.declared.refusal.Holder.TheVariants as holder
use Rattle.kinds.specs.declared.refusal.Refusal.{Refusal}
use Rattle.kinds.specs.declared.refusal.Refusal.TheVariants as refused
use Rattle.entries.specs.declared.entry.Entry.{Entry}
use Rattle.command_steps.specs.copy_attempts.Attempts.{Awaits}
use Rattle.steps.specs.Calls.{Made, forced}
use Rattle.steps.specs.Events.{Event, refusal}
use Rattle.steps.specs.Events.Deed.{Force}
use Rattle.machine.specs.Alone.{Alone}
use Rattle.machine.specs.Machine.{Becomes, Ends, ForceFails, Forces, IsLogFault, Later, Places, ended, halting, stamped}
use Rattle.machine.specs.State.{Core, Machine, inventory, unforced}
use Rattle.line_results.specs.Resting.{EndsRun, IsAtRest}
use Rattle.line_results.proofs.Runs.{Became, Refuses, Stops, alone-none, became-as, became-same, becomes-became, ends-err, ends-ok, one-or-none}

-- a fault of the log or an image halted the machine, which had this core before
abbrev pub Faulted : Core → (old new : Machine) → Refusal → Type 0
Faulted c old new e = (file : ℕ) × (count : ℕ) × (e ≡ refused.LogFault file count) × IsLogFault old new file count × Became (halting file count c) old new

pub faulted-run : (c : Core) (old new : Machine) (e : Refusal) → Faulted c old new e → EndsRun old new e
faulted-run c old new e f = subst (λ (x : Refusal). EndsRun old new x) (sym f.2) (f.3.0, f.3.1)

-- ---- stamps

-- where each transaction has a stamp, none is given
pub stamped-none : (moment : ℕ) (c : Core) → length c.stamps ≡ length c.journal → stamped moment c ≡ c
stamped-none moment c h =
    let none : unforced c ≡ [] = drop_all (length c.stamps) c.journal (omega (arith, h)) in
    ap (λ (l : List Entry). record c { stamps = c.stamps ++ replicate (length l) moment }) none ∙ ap (λ (l : List ℕ). record c { stamps = l }) (append-nil c.stamps)

-- behind a force each has one
pub stamped-durable : (moment : ℕ) (c : Core) → length c.stamps ≤ length c.journal → length (stamped moment c).stamps ≡ length (stamped moment c).journal
stamped-durable moment c le =
    let all : length (c.stamps ++ replicate (length (unforced c)) moment) ≡ length c.stamps + length (replicate (length (unforced c)) moment) = length-append c.stamps (replicate (length (unforced c)) moment) in
    let new : length (replicate (length (unforced c)) moment) ≡ length (unforced c) = length-replicate (length (unforced c)) moment in
    let left : length (drop (length c.stamps) c.journal) ≡ length c.journal - length c.stamps = length-drop (length c.stamps) c.journal in
    omega (arith, all, new, left, le)

-- ---- a force

abbrev pub Forced : (old new : Machine) → Result ℕ Refusal → Type 0
Forced old new (Ok last) = Became (stamped new.moment old.core) old new
Forced old new (Err e) = (Stops new e × Became old.core old new) ⊎ Faulted old.core old new e

forced-refused : (e : Refusal) (old new : Machine) → Later old new → Refuses [] (ForceFails old) old new e → Forced old new (Err e)
forced-refused e old new later (inl (inl s, b)) = inl (s, b)
forced-refused e old new later (inl (inr f, b)) = absurd cc
forced-refused e old new later (inr (soon, none, (file, count, is, fault, becomes))) = inr (file, count, is, fault, becomes-became (halting file count old.core) old new later becomes)

forced-made : (answer : Result ℕ Refusal) (old new : Machine) → old.core.fault ≡ None → Later old new → Forces 0 old new answer → Forced old new answer
forced-made (Ok last) old new none later h =
    let t = ends-ok [] (λ (number : ℕ) (after : Machine). (number ≡ (inventory old.core).number) × Becomes (stamped after.moment old.core) old after) (ForceFails old) old new last
    (subst (λ (l : List Refusal). Ends l (λ (number : ℕ) (after : Machine). (number ≡ (inventory old.core).number) × Becomes (stamped after.moment old.core) old after) (ForceFails old) old new (Ok last)) (sym (append-nil (ended old))) h) in
    becomes-became (stamped new.moment old.core) old new later t.2.1
forced-made (Err e) old new none later h =
    forced-refused e old new later
    (ends-err [] (λ (number : ℕ) (after : Machine). (number ≡ (inventory old.core).number) × Becomes (stamped after.moment old.core) old after) (ForceFails old) old new e none later
    (subst (λ (l : List Refusal). Ends l (λ (number : ℕ) (after : Machine). (number ≡ (inventory old.core).number) × Becomes (stamped after.moment old.core) old after) (ForceFails old) old new (Err e)) (sym (append-nil (ended old))) h))

forced-not : (answer : Result ℕ Refusal) (old new : Machine) → refusal (Force answer) ≡ Some refused.Memory → new ≡ old → Forced old new answer
forced-not (Ok last) old new h same = absurd cc
forced-not (Err e) old new h same = inl (inr (same_Some e refused.Memory h), became-same old new same)

module _ (trusted : Type 0) (places : Places) where
  pub force-step : (answer : Result ℕ Refusal) (events : List Event) (old new : Machine) → old.core.fault ≡ None → Made (Force answer) events → Alone trusted places 0 events old new → Forced old new answer
  force-step answer events old new none made f =
      elim (one-or-none trusted places (Force answer) events old new (λ contents seen h. h) (λ contents m. refl) made f) as (λ _. Forced old new answer) [
        | inl s ↦ forced-made answer old new none s.0 s.1
        | inr s ↦ forced-not answer old new s.0 s.1
      ]

-- ---- a wait

-- The wait changed nothing; or it was refused so, or the run ended.
abbrev pub WaitEnds : Holder → (old new : Machine) → Result (Unit {0}) Refusal → Type 0
WaitEnds h old new (Ok done) = Became old.core old new
WaitEnds h old new (Err e) = ((Stops new e ⊎ (e ≡ refused.Busy h)) × Became old.core old new) ⊎ Faulted old.core old new e

force-waits : (h : Holder) (answer : Result ℕ Refusal) (said : Result (Unit {0}) Refusal) (old new : Machine) → IsAtRest old.core → said ≡ forced answer → Forced old new answer → WaitEnds h old new said
force-waits h (Ok last) said old new rest is f =
    subst (λ (s : Result (Unit {0}) Refusal). WaitEnds h old new s) (sym is) (became-as (stamped new.moment old.core) old.core old new (stamped-none new.moment old.core rest.durable) f)
force-waits h (Err e) said old new rest is (inl (s, b)) = subst (λ (r : Result (Unit {0}) Refusal). WaitEnds h old new r) (sym is) (inl (inl s, b))
force-waits h (Err e) said old new rest is (inr f) = subst (λ (r : Result (Unit {0}) Refusal). WaitEnds h old new r) (sym is) (inr f)

none-waits : (h : Holder) (said : Result (Unit {0}) Refusal) (old new : Machine) → new ≡ old → (said ≡ Ok tt) ⊎ (said ≡ Err (refused.Busy h)) ⊎ (said ≡ Err refused.Memory) → WaitEnds h old new said
none-waits h said old new same (inl is) = subst (λ (r : Result (Unit {0}) Refusal). WaitEnds h old new r) (sym is) (became-same old new same)
none-waits h said old new same (inr (inl is)) = subst (λ (r : Result (Unit {0}) Refusal). WaitEnds h old new r) (sym is) (inl (inr refl, became-same old new same))
none-waits h said old new same (inr (inr is)) = subst (λ (r : Result (Unit {0}) Refusal). WaitEnds h old new r) (sym is) (inl (inl (inr refl), became-same old new same))

module _ (trusted : Type 0) (places : Places) where
  pub wait-step : (h : Holder) (said : Result (Unit {0}) Refusal) (events : List Event) (old new : Machine) → IsAtRest old.core → Awaits h events said → Alone trusted places 0 events old new → WaitEnds h old new said
  wait-step (holder.Unforced number) said events old new rest (answer, is, made) f =
      force-waits (holder.Unforced number) answer said old new rest is (force-step trusted places answer events old new rest.fault made f)
  wait-step (holder.Ticket number) said events old new rest (none, is) f = none-waits (holder.Ticket number) said old new (alone-none trusted places 0 events old new none f) is
  wait-step (holder.Image actor) said events old new rest (none, is) f = none-waits (holder.Image actor) said old new (alone-none trusted places 0 events old new none f) is
