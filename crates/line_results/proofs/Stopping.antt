-- With which refusals the parts of a backup end behind its questions: those that end a run. Where all tickets are its own it waits for nothing but a force.
use Rattle.std.proofs.Common.{◌≡◌, inl, inr, ℕ, ◌==◌, ◌||◌, Bool, true, false, if◌then◌else◌, List, [], ◌∷◌, ◌++◌, Option, None, Some, Result, Ok, Err, refl, sym, ap, subst}
use Rattle.std.specs.List.{AllByRecursion}
use Rattle.kinds.specs.Refusals.{number_of}
use Rattle.kinds.specs.declared.refusal.Holder.{Holder}
use Rattle.kinds.specs.declared.refusal.Holder.TheVariants as holder
use Rattle.kinds.specs.declared.refusal.Refusal.{Refusal}
use Rattle.kinds.specs.declared.refusal.Refusal.TheVariants as refused
use Rattle.kinds.specs.declared.segment.Digest.{Digest}
use Rattle.command_steps.specs.client_files.declared.outcome.Came.{Came}
use Rattle.command_steps.specs.client_files.declared.outcome.Came.TheVariants as came
use Rattle.command_steps.specs.client_files.Sending.{GivesUp, behind_drop, failing, is_stopping, is_unfilled, is_unopened, stopping, unopened}
use Rattle.command_steps.specs.client_files.Writing.{Keeps, Puts}
use Rattle.client_trees.specs.Files.{ClientFile, Files}
use Rattle.client_plan.specs.declared.lines.SendLine.{SendLine}
use Rattle.client_batches.specs.declared.batch.Batch.{Batch}
use Rattle.client_batches.specs.Batches.{Batches, SealsAndStores, Stores}
use Rattle.client_batches.specs.Commits.{Alone as AloneLine, Commits, CommitsAll, Stops as StopsLines, Tries, is_in_the_way, outcome, taken_out}
use Rattle.client_batches.specs.Rounds.{AwaitsOne, InRuns, SendsAll, SendsNone, unwaited}
use Rattle.client_batches.specs.Seals.{Seals, SealsOne, StopsSealing, sealed_as}
use Rattle.client_batches.specs.Sends.{Fills, SendsEach, SendsOne, Stops}
use Rattle.client_batches.specs.Tickets.{GivesBack, is_lasting, lasting_in}
use Rattle.client_batches.specs.Verdicts.{waiting, waits}
use Rattle.inventory_work.specs.declared.lines.Rules.{Rules}
use Rattle.command_steps.specs.incrementals.declared.answering.Outs.{Outs}
use Rattle.command_steps.specs.incrementals.declared.planning.Begun.{Begun}
use Rattle.command_steps.specs.incrementals.Process.{CarriesOut, CommitsLists, forced_as}
use Rattle.steps.specs.declared.asked.Asked.{Asked}
use Rattle.steps.specs.Calls.{Made, forced}
use Rattle.steps.specs.Events.{Deed, Event, is_listed}
use Rattle.steps.specs.Events.Deed.{Force, OpenNew}
use Rattle.command_steps.specs.Answers.{halt_by}

-- ---- refusals that end a run

abbrev pub Ends : Refusal → Type 0
Ends e = is_stopping e ≡ true

pub ends-halt : (e : Refusal) → Ends e → halt_by e ≡ None → ⊥
ends-halt (refused.LogFault file count) h none = cc
ends-halt refused.RunFull h none = cc
ends-halt refused.Memory h none = cc
ends-halt e h none = absurd cc

-- the refusal of a result
abbrev pub err_in : {A : Type 0} → Result A Refusal → Refusal
err_in (Ok x) = refused.Memory
err_in (Err e) = e

pub same-err : (A : Type 0) (e f : Refusal) → ◌≡◌ {A = Result A Refusal} (Err e) (Err f) → e ≡ f
same-err A e f h = ap err_in h

pub ends-as : (A : Type 0) (e f : Refusal) → ◌≡◌ {A = Result A Refusal} (Err e) (Err f) → Ends f → Ends e
ends-as A e f h so = subst Ends (sym (same-err A e f h)) so

pub ends-stopping : (e : Refusal) → Ends (stopping e)
ends-stopping e = elim (is_stopping e) as (λ b. is_stopping e ≡ b → Ends (if b then e else refused.Memory)) [
  | true ↦ λ h. h
  | false ↦ λ h. refl
] refl

or-last : (a b c : Bool) → (a || (b || false)) ≡ true → (a || (b || (c || false))) ≡ true
or-last true b c h = refl
or-last false true c h = refl
or-last false false c h = absurd cc

pub ends-lasting : (e : Refusal) → is_lasting e ≡ true → Ends e
ends-lasting e h = or-last (40 == number_of e) (41 == number_of e) (50 == number_of e) h

-- ---- tickets that are given back

lasting-as : (why e : Refusal) (b : Bool) → is_lasting why ≡ b → (if b then Some why else None) ≡ Some e → Ends e
lasting-as why e true lasts h = (let same : why ≡ e = cc in subst Ends same (ends-lasting why lasts))
lasting-as why e false lasts h = absurd cc

lasting-ends : (answer : Result (Unit {0}) Refusal) (e : Refusal) → lasting_in answer ≡ Some e → Ends e
lasting-ends (Ok done) e h = absurd cc
lasting-ends (Err why) e h = lasting-as why e (is_lasting why) refl h

given-ends : (tickets : List ℕ) (why e : Refusal) (events : List Event) → Ends why → GivesBack tickets why events e → Ends e
given-ends tickets why e events so (inl h) = subst Ends (sym h.2) so
given-ends tickets why e events so (inr (inl h)) = subst Ends (sym h.2) so
given-ends tickets why e events so (inr (inr (short, (front, ticket, back, parts, answer, lasts, gives)))) = lasting-ends answer e lasts

-- ---- a file

failing-ends : (e why : Refusal) → ◌≡◌ {A = Result Came Refusal} (Err e) (failing why) → Ends e
failing-ends e why h = elim (is_unfilled why) as (λ b. ◌≡◌ {A = Result Came Refusal} (Err e) (if b then Ok (came.Failed why) else Err (stopping why)) → Ends e) [
  | true ↦ λ k. absurd cc
  | false ↦ λ k. ends-as Came e (stopping why) k (ends-stopping why)
] h

pub unopened-ends : (e why : Refusal) → ◌≡◌ {A = Result Came Refusal} (Err e) (unopened why) → Ends e
unopened-ends e (refused.Busy holder) h = absurd cc
unopened-ends e why h = elim (is_unopened why) as (λ b. ◌≡◌ {A = Result Came Refusal} (Err e) (if b then Ok (came.Failed why) else Err (stopping why)) → Ends e) [
  | true ↦ λ k. absurd cc
  | false ↦ λ k. ends-as Came e (stopping why) k (ends-stopping why)
] h

dropped-ends : (e why : Refusal) (answer : Result (Unit {0}) Refusal) → ◌≡◌ {A = Result Came Refusal} (Err e) (behind_drop why answer) → Ends e
dropped-ends e why (Ok done) h = failing-ends e why h
dropped-ends e why (Err other) h = ends-as Came e (stopping other) h (ends-stopping other)

pub given-up-ends : (ticket : ℕ) (why e : Refusal) (events : List Event) → GivesUp ticket why events (Err e) → Ends e
given-up-ends ticket why e events (inl h) = failing-ends e why h.2
given-up-ends ticket why e events (inr h) = dropped-ends e why h.1 h.3

keeps-ends : (file : Option ClientFile) (ticket size before after : ℕ) (events : List Event) (e : Refusal) → Keeps file ticket size before after events (Err e) → Ends e
keeps-ends file ticket size before after events e (inl (digest, loads, is)) = absurd cc
keeps-ends file ticket size before after events e (inr (why, (xs, ys, cut, loads, gives))) = given-up-ends ticket why e ys gives

puts-ends : (file : Option ClientFile) (pool size before after : ℕ) (events : List Event) (e : Refusal) → Puts file pool size before after events (Err e) → Ends e
puts-ends file pool size before after events e (inl (why, made, is)) = unopened-ends e why is
puts-ends file pool size before after events e (inr (ticket, (xs, ys, cut, made, keeps))) = keeps-ends file ticket size before after ys e keeps

one-ends : (rules : Rules) (told : Option Files) (line : SendLine) (before after : ℕ) (events : List Event) (e : Refusal) → SendsOne rules told line before after events (Err e) → Ends e
one-ends rules told line before after events e (inl (pool, at, writing)) = puts-ends _ pool line.file.size before after events e writing.order
one-ends rules told line before after events e (inr (none, empty, same, is)) = absurd cc

stops-end : (rules : Rules) (told : Option Files) (lines : List SendLine) (before after : ℕ) (all : List Came) (e : Refusal) (events : List Event) → Stops rules told lines before after all e events → Ends e
stops-end rules told lines before after all e events h = elim h.ends as (λ _. Ends e) [
  | inl m ↦ subst Ends (sym m.0) refl
  | inr s ↦ one-ends rules told s.0 h.count after h.ys e s.3
]

fills-end : (rules : Rules) (told : Option Files) (lines : List SendLine) (before after : ℕ) (all : List Came) (events : List Event) (e : Refusal) → Fills rules told lines before after all events (Err e) → Ends e
fills-end rules told lines before after all events e (why, (xs, ys, cut, stops, gives)) = given-ends _ why e ys (stops-end rules told lines before after all why xs stops) gives

-- ---- seals

sealed-ends : (ticket : ℕ) (digest : Digest) (e : Refusal) (answer : Result (Unit {0}) Refusal) → Err e ≡ sealed_as ticket digest answer → Ends e
sealed-ends ticket digest e (Ok done) h = absurd cc
sealed-ends ticket digest e (Err why) h = elim (number_of why == 25) as (λ b. ◌≡◌ {A = Result Came Refusal} (Err e) (if b then Ok (came.Failed why) else Err (stopping why)) → Ends e) [
  | true ↦ λ k. absurd cc
  | false ↦ λ k. ends-as Came e (stopping why) k (ends-stopping why)
] h

seal-ends : (c : Came) (events : List Event) (e : Refusal) → SealsOne c events (Err e) → Ends e
seal-ends (came.Written ticket digest) events e (answer, made, is) = sealed-ends ticket digest e answer is
seal-ends (came.Failed why) events e (none, is) = absurd cc
seal-ends (came.Held h) events e (none, is) = absurd cc

sealing-ends : (all : List Came) (e : Refusal) (events : List Event) → StopsSealing all e events → Ends e
sealing-ends all e events h = elim h.ends as (λ _. Ends e) [
  | inl m ↦ subst Ends (sym m.0) refl
  | inr s ↦ seal-ends s.0 h.ys e s.3
]

seals-end : (all sealed : List Came) (events : List Event) (e : Refusal) → Seals all sealed events (Err e) → Ends e
seals-end all sealed events e (why, (xs, ys, cut, stops, gives)) = given-ends _ why e ys (sealing-ends all why xs stops) gives

-- ---- transactions

outcome-ends : (e : Refusal) (answer : Result ℕ Refusal) → Err e ≡ outcome answer → Ends e
outcome-ends e (Ok number) h = absurd cc
outcome-ends e (Err why) h = elim (is_in_the_way why) as (λ b. ◌≡◌ {A = Result (Option Refusal) Refusal} (Err e) (if b then Ok (Some why) else Err (stopping why)) → Ends e) [
  | true ↦ λ k. absurd cc
  | false ↦ λ k. ends-as (Option Refusal) e (stopping why) k (ends-stopping why)
] h

tries-end : (asked : Asked) (tickets : List ℕ) (events : List Event) (e : Refusal) → Tries asked tickets events (Err e) → Ends e
tries-end asked tickets events e (inl (none, is)) = ends-as (Option Refusal) e refused.Memory is refl
tries-end asked tickets events e (inr (answer, made, is)) = outcome-ends e answer is

taken-ends : (e why : Refusal) → Err e ≡ taken_out why → Ends e
taken-ends e why h = elim (is_lasting why) as (λ b. is_lasting why ≡ b → ◌≡◌ {A = Result (Option Refusal) Refusal} (Err e) (if b then Err why else Ok (Some why)) → Ends e) [
  | true ↦ λ lasts k. ends-as (Option Refusal) e why k (ends-lasting why lasts)
  | false ↦ λ lasts k. absurd cc
] refl h

line-ends : (asked : Asked) (ticket : List ℕ) (events : List Event) (e : Refusal) → AloneLine asked ticket events (Err e) → Ends e
line-ends asked ticket events e (inl (tries, is)) = absurd cc
line-ends asked ticket events e (inr (inl (why, tries, is))) = ends-as (Option Refusal) e why is (tries-end asked ticket events why tries)
line-ends asked ticket events e (inr (inr (f, why, gives, is))) = taken-ends e why is

lines-end : {L : Type 0} (asking : List L → Asked) (lines : List L) (tickets : List ℕ) (e : Refusal) (events : List Event) → StopsLines asking lines tickets e events → Ends e
lines-end asking lines tickets e events h = elim h.ends as (λ _. Ends e) [
  | inl m ↦ subst Ends (sym m.0) refl
  | inr s ↦ line-ends (asking (s.0 ∷ [])) _ h.ys e s.3
]

all-end : {L : Type 0} (asking : List L → Asked) (lines : List L) (tickets : List ℕ) (events : List Event) (e : Refusal) → CommitsAll asking lines tickets events (Err e) → Ends e
all-end asking lines tickets events e (inl (tries, memory)) = subst Ends (sym memory) refl
all-end {L} asking lines tickets events e (inr (inl (why, tries, is))) = ends-as (List (Option Refusal)) e why is (tries-end (asking lines) tickets events why tries)
all-end asking lines tickets events e (inr (inr (why, (xs, ys, cut, tries, each)))) = lines-end asking lines tickets e ys each

commits-end : {L : Type 0} (asking : List L → Asked) (lines : List L) (tickets : List ℕ) (events : List Event) (e : Refusal) → Commits asking lines tickets events (Err e) → Ends e
commits-end asking lines tickets events e (why, (xs, ys, cut, all, gives)) = given-ends tickets why e ys (all-end asking lines tickets xs why all) gives

runs-end : {L : Type 0} (asking : List L → Asked) (lines : List L) (events : List Event) (e : Refusal) → InRuns asking lines events (Err e) → Ends e
runs-end asking lines events e (number, rest, outs, (xs, ys, cut, rounds, inl m)) = subst Ends (sym m.0) refl
runs-end asking lines events e (number, rest, outs, (xs, ys, cut, rounds, inr (run, back, parts, few, commits))) = commits-end asking run [] ys e commits

-- ---- batches

stores-end : (filespace : ℕ) (lines : List SendLine) (all : List Came) (held : List ℕ) (events : List Event) (e : Refusal) → Stores filespace lines all held events (Err e) → Ends e
stores-end filespace lines all held events e (inl (none, empty, is)) = absurd cc
stores-end filespace lines all held events e (inr (inl (why, gives, is))) = ends-as (List (Option Refusal)) e why is (given-ends held refused.Memory why events refl gives)
stores-end filespace lines all held events e (inr (inr commits)) = commits-end _ _ held events e commits

stored-ends : (filespace : ℕ) (lines : List SendLine) (all sealed : List Came) (events : List Event) (e : Refusal) → SealsAndStores filespace lines all sealed events (Err e) → Ends e
stored-ends filespace lines all sealed events e (inl (why, seals, is)) = ends-as (List (Option Refusal)) e why is (seals-end all sealed events why seals)
stored-ends filespace lines all sealed events e (inr (xs, ys, cut, seals, stores)) = stores-end filespace lines sealed _ ys e stores

pub batch-ends : (rules : Rules) (told : Option Files) (filespace : ℕ) (lines : List SendLine) (before after : ℕ) (events : List Event) (e : Refusal) → Batches rules told filespace lines before after events (Err e) → Ends e
batch-ends rules told filespace lines before after events e (inl (all, fills)) = fills-end rules told lines before after all events e fills
batch-ends rules told filespace lines before after events e (inr (all, sealed, (xs, ys, cut, sent, stored))) = stored-ends filespace lines all sealed ys e stored

-- ---- whom the opening of a ticket waits for

-- it is a transaction that isn't forced yet
abbrev pub IsUnforced : Holder → Type 0
IsUnforced h = (number : ℕ) × (h ≡ holder.Unforced number)

-- no opening of a ticket waits for anything else
abbrev pub IsFree : Deed → Type 0
IsFree (OpenNew pool size prefer (Err (refused.Busy h))) = IsUnforced h
IsFree _ = Unit {0}

abbrev pub AreFree : List Event → Type 0
AreFree events = AllByRecursion (λ e. IsFree e.deed) events

pub free-parts : (events xs ys : List Event) → events ≡ xs ++ ys → AreFree events → AreFree xs × AreFree ys
free-parts events [] ys cut h = (tt, subst AreFree cut h)
free-parts events (x ∷ xs) ys cut h = (let all : AreFree (x ∷ (xs ++ ys)) = subst AreFree cut h in let r = free-parts (xs ++ ys) xs ys refl all.1 in ((all.0, r.0), r.1))

not-memory : (h : Holder) → Some (refused.Busy h) ≡ Some refused.Memory → ⊥
not-memory h is = cc

opening-free : (h : Holder) (pool size : ℕ) (e : Refusal) (events : List Event) → Made (OpenNew pool size 0 (Err e)) events → ◌≡◌ {A = Result Came Refusal} (Ok (came.Held h)) (unopened e) → AreFree events → IsUnforced h
opening-free h pool size (refused.Busy other) events (inl (n, one, listed)) is free =
    (let same : other ≡ h = cc in let all = subst AreFree one free in subst IsUnforced same all.0)
opening-free h pool size (refused.Busy other) events (inr (memory, none)) is free = absurd (not-memory other memory)
opening-free h pool size e events made is free = elim (is_unopened e) as (λ b. ◌≡◌ {A = Result Came Refusal} (Ok (came.Held h)) (if b then Ok (came.Failed e) else Err (stopping e)) → IsUnforced h) [
  | true ↦ λ k. absurd cc
  | false ↦ λ k. absurd cc
] is

not-failing : (h : Holder) (e : Refusal) → ◌≡◌ {A = Result Came Refusal} (Ok (came.Held h)) (failing e) → ⊥
not-failing h e is = elim (is_unfilled e) as (λ b. ◌≡◌ {A = Result Came Refusal} (Ok (came.Held h)) (if b then Ok (came.Failed e) else Err (stopping e)) → ⊥) [
  | true ↦ λ k. absurd cc
  | false ↦ λ k. absurd cc
] is

not-dropped : (h : Holder) (e : Refusal) (answer : Result (Unit {0}) Refusal) → ◌≡◌ {A = Result Came Refusal} (Ok (came.Held h)) (behind_drop e answer) → ⊥
not-dropped h e (Ok done) is = not-failing h e is
not-dropped h e (Err other) is = absurd cc

not-kept : (h : Holder) (file : Option ClientFile) (ticket size before after : ℕ) (events : List Event) → Keeps file ticket size before after events (Ok (came.Held h)) → ⊥
not-kept h file ticket size before after events (inl (digest, loads, is)) = absurd cc
not-kept h file ticket size before after events (inr (e, (xs, ys, cut, loads, inl gives))) = not-failing h e gives.2
not-kept h file ticket size before after events (inr (e, (xs, ys, cut, loads, inr gives))) = not-dropped h e gives.1 gives.3

putting-free : (h : Holder) (file : Option ClientFile) (pool size before after : ℕ) (events : List Event) → Puts file pool size before after events (Ok (came.Held h)) → AreFree events → IsUnforced h
putting-free h file pool size before after events (inl (e, made, is)) free = opening-free h pool size e events made is free
putting-free h file pool size before after events (inr (ticket, (xs, ys, cut, made, keeps))) free = absurd (not-kept h file ticket size before after ys keeps)

one-free : (h : Holder) (rules : Rules) (told : Option Files) (line : SendLine) (before after : ℕ) (events : List Event) → SendsOne rules told line before after events (Ok (came.Held h)) → AreFree events → IsUnforced h
one-free h rules told line before after events (inl (pool, at, writing)) free = putting-free h _ pool line.file.size before after events writing.order free
one-free h rules told line before after events (inr (none, empty, same, is)) free = absurd cc

waiting-behind : (h : Holder) (all : List Came) (some b : Bool) → (if b then None else waiting some all) ≡ Some h → waiting some all ≡ Some h
waiting-behind h all some true is = absurd cc
waiting-behind h all some false is = is

waiting-free : (h : Holder) (rules : Rules) (told : Option Files) (lines : List SendLine) (all : List Came) (some : Bool) (before after : ℕ) (events : List Event) → SendsEach rules told lines all before after events
    → waiting some all ≡ Some h → AreFree events → IsUnforced h
waiting-free h rules told [] [] some before after events sends is free = absurd cc
waiting-free h rules told [] (c ∷ all) some before after events sends is free = absurd sends
waiting-free h rules told (l ∷ lines) [] some before after events sends is free = absurd sends
waiting-free h rules told (l ∷ lines) (came.Written ticket digest ∷ all) some before after events (count, (xs, ys, cut, one, rest)) is free =
    waiting-free h rules told lines all (some || true) count after ys rest is (free-parts events xs ys cut free).1
waiting-free h rules told (l ∷ lines) (came.Failed e ∷ all) some before after events (count, (xs, ys, cut, one, rest)) is free =
    waiting-free h rules told lines all (some || false) count after ys rest (waiting-behind h all (some || false) (waits some (came.Failed e)) is) (free-parts events xs ys cut free).1
waiting-free h rules told (l ∷ lines) (came.Held other ∷ all) some before after events (count, (xs, ys, cut, one, rest)) is free =
    (let same : other ≡ h = cc in
    one-free h rules told l before count xs (subst (λ (x : Holder). SendsOne rules told l before count xs (Ok (came.Held x))) same one) (free-parts events xs ys cut free).0)

batch-free : (rules : Rules) (told : Option Files) (filespace : ℕ) (lines : List SendLine) (before after : ℕ) (events : List Event) (b : Batch) → Batches rules told filespace lines before after events (Ok b) → AreFree events
    → (h : Holder) → waiting false b.came ≡ Some h → IsUnforced h
batch-free rules told filespace lines before after events b (xs, ys, cut, sent, stored) free h is =
    waiting-free h rules told sent.front b.came false before after xs sent.sends is (free-parts events xs ys cut free).0

-- ---- waits

listed-ends : (e : Refusal) → is_listed (Force (Err e)) ≡ true → is_lasting e ≡ true
unfolding is_listed
listed-ends e h = h

force-ends : (e : Refusal) (events : List Event) → Made (Force (Err e)) events → Ends e
force-ends e events (inl (n, one, listed)) = ends-lasting e (listed-ends e listed)
force-ends e events (inr (memory, none)) = (let same : e ≡ refused.Memory = cc in subst Ends (sym same) refl)

pub forced-ends : (why : Refusal) (answer : Result ℕ Refusal) (events : List Event) → Made (Force answer) events → Err why ≡ forced answer → Ends why
forced-ends why (Ok number) events made is = absurd cc
forced-ends why (Err e) events made is = ends-as (Unit {0}) why e is (force-ends e events made)

or-first : (x a b c : Bool) → (a || (b || (c || false))) ≡ true → (x || (a || (b || (c || false)))) ≡ true
or-first true a b c h = refl
or-first false a b c h = h

-- what ends a wait is answered as it is
pub unwaited-ends : (why : Refusal) → Ends why → Ends (unwaited why)
unwaited-ends why h =
    subst (λ (b : Bool). Ends (if b then why else refused.Memory)) (sym (or-first (21 == number_of why) (40 == number_of why) (41 == number_of why) (50 == number_of why) h)) h

waits-end : (o : Option Holder) (events : List Event) (e : Refusal) → ((h : Holder) → o ≡ Some h → IsUnforced h) → AwaitsOne o events (Err e) → Ends e
waits-end None events e free (none, is) = absurd cc
waits-end (Some (holder.Unforced number)) events e free (why, is, (answer, forces, made)) = subst Ends (sym is) (unwaited-ends why (forced-ends why answer events made forces))
waits-end (Some (holder.Ticket number)) events e free h = absurd (let u = free (holder.Ticket number) refl in let odd : holder.Ticket number ≡ holder.Unforced u.0 = u.1 in cc)
waits-end (Some (holder.Image actor)) events e free h = absurd (let u = free (holder.Image actor) refl in let odd : holder.Image actor ≡ holder.Unforced u.0 = u.1 in cc)

-- ---- files

none-ends : (rules : Rules) (told : Option Files) (filespace : ℕ) (lines : List SendLine) (before after : ℕ) (events : List Event) (e : Refusal) → SendsNone rules told filespace lines before after events e → AreFree events → Ends e
none-ends rules told filespace lines before after events e (inl batch) free = batch-ends rules told filespace lines before after events e batch
none-ends rules told filespace lines before after events e (inr (inl (b, batch, memory))) free = subst Ends (sym memory) refl
none-ends rules told filespace lines before after events e (inr (inr (b, (xs, ys, cut, batch, awaits)))) free =
    waits-end (waiting false b.came) ys e (batch-free rules told filespace lines before after xs b batch (free-parts events xs ys cut free).0) awaits

sends-end : (rules : Rules) (told : Option Files) (filespace : ℕ) (lines : List SendLine) (before after : ℕ) (events : List Event) (e : Refusal) → SendsAll rules told filespace lines before after events (Err e) → AreFree events → Ends e
sends-end rules told filespace lines before after events e (number, rest, outs, count, (xs, ys, cut, rounds, inl m)) free = subst Ends (sym m.0) refl
sends-end rules told filespace lines before after events e (number, rest, outs, count, (xs, ys, cut, rounds, inr none)) free =
    none-ends rules told filespace rest count after ys e none (free-parts events xs ys cut free).1

-- ---- all behind the questions

pub lists-end : (filespace : ℕ) (b : Begun) (sent : List (Option Refusal)) (events : List Event) (e : Refusal) → CommitsLists filespace b.plan sent events (Err e) → Ends e
lists-end filespace b sent events e (inl binds) = runs-end _ _ events e binds.order
lists-end filespace b sent events e (inr (outs, (xs, ys, cut, binds, goes))) = runs-end _ _ ys e goes.order

pub carries-end : (filespace : ℕ) (b : Begun) (told : Option Files) (before after : ℕ) (events : List Event) (e : Refusal) → CarriesOut filespace b told before after events (Err e) → AreFree events → Ends e
carries-end filespace b told before after events e (inl (sent, (xs, ys, cut, sends, lists))) free = lists-end filespace b sent ys e lists
carries-end filespace b told before after events e (inr (why, sends, is)) free = ends-as Outs e why is (sends-end b.classes told filespace b.plan.send before after events why sends.order free)

pub finish-ends : (e : Refusal) (answer : Result ℕ Refusal) → Err e ≡ forced_as answer → Ends e
finish-ends e (Ok number) h = absurd cc
finish-ends e (Err why) h = ends-as (Unit {0}) e (stopping why) h (ends-stopping why)
