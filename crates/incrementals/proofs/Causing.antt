-- Why files aren't sent and lists aren't committed to their ends.
use Rattle.std.proofs.Common.{◌≡◌, ◌⊎◌, inl, inr, ℕ, ◌==◌, ◌||◌, Bool, true, false, true≢false, List, [], ◌∷◌, ◌++◌, length, if◌then◌else◌, Option, None, Some, is_some, Result, Ok, Err, refl, sym, ap, subst, ◌∙◌}
use Rattle.kinds.specs.Refusals.{number_of}
use Rattle.kinds.specs.declared.refusal.Refusal.{Refusal}
use Rattle.kinds.specs.declared.refusal.Refusal.TheVariants as refused
use Rattle.kinds.specs.declared.segment.Digest.{Digest}
use Rattle.client_files.specs.declared.outcome.Came.{Came}
use Rattle.client_files.specs.declared.outcome.Came.TheVariants as came
use Rattle.client_files.specs.Reading.{EndsEarly, GoesOn as GoesFurther, TreeFails}
use Rattle.client_files.specs.Sending.{Breaks, GivesUp, behind_drop, failing, is_stopping, is_unfilled, stopping, unopened, unwritten}
use Rattle.client_files.specs.Writing.{Keeps, Loads, Puts}
use Rattle.client_plan.specs.declared.lines.SendLine.{SendLine}
use Rattle.client_trees.specs.Files.{ClientFile, Files}
use Rattle.inventory_work.specs.declared.lines.Rules.{Rules}
use Rattle.steps.specs.declared.asked.Asked.{Asked}
use Rattle.steps.specs.Calls.{IsStep, Made}
use Rattle.steps.specs.Events.{Deed, Event, refusal}
use Rattle.steps.specs.Events.Deed.{Commit, DropTicket, OpenNew, Seal, WritePiece}
use Rattle.copy_attempts.specs.Outcomes.{Met, MetBy}
use Rattle.incrementals.specs.Causes.{is_ending}
use Rattle.client_batches.specs.Commits.{Alone, Commits, CommitsAll, Stops as StopsAlone, Tries, is_in_the_way, outcome}
use Rattle.client_batches.specs.Seals.{Seals, SealsOne, StopsSealing}
use Rattle.client_batches.specs.Sends.{Fills, SendsOne, Stops}
use Rattle.client_batches.specs.Tickets.{DropsEach, GivesBack, is_lasting, lasting_in}
use Rattle.client_batches.proofs.Exact.{ok_err}

-- ---- what was met

pub met_front : (Is : Deed → Type 0) (xs ys : List Event) → MetBy Is xs → MetBy Is (xs ++ ys)
met_front Is [] ys h = absurd h
met_front Is (e ∷ xs) ys (inl h) = inl h
met_front Is (e ∷ xs) ys (inr h) = inr (met_front Is xs ys h)

pub met_behind : (Is : Deed → Type 0) (xs ys : List Event) → MetBy Is ys → MetBy Is (xs ++ ys)
met_behind Is [] ys h = h
met_behind Is (e ∷ xs) ys h = inr (met_behind Is xs ys h)

-- it is want of memory, or was met
abbrev pub Near : Refusal → List Event → Type 0
Near e events = (e ≡ refused.Memory) ⊎ Met e events

-- it is want of memory, or ends the call and was met
abbrev pub Ended : List Event → Refusal → Type 0
Ended events e = (e ≡ refused.Memory) ⊎ ((is_ending e ≡ true) × Met e events)

pub near_behind : (e : Refusal) (xs ys : List Event) → Near e ys → Near e (xs ++ ys)
near_behind e xs ys (inl h) = inl h
near_behind e xs ys (inr h) = inr (met_behind (λ d. refusal d ≡ Some e) xs ys h)

pub near_front : (e : Refusal) (xs ys : List Event) → Near e xs → Near e (xs ++ ys)
near_front e xs ys (inl h) = inl h
near_front e xs ys (inr h) = inr (met_front (λ d. refusal d ≡ Some e) xs ys h)

pub ended_behind : (e : Refusal) (xs ys : List Event) → Ended ys e → Ended (xs ++ ys) e
ended_behind e xs ys (inl h) = inl h
ended_behind e xs ys (inr h) = inr (h.0, met_behind (λ d. refusal d ≡ Some e) xs ys h.1)

pub ended_front : (e : Refusal) (xs ys : List Event) → Ended xs e → Ended (xs ++ ys) e
ended_front e xs ys (inl h) = inl h
ended_front e xs ys (inr h) = inr (h.0, met_front (λ d. refusal d ≡ Some e) xs ys h.1)

abbrev some_of : Option Refusal → Refusal
some_of None = refused.Memory
some_of (Some e) = e

pub step_met : (deed : Deed) (events : List Event) (e : Refusal) → refusal deed ≡ Some e → IsStep deed events → Met e events
step_met deed events e is h = subst (λ (es : List Event). Met e es) (sym h.1) (inl is)

pub made_near : (deed : Deed) (events : List Event) (e : Refusal) → refusal deed ≡ Some e → Made deed events → Near e events
made_near deed events e is (inl h) = inr (step_met deed events e is h)
made_near deed events e is (inr h) = inl (ap some_of (sym is ∙ h.0))

-- ---- what ends a call

or_back : (b c : Bool) → c ≡ true → (b || c) ≡ true
or_back true c h = refl
or_back false c h = h

pub stopping_ends : (e : Refusal) → is_stopping e ≡ true → is_ending e ≡ true
stopping_ends e h = or_back (10 == number_of e) _ (or_back (21 == number_of e) _ (or_back (31 == number_of e) _ h))

lasting_two : (x y z a b c : Bool) → (a || (b || false)) ≡ true → (x || (y || (z || (a || (b || (c || false)))))) ≡ true
lasting_two x y z true b c h = or_back x _ (or_back y _ (or_back z _ refl))
lasting_two x y z false true c h = or_back x _ (or_back y _ (or_back z _ refl))
lasting_two x y z false false c h = absurd (true≢false (sym h))

pub lasting_ends : (e : Refusal) → is_lasting e ≡ true → is_ending e ≡ true
lasting_ends e h = lasting_two (10 == number_of e) (21 == number_of e) (31 == number_of e) (40 == number_of e) (41 == number_of e) (50 == number_of e) h

-- a refusal as it is answered, where what can't be answered stands for want of memory
pub mapped_ended : (events : List Event) (e : Refusal) (b : Bool) → (b ≡ true → is_ending e ≡ true) → Near e events → Ended events (if b then e else refused.Memory)
mapped_ended events e true ends (inl h) = inl h
mapped_ended events e true ends (inr h) = inr (ends refl, h)
mapped_ended events e false ends h = inl refl

pub stopped : (events : List Event) (e : Refusal) → Near e events → Ended events (stopping e)
stopped events e h = mapped_ended events e (is_stopping e) (stopping_ends e) h

-- the refusal of a result
abbrev pub err_of : {A : Type 0} → Result A Refusal → Refusal → Refusal
err_of (Ok x) other = other
err_of (Err e) other = e

-- ---- tickets that are given back

lasting_as : (ticket : ℕ) (why e : Refusal) (b : Bool) → is_lasting why ≡ b → (if b then Some why else None) ≡ Some e → (refusal (DropTicket ticket (Err why)) ≡ Some e) × (is_lasting e ≡ true)
lasting_as ticket why e true lasts h = (h, subst (λ (r : Refusal). is_lasting r ≡ true) (ap some_of h) lasts)
lasting_as ticket why e false lasts h = absurd (true≢false (sym (ap is_some h)))

lasting_met : (ticket : ℕ) (answer : Result (Unit {0}) Refusal) (e : Refusal) → lasting_in answer ≡ Some e → (refusal (DropTicket ticket answer) ≡ Some e) × (is_lasting e ≡ true)
lasting_met ticket (Ok done) e h = absurd (true≢false (sym (ap is_some h)))
lasting_met ticket (Err why) e h = lasting_as ticket why e (is_lasting why) refl h

dropped : (tickets : List ℕ) (e : Refusal) (events : List Event) → DropsEach tickets events (Some e) → (is_ending e ≡ true) × Met e events
dropped tickets e events h =
    let met = lasting_met h.1 h.4 e h.5 in (
      lasting_ends e met.1,
      subst (λ (es : List Event). Met e es) (sym h.6.2) (met_behind (λ d. refusal d ≡ Some e) h.6.0 h.6.1 (step_met (DropTicket h.1 h.4) h.6.1 e met.0 h.6.4)),
    )

gives_near : (tickets : List ℕ) (why e : Refusal) (xs ys : List Event) → Near why xs → GivesBack tickets why ys e → Near e (xs ++ ys)
gives_near tickets why e xs ys h (inl g) = subst (λ (r : Refusal). Near r (xs ++ ys)) (sym g.2) (near_front why xs ys h)
gives_near tickets why e xs ys h (inr (inl g)) = subst (λ (r : Refusal). Near r (xs ++ ys)) (sym g.2) (near_front why xs ys h)
gives_near tickets why e xs ys h (inr (inr g)) = near_behind e xs ys (inr (dropped tickets e ys g.1).1)

pub gives_ended : (tickets : List ℕ) (why e : Refusal) (xs ys : List Event) → Ended xs why → GivesBack tickets why ys e → Ended (xs ++ ys) e
gives_ended tickets why e xs ys h (inl g) = subst (λ (r : Refusal). Ended (xs ++ ys) r) (sym g.2) (ended_front why xs ys h)
gives_ended tickets why e xs ys h (inr (inl g)) = subst (λ (r : Refusal). Ended (xs ++ ys) r) (sym g.2) (ended_front why xs ys h)
gives_ended tickets why e xs ys h (inr (inr g)) = ended_behind e xs ys (inr (dropped tickets e ys g.1))

-- ---- a file

same_unopened : (e : Refusal) → err_of (unopened e) (stopping e) ≡ stopping e
same_unopened (refused.Busy holder) = refl
same_unopened e = refl

failed_as : (e : Refusal) (b : Bool) → err_of (if b then Ok (came.Failed e) else Err (stopping e)) (stopping e) ≡ stopping e
failed_as e true = refl
failed_as e false = refl

-- the refusal that is answered where a ticket isn't filled
failing_err : (e why : Refusal) → Err e ≡ failing why → e ≡ stopping why
failing_err e why is = ap (λ (r : Result Came Refusal). err_of r (stopping why)) is ∙ failed_as why (is_unfilled why)

unopened_err : (e why : Refusal) → Err e ≡ unopened why → e ≡ stopping why
unopened_err e why is = ap (λ (r : Result Came Refusal). err_of r (stopping why)) is ∙ same_unopened why

near_stopping : (events : List Event) (why : Refusal) (b : Bool) → Near why events → Near (if b then why else refused.Memory) events
near_stopping events why true h = h
near_stopping events why false h = inl refl

near_as : (events : List Event) (why : Refusal) (b : Bool) → Near why events → Near (if b then why else stopping why) events
near_as events why true h = h
near_as events why false h = near_stopping events why (is_stopping why) h

near_unwritten : (events : List Event) (why : Refusal) → Near why events → Near (unwritten why) events
near_unwritten events why h = near_as events why (number_of why == 25) h

unread_ended : (file : Option ClientFile) (before after size at : ℕ) (e : Refusal) (events : List Event) → TreeFails before after e ⊎ EndsEarly file at size e → Ended events (stopping e)
unread_ended file before after size at e events (inl h) = inl (ap stopping h.0)
unread_ended file before after size at e events (inr h) = inl (ap stopping h.0)

unended : (file : Option ClientFile) (before after size : ℕ) (e : Refusal) (events : List Event) → TreeFails before after e ⊎ GoesFurther file size e → Ended events (stopping e)
unended file before after size e events (inl h) = inl (ap stopping h.0)
unended file before after size e events (inr h) = inl (ap stopping h.0)

breaks_ended : (file : Option ClientFile) (ticket size before after : ℕ) (e : Refusal) (events : List Event) → Breaks file ticket size before after e events → Ended events (stopping e)
breaks_ended file ticket size before after e events h =
    subst (λ (es : List Event). Ended es (stopping e)) (sym h.2.2) (ended_behind (stopping e) h.2.0 h.2.1 (elim h.2.4 [
      | inl r ↦ unread_ended file before after size (length h.0) e h.2.1 r.1
      | inr w ↦ subst (λ (x : Refusal). Ended h.2.1 (stopping x)) (sym w.2) (stopped h.2.1 (unwritten w.1) (near_unwritten h.2.1 w.1 (made_near (WritePiece ticket w.0 (Err w.1)) h.2.1 w.1 refl w.3)))
    ]))

loads_ended : (file : Option ClientFile) (ticket size before after : ℕ) (e : Refusal) (events : List Event) → Loads file ticket size before after events (Err e) → Ended events (stopping e)
loads_ended file ticket size before after e events (inl h) = breaks_ended file ticket size before after e events h
loads_ended file ticket size before after e events (inr h) = unended file before after size e events h.2

dropped_err : (e why : Refusal) (answer : Result (Unit {0}) Refusal) (ticket : ℕ) (xs ys : List Event) → Ended xs (stopping why) → IsStep (DropTicket ticket answer) ys → Err e ≡ behind_drop why answer → Ended (xs ++ ys) e
dropped_err e why (Ok done) ticket xs ys h step is = subst (λ (x : Refusal). Ended (xs ++ ys) x) (sym (failing_err e why is)) (ended_front (stopping why) xs ys h)
dropped_err e why (Err other) ticket xs ys h step is =
    subst (λ (x : Refusal). Ended (xs ++ ys) x) (sym (ap (λ (r : Result Came Refusal). err_of r (stopping other)) is))
    (ended_behind (stopping other) xs ys (stopped ys other (inr (step_met (DropTicket ticket (Err other)) ys other refl step))))

gives_up_ended : (ticket : ℕ) (why e : Refusal) (xs ys : List Event) → Ended xs (stopping why) → GivesUp ticket why ys (Err e) → Ended (xs ++ ys) e
gives_up_ended ticket why e xs ys h (inl g) = subst (λ (x : Refusal). Ended (xs ++ ys) x) (sym (failing_err e why g.2)) (ended_front (stopping why) xs ys h)
gives_up_ended ticket why e xs ys h (inr g) = dropped_err e why g.1 ticket xs ys h g.2 g.3

err_ok : {A : Type 0} (e : Refusal) (x : A) → Err e ≡ Ok x → ⊥
err_ok e x h = ok_err x e (sym h)

keeps_ended : (file : Option ClientFile) (ticket size before after : ℕ) (events : List Event) (e : Refusal) → Keeps file ticket size before after events (Err e) → Ended events e
keeps_ended file ticket size before after events e (inl h) = absurd (err_ok e _ h.2)
keeps_ended file ticket size before after events e (inr h) =
    subst (λ (es : List Event). Ended es e) (sym h.1.2) (gives_up_ended ticket h.0 e h.1.0 h.1.1 (loads_ended file ticket size before after h.0 h.1.0 h.1.3) h.1.4)

puts_ended : (file : Option ClientFile) (pool size before after : ℕ) (events : List Event) (e : Refusal) → Puts file pool size before after events (Err e) → Ended events e
puts_ended file pool size before after events e (inl h) =
    subst (λ (x : Refusal). Ended events x) (sym (unopened_err e h.0 h.2)) (stopped events h.0 (made_near (OpenNew pool size 0 (Err h.0)) events h.0 refl h.1))
puts_ended file pool size before after events e (inr h) =
    subst (λ (es : List Event). Ended es e) (sym h.1.2) (ended_behind e h.1.0 h.1.1 (keeps_ended file h.0 size before after h.1.1 e h.1.4))

one_ended : (rules : Rules) (told : Option Files) (line : SendLine) (before after : ℕ) (events : List Event) (e : Refusal) → SendsOne rules told line before after events (Err e) → Ended events e
one_ended rules told line before after events e (inl h) = puts_ended _ h.0 line.file.size before after events e h.2.order
one_ended rules told line before after events e (inr h) = absurd (err_ok e _ h.3)

stops_ended : (rules : Rules) (told : Option Files) (lines : List SendLine) (before after : ℕ) (all : List Came) (e : Refusal) (events : List Event) → Stops rules told lines before after all e events → Ended events e
stops_ended rules told lines before after all e events h =
    subst (λ (es : List Event). Ended es e) (sym h.made) (ended_behind e h.xs h.ys (elim h.ends [ inl m ↦ inl m.0 | inr s ↦ one_ended rules told s.0 h.count after h.ys e s.3 ]))

pub fills_all_ended : (rules : Rules) (told : Option Files) (lines : List SendLine) (before after : ℕ) (all : List Came) (e : Refusal) (events : List Event) → Fills rules told lines before after all events (Err e) → Ended events e
fills_all_ended rules told lines before after all e events h =
    subst (λ (es : List Event). Ended es e) (sym h.1.2) (gives_ended _ h.0 e h.1.0 h.1.1 (stops_ended rules told lines before after all h.0 h.1.0 h.1.3) h.1.4)

-- ---- seals

sealed_err : (ticket : ℕ) (digest : Digest) (e why : Refusal) (b : Bool) → Err e ≡ (if b then Ok (came.Failed why) else Err (stopping why)) → e ≡ stopping why
sealed_err ticket digest e why true is = absurd (err_ok e (came.Failed why) is)
sealed_err ticket digest e why false is = ap (λ (r : Result Came Refusal). err_of r (stopping why)) is

seal_ended : (c : Came) (events : List Event) (e : Refusal) → SealsOne c events (Err e) → Ended events e
seal_ended (came.Written ticket digest) events e (Ok done, made, is) = absurd (err_ok e (came.Written ticket digest) is)
seal_ended (came.Written ticket digest) events e (Err why, made, is) =
    subst (λ (x : Refusal). Ended events x) (sym (sealed_err ticket digest e why (number_of why == 25) is)) (stopped events why (made_near (Seal ticket (Err why)) events why refl made))
seal_ended (came.Failed why) events e h = absurd (err_ok e (came.Failed why) h.1)
seal_ended (came.Held holder) events e h = absurd (err_ok e (came.Held holder) h.1)

unsealed_ended : (all : List Came) (e : Refusal) (events : List Event) → StopsSealing all e events → Ended events e
unsealed_ended all e events h = subst (λ (es : List Event). Ended es e) (sym h.made) (ended_behind e h.xs h.ys (elim h.ends [ inl m ↦ inl m.0 | inr s ↦ seal_ended s.0 h.ys e s.3 ]))

pub seals_ended : (all sealed : List Came) (events : List Event) (e : Refusal) → Seals all sealed events (Err e) → Ended events e
seals_ended all sealed events e h = subst (λ (es : List Event). Ended es e) (sym h.1.2) (gives_ended _ h.0 e h.1.0 h.1.1 (unsealed_ended all h.0 h.1.0 h.1.3) h.1.4)

-- ---- transactions

refused_err : (e : Refusal) (b : Bool) → err_of (if b then Ok (Some e) else Err (stopping e)) (stopping e) ≡ stopping e
refused_err e true = refl
refused_err e false = refl

answer_ended : (asked : Asked) (tickets : List ℕ) (answer : Result ℕ Refusal) (events : List Event) (e : Refusal) → Made (Commit asked tickets answer) events → Err e ≡ outcome answer → Ended events e
answer_ended asked tickets (Ok number) events e h is = absurd (err_ok e _ is)
answer_ended asked tickets (Err why) events e h is =
    subst (λ (x : Refusal). Ended events x) (sym (ap (λ (r : Result (Option Refusal) Refusal). err_of r (stopping why)) is ∙ refused_err why (is_in_the_way why)))
    (stopped events why (made_near (Commit asked tickets (Err why)) events why refl h))

tries_ended : (asked : Asked) (tickets : List ℕ) (events : List Event) (e : Refusal) → Tries asked tickets events (Err e) → Ended events e
tries_ended asked tickets events e (inl h) = inl (ap (λ (r : Result (Option Refusal) Refusal). err_of r e) h.1)
tries_ended asked tickets events e (inr h) = answer_ended asked tickets h.0 events e h.1 h.2

abbrev out_of : Result (Option Refusal) Refusal → Refusal
out_of (Ok None) = refused.Memory
out_of (Ok (Some e)) = e
out_of (Err e) = refused.Memory

-- what a refused transaction's line is taken out for was met
met_as : (events : List Event) (e why : Refusal) (b : Bool) → Near why events → Ok (Some e) ≡ (if b then Ok (Some why) else Err (stopping why)) → Near e events
met_as events e why true h is = subst (λ (x : Refusal). Near x events) (sym (ap out_of is)) h
met_as events e why false h is = absurd (ok_err (Some e) (stopping why) is)

answer_near : (asked : Asked) (tickets : List ℕ) (answer : Result ℕ Refusal) (events : List Event) (e : Refusal) → Made (Commit asked tickets answer) events → Ok (Some e) ≡ outcome answer → Near e events
answer_near asked tickets (Ok number) events e h is = inl (ap out_of is)
answer_near asked tickets (Err why) events e h is = met_as events e why (is_in_the_way why) (made_near (Commit asked tickets (Err why)) events why refl h) is

tries_near : (asked : Asked) (tickets : List ℕ) (events : List Event) (e : Refusal) → Tries asked tickets events (Ok (Some e)) → Near e events
tries_near asked tickets events e (inl h) = absurd (ok_err (Some e) refused.Memory h.1)
tries_near asked tickets events e (inr h) = answer_near asked tickets h.0 events e h.1 h.2

taken_as : (events : List Event) (e why : Refusal) (b : Bool) → is_lasting why ≡ b → Near why events → Err e ≡ (if b then Err why else Ok (Some why)) → Ended events e
taken_as events e why true lasts (inl m) is = inl (ap (λ (r : Result (Option Refusal) Refusal). err_of r e) is ∙ m)
taken_as events e why true lasts (inr m) is = subst (λ (x : Refusal). Ended events x) (sym (ap (λ (r : Result (Option Refusal) Refusal). err_of r e) is)) (inr (lasting_ends why lasts, m))
taken_as events e why false lasts h is = absurd (err_ok e (Some why) is)

alone_ended : (asked : Asked) (ticket : List ℕ) (events : List Event) (e : Refusal) → Alone asked ticket events (Err e) → Ended events e
alone_ended asked ticket events e (inl h) = absurd (err_ok e None h.1)
alone_ended asked ticket events e (inr (inl h)) =
    subst (λ (x : Refusal). Ended events x) (sym (ap (λ (r : Result (Option Refusal) Refusal). err_of r e) h.2)) (tries_ended asked ticket events h.0 h.1)
alone_ended asked ticket events e (inr (inr h)) =
    subst (λ (es : List Event). Ended es e) (sym h.2.2)
    (taken_as (h.2.0 ++ h.2.1) e h.1 (is_lasting h.1) refl (gives_near ticket h.0 h.1 h.2.0 h.2.1 (tries_near asked ticket h.2.0 h.0 h.2.3) h.2.4) h.3)

each_ended : {L : Type 0} (asking : List L → Asked) (lines : List L) (tickets : List ℕ) (e : Refusal) (events : List Event) → StopsAlone asking lines tickets e events → Ended events e
each_ended asking lines tickets e events h =
    subst (λ (es : List Event). Ended es e) (sym h.made) (ended_behind e h.xs h.ys (elim h.ends [ inl m ↦ inl m.0 | inr s ↦ alone_ended (asking (s.0 ∷ [])) _ h.ys e s.3 ]))

all_ended : {L : Type 0} (asking : List L → Asked) (lines : List L) (tickets : List ℕ) (e : Refusal) (events : List Event) → CommitsAll asking lines tickets events (Err e) → Ended events e
all_ended asking lines tickets e events (inl h) = inl h.1
all_ended asking lines tickets e events (inr (inl h)) =
    subst (λ (x : Refusal). Ended events x) (sym (ap (λ (r : Result (List (Option Refusal)) Refusal). err_of r e) h.2)) (tries_ended (asking lines) tickets events h.0 h.1)
all_ended asking lines tickets e events (inr (inr h)) =
    subst (λ (es : List Event). Ended es e) (sym h.1.2) (ended_behind e h.1.0 h.1.1 (each_ended asking lines tickets e h.1.1 h.1.4))

pub commits_ended : {L : Type 0} (asking : List L → Asked) (lines : List L) (tickets : List ℕ) (e : Refusal) (events : List Event) → Commits asking lines tickets events (Err e) → Ended events e
commits_ended asking lines tickets e events h =
    subst (λ (es : List Event). Ended es e) (sym h.1.2) (gives_ended tickets h.0 e h.1.0 h.1.1 (all_ended asking lines tickets h.0 h.1.0 h.1.3) h.1.4)
