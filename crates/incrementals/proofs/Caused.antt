-- Why an incremental backup ends with a refusal.
use Rattle.std.proofs.Common.{◌≡◌, ◌⊎◌, inl, inr, ℕ, ◌==◌, ◌||◌, Bool, true, false, true≢false, List, [], ◌∷◌, ◌++◌, if◌then◌else◌, Option, None, Some, is_some, IfErr, Result, Ok, Err, refl, sym, ap, subst, ◌∙◌}
use Rattle.kinds.specs.Answers.{AnswersBy}
use Rattle.kinds.specs.Refusals.{number_of}
use Rattle.kinds.specs.declared.refusal.Holder.{Holder}
use Rattle.kinds.specs.declared.refusal.Holder.TheVariants as holder
use Rattle.kinds.specs.declared.refusal.Refusal.{Refusal}
use Rattle.kinds.specs.declared.refusal.Refusal.TheVariants as refused
use Rattle.choosers.specs.declared.rule.Rule.{Rule}
use Rattle.client_files.specs.declared.outcome.Came.{Came}
use Rattle.client_files.specs.declared.outcome.Came.TheVariants as came
use Rattle.client_files.specs.Sending.{GivesUp, behind_drop, is_unfilled, stopping, unopened}
use Rattle.client_files.specs.Writing.{Keeps, Puts}
use Rattle.client_plan.specs.declared.lines.SendLine.{SendLine}
use Rattle.client_trees.specs.Files.{ClientFile, Files}
use Rattle.inventory_answers.specs.declared.query.Query.{Query}
use Rattle.inventory_answers.specs.declared.query.Query.TheVariants as query
use Rattle.inventory_work.specs.declared.lines.Rules.{Rules}
use Rattle.inventory_work.specs.declared.search.Named.TheVariants as thing
use Rattle.steps.specs.declared.asked.Asked.{Asked}
use Rattle.steps.specs.Calls.{Made, forced}
use Rattle.steps.specs.Events.{Deed, Event, has_number, refusal}
use Rattle.steps.specs.Events.Deed.{Ask, Commit, Force, OpenNew}
use Rattle.incrementals.specs.declared.answering.Outs.{Outs}
use Rattle.incrementals.specs.declared.answering.Sent.{Sent}
use Rattle.client_batches.specs.declared.batch.Batch.{Batch}
use Rattle.incrementals.specs.declared.planning.Begun.{Begun}
use Rattle.incrementals.specs.Asking.{AsksAll, AsksNodeRules, Unanswered}
use Rattle.client_batches.specs.Batches.{Batches, SealsAndStores, Stores}
use Rattle.copy_attempts.specs.Outcomes.{Met, MetBy}
use Rattle.incrementals.specs.Causes.{IsCaused, IsMissing, is_ending}
use Rattle.incrementals.specs.Filespaces.{DefinesAndFinds, DefinesOne, FindsOne, HasFilespace, defined, defining, there, undefined}
use Rattle.incrementals.specs.Planning.{Begins, Unlisted}
use Rattle.incrementals.specs.Process.{CarriesOut, CommitsLists, Finishes, Increments, Works, forced_as}
use Rattle.client_batches.specs.Rounds.{Awaits, AwaitsOne, InRuns, SendsAll, SendsNone}
use Rattle.client_batches.specs.Sends.{SendsEach, SendsOne}
use Rattle.client_batches.specs.Verdicts.{waiting, waits}
use Rattle.incrementals.proofs.Causing.{Ended, Near, commits_ended, ended_behind, err_of, fills_all_ended, gives_ended, made_near, mapped_ended, met_behind, met_front, near_behind, seals_ended, step_met, stopped}
use Rattle.client_batches.proofs.Exact.{ok_err}

-- ---- who is waited for

abbrev held_of : Result Came Refusal → Option Holder
held_of (Ok (came.Written ticket digest)) = None
held_of (Ok (came.Failed e)) = None
held_of (Ok (came.Held h)) = Some h
held_of (Err e) = None

abbrev holder_in : Option Holder → Holder
holder_in None = holder.Image 0
holder_in (Some h) = h

abbrev is_memory : Option Refusal → Bool
is_memory None = false
is_memory (Some e) = number_of e == 50

nobody : (h : Holder) → Some h ≡ None → ⊥
nobody h is = true≢false (ap is_some is)

busy_is : (h : Holder) (e : Refusal) → Some h ≡ held_of (unopened e) → e ≡ refused.Busy h
busy_is h (refused.Busy other) is = ap refused.Busy (sym (ap holder_in is))
busy_is h e is = absurd (nobody h is)

never_held : (h : Holder) (e : Refusal) (b : Bool) → Some h ≡ held_of (if b then Ok (came.Failed e) else Err (stopping e)) → ⊥
never_held h e true is = nobody h is
never_held h e false is = nobody h is

never_dropped : (h : Holder) (e : Refusal) (answer : Result (Unit {0}) Refusal) → Some h ≡ held_of (behind_drop e answer) → ⊥
never_dropped h e (Ok done) is = never_held h e (is_unfilled e) is
never_dropped h e (Err other) is = nobody h is

never_given : (h : Holder) (ticket : ℕ) (e : Refusal) (events : List Event) → GivesUp ticket e events (Ok (came.Held h)) → ⊥
never_given h ticket e events (inl g) = never_held h e (is_unfilled e) (ap held_of g.2)
never_given h ticket e events (inr g) = never_dropped h e g.1 (ap held_of g.3)

never_kept : (h : Holder) (file : Option ClientFile) (ticket size before after : ℕ) (events : List Event) → Keeps file ticket size before after events (Ok (came.Held h)) → ⊥
never_kept h file ticket size before after events (inl s) = nobody h (ap held_of s.2)
never_kept h file ticket size before after events (inr s) = never_given h ticket s.0 s.1.1 s.1.4

not_memory : (h : Holder) → Some (refused.Busy h) ≡ Some refused.Memory → ⊥
not_memory h is = true≢false (sym (ap (λ (o : Option Refusal). is_memory o) is))

busy_met : (h : Holder) (deed : Deed) (events : List Event) → refusal deed ≡ Some (refused.Busy h) → Made deed events → Met (refused.Busy h) events
busy_met h deed events is (inl m) = step_met deed events (refused.Busy h) is m
busy_met h deed events is (inr m) = absurd (not_memory h (sym is ∙ m.0))

held_met : (h : Holder) (file : Option ClientFile) (pool size before after : ℕ) (events : List Event) → Puts file pool size before after events (Ok (came.Held h)) → Met (refused.Busy h) events
held_met h file pool size before after events (inl s) = busy_met h (OpenNew pool size 0 (Err s.0)) events (ap Some (busy_is h s.0 (ap held_of s.2))) s.1
held_met h file pool size before after events (inr s) = absurd (never_kept h file s.0 size before after s.1.1 s.1.4)

one_held : (h : Holder) (rules : Rules) (told : Option Files) (line : SendLine) (before after : ℕ) (events : List Event) → SendsOne rules told line before after events (Ok (came.Held h)) → Met (refused.Busy h) events
one_held h rules told line before after events (inl s) = held_met h _ s.0 line.file.size before after events s.2.order
one_held h rules told line before after events (inr s) = absurd (nobody h (ap held_of s.3))

met_in : (e : Refusal) (events xs ys : List Event) → events ≡ xs ++ ys → Met e ys → Met e events
met_in e events xs ys made h = subst (λ (es : List Event). Met e es) (sym made) (met_behind (λ d. refusal d ≡ Some e) xs ys h)

failed_on : (h : Holder) (all : List Came) (some b : Bool) → (if b then None else waiting some all) ≡ Some h → waiting some all ≡ Some h
failed_on h all some true is = absurd (nobody h (sym is))
failed_on h all some false is = is

waiting_met : (h : Holder) (rules : Rules) (told : Option Files) (lines : List SendLine) (all : List Came) (some : Bool) (before after : ℕ) (events : List Event) → SendsEach rules told lines all before after events
    → waiting some all ≡ Some h → Met (refused.Busy h) events
waiting_met h rules told [] [] some before after events s is = absurd (nobody h (sym is))
waiting_met h rules told [] (c ∷ all) some before after events s is = absurd s
waiting_met h rules told (l ∷ lines) [] some before after events s is = absurd s
waiting_met h rules told (l ∷ lines) (came.Written ticket digest ∷ all) some before after events s is =
    met_in (refused.Busy h) events s.1.0 s.1.1 s.1.2 (waiting_met h rules told lines all (some || true) s.0 after s.1.1 s.1.4 is)
waiting_met h rules told (l ∷ lines) (came.Failed e ∷ all) some before after events s is =
    met_in (refused.Busy h) events s.1.0 s.1.1 s.1.2 (waiting_met h rules told lines all (some || false) s.0 after s.1.1 s.1.4 (failed_on h all (some || false) (waits some (came.Failed e)) is))
waiting_met h rules told (l ∷ lines) (came.Held other ∷ all) some before after events s is =
    subst (λ (es : List Event). Met (refused.Busy h) es) (sym s.1.2) (met_front (λ d. refusal d ≡ Some (refused.Busy h)) s.1.0 s.1.1
    (one_held h rules told l before s.0 s.1.0 (subst (λ (x : Holder). SendsOne rules told l before s.0 s.1.0 (Ok (came.Held x))) (ap holder_in is) s.1.3)))

four_end : (x y a b c d : Bool) → (a || (b || (c || (d || false)))) ≡ true → (x || (a || (y || (b || (c || (d || false)))))) ≡ true
four_end true y a b c d h = refl
four_end false y true b c d h = refl
four_end false true false b c d h = refl
four_end false false false b c d h = h

unwaited_ends : (e : Refusal) → has_number (21 ∷ 40 ∷ 41 ∷ 50 ∷ []) e ≡ true → is_ending e ≡ true
unwaited_ends e h = four_end (10 == number_of e) (31 == number_of e) (21 == number_of e) (40 == number_of e) (41 == number_of e) (50 == number_of e) h

abbrev why_of : Result (Unit {0}) Refusal → Refusal
why_of (Ok done) = refused.Memory
why_of (Err e) = e

force_near : (answer : Result ℕ Refusal) (events : List Event) (why : Refusal) → Made (Force answer) events → Err why ≡ forced answer → Near why events
force_near (Ok number) events why h is = absurd (ok_err tt why (sym is))
force_near (Err e) events why h is = subst (λ (x : Refusal). Near x events) (sym (ap why_of is)) (made_near (Force (Err e)) events e refl h)

other_near : (h : Holder) (xs ys : List Event) (why : Refusal) → Met (refused.Busy h) xs
    → ◌≡◌ {A = Result (Unit {0}) Refusal} (Err why) (Ok tt) ⊎ ◌≡◌ {A = Result (Unit {0}) Refusal} (Err why) (Err (refused.Busy h)) ⊎ ◌≡◌ {A = Result (Unit {0}) Refusal} (Err why) (Err refused.Memory) → Near why (xs ++ ys)
other_near h xs ys why met (inl is) = absurd (ok_err tt why (sym is))
other_near h xs ys why met (inr (inl is)) = subst (λ (x : Refusal). Near x (xs ++ ys)) (sym (ap why_of is)) (inr (met_front (λ d. refusal d ≡ Some (refused.Busy h)) xs ys met))
other_near h xs ys why met (inr (inr is)) = inl (ap why_of is)

awaits_near : (h : Holder) (xs ys : List Event) (why : Refusal) → Met (refused.Busy h) xs → Awaits h ys (Err why) → Near why (xs ++ ys)
awaits_near (holder.Unforced number) xs ys why met w = near_behind why xs ys (force_near w.0 ys why w.2 w.1)
awaits_near (holder.Ticket number) xs ys why met w = other_near (holder.Ticket number) xs ys why met w.1
awaits_near (holder.Image actor) xs ys why met w = other_near (holder.Image actor) xs ys why met w.1

waits_ended : (o : Option Holder) (xs ys : List Event) (e : Refusal) → ((h : Holder) → o ≡ Some h → Met (refused.Busy h) xs) → AwaitsOne o ys (Err e) → Ended (xs ++ ys) e
waits_ended None xs ys e met w = absurd (ok_err tt e (sym w.1))
waits_ended (Some h) xs ys e met w =
    subst (λ (x : Refusal). Ended (xs ++ ys) x) (sym w.1) (mapped_ended (xs ++ ys) w.0 (has_number (21 ∷ 40 ∷ 41 ∷ 50 ∷ []) w.0) (unwaited_ends w.0) (awaits_near h xs ys w.0 (met h refl) w.2))

-- ---- files

stores_ended : (filespace : ℕ) (lines : List SendLine) (all : List Came) (held : List ℕ) (events : List Event) (e : Refusal) → Stores filespace lines all held events (Err e) → Ended events e
stores_ended filespace lines all held events e (inl h) = absurd (ok_err [] e (sym h.2))
stores_ended filespace lines all held events e (inr (inl h)) =
    subst (λ (x : Refusal). Ended events x) (sym (ap (λ (r : Result (List (Option Refusal)) Refusal). err_of r e) h.2)) (gives_ended held refused.Memory h.0 [] events (inl refl) h.1)
stores_ended filespace lines all held events e (inr (inr h)) = commits_ended _ _ held e events h

sealed_ended : (filespace : ℕ) (lines : List SendLine) (all sealed : List Came) (events : List Event) (e : Refusal) → SealsAndStores filespace lines all sealed events (Err e) → Ended events e
sealed_ended filespace lines all sealed events e (inl h) =
    subst (λ (x : Refusal). Ended events x) (sym (ap (λ (r : Result (List (Option Refusal)) Refusal). err_of r e) h.2)) (seals_ended all sealed events h.0 h.1)
sealed_ended filespace lines all sealed events e (inr h) = subst (λ (es : List Event). Ended es e) (sym h.2) (ended_behind e h.0 h.1 (stores_ended filespace lines sealed _ h.1 e h.4))

batch_ended : (rules : Rules) (told : Option Files) (filespace : ℕ) (lines : List SendLine) (before after : ℕ) (events : List Event) (e : Refusal) → Batches rules told filespace lines before after events (Err e) → Ended events e
batch_ended rules told filespace lines before after events e (inl h) = fills_all_ended rules told lines before after h.0 e events h.1
batch_ended rules told filespace lines before after events e (inr h) =
    subst (λ (es : List Event). Ended es e) (sym h.2.2) (ended_behind e h.2.0 h.2.1 (sealed_ended filespace lines h.0 h.1 h.2.1 e h.2.4))

batch_held : (rules : Rules) (told : Option Files) (filespace : ℕ) (lines : List SendLine) (before after : ℕ) (events : List Event) (b : Batch) → Batches rules told filespace lines before after events (Ok b) → (h : Holder)
    → waiting false b.came ≡ Some h → Met (refused.Busy h) events
batch_held rules told filespace lines before after events b s h is =
    subst (λ (es : List Event). Met (refused.Busy h) es) (sym s.2) (met_front (λ d. refusal d ≡ Some (refused.Busy h)) s.0 s.1 (waiting_met h rules told s.3.front b.came false before after s.0 s.3.sends is))

none_ended : (rules : Rules) (told : Option Files) (filespace : ℕ) (lines : List SendLine) (before after : ℕ) (events : List Event) (e : Refusal) → SendsNone rules told filespace lines before after events e → Ended events e
none_ended rules told filespace lines before after events e (inl h) = batch_ended rules told filespace lines before after events e h
none_ended rules told filespace lines before after events e (inr (inl h)) = inl h.2
none_ended rules told filespace lines before after events e (inr (inr h)) =
    subst (λ (es : List Event). Ended es e) (sym h.1.2) (waits_ended (waiting false h.0.came) h.1.0 h.1.1 e (batch_held rules told filespace lines before after h.1.0 h.0 h.1.3) h.1.4)

sends_all_ended : (rules : Rules) (told : Option Files) (filespace : ℕ) (lines : List SendLine) (before after : ℕ) (events : List Event) (e : Refusal) → SendsAll rules told filespace lines before after events (Err e) → Ended events e
sends_all_ended rules told filespace lines before after events e h =
    subst (λ (es : List Event). Ended es e) (sym h.4.2) (ended_behind e h.4.0 h.4.1 (elim h.4.4 [ inl m ↦ inl m.0 | inr s ↦ none_ended rules told filespace h.1 h.3 after h.4.1 e s ]))

runs_ended : {L : Type 0} (asking : List L → Asked) (lines : List L) (events : List Event) (e : Refusal) → InRuns asking lines events (Err e) → Ended events e
runs_ended asking lines events e h =
    subst (λ (es : List Event). Ended es e) (sym h.3.2) (ended_behind e h.3.0 h.3.1 (elim h.3.4 [ inl m ↦ inl m.0 | inr s ↦ commits_ended asking s.0 [] e h.3.1 s.4 ]))

-- ---- questions

three_end : (x y z a b c : Bool) → (a || (b || (c || false))) ≡ true → (a || (x || (y || (b || (c || (z || false)))))) ≡ true
three_end x y z true b c h = refl
three_end true y z false b c h = refl
three_end false true z false b c h = refl
three_end false false z false true c h = refl
three_end false false z false false true h = refl
three_end false false z false false false h = absurd (true≢false (sym h))

unasked_ends : (e : Refusal) → has_number (10 ∷ 40 ∷ 41 ∷ []) e ≡ true → is_ending e ≡ true
unasked_ends e h = three_end (21 == number_of e) (31 == number_of e) (50 == number_of e) (10 == number_of e) (40 == number_of e) (41 == number_of e) h

unanswered_ended : (q : Query) (events : List Event) (e : Refusal) → Unanswered q events e → Ended events e
unanswered_ended q events e (inl h) = inl h.0
unanswered_ended q events e (inr (inl h)) = inl h.1
unanswered_ended q events e (inr (inr h)) =
    subst (λ (x : Refusal). Ended events x) (sym h.1) (mapped_ended events h.0 (has_number (10 ∷ 40 ∷ 41 ∷ []) h.0) (unasked_ends h.0) (made_near (Ask q (Err h.0)) events h.0 refl h.2))

node_rules_ended : (node : List ℕ) (events : List Event) (e : Refusal) → AsksNodeRules node events (Err e) → Ended events e
node_rules_ended node events e (inl h) = subst (λ (es : List Event). Ended es e) (sym h.1.2) (ended_behind e h.1.0 h.1.1 (unanswered_ended (query.Rules h.0) h.1.1 e h.1.4))
node_rules_ended node events e (inr h) =
    subst (λ (x : Refusal). Ended events x) (sym (ap (λ (r : Result _ Refusal). err_of r e) h.2)) (unanswered_ended (query.Lookup (thing.Node node)) events h.0 h.1)

all_asked_ended : (node filespace : List ℕ) (events : List Event) (e : Refusal) → AsksAll node filespace events (Err e) → Ended events e
all_asked_ended node filespace events e (inl h) = unanswered_ended (query.Versions node filespace) events e h.1
all_asked_ended node filespace events e (inr h) = subst (λ (es : List Event). Ended es e) (sym h.1.2) (ended_behind e h.1.0 h.1.1 (node_rules_ended node h.1.1 e h.1.4))

-- ---- the filespace

-- it ended so, or the filespace went meanwhile
abbrev Lost : (node filespace : List ℕ) → List Event → Refusal → Type 0
Lost node filespace events e = Ended events e ⊎ ((e ≡ refused.NotFound) × MetBy (IsMissing node filespace) events)

lost_in : (node filespace : List ℕ) (events xs ys : List Event) (e : Refusal) → events ≡ xs ++ ys → Lost node filespace ys e → Lost node filespace events e
lost_in node filespace events xs ys e made (inl h) = inl (subst (λ (es : List Event). Ended es e) (sym made) (ended_behind e xs ys h))
lost_in node filespace events xs ys e made (inr h) = inr (h.0, subst (λ (es : List Event). MetBy (IsMissing node filespace) es) (sym made) (met_behind (IsMissing node filespace) xs ys h.1))

two_end : (x a b c d f : Bool) → (a || (b || false)) ≡ true → (a || (x || (b || (c || (d || (f || false)))))) ≡ true
two_end x true b c d f h = refl
two_end true false b c d f h = refl
two_end false false true c d f h = refl
two_end false false false c d f h = absurd (true≢false (sym h))

undefined_ended : (events : List Event) (why : Refusal) (b : Bool) → (b ≡ true → is_ending why ≡ true) → Near why events → Ended events (if b then why else stopping why)
undefined_ended events why true ends (inl h) = inl h
undefined_ended events why true ends (inr h) = inr (ends refl, h)
undefined_ended events why false ends h = stopped events why h

defined_as : (e : Refusal) (b : Bool) → err_of (if b then Ok (tt {0}) else Err (undefined e)) (undefined e) ≡ undefined e
defined_as e true = refl
defined_as e false = refl

definition_ended : (asked : Asked) (answer : Result ℕ Refusal) (events : List Event) (e : Refusal) → Made (Commit asked [] answer) events → Err e ≡ defined answer → Ended events e
definition_ended asked (Ok number) events e h is = absurd (ok_err tt e (sym is))
definition_ended asked (Err why) events e h is =
    subst (λ (x : Refusal). Ended events x) (sym (ap (λ (r : Result (Unit {0}) Refusal). err_of r (undefined why)) is ∙ defined_as why (number_of why == 11)))
    (undefined_ended events why (has_number (10 ∷ 31 ∷ []) why)
    (λ h. two_end (21 == number_of why) (10 == number_of why) (31 == number_of why) (40 == number_of why) (41 == number_of why) (50 == number_of why) h) (made_near (Commit asked [] (Err why)) events why refl h))

defines_ended : (node : ℕ) (filespace : List ℕ) (events : List Event) (e : Refusal) → DefinesOne node filespace events (Err e) → Ended events e
defines_ended node filespace events e (inl h) = inl (ap (λ (r : Result (Unit {0}) Refusal). err_of r e) h.1)
defines_ended node filespace events e (inr h) = definition_ended (defining node filespace) h.0 events e h.1 h.2

answered_met : (Is : Deed → Type 0) (deed : Deed) (events : List Event) → Is deed → refusal deed ≡ None → Made deed events → MetBy Is events
answered_met Is deed events is none (inl h) = subst (λ (es : List Event). MetBy Is es) (sym h.1) (inl is)
answered_met Is deed events is none (inr h) = absurd (true≢false (ap is_some (sym h.0 ∙ none)))

missing : (node filespace : List ℕ) (events : List Event) → FindsOne node filespace events (Ok None) → MetBy (IsMissing node filespace) events
missing node filespace events h =
    answered_met (IsMissing node filespace) (Ask (query.Filespaces (Some node)) (Ok h.1.0)) events (h.1.0, h.0, refl, h.1.1, sym h.2) refl h.1.2

there_lost : (node filespace : List ℕ) (events : List Event) (found : Option ℕ) (e : Refusal) → FindsOne node filespace events (Ok found) → Err e ≡ there found → Lost node filespace events e
there_lost node filespace events None e h is = inr (ap (λ (r : Result ℕ Refusal). err_of r e) is, missing node filespace events h)
there_lost node filespace events (Some number) e h is = absurd (ok_err number e (sym is))

found_lost : (node : List ℕ) (number : ℕ) (filespace : List ℕ) (events : List Event) (e : Refusal) → DefinesAndFinds node number filespace events (Err e) → Lost node filespace events e
found_lost node number filespace events e (inl h) = lost_in node filespace events h.1.0 h.1.1 e h.1.2 (there_lost node filespace h.1.1 h.0 e h.1.4 h.2)
found_lost node number filespace events e (inr (inl h)) =
    subst (λ (x : Refusal). Lost node filespace events x) (sym (ap (λ (r : Result ℕ Refusal). err_of r e) h.2))
    (lost_in node filespace events h.1.0 h.1.1 h.0 h.1.2 (inl (unanswered_ended (query.Filespaces (Some node)) h.1.1 h.0 h.1.4)))
found_lost node number filespace events e (inr (inr h)) =
    subst (λ (x : Refusal). Lost node filespace events x) (sym (ap (λ (r : Result ℕ Refusal). err_of r e) h.2)) (inl (defines_ended number filespace events h.0 h.1))

filespace_lost : (node : List ℕ) (number : ℕ) (filespace : List ℕ) (sends : Bool) (events : List Event) (e : Refusal) → HasFilespace node number filespace sends events (Err e) → Lost node filespace events e
filespace_lost node number filespace sends events e (inl h) = absurd (ok_err h.0 e (sym h.2))
filespace_lost node number filespace sends events e (inr (inl h)) =
    subst (λ (x : Refusal). Lost node filespace events x) (sym (ap (λ (r : Result ℕ Refusal). err_of r e) h.2)) (inl (unanswered_ended (query.Filespaces (Some node)) events h.0 h.1))
filespace_lost node number filespace sends events e (inr (inr (inl h))) = inr (ap (λ (r : Result ℕ Refusal). err_of r e) h.2, missing node filespace events h.1)
filespace_lost node number filespace sends events e (inr (inr (inr h))) = lost_in node filespace events h.1.0 h.1.1 e h.1.2 (found_lost node number filespace h.1.1 e h.1.4)

-- ---- all of it

lists_ended : (plan_filespace : ℕ) (o : List (Option Refusal)) (b : Begun) (events : List Event) (e : Refusal) → CommitsLists plan_filespace b.plan o events (Err e) → Ended events e
lists_ended filespace o b events e (inl h) = runs_ended _ _ events e h.order
lists_ended filespace o b events e (inr h) = subst (λ (es : List Event). Ended es e) (sym h.1.2) (ended_behind e h.1.0 h.1.1 (runs_ended _ _ h.1.1 e h.1.4.order))

carries_ended : (filespace : ℕ) (b : Begun) (told : Option Files) (before after : ℕ) (events : List Event) (e : Refusal) → CarriesOut filespace b told before after events (Err e) → Ended events e
carries_ended filespace b told before after events e (inl h) = subst (λ (es : List Event). Ended es e) (sym h.1.2) (ended_behind e h.1.0 h.1.1 (lists_ended filespace h.0 b h.1.1 e h.1.4))
carries_ended filespace b told before after events e (inr h) =
    subst (λ (x : Refusal). Ended events x) (sym (ap (λ (r : Result Outs Refusal). err_of r e) h.2)) (sends_all_ended b.classes told filespace b.plan.send before after events h.0 h.1.order)

works_lost : (node filespace : List ℕ) (b : Begun) (told : Option Files) (before after : ℕ) (events : List Event) (e : Refusal) → Works node filespace b told before after events (Err e) → Lost node filespace events e
works_lost node filespace b told before after events e (inl h) = absurd (ok_err _ e (sym h.3))
works_lost node filespace b told before after events e (inr (inl h)) = lost_in node filespace events h.2.0 h.2.1 e h.2.2 (inl (carries_ended h.1 b told before after h.2.1 e h.2.4))
works_lost node filespace b told before after events e (inr (inr h)) =
    subst (λ (x : Refusal). Lost node filespace events x) (sym (ap (λ (r : Result Outs Refusal). err_of r e) h.4)) (filespace_lost node b.node filespace _ events h.1 h.2)

forced_ended : (answer : Result ℕ Refusal) (events : List Event) (e : Refusal) → Made (Force answer) events → Err e ≡ forced_as answer → Ended events e
forced_ended (Ok number) events e h is = absurd (ok_err tt e (sym is))
forced_ended (Err why) events e h is = subst (λ (x : Refusal). Ended events x) (sym (ap (λ (r : Result (Unit {0}) Refusal). err_of r e) is)) (stopped events why (made_near (Force (Err why)) events why refl h))

finishes_lost : (node filespace : List ℕ) (b : Begun) (told : Option Files) (before after : ℕ) (events : List Event) (e : Refusal) → Finishes node filespace b told before after events (Err e) → Lost node filespace events e
finishes_lost node filespace b told before after events e (inl h) = works_lost node filespace b told before after events e h
finishes_lost node filespace b told before after events e (inr h) = lost_in node filespace events h.1.0 h.1.1 e h.1.2 (inl (forced_ended h.1.4.0 h.1.1 e h.1.4.1 h.1.4.2))

caused_of : (node filespace : List ℕ) (before after : ℕ) (events : List Event) (e : Refusal) → Lost node filespace events e → IsCaused node filespace before after events e
caused_of node filespace before after events e (inl (inl h)) = inl h
caused_of node filespace before after events e (inl (inr h)) = inr (inl h)
caused_of node filespace before after events e (inr h) = inr (inr (inr h))

unlisted_caused : (node filespace : List ℕ) (before after : ℕ) (events : List Event) (e : Refusal) → Unlisted before after e → IsCaused node filespace before after events e
unlisted_caused node filespace before after events e (inl h) = inl h
unlisted_caused node filespace before after events e (inr h) = inr (inr (inl h))

begins_caused : (node filespace : List ℕ) (choice : List Rule) (told : Option Files) (before after : ℕ) (events : List Event) (e : Refusal) → Begins node filespace choice told before after events (Err e)
    → IsCaused node filespace before after events e
begins_caused node filespace choice told before after events e (inl h) = caused_of node filespace before after events e (inl (all_asked_ended node filespace events e h.0))
begins_caused node filespace choice told before after events e (inr h) = unlisted_caused node filespace before after events e h.2

wanting_caused : (node filespace : List ℕ) (before after : ℕ) (events : List Event) (result : Result Sent Refusal) (s : Sent) → AnswersBy (λ t. t) result s → IfErr result (λ e. IsCaused node filespace before after events e)
wanting_caused node filespace before after events (Ok t) s h = tt
wanting_caused node filespace before after events (Err e) s h = inl h

pub caused : (node filespace : List ℕ) (choice : List Rule) (told : Option Files) (before after : ℕ) (events : List Event) (result : Result Sent Refusal) → Increments node filespace choice told before after events result
    → IfErr result (λ e. IsCaused node filespace before after events e)
caused node filespace choice told before after events result (inl h) =
    subst (λ (r : Result Sent Refusal). IfErr r (λ e. IsCaused node filespace before after events e)) (sym h.2) (begins_caused node filespace choice told before after events h.0 h.1)
caused node filespace choice told before after events result (inr (inl h)) =
    subst (λ (r : Result Sent Refusal). IfErr r (λ e. IsCaused node filespace before after events e)) (sym h.4)
    (caused_of node filespace before after events h.2 (lost_in node filespace events h.3.0 h.3.1 h.2 h.3.2 (finishes_lost node filespace h.0 told h.1 after h.3.1 h.2 h.3.4)))
caused node filespace choice told before after events result (inr (inr h)) = wanting_caused node filespace before after events result _ h.4
