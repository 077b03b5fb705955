-- No ticket is left behind batches.
use Rattle.std.proofs.Common.{◌≡◌, ◌⊎◌, inl, inr, ℕ, zero, suc, ◌+◌, ◌==◌, ◌&&◌, ◌||◌, ◌≤◌, Bool, true, false, if◌then◌else◌, List, [], ◌∷◌, ◌++◌, take, drop, length, Option, None, Some, Result, Ok, Err, refl, sym, ap, subst, ◌∙◌, arith}
use Rattle.std.proofs.lemmas.Bool.{eq-eqb, eqb-true, false≢true}
use Rattle.std.proofs.lemmas.List.{length-append}
use Rattle.std.proofs.lemmas.Option.{same_Some}
use Rattle.std.specs.List.{AllByRecursion, list_any}
use Rattle.kinds.specs.Refusals.{number_of}
use Rattle.kinds.specs.declared.refusal.Refusal.{Refusal}
use Rattle.kinds.specs.declared.refusal.Refusal.TheVariants as refused
use Rattle.kinds.specs.declared.segment.Digest.{Digest}
use Rattle.client_files.specs.declared.outcome.Came.{Came}
use Rattle.client_files.specs.declared.outcome.Came.TheVariants as came
use Rattle.client_files.specs.Sending.{stopping}
use Rattle.client_files.specs.Tickets.{is_lasting}
use Rattle.client_files.proofs.Held.{file-held, kept_of, lasts}
use Rattle.client_files.proofs.Ticketed.{numbered, one-of-dropped}
use Rattle.client_plan.specs.declared.lines.SendLine.{SendLine}
use Rattle.client_trees.specs.Files.{Files}
use Rattle.inventory_work.specs.declared.lines.Rules.{Rules}
use Rattle.steps.specs.declared.asked.Asked.{Asked}
use Rattle.steps.specs.Calls.{IsStep, Made, Then}
use Rattle.steps.specs.Events.{Deed, Event, is_listed}
use Rattle.steps.specs.Events.Deed.{Commit, DropTicket, Force, Seal}
use Rattle.steps.specs.Spent.{is_spent, spends}
use Rattle.steps.proofs.Spending.{AreClosed, AreHeld, closed-both, closed-held, closed-made, closed-none, held-both, held-join, held-more, is_in, made-spends, opens_one, spent-before, spent-behind, step-spends}
use Rattle.client_batches.specs.declared.batch.Batch.{Batch}
use Rattle.client_batches.specs.declared.listing.SealedLine.{SealedLine}
use Rattle.client_batches.specs.Batches.{Batches, SealsAndStores, Stores, sealed_lines}
use Rattle.client_batches.specs.Commits.{Alone, Commits, CommitsAll, EachAlone, Singles, Tries, is_in_the_way, outcome, refused_as, taken_out}
use Rattle.client_batches.specs.Listings.{storing}
use Rattle.client_batches.specs.Rounds.{AwaitsOne, InRuns, Round, Rounds, SendsAll, SendsNone, SendsSome}
use Rattle.client_batches.specs.Seals.{SealsEach, SealsOne, StopsSealing}
use Rattle.client_batches.specs.Sends.{Fills, SendsEach, SendsOne, Sent, Stops, tickets_in}
use Rattle.client_batches.specs.Tickets.{DropsAll, DropsEach, GivesBack, lasting_in}
use Rattle.client_batches.specs.Verdicts.{waiting}
use Rattle.client_batches.proofs.Sealed.{behind-each, behind-long}
use Rattle.client_batches.proofs.Ordering.{each-commits, each-given, each-runs, each-waits}

-- ---- tickets that are spent

-- each of these is spent
abbrev pub AreSpent : List ℕ → List Event → Type 0
AreSpent tickets events = (t : ℕ) → is_in t tickets ≡ true → is_spent t events ≡ true

spent-none : (events : List Event) → AreSpent [] events
spent-none events t h = absurd (false≢true h)

-- the first by these steps, and the others by those
spent-each : (ticket : ℕ) (tickets : List ℕ) (xs ys : List Event) → AreSpent (ticket ∷ []) xs → AreSpent tickets ys → AreSpent (ticket ∷ tickets) (xs ++ ys)
spent-each ticket tickets xs ys first others t h = elim (ticket == t) as (λ b. (ticket == t) ≡ b → (b || is_in t tickets) ≡ true → is_spent t (xs ++ ys) ≡ true) [
  | true ↦ λ is so. spent-before t xs ys (first t (ap (λ b. b || false) is))
  | false ↦ λ is so. spent-behind t xs ys (others t so)
] refl h

spent-later : (tickets : List ℕ) (events xs ys : List Event) → events ≡ xs ++ ys → AreSpent tickets ys → AreSpent tickets events
spent-later tickets events xs ys cut s t h = subst (λ (es : List Event). is_spent t es ≡ true) (sym cut) (spent-behind t xs ys (s t h))

spent-first : (tickets : List ℕ) (events xs ys : List Event) → events ≡ xs ++ ys → AreSpent tickets xs → AreSpent tickets events
spent-first tickets events xs ys cut s t h = subst (λ (es : List Event). is_spent t es ≡ true) (sym cut) (spent-before t xs ys (s t h))

-- ---- tickets that are given back

not-lasting : (e : Refusal) → lasting_in (Err e) ≡ None → is_lasting e ≡ false
not-lasting e h = elim (is_lasting e) as (λ b. (if b then Some e else None) ≡ None → b ≡ false) [
  | true ↦ λ odd. absurd cc
  | false ↦ λ _. refl
] h

the-lasting : (answer : Result (Unit {0}) Refusal) (e : Refusal) → lasting_in answer ≡ Some e → is_lasting e ≡ true
the-lasting (Ok done) e h = absurd cc
the-lasting (Err why) e h = elim (is_lasting why) as (λ b. is_lasting why ≡ b → (if b then Some why else None) ≡ Some e → is_lasting e ≡ true) [
  | true ↦ λ is same. subst (λ (x : Refusal). is_lasting x ≡ true) (same_Some why e same) is
  | false ↦ λ is odd. absurd cc
] refl h

one-test : (ticket t : ℕ) (b : Bool) → (ticket == t) ≡ b → (b || false) ≡ true → (ticket == t) ≡ true
one-test ticket t true is h = is
one-test ticket t false is h = absurd (false≢true h)

-- a ticket is dropped, or was no longer there
drop-spent : (ticket : ℕ) (answer : Result (Unit {0}) Refusal) (events : List Event) → lasting_in answer ≡ None → IsStep (DropTicket ticket answer) events → AreSpent (ticket ∷ []) events
unfolding is_listed
drop-spent ticket (Ok done) events last step t h = step-spends t (DropTicket ticket (Ok done)) events step (one-test ticket t (ticket == t) refl h)
drop-spent ticket (Err e) events last step t h =
    elim (one-of-dropped (number_of e) (10 == number_of e) (40 == number_of e) (41 == number_of e) refl refl refl step.2) as (λ _. is_spent t events ≡ true) [
      | inl k ↦ step-spends t (DropTicket ticket (Err e)) events step (ap (λ b. b && number_of e == 10) (one-test ticket t (ticket == t) refl h) ∙ eq-eqb (number_of e) 10 (sym k))
      | inr (inl k) ↦ absurd (false≢true (sym (not-lasting e last) ∙ subst (λ (m : ℕ). numbered (40 ∷ 41 ∷ []) m ≡ true) k refl))
      | inr (inr k) ↦ absurd (false≢true (sym (not-lasting e last) ∙ subst (λ (m : ℕ). numbered (40 ∷ 41 ∷ []) m ≡ true) k refl))
    ]

dropped-spent : (tickets : List ℕ) (events : List Event) → DropsAll tickets events → AreSpent tickets events
dropped-spent [] events h = spent-none events
dropped-spent (ticket ∷ tickets) events (answer, last, (xs, ys, cut, step, rest)) =
    subst (λ (es : List Event). AreSpent (ticket ∷ tickets) es) (sym cut) (spent-each ticket tickets xs ys (drop-spent ticket answer xs last step) (dropped-spent tickets ys rest))

-- where the refusal with which it ends isn't lasting the one before wasn't, and each is given back
given-mild : (tickets : List ℕ) (e : Refusal) (events : List Event) (why : Refusal) → GivesBack tickets e events why → is_lasting why ≡ false → is_lasting e ≡ false
given-mild tickets e events why (inl (lasting, none, is)) mild = absurd (false≢true (sym mild ∙ ap is_lasting is ∙ lasting))
given-mild tickets e events why (inr (inl h)) mild = h.0
given-mild tickets e events why (inr (inr h)) mild = h.0

given-spent : (tickets : List ℕ) (e : Refusal) (events : List Event) (why : Refusal) → GivesBack tickets e events why → is_lasting why ≡ false → AreSpent tickets events
given-spent tickets e events why (inl (lasting, none, is)) mild = absurd (false≢true (sym mild ∙ ap is_lasting is ∙ lasting))
given-spent tickets e events why (inr (inl h)) mild = dropped-spent tickets events h.1
given-spent tickets e events why (inr (inr (mild-e, (front, ticket, back, parts, answer, last, rest)))) mild = absurd (false≢true (sym mild ∙ the-lasting answer why last))

-- ---- transactions

refused-so : (e other : Refusal) (b : Bool) → ◌≡◌ {A = Result (Option Refusal) Refusal} (Ok None) (if b then Ok (Some e) else Err other) → ⊥
refused-so e other true h = absurd cc
refused-so e other false h = absurd cc

refused-never : (e : Refusal) → ◌≡◌ {A = Result (Option Refusal) Refusal} (Ok None) (refused_as e) → ⊥
refused-never e h = refused-so e (stopping e) (is_in_the_way e) h

-- a transaction that was made spends its tickets
tries-spent : (asked : Asked) (tickets : List ℕ) (events : List Event) → Tries asked tickets events (Ok None) → AreSpent tickets events
tries-spent asked tickets events (inl h) t is = absurd cc
tries-spent asked tickets events (inr (Ok number, inl step, same)) t is = step-spends t (Commit asked tickets (Ok number)) events step is
tries-spent asked tickets events (inr (Ok number, inr wants, same)) t is = absurd cc
tries-spent asked tickets events (inr (Err e, made, same)) t is = absurd (refused-never e same)

taken-mild : (why : Refusal) (out : Option Refusal) → Ok out ≡ taken_out why → is_lasting why ≡ false
taken-mild why out h = elim (is_lasting why) as (λ b. ◌≡◌ {A = Result (Option Refusal) Refusal} (Ok out) (if b then Err why else Ok (Some why)) → b ≡ false) [
  | true ↦ λ odd. absurd cc
  | false ↦ λ _. refl
] h

alone-spent : (asked : Asked) (ticket : List ℕ) (events : List Event) (out : Option Refusal) → Alone asked ticket events (Ok out) → AreSpent ticket events
alone-spent asked ticket events out (inl h) = tries-spent asked ticket events h.0
alone-spent asked ticket events out (inr (inl h)) = λ t is. absurd cc
alone-spent asked ticket events out (inr (inr (e, why, (xs, ys, cut, tries, gives), same))) = spent-later ticket events xs ys cut (given-spent ticket e ys why gives (taken-mild why out same))

module _ {L : Type 0} (asking : List L → Asked) where
  singles-spent : (lines : List L) (tickets : List ℕ) (outs : List (Option Refusal)) (events : List Event) → length tickets ≤ length lines → Singles asking lines tickets outs events → AreSpent tickets events
  singles-spent lines [] outs events few h = spent-none events
  singles-spent [] (ticket ∷ tickets) outs events few h = λ t is. absurd (omega (arith, few))
  singles-spent (l ∷ lines) (ticket ∷ tickets) [] events few h = absurd h
  singles-spent (l ∷ lines) (ticket ∷ tickets) (out ∷ outs) events few (xs, ys, cut, alone, rest) =
      subst (λ (es : List Event). AreSpent (ticket ∷ tickets) es) (sym cut)
      (spent-each ticket tickets xs ys (alone-spent (asking (l ∷ [])) (ticket ∷ []) xs out alone) (singles-spent lines tickets outs ys (omega (arith, few)) rest))

  all-spent : (lines : List L) (tickets : List ℕ) (outs : List (Option Refusal)) (events : List Event) → length tickets ≤ length lines → CommitsAll asking lines tickets events (Ok outs) → AreSpent tickets events
  all-spent lines tickets outs events few (inl h) = tries-spent (asking lines) tickets events h.0
  all-spent lines tickets outs events few (inr (inl h)) = λ t is. absurd cc
  all-spent lines tickets outs events few (inr (inr (why, (xs, ys, cut, tries, each)))) = spent-later tickets events xs ys cut (singles-spent lines tickets outs ys few each)

  commits-spent : (lines : List L) (tickets : List ℕ) (events : List Event) (result : Result (List (Option Refusal)) Refusal) → length tickets ≤ length lines → Commits asking lines tickets events result → lasts result ≡ false → AreSpent tickets events
  commits-spent lines tickets events (Ok outs) few h mild = all-spent lines tickets outs events few h
  commits-spent lines tickets events (Err e) few (why, (xs, ys, cut, all, gives)) mild = spent-later tickets events xs ys cut (given-spent tickets why ys e gives mild)

-- ---- how many

-- as many files are committed as have tickets
rows-long : (lines : List SendLine) (all : List Came) → length all ≤ length lines → length (tickets_in all) ≤ length (sealed_lines lines all)
rows-long lines [] few = omega (arith)
rows-long [] (c ∷ all) few = absurd (omega (arith, few))
rows-long (l ∷ lines) (came.Written ticket digest ∷ all) few = (let rest = rows-long lines all (omega (arith, few)) in omega (arith, rest))
rows-long (l ∷ lines) (came.Failed e ∷ all) few = rows-long lines all (omega (arith, few))
rows-long (l ∷ lines) (came.Held holder ∷ all) few = rows-long lines all (omega (arith, few))

each-long : (rules : Rules) (told : Option Files) (lines : List SendLine) (all : List Came) (before after : ℕ) (events : List Event) → SendsEach rules told lines all before after events → length all ≡ length lines
each-long rules told [] [] before after events h = refl
each-long rules told [] (c ∷ all) before after events h = absurd h
each-long rules told (l ∷ lines) [] before after events h = absurd h
each-long rules told (l ∷ lines) (c ∷ all) before after events (count, (xs, ys, cut, one, rest)) = ap suc (each-long rules told lines all count after ys rest)

few-of : (lines front back : List SendLine) (all : List Came) → lines ≡ front ++ back → length all ≡ length front → length all ≤ length lines
few-of lines front back all cut same =
    let long : length lines ≡ length front + length back = ap (λ (ls : List SendLine). length ls) cut ∙ length-append front back in
    omega (arith, long, same)

-- ---- files

abbrev Keeps : Came → List ℕ
Keeps c = kept_of (Ok c)

module _ (rules : Rules) (told : Option Files) where
  one-held : (line : SendLine) (before after : ℕ) (events : List Event) (result : Result Came Refusal) → SendsOne rules told line before after events result → lasts result ≡ false → AreHeld (kept_of result) events
  one-held line before after events result (inl (pool, is, sent)) mild = file-held _ line.file.size before after pool events result sent.order mild
  one-held line before after events result (inr (none, empty, same, is)) mild = closed-held (kept_of result) events (closed-none events empty)

  first-in : (c : Came) (all : List Came) (t : ℕ) → is_in t (Keeps c) ≡ true → is_in t (tickets_in (c ∷ all)) ≡ true
  first-in (came.Written ticket digest) all t h = first-of (ticket == t) h where
    first-of : (b : Bool) → (b || false) ≡ true → (b || is_in t (tickets_in all)) ≡ true
    first-of true k = refl
    first-of false k = absurd (false≢true k)
  first-in (came.Failed e) all t h = absurd (false≢true h)
  first-in (came.Held holder) all t h = absurd (false≢true h)

  or-second : (a b : Bool) → b ≡ true → (a || b) ≡ true
  or-second true b h = refl
  or-second false b h = h

  others-in : (c : Came) (all : List Came) (t : ℕ) → is_in t (tickets_in all) ≡ true → is_in t (tickets_in (c ∷ all)) ≡ true
  others-in (came.Written ticket digest) all t h = or-second (ticket == t) (is_in t (tickets_in all)) h
  others-in (came.Failed e) all t h = h
  others-in (came.Held holder) all t h = h

  sends-held : (lines : List SendLine) (all : List Came) (before after : ℕ) (events : List Event) → SendsEach rules told lines all before after events → AreHeld (tickets_in all) events
  sends-held [] [] before after events h = closed-held [] events (closed-none events h.0)
  sends-held [] (c ∷ all) before after events h = absurd h
  sends-held (l ∷ lines) [] before after events h = absurd h
  sends-held (l ∷ lines) (c ∷ all) before after events (count, (xs, ys, cut, one, rest)) =
      held-both (tickets_in (c ∷ all)) events xs ys cut
      (held-more (Keeps c) (tickets_in (c ∷ all)) xs (first-in c all) (one-held l before count xs (Ok c) one refl))
      (held-more (tickets_in all) (tickets_in (c ∷ all)) ys (others-in c all) (sends-held lines all count after ys rest))

  sent-held : (lines : List SendLine) (before after : ℕ) (all : List Came) (events : List Event) → Sent rules told lines before after all events → AreHeld (tickets_in all) events
  sent-held lines before after all events h = sends-held h.front all before after events h.sends

  sent-few : (lines : List SendLine) (before after : ℕ) (all : List Came) (events : List Event) → Sent rules told lines before after all events → length all ≤ length lines
  sent-few lines before after all events h = few-of lines h.front h.back all h.lined (each-long rules told h.front all before after events h.sends)

  stops-held : (lines : List SendLine) (before after : ℕ) (all : List Came) (e : Refusal) (events : List Event) → Stops rules told lines before after all e events → is_lasting e ≡ false → AreHeld (tickets_in all) events
  stops-held lines before after all e events h mild =
      held-both (tickets_in all) events h.xs h.ys h.made (sends-held h.front all before h.count h.xs h.sends)
      (elim h.ends as (λ _. AreHeld (tickets_in all) h.ys) [
        | inl m ↦ closed-held (tickets_in all) h.ys (closed-none h.ys m.1)
        | inr s ↦ held-more [] (tickets_in all) h.ys (λ t odd. absurd (false≢true odd)) (one-held s.0 h.count after h.ys (Err e) s.3 mild)
      ])

-- ---- batches

-- its steps open none
closed-given : (tickets : List ℕ) (e : Refusal) (events : List Event) (why : Refusal) → GivesBack tickets e events why → AreClosed events
closed-given tickets e events why h = each-given (λ d. opens_one d ≡ false) (λ ticket answer. refl) tickets e events why h

module _ (filespace : ℕ) (lines : List SendLine) (all : List Came) (held : List ℕ) where
  all-any : {A : Type 0} (xs : List A) → AllByRecursion (λ x. Unit {0}) xs
  all-any [] = tt
  all-any (x ∷ xs) = (tt, all-any xs)

  closed-stores : (events : List Event) (result : Result (List (Option Refusal)) Refusal) → Stores filespace lines all held events result → AreClosed events
  closed-stores events result (inl h) = closed-none events h.1
  closed-stores events result (inr (inl h)) = closed-given held refused.Memory events h.0 h.1
  closed-stores events result (inr (inr h)) =
      each-commits (λ d. opens_one d ≡ false) (λ ticket answer. refl) (λ (l : SealedLine). Unit {0}) (storing filespace) (λ ls tickets answer is. refl) (sealed_lines lines all) (all-any (sealed_lines lines all)) held events result h

  stores-spent : (events : List Event) (result : Result (List (Option Refusal)) Refusal) → length held ≤ length (sealed_lines lines all) → Stores filespace lines all held events result → lasts result ≡ false → AreSpent held events
  stores-spent events result few (inl h) mild = subst (λ (ts : List ℕ). AreSpent ts events) (sym h.0) (spent-none events)
  stores-spent events result few (inr (inl (e, gives, is))) mild = given-spent held refused.Memory events e gives (ap (λ (r : Result (List (Option Refusal)) Refusal). lasts r) (sym is) ∙ mild)
  stores-spent events result few (inr (inr h)) mild = commits-spent (storing filespace) (sealed_lines lines all) held events result few h mild

-- ---- seals

-- each ticket is left, or a fault of its seal spent it
sealed-in : (ticket t : ℕ) (digest : Digest) (s : Came) (sealed : List Came) → s ≡ came.Written ticket digest → (ticket == t) ≡ true → is_in t (tickets_in (s ∷ sealed)) ≡ true
sealed-in ticket t digest s sealed is same = subst (λ (x : Came). is_in t (tickets_in (x ∷ sealed)) ≡ true) (sym is) (ap (λ b. b || is_in t (tickets_in sealed)) same)

not-sealed : (e : Refusal) (s : Came) (b : Bool) → (number_of e == 25) ≡ b → ◌≡◌ {A = Result Came Refusal} (Ok s) (if b then Ok (came.Failed e) else Err (stopping e)) → (number_of e == 25) ≡ true
not-sealed e s true is same = is
not-sealed e s false is same = absurd cc

fault-memory : (e : Refusal) → (number_of e == 25) ≡ true → Some e ≡ Some refused.Memory → ⊥
fault-memory e fault is = false≢true (subst (λ (x : Refusal). (number_of x == 25) ≡ true) (same_Some e refused.Memory is) fault)

seal-spent : (ticket t : ℕ) (digest : Digest) (s : Came) (sealed : List Came) (xs : List Event) → SealsOne (came.Written ticket digest) xs (Ok s) → (ticket == t) ≡ true
    → (is_spent t xs ≡ true) ⊎ (is_in t (tickets_in (s ∷ sealed)) ≡ true)
seal-spent ticket t digest s sealed xs (Ok done, made, is) same = inr (sealed-in ticket t digest s sealed (came_of is) same) where
  came_of : ◌≡◌ {A = Result Came Refusal} (Ok s) (Ok (came.Written ticket digest)) → s ≡ came.Written ticket digest
  came_of h = cc
seal-spent ticket t digest s sealed xs (Err e, made, is) same =
    let fault = not-sealed e s (number_of e == 25) refl is in
    inl (made-spends t (Seal ticket (Err e)) xs made (fault-memory e fault) (ap (λ b. b && number_of e == 25) same ∙ fault))

later-in : (s : Came) (sealed : List Came) (t : ℕ) → is_in t (tickets_in sealed) ≡ true → is_in t (tickets_in (s ∷ sealed)) ≡ true
later-in (came.Written ticket digest) sealed t h = or-true (ticket == t) (is_in t (tickets_in sealed)) h where
  or-true : (a b : Bool) → b ≡ true → (a || b) ≡ true
  or-true true b h = refl
  or-true false b h = h
later-in (came.Failed e) sealed t h = h
later-in (came.Held holder) sealed t h = h

abbrev Passes : (held kept : List ℕ) → List Event → Type 0
Passes held kept events = (t : ℕ) → is_in t held ≡ true → (is_spent t events ≡ true) ⊎ (is_in t kept ≡ true)

passes-later : (s : Came) (all sealed : List Came) (xs ys : List Event) → Passes (tickets_in all) (tickets_in sealed) ys → Passes (tickets_in all) (tickets_in (s ∷ sealed)) (xs ++ ys)
passes-later s all sealed xs ys so t h = elim (so t h) as (λ _. (is_spent t (xs ++ ys) ≡ true) ⊎ (is_in t (tickets_in (s ∷ sealed)) ≡ true)) [
  | inl spent ↦ inl (spent-behind t xs ys spent)
  | inr left ↦ inr (later-in s sealed t left)
]

passes-written : (ticket : ℕ) (digest : Digest) (s : Came) (all sealed : List Came) (xs ys : List Event) → SealsOne (came.Written ticket digest) xs (Ok s) → Passes (tickets_in all) (tickets_in sealed) ys
    → (t : ℕ) (b : Bool) → (ticket == t) ≡ b → (b || is_in t (tickets_in all)) ≡ true → (is_spent t (xs ++ ys) ≡ true) ⊎ (is_in t (tickets_in (s ∷ sealed)) ≡ true)
passes-written ticket digest s all sealed xs ys one rest t true same h = elim (seal-spent ticket t digest s sealed xs one same) as (λ _. (is_spent t (xs ++ ys) ≡ true) ⊎ (is_in t (tickets_in (s ∷ sealed)) ≡ true)) [
  | inl spent ↦ inl (spent-before t xs ys spent)
  | inr left ↦ inr left
]
passes-written ticket digest s all sealed xs ys one rest t false same h = passes-later s all sealed xs ys rest t h

seals-pass : (all sealed : List Came) (events : List Event) → SealsEach all sealed events → Passes (tickets_in all) (tickets_in sealed) events
seals-pass [] [] events h = λ t odd. absurd (false≢true odd)
seals-pass [] (s ∷ sealed) events h = absurd h
seals-pass (c ∷ all) [] events h = absurd h
seals-pass (came.Written ticket digest ∷ all) (s ∷ sealed) events (xs, ys, cut, one, rest) =
    subst (λ (es : List Event). Passes (ticket ∷ tickets_in all) (tickets_in (s ∷ sealed)) es) (sym cut)
    (λ t h. passes-written ticket digest s all sealed xs ys one (seals-pass all sealed ys rest) t (ticket == t) refl h)
seals-pass (came.Failed e ∷ all) (s ∷ sealed) events (xs, ys, cut, one, rest) =
    subst (λ (es : List Event). Passes (tickets_in all) (tickets_in (s ∷ sealed)) es) (sym cut) (passes-later s all sealed xs ys (seals-pass all sealed ys rest))
seals-pass (came.Held holder ∷ all) (s ∷ sealed) events (xs, ys, cut, one, rest) =
    subst (λ (es : List Event). Passes (tickets_in all) (tickets_in (s ∷ sealed)) es) (sym cut) (passes-later s all sealed xs ys (seals-pass all sealed ys rest))

-- their steps open none
closed-seal : (c : Came) (events : List Event) (result : Result Came Refusal) → SealsOne c events result → AreClosed events
closed-seal (came.Written ticket digest) events result h = closed-made (Seal ticket h.0) events refl h.1
closed-seal (came.Failed e) events result h = closed-none events h.0
closed-seal (came.Held holder) events result h = closed-none events h.0

closed-seals : (all sealed : List Came) (events : List Event) → SealsEach all sealed events → AreClosed events
closed-seals [] [] events h = closed-none events h
closed-seals [] (s ∷ sealed) events h = absurd h
closed-seals (c ∷ all) [] events h = absurd h
closed-seals (c ∷ all) (s ∷ sealed) events (xs, ys, cut, one, rest) = closed-both events xs ys cut (closed-seal c xs (Ok s) one) (closed-seals all sealed ys rest)

closed-unsealed : (all : List Came) (e : Refusal) (events : List Event) → StopsSealing all e events → AreClosed events
closed-unsealed all e events h =
    closed-both events h.xs h.ys h.made (closed-seals h.front h.sealed h.xs h.seals)
    (elim h.ends as (λ _. AreClosed h.ys) [ inl m ↦ closed-none h.ys m.1 | inr o ↦ closed-seal o.0 h.ys (Err e) o.3 ])

module _ (filespace : ℕ) (lines : List SendLine) (all sealed : List Came) where
  closed-sealed : (events : List Event) (result : Result (List (Option Refusal)) Refusal) → SealsAndStores filespace lines all sealed events result → AreClosed events
  closed-sealed events result (inl (e, (why, (xs, ys, cut, stops, gives)), is)) = closed-both events xs ys cut (closed-unsealed all why xs stops) (closed-given (tickets_in all) why ys e gives)
  closed-sealed events result (inr (xs, ys, cut, seals, stores)) = closed-both events xs ys cut (closed-seals all sealed xs seals) (closed-stores filespace lines sealed (tickets_in sealed) ys result stores)

  sealed-spent : (events : List Event) (result : Result (List (Option Refusal)) Refusal) → length all ≤ length lines → SealsAndStores filespace lines all sealed events result → lasts result ≡ false → AreSpent (tickets_in all) events
  sealed-spent events result few (inl (e, (why, (xs, ys, cut, stops, gives)), is)) mild =
      spent-later (tickets_in all) events xs ys cut (given-spent (tickets_in all) why ys e gives (ap (λ (r : Result (List (Option Refusal)) Refusal). lasts r) (sym is) ∙ mild))
  sealed-spent events result few (inr (xs, ys, cut, seals, stores)) mild =
      let long = behind-long all sealed (behind-each all sealed xs seals) in
      let enough : length (tickets_in sealed) ≤ length (sealed_lines lines sealed) = rows-long lines sealed (omega (arith, long, few)) in
      λ t h. subst (λ (es : List Event). is_spent t es ≡ true) (sym cut) (elim (seals-pass all sealed xs seals t h) as (λ _. is_spent t (xs ++ ys) ≡ true) [
        | inl spent ↦ spent-before t xs ys spent
        | inr left ↦ spent-behind t xs ys (stores-spent filespace lines sealed (tickets_in sealed) ys result enough stores mild t left)
      ])

module _ (rules : Rules) (told : Option Files) (filespace : ℕ) where
  -- what was written is sealed and committed, and no ticket is left
  stored-held : (lines : List SendLine) (before after : ℕ) (all sealed : List Came) (events xs ys : List Event) (result : Result (List (Option Refusal)) Refusal) → events ≡ xs ++ ys → Sent rules told lines before after all xs
      → SealsAndStores filespace lines all sealed ys result → lasts result ≡ false → AreHeld [] events
  stored-held lines before after all sealed events xs ys result cut sent stores mild =
      subst (λ (es : List Event). AreHeld [] es) (sym cut)
      (held-join (tickets_in all) [] xs ys (λ t h. inl (sealed-spent filespace lines all sealed ys result (sent-few rules told lines before after all xs sent) stores mild t h))
      (sent-held rules told lines before after all xs sent) (closed-held [] ys (closed-sealed filespace lines all sealed ys result stores)))

  pub batch-held : (lines : List SendLine) (before after : ℕ) (events : List Event) (result : Result Batch Refusal) → Batches rules told filespace lines before after events result → lasts result ≡ false → AreHeld [] events
  batch-held lines before after events (Ok b) (xs, ys, cut, sent, stores) mild = stored-held lines before after b.came b.sealed events xs ys (Ok b.outs) cut sent stores refl
  batch-held lines before after events (Err e) (inl (all, (why, (xs, ys, cut, stops, gives)))) mild =
      subst (λ (es : List Event). AreHeld [] es) (sym cut)
      (held-join (tickets_in all) [] xs ys (λ t h. inl (given-spent (tickets_in all) why ys e gives mild t h))
      (stops-held rules told lines before after all why xs stops (given-mild (tickets_in all) why ys e gives mild)) (closed-held [] ys (closed-given (tickets_in all) why ys e gives)))
  batch-held lines before after events (Err e) (inr (all, sealed, (xs, ys, cut, sent, stores))) mild = stored-held lines before after all sealed events xs ys (Err e) cut sent stores mild

  closed-waits : (events : List Event) (b : Batch) (result : Result (Unit {0}) Refusal) → AwaitsOne (waiting false b.came) events result → AreClosed events
  closed-waits events b result h = each-waits (λ d. opens_one d ≡ false) (λ answer. refl) (waiting false b.came) events result h

  some-held : (lines rest : List SendLine) (outs : List (Option Refusal)) (before after : ℕ) (events : List Event) → SendsSome rules told filespace lines rest outs before after events → AreHeld [] events
  some-held lines rest outs before after events (b, said, left, (xs, ys, cut, batch, waits)) =
      held-both [] events xs ys cut (batch-held lines before after xs (Ok b) batch refl) (closed-held [] ys (closed-waits ys b (Ok tt) waits))

  rounds-held : (number : ℕ) (lines rest : List SendLine) (outs : List (Option Refusal)) (before after : ℕ) (events : List Event) → Rounds (SendsSome rules told filespace) number lines rest outs before after events → AreHeld [] events
  rounds-held zero lines rest outs before after events (left, none, same, empty) = closed-held [] events (closed-none events empty)
  rounds-held (suc number) lines rest outs before after events (left, first, next, count, joined, (xs, ys, cut, rounds, one)) =
      held-both [] events xs ys cut (rounds-held number lines left first before count xs rounds) (some-held left rest next count after ys one)

  none-held : (lines : List SendLine) (before after : ℕ) (events : List Event) (e : Refusal) → SendsNone rules told filespace lines before after events e → is_lasting e ≡ false → AreHeld [] events
  none-held lines before after events e (inl h) mild = batch-held lines before after events (Err e) h mild
  none-held lines before after events e (inr (inl (b, h, is))) mild = batch-held lines before after events (Ok b) h refl
  none-held lines before after events e (inr (inr (b, (xs, ys, cut, batch, waits)))) mild = held-both [] events xs ys cut (batch-held lines before after xs (Ok b) batch refl) (closed-held [] ys (closed-waits ys b (Err e) waits))

  -- Behind files that were sent no ticket is left, unless the hall is halted or the run is full.
  pub all-held : (lines : List SendLine) (before after : ℕ) (events : List Event) (result : Result (List (Option Refusal)) Refusal) → SendsAll rules told filespace lines before after events result → lasts result ≡ false → AreHeld [] events
  all-held lines before after events (Ok outs) (number, rounds) mild = rounds-held number lines [] outs before after events rounds
  all-held lines before after events (Err e) (number, rest, outs, count, (xs, ys, cut, rounds, ends)) mild =
      held-both [] events xs ys cut (rounds-held number lines rest outs before count xs rounds)
      (elim ends as (λ _. AreHeld [] ys) [ inl m ↦ closed-held [] ys (closed-none ys m.1) | inr s ↦ none-held rest count after ys e s mild ])

-- lines without tickets
pub runs-held : {L : Type 0} (asking : List L → Asked) (lines : List L) (events : List Event) (result : Result (List (Option Refusal)) Refusal) → InRuns asking lines events result → AreHeld [] events
runs-held asking lines events result h =
    closed-held [] events (each-runs (λ d. opens_one d ≡ false) (λ ticket answer. refl) (λ l. Unit {0}) asking (λ ls tickets answer is. refl) lines (any-all lines) events result h) where
      any-all : {A : Type 0} (xs : List A) → AllByRecursion (λ x. Unit {0}) xs
      any-all [] = tt
      any-all (x ∷ xs) = (tt, any-all xs)
