-- What the parts of the deletion of a filespace did, one after the other.
use Rattle.std.proofs.Common.{◌≡◌, ◌⊎◌, inl, inr, ℕ, ◌+◌, ◌==◌, true, false, List, [], ◌∷◌, ◌++◌, append_assoc, map, length, Option, None, Some, Result, Ok, Err, refl, sym, ap, subst, ◌∙◌, arith, if◌then◌else◌}
use Rattle.std.proofs.lemmas.Grind.{flat_map-append}
use Rattle.std.proofs.lemmas.List.{length-append}
use Rattle.std.specs.List.{find}
use Rattle.kinds.specs.Answers.{Answers, AnswersBy}
use Rattle.kinds.specs.Refusals.{number_of}
use Rattle.kinds.specs.declared.refusal.Refusal.{Refusal}
use Rattle.kinds.specs.declared.refusal.Refusal.TheVariants as refused
use Rattle.inventory_answers.specs.declared.lines.FilespaceLine.{FilespaceLine}
use Rattle.inventory_answers.specs.declared.lines.HeldLine.{HeldLine}
use Rattle.inventory_answers.specs.declared.lines.VersionLine.{VersionLine}
use Rattle.inventory_answers.specs.declared.query.Query.{Query}
use Rattle.inventory_answers.specs.declared.query.Query.TheVariants as query
use Rattle.inventory_answers.specs.declared.reply.Answer.{Answer}
use Rattle.inventory_answers.specs.declared.reply.Rows.TheVariants as rows
use Rattle.steps.specs.declared.asked.Asked.{Asked}
use Rattle.steps.proofs.Acknowledged.{receipts-behind}
use Rattle.steps.proofs.Joining.{GoesOn, call_then, does_alone, so_call}
use Rattle.steps.specs.Calls.{Call, Does}
use Rattle.steps.specs.Events.{Deed, Event, event}
use Rattle.steps.specs.Events.Deed.{Ask, Commit, Force}
use Rattle.steps.specs.Receipts.{is_made, made, receipts}
use Rattle.copy_attempts.proofs.Facts.{all-append, met-behind, some-memory}
use Rattle.copy_attempts.specs.Attempts.{stopping}
use Rattle.copy_attempts.specs.Outcomes.{MetBy}
use Rattle.copy_runs.proofs.Ending.{stopped-behind, unlisted-by}
use Rattle.copy_runs.specs.Ends.{AreAsking, IsStopped, IsUnlisted as IsUnlistedIn, unlisted}
use Rattle.deletions.specs.declared.filespace.Names.{Names}
use Rattle.deletions.specs.declared.objects.Doomed.{Doomed}
use Rattle.deletions.specs.Discarding.{AreDiscarding, Works, discards, items_by, items_in}
use Rattle.deletions.specs.Filespaces.{Answered, AreBefore, AreDeleting, Asks, Cleared, Clears, Empties, Fails, FilespaceDeletion, Finds, Found, IsAnswer, IsBefore, IsCaused, IsDeleting, IsGone, IsInPlace, IsKept, IsMissing, IsNotThere, IsRowKept, IsUnfound, IsUnlisted, Keeps, ListsHeld, ListsObjects, ListsVersions, Objects, Removed, Removes, RemovesRow, Stops, deleting, is_kept_by, names_found, names_in, of_held, of_version, reason_of, unremoved, with_node}
use Rattle.deletions.proofs.Gone.{goes}
use Rattle.deletions.proofs.Working.{discards-append, handles-only, stopped-by}

-- ---- steps

del-append : (filespace : ℕ) (xs ys : List Event) → AreDeleting filespace xs → AreDeleting filespace ys → AreDeleting filespace (xs ++ ys)
del-append filespace xs ys a b = all-append (λ e. IsDeleting filespace e.deed) xs ys a b

asking-del : (filespace : ℕ) (xs : List Event) → AreAsking xs → AreDeleting filespace xs
asking-del filespace [] h = tt
asking-del filespace (x ∷ xs) h = (inl (inl h.0), asking-del filespace xs h.1)

discarding-del : (filespace : ℕ) (xs : List Event) → AreDiscarding (reason_of filespace) xs → AreDeleting filespace xs
discarding-del filespace [] h = tt
discarding-del filespace (x ∷ xs) h = (inr (inl h.0), discarding-del filespace xs h.1)

-- the same of those before its own transaction
before-append : (filespace : ℕ) (xs ys : List Event) → AreBefore filespace xs → AreBefore filespace ys → AreBefore filespace (xs ++ ys)
before-append filespace xs ys a b = all-append (λ e. IsBefore filespace e.deed) xs ys a b

asking-before : (filespace : ℕ) (xs : List Event) → AreAsking xs → AreBefore filespace xs
asking-before filespace [] h = tt
asking-before filespace (x ∷ xs) h = (inl h.0, asking-before filespace xs h.1)

discarding-before : (filespace : ℕ) (xs : List Event) → AreDiscarding (reason_of filespace) xs → AreBefore filespace xs
discarding-before filespace [] h = tt
discarding-before filespace (x ∷ xs) h = (inr h.0, discarding-before filespace xs h.1)

one-del : (filespace : ℕ) (d : Deed) → IsBefore filespace d → IsDeleting filespace d
one-del filespace d (inl h) = inl (inl h)
one-del filespace d (inr h) = inr (inl h)

before-del : (filespace : ℕ) (xs : List Event) → AreBefore filespace xs → AreDeleting filespace xs
before-del filespace [] h = tt
before-del filespace (x ∷ xs) h = (one-del filespace x.deed h.0, before-del filespace xs h.1)

pub answered-asks : (q : Query) (xs : List Event) (answer : Answer) → Answered q xs answer → AreAsking xs
answered-asks q xs answer h = subst AreAsking (sym h.1) ((q, Ok answer, refl), tt)

found-asks : (filespace : ℕ) (xs : List Event) (names : Names) → Found filespace xs names → AreAsking xs
found-asks filespace xs names h = answered-asks (query.Filespaces None) xs h.0 h.2

pub asks-append : (xs ys : List Event) → AreAsking xs → AreAsking ys → AreAsking (xs ++ ys)
asks-append [] ys a b = b
asks-append (x ∷ xs) ys a b = (a.0, asks-append xs ys a.1 b)

objects-asks : (filespace : ℕ) (names : Names) (xs : List Event) (objects : List Doomed) → Objects filespace names xs objects → AreAsking xs
objects-asks filespace names xs objects (versions, held, is, (us, vs, same, a, b)) =
    subst AreAsking (sym same) (asks-append us vs (answered-asks (query.Versions names.node names.name) us a.0 a.1) (answered-asks (query.Held filespace) vs b.0 b.1))

cleared-del : (filespace : ℕ) (names : Names) (xs : List Event) (count : ℕ) → Cleared filespace names xs count → AreDeleting filespace xs
cleared-del filespace names xs count (objects, (us, vs, same, a, b)) =
    subst (AreDeleting filespace) (sym same)
    (del-append filespace us vs (asking-del filespace us (objects-asks filespace names us objects a)) (discarding-del filespace vs (handles-only (reason_of filespace) objects vs b.each)))

row-del : (filespace n : ℕ) (name : List ℕ) (answer : Result ℕ Refusal) → AreDeleting filespace (event n (Commit (deleting name filespace) [] answer) ∷ [])
row-del filespace n name answer = (inr (inr (name, answer, refl)), tt)

removed-del : (filespace : ℕ) (name : List ℕ) (xs : List Event) → Removed filespace name xs → AreDeleting filespace xs
removed-del filespace name xs (n, number, m, told, same) = subst (AreDeleting filespace) (sym same) (inr (inr (name, Ok number, refl)), (inl (inr (Ok told, refl)), tt))

-- ---- refusals

pub met-map : (P Q : Deed → Type 0) (xs : List Event) → ((d : Deed) → P d → Q d) → MetBy P xs → MetBy Q xs
met-map P Q [] f h = absurd h
met-map P Q (x ∷ xs) f (inl h) = inl (f x.deed h)
met-map P Q (x ∷ xs) f (inr h) = inr (met-map P Q xs f h)

caused-behind : (filespace : ℕ) (xs ys : List Event) (e : Refusal) → IsCaused filespace ys e → IsCaused filespace (xs ++ ys) e
caused-behind filespace xs ys e (inl h) = inl (stopped-behind xs ys e h)
caused-behind filespace xs ys e (inr (inl h)) = inr (inl (h.0, met-behind (IsNotThere filespace e) xs ys h.1))
caused-behind filespace xs ys e (inr (inr h)) = inr (inr (h.0, met-behind (IsRowKept filespace e) xs ys h.1))

-- questions were asked before
met-later : (P Q : Deed → Type 0) (xs ys : List Event) (e : Refusal) → ((d : Deed) → P d → Q d) → AreAsking xs → IsStopped ys e ⊎ IsMissing P ys e → IsStopped (xs ++ ys) e ⊎ IsMissing Q (xs ++ ys) e
met-later P Q xs ys e more a (inl stopped) = inl (stopped-behind xs ys e stopped)
met-later P Q xs ys e more a (inr (ten, asks, met)) = inr (ten, asks-append xs ys a asks, met-behind Q xs ys (met-map P Q ys more met))

stops-behind : (filespace : ℕ) (P Q : Deed → Type 0) (xs ys : List Event) (e : Refusal) → ((d : Deed) → P d → Q d) → AreAsking xs → Stops filespace P ys e → Stops filespace Q (xs ++ ys) e
stops-behind filespace P Q xs ys e more a h = record {
  cause = caused-behind filespace xs ys e h.cause;
  only = before-append filespace xs ys (asking-before filespace xs a) h.only;
  met = met-later P Q xs ys e more a h.met;
}

-- the same of another question
stops-so : (filespace : ℕ) (P Q : Deed → Type 0) (xs : List Event) (e : Refusal) → ((d : Deed) → P d → Q d) → Stops filespace P xs e → Stops filespace Q xs e
stops-so filespace P Q xs e more h = record { cause = h.cause; only = h.only; met = met-later P Q [] xs e more tt h.met }

wanting : (filespace : ℕ) (So : Deed → Type 0) (xs : List Event) (e : Refusal) → e ≡ refused.Memory → AreBefore filespace xs → Stops filespace So xs e
wanting filespace So xs e is only = record { cause = inl (inl is); only = only; met = inl (inl is) }

-- the same of the row's own transaction
keeping : (filespace : ℕ) (xs : List Event) (e : Refusal) → IsStopped xs e → AreDeleting filespace xs → Keeps filespace xs e
keeping filespace xs e stopped only = record { cause = inl stopped; only = only; last = inl stopped }

unlisted-caused : (filespace : ℕ) (q : Query) (xs : List Event) (e : Refusal) → IsUnlistedIn q xs e → IsCaused filespace xs e
unlisted-caused filespace q xs e (inl h) = inl h
unlisted-caused filespace q xs e (inr h) = inr (inl (h.0, met-map (λ d. d ≡ Ask q (Err e)) (IsNotThere filespace e) xs (λ d is. inl (q, is)) h.1))

-- want of memory before the first step
pub stops-none : {S : Type 0} (did : S → List Event → S → Type 0) (p : S) (filespace : ℕ) (So : Deed → Type 0) (e : Refusal) → did p [] p → e ≡ refused.Memory → Call did p p (λ events. Stops filespace So events e)
stops-none did p filespace So e stays is = ([], stays, wanting filespace So [] e is tt)

pub keeps-none : {S : Type 0} (did : S → List Event → S → Type 0) (p : S) (filespace : ℕ) (e : Refusal) → did p [] p → e ≡ refused.Memory → Call did p p (λ events. Keeps filespace events e)
keeps-none did p filespace e stays is = ([], stays, keeping filespace [] e (inl is) tt)

-- ---- questions

pub asks-told : {S : Type 0} (did : S → List Event → S → Type 0) (p q : S) (filespace : ℕ) (asked : Query) (answer : Answer) → Does did p q (Ask asked (Ok answer))
    → Call did p q (λ events. Asks filespace asked events (Ok answer))
asks-told did p q filespace asked answer d = does_alone did (λ events. Asks filespace asked events (Ok answer)) p q (Ask asked (Ok answer)) d (λ n listed. (n, refl)) (λ m. absurd cc)

-- one that was refused, as what it names isn't there
unlisted-met : (q : Query) (xs : List Event) (e : Refusal) → IsUnlistedIn q xs e → AreAsking xs → IsStopped xs e ⊎ IsMissing (IsAnswer q e) xs e
unlisted-met q xs e (inl h) asks = inl h
unlisted-met q xs e (inr h) asks = inr (h.0, asks, h.1)

pub asks-refused : {S : Type 0} (did : S → List Event → S → Type 0) (p q : S) (filespace : ℕ) (asked : Query) (e : Refusal) → Does did p q (Ask asked (Err e))
    → Call did p q (λ events. Asks filespace asked events (Err (unlisted e)))
asks-refused did p q filespace asked e d =
    so_call did (λ events. IsUnlistedIn asked events (unlisted e) × AreAsking events) (λ events. Stops filespace (IsAnswer asked (unlisted e)) events (unlisted e)) p q (unlisted-by did p q asked e d)
    (λ xs f. record { cause = unlisted-caused filespace asked xs (unlisted e) f.0; only = asking-before filespace xs f.1; met = unlisted-met asked xs (unlisted e) f.0 f.1 })

-- an answer without the rows that were asked for
pub asks-nothing : {S : Type 0} (did : S → List Event → S → Type 0) (p q : S) (filespace : ℕ) (So : Deed → Type 0) (asked : Query) (answer : Answer) (e : Refusal) → e ≡ refused.Memory
    → Call did p q (λ events. Asks filespace asked events (Ok answer)) → Call did p q (λ events. Stops filespace So events e)
asks-nothing did p q filespace So asked answer e is a =
    so_call did (λ events. Answered asked events answer) (λ events. Stops filespace So events e) p q a (λ xs f. wanting filespace So xs e is (asking-before filespace xs (answered-asks asked xs answer f)))

pub asks-refused-by : {S : Type 0} (did : S → List Event → S → Type 0) (p q : S) (filespace : ℕ) (asked : Query) (e other : Refusal) → other ≡ unlisted e → Does did p q (Ask asked (Err e))
    → Call did p q (λ events. Asks filespace asked events (Err other))
asks-refused-by did p q filespace asked e other same d = subst (λ (x : Refusal). Call did p q (λ events. Stops filespace (IsAnswer asked x) events x)) (sym same) (asks-refused did p q filespace asked e d)

node-err : (name : List ℕ) (o : Option (List ℕ)) (e : Refusal) → with_node name o ≡ Err e → e ≡ refused.NotFound
node-err name None e h = let same : refused.NotFound ≡ e = cc in sym same
node-err name (Some node) e h = absurd cc

names-err : (o : Option FilespaceLine) (e : Refusal) → names_found o ≡ Err e → e ≡ refused.NotFound
names-err None e h = let same : refused.NotFound ≡ e = cc in sym same
names-err (Some line) e h = node-err line.name line.node e h

found-or : (filespace : ℕ) (answer : Answer) (lines those : List FilespaceLine) (result : Result Names Refusal) (xs : List Event) → those ≡ lines → answer.rows ≡ rows.Filespaces lines
    → Answers result (names_in filespace those) → Answered (query.Filespaces None) xs answer → Finds filespace xs result
found-or filespace answer lines those (Ok names) xs same is said a = (answer, lines, a, is, sym (ap (names_in filespace) same) ∙ said)
found-or filespace answer lines those (Err e) xs same is (inl memory) a = wanting filespace (IsUnfound filespace e) xs e memory (asking-before filespace xs (answered-asks (query.Filespaces None) xs answer a))
found-or filespace answer lines those (Err e) xs same is (inr said) a =
    let none : names_in filespace lines ≡ Err e = sym (ap (names_in filespace) same) ∙ said in
    let not_found : e ≡ refused.NotFound = names-err (find (λ l. l.number == filespace) lines) e none in
    let ten : (number_of e == 10) ≡ true = ap (λ (x : Refusal). number_of x == 10) not_found in
    let asks : AreAsking xs = answered-asks (query.Filespaces None) xs answer a in
    record {
      cause = inr (inl (ten, subst (λ (es : List Event). MetBy (IsNotThere filespace e) es) (sym a.1) (inl (inr (answer, lines, refl, is, none)))));
      only = asking-before filespace xs asks;
      met = inr (ten, asks, subst (λ (es : List Event). MetBy (IsUnfound filespace e) es) (sym a.1) (inl (inr (answer, lines, refl, is, none))));
    }

-- the question for the filespaces was refused
pub finds-not : {S : Type 0} (did : S → List Event → S → Type 0) (p q : S) (filespace : ℕ) (asked : Query) (e : Refusal) → asked ≡ query.Filespaces None → Call did p q (λ events. Asks filespace asked events (Err e))
    → Call did p q (λ events. Finds filespace events (Err e))
finds-not did p q filespace asked e same a =
    so_call did (λ events. Stops filespace (IsAnswer asked e) events e) (λ events. Stops filespace (IsUnfound filespace e) events e) p q a
    (λ xs f. stops-so filespace (IsAnswer asked e) (IsUnfound filespace e) xs e (λ d is. inl (is ∙ ap (λ (x : Query). Ask x (Err e)) same)) f)

-- the one for its versions was
pub versions-not : {S : Type 0} (did : S → List Event → S → Type 0) (p q : S) (filespace : ℕ) (names : Names) (asked : Query) (e : Refusal) → asked ≡ query.Versions names.node names.name
    → Call did p q (λ events. Asks filespace asked events (Err e)) → Call did p q (λ events. ListsVersions filespace names events (Err e))
versions-not did p q filespace names asked e same a =
    so_call did (λ events. Stops filespace (IsAnswer asked e) events e) (λ events. Stops filespace (IsUnlisted filespace names e) events e) p q a
    (λ xs f. stops-so filespace (IsAnswer asked e) (IsUnlisted filespace names e) xs e (λ d is. inl (is ∙ ap (λ (x : Query). Ask x (Err e)) same)) f)

pub finds : {S : Type 0} (did : S → List Event → S → Type 0) (p q : S) (filespace : ℕ) (answer : Answer) (lines those : List FilespaceLine) (result : Result Names Refusal) → those ≡ lines
    → answer.rows ≡ rows.Filespaces lines → Answers result (names_in filespace those) → Call did p q (λ events. Asks filespace (query.Filespaces None) events (Ok answer))
    → Call did p q (λ events. Finds filespace events result)
finds did p q filespace answer lines those result same is said a =
    so_call did (λ events. Answered (query.Filespaces None) events answer) (λ events. Finds filespace events result) p q a (λ xs f. found-or filespace answer lines those result xs same is said f)

pub lists-versions : {S : Type 0} (did : S → List Event → S → Type 0) (p q : S) (filespace : ℕ) (names : Names) (asked : Query) (answer : Answer) (result : Result (List VersionLine) Refusal)
    → asked ≡ query.Versions names.node names.name
    → ((lines : List VersionLine) → result ≡ Ok lines → answer.rows ≡ rows.Versions lines) → ((e : Refusal) → result ≡ Err e → e ≡ refused.Memory)
    → Call did p q (λ events. Asks filespace asked events (Ok answer)) → Call did p q (λ events. ListsVersions filespace names events result)
lists-versions did p q filespace names asked answer (Ok lines) same good bad a =
    so_call did (λ events. Answered asked events answer) (λ events. ListsVersions filespace names events (Ok lines)) p q a
    (λ xs f. (answer, subst (λ (x : Query). Answered x xs answer) same f, good lines refl))
lists-versions did p q filespace names asked answer (Err e) same good bad a = asks-nothing did p q filespace (IsUnlisted filespace names e) asked answer e (bad e refl) a

pub lists-held : {S : Type 0} (did : S → List Event → S → Type 0) (p q : S) (filespace : ℕ) (answer : Answer) (result : Result (List HeldLine) Refusal)
    → ((lines : List HeldLine) → result ≡ Ok lines → answer.rows ≡ rows.Held lines) → ((e : Refusal) → result ≡ Err e → e ≡ refused.Memory)
    → Call did p q (λ events. Asks filespace (query.Held filespace) events (Ok answer)) → Call did p q (λ events. ListsHeld filespace events result)
lists-held did p q filespace answer (Ok lines) good bad a =
    so_call did (λ events. Answered (query.Held filespace) events answer) (λ events. ListsHeld filespace events (Ok lines)) p q a (λ xs f. (answer, f, good lines refl))
lists-held did p q filespace answer (Err e) good bad a = asks-nothing did p q filespace (IsAnswer (query.Held filespace) e) (query.Held filespace) answer e (bad e refl) a

-- ---- the objects

versions-asks : (filespace : ℕ) (names : Names) (xs : List Event) (lines : List VersionLine) → ListsVersions filespace names xs (Ok lines) → AreAsking xs
versions-asks filespace names xs lines h = answered-asks (query.Versions names.node names.name) xs h.0 h.1

held-asks : (filespace : ℕ) (xs : List Event) (lines : List HeldLine) → ListsHeld filespace xs (Ok lines) → AreAsking xs
held-asks filespace xs lines h = answered-asks (query.Held filespace) xs h.0 h.1

pub held-refused : {S : Type 0} (did : S → List Event → S → Type 0) → GoesOn did → (p q r : S) (filespace : ℕ) (names : Names) (lines : List VersionLine) (e : Refusal)
    → Call did p q (λ events. ListsVersions filespace names events (Ok lines)) → Call did q r (λ events. ListsHeld filespace events (Err e)) → Call did p r (λ events. ListsObjects filespace names events (Err e))
held-refused did goes_on p q r filespace names lines e a b =
    call_then did goes_on (λ events. ListsVersions filespace names events (Ok lines)) (λ events. Stops filespace (IsAnswer (query.Held filespace) e) events e)
    (λ events. Stops filespace (IsUnlisted filespace names e) events e) p q r a b
    (λ xs ys f g. stops-behind filespace (IsAnswer (query.Held filespace) e) (IsUnlisted filespace names e) xs ys e (λ d is. inr is) (versions-asks filespace names xs lines f) g)

both-listed : (filespace : ℕ) (names : Names) (versions : List VersionLine) (held : List HeldLine) (result : Result (List Doomed) Refusal) (xs ys : List Event)
    → AnswersBy (λ all. all) result (map of_version versions ++ map of_held held) → ListsVersions filespace names xs (Ok versions) → ListsHeld filespace ys (Ok held)
    → ListsObjects filespace names (xs ++ ys) result
both-listed filespace names versions held (Ok objects) xs ys said a b = (versions, held, said, (xs, ys, refl, a, b))
both-listed filespace names versions held (Err e) xs ys said a b =
    wanting filespace (IsUnlisted filespace names e) (xs ++ ys) e said (asking-before filespace (xs ++ ys) (asks-append xs ys (versions-asks filespace names xs versions a) (held-asks filespace ys held b)))

pub lists-both : {S : Type 0} (did : S → List Event → S → Type 0) → GoesOn did → (p q r : S) (filespace : ℕ) (names : Names) (versions those : List VersionLine) (held these : List HeldLine)
    (result : Result (List Doomed) Refusal) → those ≡ versions → these ≡ held → AnswersBy (λ all. all) result (map of_version those ++ map of_held these)
    → Call did p q (λ events. ListsVersions filespace names events (Ok versions)) → Call did q r (λ events. ListsHeld filespace events (Ok held))
    → Call did p r (λ events. ListsObjects filespace names events result)
lists-both did goes_on p q r filespace names versions those held these result a b said x y =
    call_then did goes_on (λ events. ListsVersions filespace names events (Ok versions)) (λ events. ListsHeld filespace events (Ok held)) (λ events. ListsObjects filespace names events result) p q r x y
    (λ xs ys f g. both-listed filespace names versions held result xs ys
    (subst (λ (h : List HeldLine). AnswersBy (λ all. all) result (map of_version versions ++ map of_held h)) b (subst (λ (v : List VersionLine). AnswersBy (λ all. all) result (map of_version v ++ map of_held these)) a said)) f g)

cleared-or : (filespace : ℕ) (names : Names) (objects : List Doomed) (result : Result ℕ Refusal) (xs ys : List Event) → Objects filespace names xs objects → Works (reason_of filespace) objects ys result
    → Clears filespace names (xs ++ ys) result
cleared-or filespace names objects (Ok count) xs ys a b = (objects, (xs, ys, refl, a, b))
cleared-or filespace names objects (Err e) xs ys a b =
    let So : Deed → Type 0 = IsUnlisted filespace names e in
    stops-behind filespace So So xs ys e (λ d is. is) (objects-asks filespace names xs objects a) (record { cause = inl b.cause; only = discarding-before filespace ys b.only; met = inl b.cause })

pub clears : {S : Type 0} (did : S → List Event → S → Type 0) → GoesOn did → (p q r : S) (filespace : ℕ) (names : Names) (objects those : List Doomed) (result : Result ℕ Refusal) → those ≡ objects
    → Call did p q (λ events. ListsObjects filespace names events (Ok objects)) → Call did q r (λ events. Works (reason_of filespace) those events result)
    → Call did p r (λ events. Clears filespace names events result)
clears did goes_on p q r filespace names objects those result same a b =
    call_then did goes_on (λ events. Objects filespace names events objects) (λ events. Works (reason_of filespace) objects events result) (λ events. Clears filespace names events result) p q r a
    (subst (λ (ls : List Doomed). Call did q r (λ events. Works (reason_of filespace) ls events result)) same b) (λ xs ys f g. cleared-or filespace names objects result xs ys f g)

-- ---- the row

pub row-removed : {S : Type 0} (did : S → List Event → S → Type 0) (p q : S) (filespace : ℕ) (name : List ℕ) (number : ℕ) → Does did p q (Commit (deleting name filespace) [] (Ok number))
    → Call did p q (λ events. RemovesRow filespace name events (Ok tt))
row-removed did p q filespace name number d =
    does_alone did (λ events. RemovesRow filespace name events (Ok tt)) p q (Commit (deleting name filespace) [] (Ok number)) d (λ n listed. (n, number, refl)) (λ m. absurd cc)

-- what it came to that the row's own transaction was so refused
row-kept : (filespace n : ℕ) (name : List ℕ) (e : Refusal) → Keeps filespace (event n (Commit (deleting name filespace) [] (Err e)) ∷ []) (unremoved e)
row-kept filespace n name e =
    let one : List Event = event n (Commit (deleting name filespace) [] (Err e)) ∷ [] in
    elim (is_kept_by e) as (λ b. is_kept_by e ≡ b → Keeps filespace one (if b then e else stopping e)) [
      | true ↦ λ t. record { cause = inr (inr (t, inl (name, refl))); only = row-del filespace n name (Err e); last = inr (n, name, refl) }
      | false ↦ λ t. keeping filespace one (stopping e) (stopped-by one e (inl refl)) (row-del filespace n name (Err e))
    ] refl

pub row-refused : {S : Type 0} (did : S → List Event → S → Type 0) (p q : S) (filespace : ℕ) (name : List ℕ) (e : Refusal) → Does did p q (Commit (deleting name filespace) [] (Err e))
    → Call did p q (λ events. RemovesRow filespace name events (Err (unremoved e)))
row-refused did p q filespace name e d =
    does_alone did (λ events. Keeps filespace events (unremoved e)) p q (Commit (deleting name filespace) [] (Err e)) d
    (λ n listed. row-kept filespace n name e)
    (λ m. keeping filespace [] (unremoved e) (inl (ap unremoved (some-memory e (Commit (deleting name filespace) [] (Err e)) refl m))) tt)

pub row-refused-by : {S : Type 0} (did : S → List Event → S → Type 0) (p q : S) (filespace : ℕ) (name : List ℕ) (asked : Asked) (e other : Refusal) → asked ≡ deleting name filespace → other ≡ unremoved e
    → Does did p q (Commit asked [] (Err e)) → Call did p q (λ events. RemovesRow filespace name events (Err other))
row-refused-by did p q filespace name asked e other is same d =
    subst (λ (x : Refusal). Call did p q (λ events. Keeps filespace events x)) (sym same) (row-refused did p q filespace name e (subst (λ (a : Asked). Does did p q (Commit a [] (Err e))) is d))

pub removes : {S : Type 0} (did : S → List Event → S → Type 0) → GoesOn did → (p q r : S) (filespace : ℕ) (name : List ℕ) (number : ℕ)
    → Call did p q (λ events. RemovesRow filespace name events (Ok tt)) → Does did q r (Force (Ok number)) → Call did p r (λ events. Removes filespace name events (Ok tt))
removes did goes_on p q r filespace name number a d =
    call_then did goes_on (λ events. RemovesRow filespace name events (Ok tt)) (λ events. (m : ℕ) × (events ≡ event m (Force (Ok number)) ∷ [])) (λ events. Removed filespace name events) p q r a
    (does_alone did (λ events. (m : ℕ) × (events ≡ event m (Force (Ok number)) ∷ [])) q r (Force (Ok number)) d (λ m listed. (m, refl)) (λ m. absurd cc))
    (λ xs ys f g. (f.0, f.1, g.0, number, ap (λ (es : List Event). es ++ ys) f.2 ∙ ap (λ (es : List Event). event f.0 (Commit (deleting name filespace) [] (Ok f.1)) ∷ es) g.1))

-- these steps ended with a refusal that ends a process
abbrev Unforced : (filespace : ℕ) → List Event → Refusal → Type 0
Unforced filespace events e = IsStopped events e × AreDeleting filespace events

pub unforced : {S : Type 0} (did : S → List Event → S → Type 0) → GoesOn did → (p q r : S) (filespace : ℕ) (name : List ℕ) (e : Refusal)
    → Call did p q (λ events. RemovesRow filespace name events (Ok tt)) → Does did q r (Force (Err e)) → Call did p r (λ events. Removes filespace name events (Err (stopping e)))
unforced did goes_on p q r filespace name e a d =
    call_then did goes_on (λ events. RemovesRow filespace name events (Ok tt)) (λ events. Unforced filespace events (stopping e)) (λ events. Keeps filespace events (stopping e)) p q r a
    (does_alone did (λ events. Unforced filespace events (stopping e)) q r (Force (Err e)) d
    (λ m listed. (stopped-by (event m (Force (Err e)) ∷ []) e (inl refl), (inl (inr (Err e, refl)), tt)))
    (λ m. (inl (ap stopping (some-memory e (Force (Err e)) refl m)), tt)))
    (λ xs ys f g. keeping filespace (xs ++ ys) (stopping e) (stopped-behind xs ys (stopping e) g.0)
    (del-append filespace xs ys (subst (AreDeleting filespace) (sym f.2) (row-del filespace f.0 name (Ok f.1))) g.1))

pub unforced-by : {S : Type 0} (did : S → List Event → S → Type 0) → GoesOn did → (p q r : S) (filespace : ℕ) (name : List ℕ) (e other : Refusal) → other ≡ stopping e
    → Call did p q (λ events. RemovesRow filespace name events (Ok tt)) → Does did q r (Force (Err e)) → Call did p r (λ events. Removes filespace name events (Err other))
unforced-by did goes_on p q r filespace name e other same a d =
    subst (λ (x : Refusal). Call did p r (λ events. Keeps filespace events x)) (sym same) (unforced did goes_on p q r filespace name e a d)

-- ---- the whole

pub asked-none : (xs : List Event) → AreAsking xs → discards (made xs) ≡ 0
asked-none [] h = refl
asked-none (x ∷ xs) h = ap (λ (d : Deed). discards (if is_made d then x ∷ made xs else made xs)) h.0.2 ∙ asked-none xs h.1

plus : (xs ys : List Event) → discards (xs ++ ys) ≡ discards xs + discards ys
plus xs ys = ap length (flat_map-append (λ e. items_by e.deed) xs ys) ∙ length-append (items_in xs) (items_in ys)

plus-zero : (n : ℕ) → n + 0 ≡ n
plus-zero n = omega arith

zero-plus : (n : ℕ) → 0 + n ≡ n
zero-plus n = omega arith

cleared-count : (filespace : ℕ) (names : Names) (xs : List Event) (count : ℕ) → Cleared filespace names xs count → discards (made xs) ≡ count
cleared-count filespace names xs count (objects, (us, vs, same, a, b)) =
    ap (λ (es : List Event). discards (made es)) same ∙ discards-append us vs ∙ ap (λ n. n + discards (made vs)) (asked-none us (objects-asks filespace names us objects a)) ∙ zero-plus (discards (made vs)) ∙ b.count

-- the receipts of the end alone
end-receipts : (filespace : ℕ) (name : List ℕ) (front : List Event) (n number m told : ℕ)
    → discards (receipts (front ++ event n (Commit (deleting name filespace) [] (Ok number)) ∷ event m (Force (Ok told)) ∷ [])) ≡ discards (made front)
end-receipts filespace name front n number m told =
    let ws : List Event = event n (Commit (deleting name filespace) [] (Ok number)) ∷ event m (Force (Ok told)) ∷ [] in
    ap discards (receipts-behind front ws refl) ∙ plus (made front) (receipts ws) ∙ plus-zero (discards (made front))

found-first : (filespace : ℕ) (names : Names) (xs ys : List Event) → (f : Found filespace xs names) → xs ++ ys ≡ event f.2.0 (Ask (query.Filespaces None) (Ok f.0)) ∷ ys
found-first filespace names xs ys f = ap (λ (es : List Event). es ++ ys) f.2.1

front-del : (filespace : ℕ) (names : Names) (count : ℕ) (xs ys : List Event) → Found filespace xs names → Cleared filespace names ys count → AreDeleting filespace (xs ++ ys)
front-del filespace names count xs ys f g = del-append filespace xs ys (asking-del filespace xs (found-asks filespace xs names f)) (cleared-del filespace names ys count g)

front-count : (filespace : ℕ) (names : Names) (count : ℕ) (xs ys : List Event) → Found filespace xs names → Cleared filespace names ys count → discards (made (xs ++ ys)) ≡ count
front-count filespace names count xs ys f g =
    discards-append xs ys ∙ ap (λ k. k + discards (made ys)) (asked-none xs (found-asks filespace xs names f)) ∙ zero-plus (discards (made ys)) ∙ cleared-count filespace names ys count g

finished : (filespace : ℕ) (names : Names) (count : ℕ) (xs ys ws : List Event) → Found filespace xs names → Cleared filespace names ys count → Removed filespace names.name ws
    → FilespaceDeletion filespace ((xs ++ ys) ++ ws) (Ok count)
finished filespace names count xs ys ws f g (n, number, m, told, same) =
    let end : List Event = event n (Commit (deleting names.name filespace) [] (Ok number)) ∷ event m (Force (Ok told)) ∷ [] in
    subst (λ (es : List Event). FilespaceDeletion filespace ((xs ++ ys) ++ es) (Ok count)) (sym same)
    (record {
      came = record {
        count = sym (end-receipts filespace names.name (xs ++ ys) n number m told ∙ front-count filespace names count xs ys f g);
        order = (names, g.0, (xs, ys ++ end, append_assoc xs ys end, f, (ys, end, refl, (g.1.0, g.1.1, g.1.2, g.1.3, g.1.4.each), (n, number, m, told, refl))));
        row = subst (λ (es : List Event). IsGone filespace (es ++ end)) (sym (found-first filespace names xs ys f))
            (goes filespace names.name (event f.2.0 (Ask (query.Filespaces None) (Ok f.0))) ys n number m told);
      };
      only = del-append filespace (xs ++ ys) end (front-del filespace names count xs ys f g) (inr (inr (names.name, Ok number, refl)), (inl (inr (Ok told, refl)), tt));
      place = tt;
    })

-- a count, or the refusal that came after it
abbrev pub ended_by : ℕ → Result (Unit {0}) Refusal → Result ℕ Refusal
ended_by count (Ok done) = Ok count
ended_by count (Err e) = Err e

emptied-or : (filespace : ℕ) (names : Names) (count : ℕ) (result : Result (Unit {0}) Refusal) (ys ws : List Event) → Cleared filespace names ys count → Removes filespace names.name ws result
    → Empties filespace names (ys ++ ws) (ended_by count result)
emptied-or filespace names count (Ok done) ys ws g h = (ys, ws, refl, g, h)
emptied-or filespace names count (Err e) ys ws g h = record {
  cause = caused-behind filespace ys ws e h.cause;
  only = del-append filespace ys ws (cleared-del filespace names ys count g) h.only;
  order = elim h.last as (λ _. IsStopped (ys ++ ws) e ⊎ IsMissing (IsUnlisted filespace names e) (ys ++ ws) e ⊎ IsKept filespace names (ys ++ ws) e) [
    | inl stopped ↦ inl (stopped-behind ys ws e stopped)
    | inr refused ↦ inr (inr (count, (ys, ws, refl, g, refused)))
  ];
}

-- before its own transaction
pub unemptied : {S : Type 0} (did : S → List Event → S → Type 0) (p q : S) (filespace : ℕ) (names : Names) (e : Refusal) → Call did p q (λ events. Clears filespace names events (Err e))
    → Call did p q (λ events. Empties filespace names events (Err e))
unemptied did p q filespace names e a =
    let So : Deed → Type 0 = IsUnlisted filespace names e in
    so_call did (λ events. Stops filespace So events e) (λ events. Fails filespace names events e) p q a
    (λ xs f. record {
      cause = f.cause;
      only = before-del filespace xs f.only;
      order = elim f.met as (λ _. IsStopped xs e ⊎ IsMissing So xs e ⊎ IsKept filespace names xs e) [
        | inl stopped ↦ inl stopped
        | inr missing ↦ inr (inl missing)
      ];
    })

pub empties : {S : Type 0} (did : S → List Event → S → Type 0) → GoesOn did → (p q r : S) (filespace : ℕ) (names : Names) (count : ℕ) (result : Result (Unit {0}) Refusal)
    → Call did p q (λ events. Clears filespace names events (Ok count)) → Call did q r (λ events. Removes filespace names.name events result)
    → Call did p r (λ events. Empties filespace names events (ended_by count result))
empties did goes_on p q r filespace names count result a b =
    call_then did goes_on (λ events. Cleared filespace names events count) (λ events. Removes filespace names.name events result) (λ events. Empties filespace names events (ended_by count result)) p q r a b
    (λ ys ws g h. emptied-or filespace names count result ys ws g h)

deleted-or : (filespace : ℕ) (names : Names) (result : Result ℕ Refusal) (xs ys : List Event) → Found filespace xs names → Empties filespace names ys result → FilespaceDeletion filespace (xs ++ ys) result
deleted-or filespace names (Ok count) xs ys f (us, ws, same, g, h) =
    subst (λ (es : List Event). FilespaceDeletion filespace es (Ok count)) (append_assoc xs us ws ∙ sym (ap (λ (es : List Event). xs ++ es) same)) (finished filespace names count xs us ws f g h)
deleted-or filespace names (Err e) xs ys f h =
    let asks : AreAsking xs = found-asks filespace xs names f in
    record {
      came = caused-behind filespace xs ys e h.cause;
      only = del-append filespace xs ys (asking-del filespace xs asks) h.only;
      place = elim h.order as (λ _. IsInPlace filespace (xs ++ ys) e) [
        | inl stopped ↦ inl (stopped-behind xs ys e stopped)
        | inr other ↦ (elim other as (λ _. IsInPlace filespace (xs ++ ys) e) [
          | inl missing ↦ inr (inr (names, (xs, ys, refl, f, inl missing)))
          | inr kept ↦ inr (inr (names, (xs, ys, refl, f, inr kept)))
        ])
      ];
    }

pub deletes : {S : Type 0} (did : S → List Event → S → Type 0) → GoesOn did → (p q r : S) (filespace : ℕ) (names : Names) (result : Result ℕ Refusal)
    → Call did p q (λ events. Finds filespace events (Ok names)) → Call did q r (λ events. Empties filespace names events result) → Call did p r (λ events. FilespaceDeletion filespace events result)
deletes did goes_on p q r filespace names result a b =
    call_then did goes_on (λ events. Found filespace events names) (λ events. Empties filespace names events result) (λ events. FilespaceDeletion filespace events result) p q r a b
    (λ xs ys f g. deleted-or filespace names result xs ys f g)

pub delete-stopped : {S : Type 0} (did : S → List Event → S → Type 0) (p q : S) (filespace : ℕ) (e : Refusal) → Call did p q (λ events. Finds filespace events (Err e))
    → Call did p q (λ events. FilespaceDeletion filespace events (Err e))
delete-stopped did p q filespace e a =
    let So : Deed → Type 0 = IsUnfound filespace e in
    so_call did (λ events. Stops filespace So events e) (λ events. FilespaceDeletion filespace events (Err e)) p q a
    (λ xs f. record {
      came = f.cause;
      only = before-del filespace xs f.only;
      place = elim f.met as (λ _. IsInPlace filespace xs e) [
        | inl stopped ↦ inl stopped
        | inr missing ↦ inr (inl missing)
      ];
    })
