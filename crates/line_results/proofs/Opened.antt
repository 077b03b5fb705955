-- The steps of a backup, with the tickets that its transactions take: each was opened for as many bytes as were listed of the file that it stores.
use Rattle.std.proofs.Common.{◌≡◌, ◌⊎◌, inl, inr, ℕ, zero, suc, true, false, Contains, List, [], ◌∷◌, ◌++◌, drop, length, take, if◌then◌else◌, Option, None, Some, Result, Ok, Err, refl, sym, subst}
use Rattle.std.proofs.lemmas.List.Elements.{All-contains_itself, recursion_from_All}
use Rattle.std.specs.List.{AllByRecursion}
use Rattle.kinds.specs.declared.refusal.Refusal.{Refusal}
use Rattle.kinds.specs.declared.refusal.Refusal.TheVariants as refused
use Rattle.kinds.specs.declared.segment.Digest.{Digest}
use Rattle.choosers.specs.declared.rule.Rule.{Rule}
use Rattle.inventory_work.specs.declared.lines.Rules.{Rules}
use Rattle.client_trees.specs.Files.{ClientFile, Files}
use Rattle.command_steps.specs.client_files.declared.outcome.Came.{Came}
use Rattle.command_steps.specs.client_files.declared.outcome.Came.TheVariants as came
use Rattle.command_steps.specs.client_files.Reading.{file_of}
use Rattle.command_steps.specs.client_files.Sending.{GivesUp, behind_drop, failing, is_unfilled, is_unopened, stopping, unopened}
use Rattle.command_steps.specs.client_files.Writing.{Puts}
use Rattle.client_plan.specs.Plans.{Lists}
use Rattle.client_plan.specs.declared.lines.GoneLine.{GoneLine}
use Rattle.client_plan.specs.declared.lines.RebindLine.{RebindLine}
use Rattle.client_plan.specs.declared.lines.SendLine.{SendLine}
use Rattle.client_batches.specs.declared.batch.Batch.{Batch}
use Rattle.client_batches.specs.declared.listing.SealedLine.{SealedLine}
use Rattle.client_batches.specs.Batches.{Batches, SealsAndStores, Stores, sealed_line, sealed_lines}
use Rattle.client_batches.specs.Commits.{Alone, Commits, CommitsAll, EachAlone, Singles, Stops as StopsAt, Tries}
use Rattle.client_batches.specs.Handling.{BindsPaths, EndsVersions}
use Rattle.client_batches.specs.Listings.{ending, rebinding, storing}
use Rattle.client_batches.specs.Quiet.{AreQuiet, IsQuiet}
use Rattle.client_batches.specs.Rounds.{Rounds, SendsAll, SendsNone, SendsSome}
use Rattle.client_batches.specs.Sends.{SendsEach, SendsOne, Sent, Stops, tickets_in}
use Rattle.client_batches.proofs.Ordering.{Each, each-both, each-given, each-made, each-none, each-runs, each-waits}
use Rattle.client_batches.proofs.Quiet.{each_quiet, one_quiet, seals_quiet, unsealed_quiet}
use Rattle.client_batches.proofs.Sealed.{AreBehind, IsBehind, behind-each}
use Rattle.command_steps.specs.incrementals.declared.answering.Outs.{Outs}
use Rattle.command_steps.specs.incrementals.declared.answering.Sent.{Sent as Said}
use Rattle.command_steps.specs.incrementals.declared.planning.Begun.{Begun}
use Rattle.command_steps.specs.incrementals.Filespaces.{HasFilespace, defining}
use Rattle.command_steps.specs.incrementals.Orders.{AreQuestions, IsQuestion, IsReadAs}
use Rattle.command_steps.specs.incrementals.Planning.{Begins}
use Rattle.command_steps.specs.incrementals.Process.{CarriesOut, CommitsLists, Finishes, Forces, Increments, Works, is_sending}
use Rattle.command_steps.proofs.of_incrementals.Ordering.{each-begins, each-filespace}
use Rattle.command_steps.proofs.of_incrementals.Sized.{AreRead, seals-read, sends-read}
use Rattle.steps.specs.declared.asked.Asked.{Asked}
use Rattle.steps.specs.Calls.{Made, Then}
use Rattle.steps.specs.Events.{Deed, Event}
use Rattle.steps.specs.Events.Deed.{OpenNew, OpenCopy, WritePiece, CopyPiece, Seal, Commit, DropTicket, ReadPiece, Ask, Image, Reuse, Force}
use Rattle.line_results.proofs.Sending.{IsOpening, WasOpened}

-- ---- steps

-- The rows with the tickets that they take: each is of a file of the plan, with the SHA-256 of what was sent, and one of these steps opened its ticket for as many bytes as were listed.
abbrev pub AreSized : (told : Option Files) → Lists → (whole : List Event) → List SealedLine → (numbers : List ℕ) → Type 0
AreSized told plan whole [] numbers = Unit {0}
AreSized told plan whole (row ∷ rows) [] = Unit {0}
AreSized told plan whole (row ∷ rows) (number ∷ numbers) =
    ((l : SendLine) × (digest : Digest) × Contains plan.send l × (row ≡ sealed_line l digest) × IsReadAs told l digest × WasOpened number l.file.size whole) × AreSized told plan whole rows numbers

-- It stores files of the plan by such tickets, binds paths of the plan anew, ends versions of the plan, or defines the filespace.
abbrev pub IsOrderedBy : Option Files → (name : List ℕ) → Begun → (whole : List Event) → Asked → (numbers : List ℕ) → Type 0
IsOrderedBy told name b whole given numbers =
    ((filespace : ℕ) × (rows : List SealedLine) × (given ≡ storing filespace rows) × AreSized told b.plan whole rows numbers)
    ⊎ ((filespace : ℕ) × (lines : List RebindLine) × (given ≡ rebinding filespace lines) × AllByRecursion (λ l. Contains b.plan.rebind l) lines)
    ⊎ ((filespace : ℕ) × (lines : List GoneLine) × (given ≡ ending filespace lines) × AllByRecursion (λ l. Contains b.plan.gone l) lines)
    ⊎ (given ≡ defining b.node name)

-- a step of a backup, whose steps are these
abbrev pub IsStepOf : Option Files → (name : List ℕ) → Begun → (whole : List Event) → Deed → Type 0
IsStepOf told name b whole (OpenNew pool size prefer (Ok number)) = WasOpened number size whole
IsStepOf told name b whole (OpenNew pool size prefer (Err e)) = Unit {0}
IsStepOf told name b whole (WritePiece ticket bytes answer) = Unit {0}
IsStepOf told name b whole (Seal ticket answer) = Unit {0}
IsStepOf told name b whole (DropTicket ticket answer) = Unit {0}
IsStepOf told name b whole (Ask query answer) = Unit {0}
IsStepOf told name b whole (Force answer) = Unit {0}
IsStepOf told name b whole (Commit given tickets answer) = IsOrderedBy told name b whole given tickets
IsStepOf told name b whole _ = ⊥

-- ---- steps that are among others

opened-first : (number size : ℕ) (xs ys : List Event) → WasOpened number size xs → WasOpened number size (xs ++ ys)
opened-first number size [] ys h = absurd h
opened-first number size (e ∷ xs) ys (inl h) = inl h
opened-first number size (e ∷ xs) ys (inr h) = inr (opened-first number size xs ys h)

opened-next : (number size : ℕ) (xs ys : List Event) → WasOpened number size ys → WasOpened number size (xs ++ ys)
opened-next number size [] ys h = h
opened-next number size (e ∷ xs) ys h = inr (opened-next number size xs ys h)

-- what one of the first opened one of the others did
abbrev pub AreIn : (part whole : List Event) → Type 0
AreIn part whole = (number size : ℕ) → WasOpened number size part → WasOpened number size whole

in-first : (events xs ys whole : List Event) → events ≡ xs ++ ys → AreIn events whole → AreIn xs whole
in-first events xs ys whole cut so number size h = so number size (subst (λ (l : List Event). WasOpened number size l) (sym cut) (opened-first number size xs ys h))

in-next : (events xs ys whole : List Event) → events ≡ xs ++ ys → AreIn events whole → AreIn ys whole
in-next events xs ys whole cut so number size h = so number size (subst (λ (l : List Event). WasOpened number size l) (sym cut) (opened-next number size xs ys h))

-- ---- what came of files

never-opened : (e : Refusal) (ticket : ℕ) (digest : Digest) → ◌≡◌ {A = Result Came Refusal} (Ok (came.Written ticket digest)) (unopened e) → ⊥
never-opened (refused.Busy holder) ticket digest h = absurd cc
never-opened e ticket digest h = elim (is_unopened e) as (λ b. ◌≡◌ {A = Result Came Refusal} (Ok (came.Written ticket digest)) (if b then Ok (came.Failed e) else Err (stopping e)) → ⊥) [
  | true ↦ λ k. absurd cc
  | false ↦ λ k. absurd cc
] h

never-failing : (e : Refusal) (ticket : ℕ) (digest : Digest) → ◌≡◌ {A = Result Came Refusal} (Ok (came.Written ticket digest)) (failing e) → ⊥
never-failing e ticket digest h = elim (is_unfilled e) as (λ b. ◌≡◌ {A = Result Came Refusal} (Ok (came.Written ticket digest)) (if b then Ok (came.Failed e) else Err (stopping e)) → ⊥) [
  | true ↦ λ k. absurd cc
  | false ↦ λ k. absurd cc
] h

never-dropped : (e : Refusal) (answer : Result (Unit {0}) Refusal) (ticket : ℕ) (digest : Digest) → ◌≡◌ {A = Result Came Refusal} (Ok (came.Written ticket digest)) (behind_drop e answer) → ⊥
never-dropped e (Ok done) ticket digest h = never-failing e ticket digest h
never-dropped e (Err other) ticket digest h = absurd cc

never-given : (t : ℕ) (e : Refusal) (ticket : ℕ) (digest : Digest) (events : List Event) → GivesUp t e events (Ok (came.Written ticket digest)) → ⊥
never-given t e ticket digest events (inl h) = never-failing e ticket digest h.2
never-given t e ticket digest events (inr h) = never-dropped e h.1 ticket digest h.3

made-opening : (pool size ticket : ℕ) (events : List Event) → Made (OpenNew pool size 0 (Ok ticket)) events → WasOpened ticket size events
made-opening pool size ticket events (inl h) = subst (λ (l : List Event). WasOpened ticket size l) (sym h.1) (inl (refl, refl))
made-opening pool size ticket events (inr h) = absurd cc

-- the ticket of a file that is written was opened for its size
put-opened : (file : Option ClientFile) (pool size before after ticket : ℕ) (digest : Digest) (events : List Event) → Puts file pool size before after events (Ok (came.Written ticket digest)) → WasOpened ticket size events
put-opened file pool size before after ticket digest events (inl (e, made, is)) = absurd (never-opened e ticket digest is)
put-opened file pool size before after ticket digest events (inr (t, (xs, ys, cut, made, inl (d, loads, is)))) =
    let same : t ≡ ticket = cc in
    subst (λ (n : ℕ). WasOpened n size events) same (subst (λ (l : List Event). WasOpened t size l) (sym cut) (opened-first t size xs ys (made-opening pool size t xs made)))
put-opened file pool size before after ticket digest events (inr (t, (xs, ys, cut, made, inr (e, (us, vs, parts, loads, gives))))) = absurd (never-given t e ticket digest vs gives)

abbrev IsTicketed : (whole : List Event) → SendLine → Came → Type 0
IsTicketed whole l (came.Written ticket digest) = WasOpened ticket l.file.size whole
IsTicketed whole l (came.Failed e) = Unit {0}
IsTicketed whole l (came.Held holder) = Unit {0}

abbrev AreTicketed : (whole : List Event) → List SendLine → List Came → Type 0
AreTicketed whole [] all = Unit {0}
AreTicketed whole (l ∷ lines) [] = Unit {0}
AreTicketed whole (l ∷ lines) (c ∷ all) = IsTicketed whole l c × AreTicketed whole lines all

one-ticketed : (rules : Rules) (told : Option Files) (whole : List Event) (l : SendLine) (before after : ℕ) (events : List Event) (c : Came) → AreIn events whole → SendsOne rules told l before after events (Ok c) → IsTicketed whole l c
one-ticketed rules told whole l before after events (came.Written ticket digest) so (inl h) = so ticket l.file.size (put-opened (file_of told l.file.path) h.0 l.file.size before after ticket digest events h.2.order)
one-ticketed rules told whole l before after events (came.Written ticket digest) so (inr (none, empty, same, is)) = absurd cc
one-ticketed rules told whole l before after events (came.Failed e) so h = tt
one-ticketed rules told whole l before after events (came.Held holder) so h = tt

none-ticketed : (whole : List Event) (lines : List SendLine) → AreTicketed whole lines []
none-ticketed whole [] = tt
none-ticketed whole (l ∷ lines) = tt

each-ticketed : (rules : Rules) (told : Option Files) (whole : List Event) (front back : List SendLine) (all : List Came) (before after : ℕ) (events : List Event) → AreIn events whole → SendsEach rules told front all before after events
    → AreTicketed whole (front ++ back) all
each-ticketed rules told whole [] back [] before after events so h = none-ticketed whole back
each-ticketed rules told whole [] back (c ∷ all) before after events so h = absurd h
each-ticketed rules told whole (l ∷ front) back [] before after events so h = absurd h
each-ticketed rules told whole (l ∷ front) back (c ∷ all) before after events so (count, (xs, ys, cut, one, rest)) =
    (one-ticketed rules told whole l before count xs c (in-first events xs ys whole cut so) one, each-ticketed rules told whole front back all count after ys (in-next events xs ys whole cut so) rest)

seal-ticketed : (whole : List Event) (l : SendLine) (c s : Came) → IsBehind c s → IsTicketed whole l c → IsTicketed whole l s
seal-ticketed whole l c s (inl is) h = subst (λ (x : Came). IsTicketed whole l x) (sym is) h
seal-ticketed whole l c s (inr failed) h = subst (λ (x : Came). IsTicketed whole l x) (sym failed.2) tt

seals-ticketed : (whole : List Event) (lines : List SendLine) (all sealed : List Came) → AreBehind all sealed → AreTicketed whole lines all → AreTicketed whole lines sealed
seals-ticketed whole [] all sealed h k = tt
seals-ticketed whole (l ∷ lines) [] [] h k = tt
seals-ticketed whole (l ∷ lines) [] (s ∷ sealed) h k = absurd h
seals-ticketed whole (l ∷ lines) (c ∷ all) [] h k = absurd h
seals-ticketed whole (l ∷ lines) (c ∷ all) (s ∷ sealed) h k = (seal-ticketed whole l c s h.0 k.0, seals-ticketed whole lines all sealed h.1 k.1)

-- ---- transactions

sized-nil : (told : Option Files) (plan : Lists) (whole : List Event) (rows : List SealedLine) → AreSized told plan whole rows []
sized-nil told plan whole [] = tt
sized-nil told plan whole (row ∷ rows) = tt

module _ (told : Option Files) (name : List ℕ) (b : Begun) (whole : List Event) where
  abbrev K : Deed → Type 0
  K d = IsStepOf told name b whole d

  abbrev Sized : List SealedLine → (numbers : List ℕ) → Type 0
  Sized rows numbers = AreSized told b.plan whole rows numbers

  sized-one : (row : SealedLine) (rows : List SealedLine) (numbers : List ℕ) → Sized (row ∷ rows) numbers → Sized (row ∷ []) (take 1 numbers)
  sized-one row rows [] h = tt
  sized-one row rows (number ∷ numbers) h = (h.0, tt)

  sized-rest : (row : SealedLine) (rows : List SealedLine) (numbers : List ℕ) → Sized (row ∷ rows) numbers → Sized rows (drop 1 numbers)
  sized-rest row rows [] h = sized-nil told b.plan whole rows
  sized-rest row rows (number ∷ numbers) h = h.1

  sized-front : (xs ys : List SealedLine) (numbers : List ℕ) → Sized (xs ++ ys) numbers → Sized xs numbers
  sized-front [] ys numbers h = tt
  sized-front (x ∷ xs) ys [] h = tt
  sized-front (x ∷ xs) ys (number ∷ numbers) h = (h.0, sized-front xs ys numbers h.1)

  sized-back : (xs ys : List SealedLine) (numbers : List ℕ) → Sized (xs ++ ys) numbers → Sized ys (drop (length xs) numbers)
  sized-back [] ys numbers h = h
  sized-back (x ∷ xs) ys [] h = sized-nil told b.plan whole ys
  sized-back (x ∷ xs) ys (number ∷ numbers) h = sized-back xs ys numbers h.1

  module _ (filespace : ℕ) where
    tries : (rows : List SealedLine) (numbers : List ℕ) → Sized rows numbers → (events : List Event) (result : Result (Option Refusal) Refusal) → Tries (storing filespace rows) numbers events result → Each K events
    tries rows numbers is events result (inl h) = each-none K events h.0
    tries rows numbers is events result (inr h) = each-made K (Commit (storing filespace rows) numbers h.0) events (inl (filespace, rows, refl, is)) h.1

    alone : (row : SealedLine) (numbers : List ℕ) → Sized (row ∷ []) numbers → (events : List Event) (result : Result (Option Refusal) Refusal) → Alone (storing filespace (row ∷ [])) numbers events result → Each K events
    alone row numbers is events result (inl h) = tries (row ∷ []) numbers is events (Ok None) h.0
    alone row numbers is events result (inr (inl h)) = tries (row ∷ []) numbers is events (Err h.0) h.1
    alone row numbers is events result (inr (inr (e, why, (xs, ys, cut, t, g), same))) =
        each-both K events xs ys cut (tries (row ∷ []) numbers is xs (Ok (Some e)) t) (each-given K (λ ticket answer. tt) numbers e ys why g)

    singles : (rows : List SealedLine) (numbers : List ℕ) → Sized rows numbers → (outs : List (Option Refusal)) (events : List Event) → Singles (storing filespace) rows numbers outs events → Each K events
    singles [] numbers is [] events h = each-none K events h
    singles [] numbers is (o ∷ outs) events h = absurd h
    singles (row ∷ rows) numbers is [] events h = absurd h
    singles (row ∷ rows) numbers is (o ∷ outs) events (xs, ys, cut, a, s) =
        each-both K events xs ys cut (alone row (take 1 numbers) (sized-one row rows numbers is) xs (Ok o) a) (singles rows (drop 1 numbers) (sized-rest row rows numbers is) outs ys s)

    last : (back : List SealedLine) (numbers : List ℕ) → Sized back numbers → (row : SealedLine) (rest : List SealedLine) → back ≡ row ∷ rest → (e : Refusal) (events : List Event) → Alone (storing filespace (row ∷ [])) (take 1 numbers) events (Err e) → Each K events
    last back numbers is row rest cut e events h = alone row (take 1 numbers) (sized-one row rest numbers (subst (λ (l : List SealedLine). Sized l numbers) cut is)) events (Err e) h

    stops : (rows : List SealedLine) (numbers : List ℕ) → Sized rows numbers → (e : Refusal) (events : List Event) → StopsAt (storing filespace) rows numbers e events → Each K events
    stops rows numbers is e events h =
        let all = subst (λ (l : List SealedLine). Sized l numbers) h.lined is in
        each-both K events h.xs h.ys h.made (singles h.front numbers (sized-front h.front h.back numbers all) h.outs h.xs h.singles)
        (elim h.ends as (λ _. Each K h.ys) [ inl m ↦ each-none K h.ys m.1 | inr s ↦ last h.back (drop (length h.front) numbers) (sized-back h.front h.back numbers all) s.0 s.1 s.2 e h.ys s.3 ])

    one_by_one : (rows : List SealedLine) (numbers : List ℕ) → Sized rows numbers → (events : List Event) (result : Result (List (Option Refusal)) Refusal) → EachAlone (storing filespace) rows numbers events result → Each K events
    one_by_one rows numbers is events (Ok outs) h = singles rows numbers is outs events h
    one_by_one rows numbers is events (Err e) h = stops rows numbers is e events h

    all_of : (rows : List SealedLine) (numbers : List ℕ) → Sized rows numbers → (events : List Event) (result : Result (List (Option Refusal)) Refusal) → CommitsAll (storing filespace) rows numbers events result → Each K events
    all_of rows numbers is events result (inl h) = tries rows numbers is events (Ok None) h.0
    all_of rows numbers is events result (inr (inl h)) = tries rows numbers is events (Err h.0) h.1
    all_of rows numbers is events result (inr (inr (why, (xs, ys, cut, t, s)))) = each-both K events xs ys cut (tries rows numbers is xs (Ok (Some why)) t) (one_by_one rows numbers is ys result s)

    commits : (rows : List SealedLine) (numbers : List ℕ) → Sized rows numbers → (events : List Event) (result : Result (List (Option Refusal)) Refusal) → Commits (storing filespace) rows numbers events result → Each K events
    commits rows numbers is events (Ok outs) h = all_of rows numbers is events (Ok outs) h
    commits rows numbers is events (Err e) (why, (xs, ys, cut, a, g)) = each-both K events xs ys cut (all_of rows numbers is xs (Err why) a) (each-given K (λ ticket answer. tt) numbers why ys e g)

  -- ---- batches

  quiet-step : (d : Deed) → IsQuiet d → ((number size : ℕ) → IsOpening number size d → WasOpened number size whole) → K d
  quiet-step (OpenNew pool size prefer (Ok number)) h so = so number size (refl, refl)
  quiet-step (OpenNew pool size prefer (Err e)) h so = tt
  quiet-step (OpenCopy object aim avoid answer) h so = absurd h
  quiet-step (WritePiece ticket bytes answer) h so = tt
  quiet-step (CopyPiece ticket answer) h so = absurd h
  quiet-step (Seal ticket answer) h so = tt
  quiet-step (Commit asked tickets answer) h so = absurd h
  quiet-step (DropTicket ticket answer) h so = tt
  quiet-step (ReadPiece object digest from offset wanted answer) h so = absurd h
  quiet-step (Ask query answer) h so = tt
  quiet-step (Image kind answer) h so = absurd h
  quiet-step (Reuse file answer) h so = absurd h
  quiet-step (Force answer) h so = tt

  quiet : (events : List Event) → AreIn events whole → AreQuiet events → Each K events
  quiet [] so h = tt
  quiet (e ∷ events) so h = (quiet-step e.deed h.0 (λ number size k. so number size (inl k)), quiet events (λ number size k. so number size (inr k)) h.1)

  abbrev Sending : SendLine → Type 0
  Sending l = Contains b.plan.send l

  all-drop : (count : ℕ) (lines : List SendLine) → AllByRecursion Sending lines → AllByRecursion Sending (drop count lines)
  all-drop zero lines h = h
  all-drop (suc count) [] h = tt
  all-drop (suc count) (l ∷ lines) h = all-drop count lines h.1

  rows-sized : (lines : List SendLine) (all : List Came) → AllByRecursion Sending lines → AreRead told lines all → AreTicketed whole lines all → Sized (sealed_lines lines all) (tickets_in all)
  rows-sized [] all h read opened = tt
  rows-sized (l ∷ lines) [] h read opened = tt
  rows-sized (l ∷ lines) (came.Written ticket digest ∷ all) h read opened = ((l, digest, h.0, refl, read.0, opened.0), rows-sized lines all h.1 read.1 opened.1)
  rows-sized (l ∷ lines) (came.Failed e ∷ all) h read opened = rows-sized lines all h.1 read.1 opened.1
  rows-sized (l ∷ lines) (came.Held holder ∷ all) h read opened = rows-sized lines all h.1 read.1 opened.1

  -- what is known of files that were written
  abbrev AreWritten : List SendLine → List Came → Type 0
  AreWritten lines all = AreRead told lines all × AreTicketed whole lines all

  module _ (rules : Rules) (filespace : ℕ) where
    stores : (lines : List SendLine) → AllByRecursion Sending lines → (all : List Came) → AreWritten lines all → (events : List Event) (result : Result (List (Option Refusal)) Refusal)
        → Stores filespace lines all (tickets_in all) events result → Each K events
    stores lines is all w events result (inl h) = each-none K events h.1
    stores lines is all w events result (inr (inl h)) = each-given K (λ ticket answer. tt) (tickets_in all) _ events h.0 h.1
    stores lines is all w events result (inr (inr h)) = commits filespace (sealed_lines lines all) (tickets_in all) (rows-sized lines all is w.0 w.1) events result h

    sent-written : (lines : List SendLine) (before after : ℕ) (all : List Came) (events : List Event) → AreIn events whole → Sent rules told lines before after all events → Each K events × AreWritten lines all
    sent-written lines before after all events so h = (
      quiet events so (each_quiet rules told h.front all before after events h.sends),
      subst (λ (ls : List SendLine). AreWritten ls all) (sym h.lined) (sends-read rules told h.front h.back all before after events h.sends, each-ticketed rules told whole h.front h.back all before after events so h.sends),
    )

    stops-quiet : (lines : List SendLine) (before after : ℕ) (all : List Came) (e : Refusal) (events : List Event) → AreIn events whole → Stops rules told lines before after all e events → Each K events
    stops-quiet lines before after all e events so h =
        each-both K events h.xs h.ys h.made (quiet h.xs (in-first events h.xs h.ys whole h.made so) (each_quiet rules told h.front all before h.count h.xs h.sends))
        (elim h.ends as (λ _. Each K h.ys) [ inl m ↦ each-none K h.ys m.1 | inr s ↦ quiet h.ys (in-next events h.xs h.ys whole h.made so) (one_quiet rules told s.0 h.count after h.ys (Err e) s.3) ])

    sealed : (lines : List SendLine) → AllByRecursion Sending lines → (all kept : List Came) → AreWritten lines all → (events : List Event) → AreIn events whole → (result : Result (List (Option Refusal)) Refusal)
        → SealsAndStores filespace lines all kept events result → Each K events
    sealed lines is all kept w events so result (inl (e, (why, (xs, ys, cut, ends, gives)), same)) =
        each-both K events xs ys cut (quiet xs (in-first events xs ys whole cut so) (unsealed_quiet all why xs ends)) (each-given K (λ ticket answer. tt) (tickets_in all) why ys e gives)
    sealed lines is all kept w events so result (inr (xs, ys, cut, seals, next)) =
        let behind = behind-each all kept xs seals in
        each-both K events xs ys cut (quiet xs (in-first events xs ys whole cut so) (seals_quiet all kept xs seals))
        (stores lines is kept (seals-read told lines all kept behind w.0, seals-ticketed whole lines all kept behind w.1) ys result next)

    batch : (lines : List SendLine) → AllByRecursion Sending lines → (before after : ℕ) (events : List Event) → AreIn events whole → (result : Result Batch Refusal) → Batches rules told filespace lines before after events result → Each K events
    batch lines is before after events so (Ok it) (xs, ys, cut, sent, next) =
        let w = sent-written lines before after it.came xs (in-first events xs ys whole cut so) sent in
        each-both K events xs ys cut w.0 (sealed lines is it.came it.sealed w.1 ys (in-next events xs ys whole cut so) (Ok it.outs) next)
    batch lines is before after events so (Err e) (inl (all, (why, (xs, ys, cut, ends, gives)))) =
        each-both K events xs ys cut (stops-quiet lines before after all why xs (in-first events xs ys whole cut so) ends) (each-given K (λ ticket answer. tt) (tickets_in all) why ys e gives)
    batch lines is before after events so (Err e) (inr (all, kept, (xs, ys, cut, sent, next))) =
        let w = sent-written lines before after all xs (in-first events xs ys whole cut so) sent in
        each-both K events xs ys cut w.0 (sealed lines is all kept w.1 ys (in-next events xs ys whole cut so) (Err e) next)

    none-sent : (lines : List SendLine) → AllByRecursion Sending lines → (before after : ℕ) (events : List Event) → AreIn events whole → (e : Refusal) → SendsNone rules told filespace lines before after events e → Each K events
    none-sent lines is before after events so e (inl h) = batch lines is before after events so (Err e) h
    none-sent lines is before after events so e (inr (inl h)) = batch lines is before after events so (Ok h.0) h.1
    none-sent lines is before after events so e (inr (inr (it, (xs, ys, cut, made, waits)))) =
        each-both K events xs ys cut (batch lines is before after xs (in-first events xs ys whole cut so) (Ok it) made) (each-waits K (λ answer. tt) _ ys (Err e) waits)

    rounds : (number : ℕ) (lines rest : List SendLine) → AllByRecursion Sending lines → (outs : List (Option Refusal)) (before after : ℕ) (events : List Event) → AreIn events whole
        → Rounds (SendsSome rules told filespace) number lines rest outs before after events → Each K events × AllByRecursion Sending rest
    rounds zero lines rest is outs before after events so (left, none, same, empty) = (each-none K events empty, subst (λ (ls : List SendLine). AllByRecursion Sending ls) (sym left) is)
    rounds (suc number) lines rest is outs before after events so (left, first, next, count, joined, (xs, ys, cut, earlier, (it, said, dropped, (us, vs, parts, made, waits)))) =
        let e = rounds number lines left is first before count xs (in-first events xs ys whole cut so) earlier in (
          each-both K events xs ys cut e.0
              (each-both K ys us vs parts (batch left e.1 count after us (in-first ys us vs whole parts (in-next events xs ys whole cut so)) (Ok it) made) (each-waits K (λ answer. tt) _ vs (Ok tt) waits)),
          subst (λ (ls : List SendLine). AllByRecursion Sending ls) (sym dropped) (all-drop (length next) left e.1),
        )

    sends : (lines : List SendLine) → AllByRecursion Sending lines → (before after : ℕ) (events : List Event) → AreIn events whole → (result : Result (List (Option Refusal)) Refusal)
        → SendsAll rules told filespace lines before after events result → Each K events
    sends lines is before after events so (Ok outs) (number, all) = (rounds number lines [] is outs before after events so all).0
    sends lines is before after events so (Err e) (number, rest, outs, count, (xs, ys, cut, all, ends)) =
        let earlier = rounds number lines rest is outs before count xs (in-first events xs ys whole cut so) all in
        each-both K events xs ys cut earlier.0
        (elim ends as (λ _. Each K ys) [ inl m ↦ each-none K ys m.1 | inr s ↦ none-sent rest earlier.1 count after ys (in-next events xs ys whole cut so) e s ])

  -- ---- lists without tickets

  all-in : {A : Type 0} (xs : List A) → AllByRecursion (λ x. Contains xs x) xs
  all-in xs = recursion_from_All (λ x. Contains xs x) xs (All-contains_itself xs)

  bound : (filespace : ℕ) (events : List Event) (result : Result (List (Option Refusal)) Refusal) → BindsPaths filespace b.plan.rebind events result → Each K events
  bound filespace events result h =
      each-runs K (λ ticket answer. tt) (λ (l : RebindLine). Contains b.plan.rebind l) (rebinding filespace) (λ lines tickets answer is. inr (inl (filespace, lines, refl, is))) b.plan.rebind (all-in b.plan.rebind) events result h.order

  ended : (filespace : ℕ) (events : List Event) (result : Result (List (Option Refusal)) Refusal) → EndsVersions filespace b.plan.gone events result → Each K events
  ended filespace events result h =
      each-runs K (λ ticket answer. tt) (λ (l : GoneLine). Contains b.plan.gone l) (ending filespace) (λ lines tickets answer is. inr (inr (inl (filespace, lines, refl, is)))) b.plan.gone (all-in b.plan.gone) events result h.order

  lists : (filespace : ℕ) (sent : List (Option Refusal)) (events : List Event) (result : Result Outs Refusal) → CommitsLists filespace b.plan sent events result → Each K events
  lists filespace sent events (Ok o) (same, (xs, ys, cut, binds, ends)) = each-both K events xs ys cut (bound filespace xs (Ok o.rebound) binds) (ended filespace ys (Ok o.gone) ends)
  lists filespace sent events (Err e) (inl h) = bound filespace events (Err e) h
  lists filespace sent events (Err e) (inr (outs, (xs, ys, cut, binds, ends))) = each-both K events xs ys cut (bound filespace xs (Ok outs) binds) (ended filespace ys (Err e) ends)

  -- ---- all of it

  carries : (filespace : ℕ) (before after : ℕ) (events : List Event) → AreIn events whole → (result : Result Outs Refusal) → CarriesOut filespace b told before after events result → Each K events
  carries filespace before after events so result (inl (sent, (xs, ys, cut, files, others))) =
      each-both K events xs ys cut (sends b.classes filespace b.plan.send (all-in b.plan.send) before after xs (in-first events xs ys whole cut so) (Ok sent) files.order) (lists filespace sent ys result others)
  carries filespace before after events so result (inr (e, files, is)) = sends b.classes filespace b.plan.send (all-in b.plan.send) before after events so (Err e) files.order

  filespaced : (node : List ℕ) (events : List Event) (result : Result ℕ Refusal) → HasFilespace node b.node name (is_sending b.plan) events result → Each K events
  filespaced node events result h = each-filespace K (λ q answer. tt) node b.node name (λ answer. inr (inr (inr refl))) (is_sending b.plan) events result h

  works : (node : List ℕ) (before after : ℕ) (events : List Event) → AreIn events whole → (result : Result Outs Refusal) → Works node name b told before after events result → Each K events
  works node before after events so result (inl h) = each-none K events h.1
  works node before after events so result (inr (inl (busy, number, (xs, ys, cut, has, out)))) =
      each-both K events xs ys cut (filespaced node xs (Ok number) has) (carries number before after ys (in-next events xs ys whole cut so) result out)
  works node before after events so result (inr (inr (busy, e, has, same, is))) = filespaced node events (Err e) has

  forces : (events : List Event) (result : Result (Unit {0}) Refusal) → Forces events result → Each K events
  forces events result h = each-made K (Force h.0) events tt h.1

  finishes : (node : List ℕ) (before after : ℕ) (events : List Event) → AreIn events whole → (result : Result Outs Refusal) → Finishes node name b told before after events result → Each K events
  finishes node before after events so (Ok o) (xs, ys, cut, out, forced) = each-both K events xs ys cut (works node before after xs (in-first events xs ys whole cut so) (Ok o) out) (forces ys (Ok tt) forced)
  finishes node before after events so (Err e) (inl h) = works node before after events so (Err e) h
  finishes node before after events so (Err e) (inr (o, (xs, ys, cut, out, forced))) =
      each-both K events xs ys cut (works node before after xs (in-first events xs ys whole cut so) (Ok o) out) (forces ys (Err e) forced)

questions-only : (node filespace : List ℕ) (choice : List Rule) (told : Option Files) (before after : ℕ) (events : List Event) (result : Result Begun Refusal) → Begins node filespace choice told before after events result → AreQuestions events
questions-only node filespace choice told before after events result h = each-begins (λ d. IsQuestion d) (λ q answer. tt) node filespace choice told before after events result h

-- It only asked; or it began with a plan, and behind that made the steps of a backup alone.
abbrev pub Orders : (node filespace : List ℕ) → List Rule → Option Files → (before : ℕ) → List Event → Type 0
Orders node filespace choice told before events =
    AreQuestions events ⊎ ((b : Begun) × (count : ℕ) × Then (λ xs. Begins node filespace choice told before count xs (Ok b) × AreQuestions xs) (λ ys. Each (IsStepOf told filespace b events) ys) events)

pub orders-of : (node filespace : List ℕ) (choice : List Rule) (told : Option Files) (before after : ℕ) (events : List Event) (result : Result Said Refusal) → Increments node filespace choice told before after events result
    → Orders node filespace choice told before events
orders-of node filespace choice told before after events result (inl (e, begins, is)) = inl (questions-only node filespace choice told before after events (Err e) begins)
orders-of node filespace choice told before after events result (inr (inl (b, count, e, (xs, ys, cut, begins, out), is))) =
    inr (b, count, (xs, ys, cut, (begins, questions-only node filespace choice told before count xs (Ok b) begins), finishes told filespace b events node count after ys (in-next events xs ys events cut (λ number size h. h)) (Err e) out))
orders-of node filespace choice told before after events result (inr (inr (b, count, o, (xs, ys, cut, begins, out), is))) =
    inr (b, count, (xs, ys, cut, (begins, questions-only node filespace choice told before count xs (Ok b) begins), finishes told filespace b events node count after ys (in-next events xs ys events cut (λ number size h. h)) (Ok o) out))
