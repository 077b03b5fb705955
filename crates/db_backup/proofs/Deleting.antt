-- Backups are taken off the list, one after the other.
use Rattle.std.proofs.Common.{◌≡◌, ◌⊎◌, inl, inr, ℕ, zero, suc, ◌+◌, ◌<◌, ◌≤◌, ◌==◌, get_or, Bool, true, false, if◌then◌else◌, List, [], ◌∷◌, ◌++◌, append_assoc, length, drop, Result, Ok, Err, refl, sym, ap, subst, ◌∙◌, arith}
use Rattle.std.proofs.lemmas.List.{append-nil, drop_all, length-append}
use Rattle.std.specs.List.{AllByRecursion, flat_map}
use Rattle.kinds.specs.Refusals.{number_of}
use Rattle.kinds.specs.declared.refusal.Refusal.{Refusal}
use Rattle.kinds.specs.declared.refusal.Refusal.TheVariants as refused
use Rattle.entries.specs.declared.change.Change.TheVariants.{DbDelete}
use Rattle.inventory_answers.specs.declared.lines.BackupLine.{BackupLine}
use Rattle.inventory_answers.specs.declared.query.Query.TheVariants as query
use Rattle.inventory_answers.specs.declared.reply.Answer.{Answer}
use Rattle.inventory_answers.specs.declared.reply.Rows.TheVariants as rows
use Rattle.copy_attempts.proofs.Facts.{all-append, made-append}
use Rattle.copy_attempts.specs.Attempts.{is_stopping, stopping}
use Rattle.copy_runs.proofs.Ending.{ask-nothing, stopped-behind}
use Rattle.copy_runs.proofs.Whole.{finish-is}
use Rattle.copy_runs.specs.Ends.{AreAsking, AreEnding, Finished, Finishes, IsAsking, IsEnding, IsStopped, Unanswered}
use Rattle.copy_runs.specs.Wanting.{IsIn}
use Rattle.sessions.proofs.Changed.{joins-caused, joins-made, joins-only}
use Rattle.sessions.specs.Changing.{IsOf as IsChanging, Joins, numbers}
use Rattle.sessions.specs.Outcomes.{IsCaused}
use Rattle.steps.proofs.Joining.{GoesOn, call_of_none, call_then, does_alone, so_call, then_call}
use Rattle.steps.specs.declared.asked.Asked.{Asked}
use Rattle.steps.specs.declared.asked.Asked.TheVariants.{Plain}
use Rattle.steps.specs.Calls.{Call, Does, Then}
use Rattle.steps.specs.Events.{Deed, Event, event}
use Rattle.steps.specs.Events.Deed.{OpenNew, OpenCopy, WritePiece, CopyPiece, Seal, Commit, DropTicket, ReadPiece, Ask, Image, Reuse, Force}
use Rattle.steps.specs.Receipts.{is_forced, made, receipts}
use Rattle.steps.specs.Spent.{AreSettled, IsSettled}
use Rattle.db_backup.specs.Backups.{Listed, Lists}
use Rattle.db_backup.specs.Deleting.{AreDeleting, AreTried, Breaks, Deletes, Ended, Ends, HistoryDeletion, IsDeleting, IsTold, Tried, Tries, deleted_files, deletions, file_by, outcome}
use Rattle.db_backup.specs.Listing.{due_files}
use Rattle.db_backup.proofs.Rows.{acknowledged, all-deleted, files-append, listed-asks, refused-none}

-- ---- the list

pub history-answered : {S : Type 0} (did : S → List Event → S → Type 0) (p q : S) (answer : Answer) (result : Result (List BackupLine) Refusal)
    → ((lines : List BackupLine) → result ≡ Ok lines → answer.rows ≡ rows.History lines) → ((e : Refusal) → result ≡ Err e → e ≡ refused.Memory)
    → Does did p q (Ask query.History (Ok answer)) → Call did p q (λ events. Lists events result)
history-answered did p q answer (Ok lines) good bad d =
    does_alone did (λ events. Lists events (Ok lines)) p q (Ask query.History (Ok answer)) d (λ n listed. (n, answer, refl, good lines refl)) (λ m. absurd cc)
history-answered did p q answer (Err e) good bad d = ask-nothing did p q query.History answer e (bad e refl) d

-- ---- one backup

stopped-as : (list : List ℕ) (events : List Event) (why : Refusal) → IsCaused list events why → IsStopped events (stopping why)
stopped-as list events why (inl memory) = inl (ap stopping memory)
stopped-as list events why (inr h) = elim (is_stopping why) as (λ b. is_stopping why ≡ b → IsStopped events (if b then why else refused.Memory)) [
  | true ↦ λ t. inr (t, h.1)
  | false ↦ λ t. inl refl
] refl

changing-deletes : (file : ℕ) (d : Deed) → IsChanging (DbDelete file) d → IsDeleting (file ∷ []) d
changing-deletes file (OpenNew pool size prefer answer) h = absurd h
changing-deletes file (OpenCopy object aim avoid answer) h = absurd h
changing-deletes file (WritePiece ticket bytes answer) h = absurd h
changing-deletes file (CopyPiece ticket answer) h = absurd h
changing-deletes file (Seal ticket answer) h = absurd h
changing-deletes file (Commit asked tickets answer) h =
    inr (file, answer, inl refl, ap (λ (a : Asked). Commit a tickets answer) h.0 ∙ ap (λ (t : List ℕ). Commit (Plain (DbDelete file)) t answer) h.1)
changing-deletes file (DropTicket ticket answer) h = absurd h
changing-deletes file (ReadPiece object kept from offset wanted answer) h = absurd h
changing-deletes file (Ask q answer) h = absurd h
changing-deletes file (Image kind answer) h = absurd h
changing-deletes file (Reuse other answer) h = absurd h
changing-deletes file (Force answer) h = inl (inr (answer, refl))

changes-delete : (file : ℕ) (events : List Event) → AllByRecursion (λ e. IsChanging (DbDelete file) e.deed) events → AreDeleting (file ∷ []) events
changes-delete file [] h = tt
changes-delete file (x ∷ xs) h = (changing-deletes file x.deed h.0, changes-delete file xs h.1)

joins-delete : (file : ℕ) (events : List Event) (answer : Result ℕ Refusal) → Joins (Plain (DbDelete file)) events answer → AreDeleting (file ∷ []) events
joins-delete file events answer j = changes-delete file events (joins-only (DbDelete file) events answer j)

tried-by : (file : ℕ) (events : List Event) (why : Refusal) (ten : Bool) → (number_of why == 10) ≡ ten → Joins (Plain (DbDelete file)) events (Err why) → Tries file events (if ten then Ok 0 else Err (stopping why))
tried-by file events why true is j = inr (why, is, j, refl)
tried-by file events why false is j = record { cause = stopped-as numbers events why (joins-caused (DbDelete file) events (Err why) j); only = joins-delete file events (Err why) j }

tried-of : (file : ℕ) (events : List Event) (answer : Result ℕ Refusal) → Joins (Plain (DbDelete file)) events answer → Tries file events (outcome answer)
tried-of file events (Ok number) j = inl (number, j, refl)
tried-of file events (Err why) j = tried-by file events why (number_of why == 10) refl j

pub tries-one : {S : Type 0} (did : S → List Event → S → Type 0) (p q : S) (file : ℕ) (answer result : Result ℕ Refusal) → result ≡ outcome answer → Call did p q (λ events. Joins (Plain (DbDelete file)) events answer)
    → Call did p q (λ events. Tries file events result)
tries-one did p q file answer result is a =
    subst (λ (r : Result ℕ Refusal). Call did p q (λ events. Tries file events r)) (sym is)
    (so_call did (λ events. Joins (Plain (DbDelete file)) events answer) (λ events. Tries file events (outcome answer)) p q a (λ xs j. tried-of file xs answer j))

-- ---- several

tried-more : (files : List ℕ) (file : ℕ) (xs ys : List Event) (m k : ℕ) → AreTried files xs m → Tried file ys k → AreTried (files ++ (file ∷ [])) (xs ++ ys) (m + k)
tried-more [] file xs ys m k h t =
    let none : m + k ≡ k + 0 = omega (arith, h.1) in
    (k, 0, none, (ys, [], ap (λ (l : List Event). l ++ ys) h.0 ∙ sym (append-nil ys), t, (refl, refl)))
tried-more (f ∷ files) file xs ys m k (a, b, is, (us, vs, cut, one, rest)) t =
    let sum : m + k ≡ a + (b + k) = omega (arith, is) in
    (a, b + k, sum, (us, vs ++ ys, ap (λ (l : List Event). l ++ ys) cut ∙ append_assoc us vs ys, one, tried-more files file vs ys b k rest t))

-- those in front of these were tried
abbrev pub UpTo : (files left : List ℕ) → List Event → (count : ℕ) → Type 0
UpTo files left events count = (before : List ℕ) × (files ≡ before ++ left) × AreTried before events count

next-one : (files : List ℕ) (place file : ℕ) → place < length files → file ≡ get_or files place 0 → drop place files ≡ file ∷ drop (suc place) files
next-one [] place file l is = absurd (omega (arith, l))
next-one (f ∷ files) zero file l is = ap (λ (k : ℕ). k ∷ files) (sym is)
next-one (f ∷ files) (suc place) file l is = next-one files place file (omega (arith, l)) is

plus-one : (n : ℕ) → suc n ≡ n + 1
plus-one n = omega arith

up-further : (files left : List ℕ) (file : ℕ) (xs ys : List Event) (a b : ℕ) → UpTo files (file ∷ left) xs a → Tried file ys b → UpTo files left (xs ++ ys) (a + b)
up-further files left file xs ys a b (before, is, h) t = (before ++ (file ∷ []), is ∙ sym (append_assoc before (file ∷ []) left), tried-more before file xs ys a b h t)

pub up-next : {S : Type 0} (did : S → List Event → S → Type 0) → GoesOn did → (p q r : S) (files : List ℕ) (place file a b : ℕ) → place < length files → file ≡ get_or files place 0
    → Call did p q (λ events. UpTo files (drop place files) events a) → Call did q r (λ events. Tries file events (Ok b))
    → Call did p r (λ events. UpTo files (drop (place + 1) files) events (a + b))
up-next did goes p q r files place file a b l is x y =
    subst (λ (n : ℕ). Call did p r (λ events. UpTo files (drop n files) events (a + b))) (plus-one place)
    (call_then did goes (λ events. UpTo files (file ∷ drop (suc place) files) events a) (λ events. Tries file events (Ok b)) (λ events. UpTo files (drop (suc place) files) events (a + b)) p q r
    (subst (λ (ls : List ℕ). Call did p q (λ events. UpTo files ls events a)) (next-one files place file l is) x) y
    (λ xs ys f g. up-further files (drop (suc place) files) file xs ys a b f g))

-- what is tried of some is tried of all
in-before : (k : ℕ) (xs ys : List ℕ) → IsIn k xs → IsIn k (xs ++ ys)
in-before k [] ys m = absurd m
in-before k (x ∷ xs) ys (inl m) = inl m
in-before k (x ∷ xs) ys (inr m) = inr (in-before k xs ys m)

in-behind : (k : ℕ) (xs ys : List ℕ) → IsIn k ys → IsIn k (xs ++ ys)
in-behind k [] ys m = m
in-behind k (x ∷ xs) ys m = inr (in-behind k xs ys m)

more-deleting : (files those : List ℕ) (d : Deed) → ((k : ℕ) → IsIn k those → IsIn k files) → IsDeleting those d → IsDeleting files d
more-deleting files those d within (inl h) = inl h
more-deleting files those d within (inr h) = inr (h.0, h.1, within h.0 h.2, h.3)

more-only : (files those : List ℕ) (events : List Event) → ((k : ℕ) → IsIn k those → IsIn k files) → AreDeleting those events → AreDeleting files events
more-only files those [] within h = tt
more-only files those (x ∷ xs) within h = (more-deleting files those x.deed within h.0, more-only files those xs within h.1)

only-append : (files : List ℕ) (xs ys : List Event) → AreDeleting files xs → AreDeleting files ys → AreDeleting files (xs ++ ys)
only-append files xs ys a b = all-append (λ e. IsDeleting files e.deed) xs ys a b

one-only : (file : ℕ) (events : List Event) (count : ℕ) → Tried file events count → AreDeleting (file ∷ []) events
one-only file events count (inl (number, j, is)) = joins-delete file events (Ok number) j
one-only file events count (inr (why, ten, j, is)) = joins-delete file events (Err why) j

tried-only : (files : List ℕ) (events : List Event) (count : ℕ) → AreTried files events count → AreDeleting files events
tried-only [] events count h = subst (AreDeleting []) (sym h.0) tt
tried-only (file ∷ files) events count (m, k, is, (xs, ys, cut, t, rest)) =
    subst (AreDeleting (file ∷ files)) (sym cut)
    (only-append (file ∷ files) xs ys (more-only (file ∷ files) (file ∷ []) xs (λ j i. elim i as (λ _. IsIn j (file ∷ files)) [ inl same ↦ inl same | inr never ↦ absurd never ]) (one-only file xs m t))
    (more-only (file ∷ files) files ys (λ j i. inr i) (tried-only files ys k rest)))

breaks-behind : (files before those : List ℕ) (xs ys : List Event) (count : ℕ) (e : Refusal) → ((k : ℕ) → IsIn k before → IsIn k files) → ((k : ℕ) → IsIn k those → IsIn k files) → AreTried before xs count → Breaks those ys e
    → Breaks files (xs ++ ys) e
breaks-behind files before those xs ys count e within inside h b = record {
  cause = stopped-behind xs ys e b.cause;
  only = only-append files xs ys (more-only files before xs within (tried-only before xs count h)) (more-only files those ys inside b.only);
}

one-in : (files before left : List ℕ) (file : ℕ) → files ≡ before ++ (file ∷ left) → (k : ℕ) → IsIn k (file ∷ []) → IsIn k files
one-in files before left file is k (inl same) = subst (IsIn k) (sym is) (in-behind k before (file ∷ left) (inl same))
one-in files before left file is k (inr never) = absurd never

pub up-break : {S : Type 0} (did : S → List Event → S → Type 0) → GoesOn did → (p q r : S) (files : List ℕ) (place file a : ℕ) (e : Refusal) → place < length files → file ≡ get_or files place 0
    → Call did p q (λ events. UpTo files (drop place files) events a) → Call did q r (λ events. Tries file events (Err e)) → Call did p r (λ events. Deletes files events (Err e))
up-break did goes p q r files place file a e l is x y =
    call_then did goes (λ events. UpTo files (file ∷ drop (suc place) files) events a) (λ events. Breaks (file ∷ []) events e) (λ events. Breaks files events e) p q r
    (subst (λ (ls : List ℕ). Call did p q (λ events. UpTo files ls events a)) (next-one files place file l is) x) y
    (λ xs ys f g. breaks-behind files f.0 (file ∷ []) xs ys a e (λ k m. subst (IsIn k) (sym f.1) (in-before k f.0 (file ∷ drop (suc place) files) m)) (one-in files f.0 (drop (suc place) files) file f.1) f.2 g)

all-before : (files before : List ℕ) (events : List Event) (count : ℕ) → files ≡ before ++ [] → AreTried before events count → AreTried files events count
all-before files before events count is h = subst (λ (ls : List ℕ). AreTried ls events count) (sym (is ∙ append-nil before)) h

pub up-all : {S : Type 0} (did : S → List Event → S → Type 0) (p q : S) (files : List ℕ) (place a : ℕ) → length files ≤ place → Call did p q (λ events. UpTo files (drop place files) events a)
    → Call did p q (λ events. Deletes files events (Ok a))
up-all did p q files place a l x =
    so_call did (λ events. UpTo files [] events a) (λ events. AreTried files events a) p q (subst (λ (ls : List ℕ). Call did p q (λ events. UpTo files ls events a)) (drop_all place files l) x)
    (λ xs f. all-before files f.0 xs a f.1 f.2)

pub few-more : (more count place : ℕ) → count ≤ place → more ≤ 1 → count + more ≤ place + 1
few-more more count place few h = omega arith

-- ---- the end

ending-deletes : (files : List ℕ) (events : List Event) → AreEnding events → AreDeleting files events
ending-deletes files [] h = tt
ending-deletes files (x ∷ xs) h = (inl h.0, ending-deletes files xs h.1)

abbrev pub ended_by : ℕ → Result (Unit {0}) Refusal → Result ℕ Refusal
ended_by count (Ok done) = Ok count
ended_by count (Err e) = Err e

then-ended : (files : List ℕ) (count : ℕ) (xs ys : List Event) (result : Result (Unit {0}) Refusal) → AreTried files xs count → Finishes ys result → Ends files (xs ++ ys) (ended_by count result)
then-ended files count xs ys (Ok done) f g = (xs, ys, refl, f, g)
then-ended files count xs ys (Err e) f g = record { cause = stopped-behind xs ys e g.0; only = only-append files xs ys (tried-only files xs count f) (ending-deletes files ys g.1) }

pub ends : {S : Type 0} (did : S → List Event → S → Type 0) → GoesOn did → (p q r : S) (files : List ℕ) (count : ℕ) (result : Result (Unit {0}) Refusal) → Call did p q (λ events. Deletes files events (Ok count))
    → Call did q r (λ events. Finishes events result) → Call did p r (λ events. Ends files events (ended_by count result))
ends did goes p q r files count result a b =
    call_then did goes (λ events. AreTried files events count) (λ events. Finishes events result) (λ events. Ends files events (ended_by count result)) p q r a b
    (λ xs ys f g. then-ended files count xs ys result f g)

-- ---- counts

one-made : (file : ℕ) (events : List Event) (count : ℕ) → Tried file events count → deletions (made events) ≡ count
one-made file events count (inl (number, j, is)) = (let it = joins-made (DbDelete file) number events j in ap deletions it.1 ∙ sym is)
one-made file events count (inr (why, ten, j, is)) = ap deletions (refused-none file events why j) ∙ sym is

made-apart : (xs ys : List Event) → deletions (made (xs ++ ys)) ≡ deletions (made xs) + deletions (made ys)
made-apart xs ys = ap deletions (made-append xs ys) ∙ ap length (files-append (made xs) (made ys)) ∙ length-append (deleted_files (made xs)) (deleted_files (made ys))

tried-made : (files : List ℕ) (events : List Event) (count : ℕ) → AreTried files events count → deletions (made events) ≡ count
tried-made [] events count h = ap (λ (l : List Event). deletions (made l)) h.0 ∙ sym h.1
tried-made (file ∷ files) events count (m, k, is, (xs, ys, cut, t, rest)) =
    let first : deletions (made xs) ≡ m = one-made file xs m t in
    let others : deletions (made ys) ≡ k = tried-made files ys k rest in
    let all : deletions (made events) ≡ deletions (made xs) + deletions (made ys) = ap (λ (l : List Event). deletions (made l)) cut ∙ made-apart xs ys in
    omega (arith, first, others, all, is)

deleting-settled : (files : List ℕ) (d : Deed) (later : List Event) → IsDeleting files d → IsSettled d later
deleting-settled files d later (inl (inl h)) = subst (λ (k : Deed). IsSettled k later) (sym h.2) tt
deleting-settled files d later (inl (inr h)) = subst (λ (k : Deed). IsSettled k later) (sym h.1) tt
deleting-settled files d later (inr h) = subst (λ (k : Deed). IsSettled k later) (sym h.3) tt

only-settled : (files : List ℕ) (events : List Event) → AreDeleting files events → AreSettled events
only-settled files [] h = tt
only-settled files (x ∷ xs) h = (deleting-settled files x.deed xs h.0, only-settled files xs h.1)

-- ---- the whole

asking-deletes : (files : List ℕ) (events : List Event) → AreAsking events → AreDeleting files events
asking-deletes files [] h = tt
asking-deletes files (x ∷ xs) h = (inl (inl h.0), asking-deletes files xs h.1)

ended-only : (files : List ℕ) (events : List Event) (count : ℕ) → Ended files events count → AreDeleting files events
ended-only files events count (xs, ys, cut, t, f) =
    subst (AreDeleting files) (sym cut) (only-append files xs ys (tried-only files xs count t) (ending-deletes files ys (finish-is ys f).ending))

whole-only : (files : List ℕ) (xs ys : List Event) (result : Result ℕ Refusal) → AreAsking xs → Ends files ys result → AreDeleting files (xs ++ ys)
whole-only files xs ys (Ok count) asks f = only-append files xs ys (asking-deletes files xs asks) (ended-only files ys count f)
whole-only files xs ys (Err e) asks f = only-append files xs ys (asking-deletes files xs asks) f.only

deleted-is : (to : ℕ) (lines : List BackupLine) (xs ys : List Event) (count : ℕ) → Listed xs lines → Ended (due_files to lines) ys count → deletions (receipts (xs ++ ys)) ≡ count
deleted-is to lines xs ys count listed (us, vs, cut, t, f) =
    let fin = finish-is vs f in
    ap (λ (l : List Event). deletions (receipts (xs ++ l))) cut ∙ ap deletions (acknowledged xs us vs (listed-asks lines xs listed) fin.forced fin.none) ∙ tried-made (due_files to lines) us count t

done-of : (to : ℕ) (lines : List BackupLine) (xs ys : List Event) (result : Result ℕ Refusal) → Listed xs lines → Ends (due_files to lines) ys result → HistoryDeletion to (xs ++ ys) result
done-of to lines xs ys (Ok count) listed f =
    let only : AreDeleting (due_files to lines) (xs ++ ys) = whole-only (due_files to lines) xs ys (Ok count) (listed-asks lines xs listed) f in
    record {
      lines = lines;
      told = inr (xs, ys, refl, listed, tt);
      came = record {
        count = sym (deleted-is to lines xs ys count listed f);
        order = (xs, ys, refl, listed, f);
        row = all-deleted to lines xs f.0 f.1 ys count listed f.2 f.3 f.4;
      };
      only = only;
      settled = only-settled (due_files to lines) (xs ++ ys) only;
    }
done-of to lines xs ys (Err e) listed f =
    let only : AreDeleting (due_files to lines) (xs ++ ys) = whole-only (due_files to lines) xs ys (Err e) (listed-asks lines xs listed) f in
    record {
      lines = lines;
      told = inr (xs, ys, refl, listed, tt);
      came = stopped-behind xs ys e f.cause;
      only = only;
      settled = only-settled (due_files to lines) (xs ++ ys) only;
    }

pub whole : {S : Type 0} (did : S → List Event → S → Type 0) → GoesOn did → (p q r : S) (to : ℕ) (lines : List BackupLine) (files : List ℕ) (result : Result ℕ Refusal) → files ≡ due_files to lines
    → Call did p q (λ events. Lists events (Ok lines)) → Call did q r (λ events. Ends files events result) → Call did p r (λ events. HistoryDeletion to events result)
whole did goes p q r to lines files result is a b =
    call_then did goes (λ events. Listed events lines) (λ events. Ends (due_files to lines) events result) (λ events. HistoryDeletion to events result) p q r a
    (subst (λ (ls : List ℕ). Call did q r (λ events. Ends ls events result)) is b)
    (λ xs ys f g. done-of to lines xs ys result f g)

-- without lines to go by nothing is done
unlisted-of : (to : ℕ) (events : List Event) (e : Refusal) → IsStopped events e → AreAsking events → HistoryDeletion to events (Err e)
unlisted-of to events e stopped asks = record {
  lines = [];
  told = inl refl;
  came = stopped;
  only = asking-deletes (due_files to []) events asks;
  settled = only-settled (due_files to []) events (asking-deletes (due_files to []) events asks);
}

pub unlisted : {S : Type 0} (did : S → List Event → S → Type 0) (p q : S) (to : ℕ) (e : Refusal) → Call did p q (λ events. Lists events (Err e)) → Call did p q (λ events. HistoryDeletion to events (Err e))
unlisted did p q to e a = so_call did (λ events. Lists events (Err e)) (λ events. HistoryDeletion to events (Err e)) p q a (λ xs f. unlisted-of to xs e f.0 f.1)

-- no memory for the files
pub unwritten : {S : Type 0} (did : S → List Event → S → Type 0) (p q : S) (to : ℕ) (lines : List BackupLine) (e : Refusal) → e ≡ refused.Memory → Call did p q (λ events. Lists events (Ok lines))
    → Call did p q (λ events. HistoryDeletion to events (Err e))
unwritten did p q to lines e is a =
    so_call did (λ events. Listed events lines) (λ events. HistoryDeletion to events (Err e)) p q a (λ xs f. unlisted-of to xs e (inl is) (listed-asks lines xs f))
