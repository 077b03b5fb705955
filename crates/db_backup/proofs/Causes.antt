-- What a backup's steps are, and why it is refused.
use Rattle.std.proofs.Common.{◌≡◌, ◌⊎◌, inl, inr, ℕ, ◌==◌, ◌||◌, Bool, true, false, if◌then◌else◌, List, [], ◌∷◌, ◌++◌, length, Option, None, Some, Result, Ok, Err, refl, sym, ap, subst, ◌∙◌}
use Rattle.std.proofs.lemmas.Bool.{and_parts, eqb-true, false≢true}
use Rattle.std.proofs.lemmas.List.{append-nil}
use Rattle.std.specs.List.{AllByRecursion, list_all, list_any}
use Rattle.kinds.specs.Refusals.{number_of}
use Rattle.kinds.specs.declared.refusal.Refusal.{Refusal}
use Rattle.kinds.specs.declared.refusal.Refusal.TheVariants as refused
use Rattle.entries.specs.declared.change.Change.TheVariants.{DbDelete}
use Rattle.inventory_answers.specs.declared.lines.BackupLine.{BackupLine}
use Rattle.copy_attempts.proofs.Facts.{all-append}
use Rattle.copy_attempts.specs.Attempts.{is_stopping, stopping}
use Rattle.copy_runs.proofs.Ending.{stopped-behind}
use Rattle.copy_runs.specs.Ends.{AreAsking, IsAsking, IsStopped, Unanswered}
use Rattle.sessions.proofs.Causes.{HasEnds, caused-before, caused-behind, has-ends, limited-caused, made-all, obtains-all, obtains-caused, then-all}
use Rattle.sessions.specs.Changing.{Changing, IsOf as IsChanging, numbers as changing_numbers}
use Rattle.sessions.specs.Checkpoints.{AreMore}
use Rattle.sessions.specs.Outcomes.{HasCause, IsCaused}
use Rattle.steps.proofs.Joining.{GoesOn, so_call, then_call}
use Rattle.steps.specs.declared.image.ImageKind.{ImageKind}
use Rattle.steps.specs.declared.image.ImageKind.TheVariants as image
use Rattle.steps.specs.declared.image.ImageReply.TheVariants as reply
use Rattle.steps.specs.Calls.{Call, Made, Then}
use Rattle.steps.specs.Events.{Deed, Event, event, has_number}
use Rattle.steps.specs.Events.Deed.{OpenNew, OpenCopy, WritePiece, CopyPiece, Seal, Commit, DropTicket, ReadPiece, Ask, Image, Reuse, Force}
use Rattle.steps.specs.Spent.{AreSettled, IsSettled}
use Rattle.db_backup.specs.declared.taking.Taken.{Taken}
use Rattle.db_backup.specs.Backups.{DatabaseBackup, Follows, FollowsNewest, HasBar, HasNone, IncrementalBackup, IsBarred, IsFollowing, Listed}
use Rattle.db_backup.specs.Listing.{newest_file}
use Rattle.db_backup.specs.Taking.{Backs, Begins, BreaksOff, Completes, Continues, GivesUp, IsOf, Opens, Starts, TakesOff, begun_file, failed_file, kind_of, numbers, since_numbers, unbegun, unwritten, whole_numbers}

-- ---- numbers

-- each of some numbers is among others
abbrev are_among : List ℕ → List ℕ → Bool
are_among xs ys = list_all (λ x. list_any (λ y. y == x) ys) xs

pub among-all : (xs ys : List ℕ) (k : ℕ) → are_among xs ys ≡ true → list_any (λ n. n == k) xs ≡ true → list_any (λ n. n == k) ys ≡ true
among-all [] ys k all h = absurd (false≢true h)
among-all (x ∷ xs) ys k all h =
    let parts = and_parts (list_any (λ y. y == x) ys) (are_among xs ys) all in
    elim (x == k) as (λ t. (x == k) ≡ t → (t || list_any (λ n. n == k) xs) ≡ true → list_any (λ n. n == k) ys ≡ true) [
      | true ↦ λ t _. subst (λ (m : ℕ). list_any (λ n. n == m) ys ≡ true) (eqb-true x k t) parts.0
      | false ↦ λ t c. among-all xs ys k parts.1 c
    ] refl h

pub number-among : (xs ys : List ℕ) (e : Refusal) → are_among xs ys ≡ true → has_number xs e ≡ true → has_number ys e ≡ true
number-among xs ys e all h = among-all xs ys (number_of e) all h

-- those of a whole backup are those of any
numbers-more : (kind : ImageKind) (e : Refusal) → has_number whole_numbers e ≡ true → has_number (numbers kind) e ≡ true
numbers-more image.Checkpoint e h = h
numbers-more image.Backup e h = h
numbers-more (image.Since after) e h = number-among whole_numbers since_numbers e refl h
numbers-more image.Next e h = h

numbers-end : (kind : ImageKind) → HasEnds (numbers kind)
numbers-end image.Checkpoint = has-ends whole_numbers refl refl
numbers-end image.Backup = has-ends whole_numbers refl refl
numbers-end (image.Since after) = has-ends since_numbers refl refl
numbers-end image.Next = has-ends whole_numbers refl refl

stopping-among : (kind : ImageKind) (e : Refusal) → is_stopping e ≡ true → has_number (numbers kind) e ≡ true
stopping-among kind e h = numbers-more kind e (number-among (21 ∷ 31 ∷ 40 ∷ 41 ∷ 50 ∷ []) whole_numbers e refl h)

unwritten-among : (kind : ImageKind) (e : Refusal) → has_number (25 ∷ 31 ∷ 40 ∷ 41 ∷ 50 ∷ []) e ≡ true → has_number (numbers kind) e ≡ true
unwritten-among kind e h = numbers-more kind e (number-among (25 ∷ 31 ∷ 40 ∷ 41 ∷ 50 ∷ []) whole_numbers e refl h)

-- ---- no others

abbrev Only : ImageKind → List Event → Type 0
Only kind events = AllByRecursion (λ e. IsOf kind e.deed) events

begins-only : (kind : ImageKind) (answer : Result Taken Refusal) (events : List Event) → Begins kind answer events → Only kind events
begins-only kind (Ok t) events f = made-all (λ e. IsOf kind e.deed) (Image kind (Ok (reply.Begun t.file t.seq))) events f (λ n. inl refl)
begins-only kind (Err e) events (inl (why, same, f)) = made-all (λ e. IsOf kind e.deed) (Image kind (Err why)) events f (λ n. inl refl)
begins-only kind (Err e) events (inr (told, same, f)) = made-all (λ e. IsOf kind e.deed) (Image kind (Ok told)) events f (λ n. inl refl)

opens-only : (kind : ImageKind) (events : List Event) (result : Result Taken Refusal) → Opens kind events result → Only kind events
opens-only kind events result h = obtains-all (λ e. IsOf kind e.deed) (λ n answer. tt) (Begins kind) (begins-only kind) events result h

more-only : (kind : ImageKind) (events : List Event) → AreMore events → Only kind events
more-only kind [] h = tt
more-only kind (x ∷ xs) h = (subst (λ (d : Deed). IsOf kind d) (sym h.0) (inr refl), more-only kind xs h.1)

breaks-only : (kind : ImageKind) (count : ℕ) (e : Refusal) (events : List Event) → BreaksOff count e events → Only kind events
breaks-only kind count e events (inl (why, same, f)) = made-all (λ e. IsOf kind e.deed) (Image image.Next (Err why)) events f (λ n. inr refl)
breaks-only kind count e events (inr (inl (file, seq, same, f))) = made-all (λ e. IsOf kind e.deed) (Image image.Next (Ok (reply.Begun file seq))) events f (λ n. inr refl)
breaks-only kind count e events (inr (inr h)) = subst (Only kind) (sym h.2) tt

continues-only : (kind : ImageKind) (events : List Event) (result : Result ℕ Refusal) → Continues events result → Only kind events
continues-only kind events (Ok seq) (xs, ys, cut, more, f) =
    then-all (λ e. IsOf kind e.deed) events xs ys cut (more-only kind xs more) (made-all (λ e. IsOf kind e.deed) (Image image.Next (Ok (reply.Done seq))) ys f (λ n. inr refl))
continues-only kind events (Err e) (zs, (xs, ys, cut, more, f)) = then-all (λ e. IsOf kind e.deed) events xs ys cut (more-only kind xs more.1) (breaks-only kind (length zs) e ys f)

-- a step of the change that takes a backup off the list is one of a backup's
changing-is : (kind : ImageKind) (file : ℕ) (d : Deed) → IsChanging (DbDelete file) d → IsOf kind d
changing-is kind file (OpenNew pool size prefer answer) h = absurd h
changing-is kind file (OpenCopy object aim avoid answer) h = absurd h
changing-is kind file (WritePiece ticket bytes answer) h = absurd h
changing-is kind file (CopyPiece ticket answer) h = absurd h
changing-is kind file (Seal ticket answer) h = absurd h
changing-is kind file (Commit asked tickets answer) h = (file, h.0, h.1)
changing-is kind file (DropTicket ticket answer) h = absurd h
changing-is kind file (ReadPiece object kept from offset wanted answer) h = absurd h
changing-is kind file (Ask query answer) h = absurd h
changing-is kind file (Image other answer) h = absurd h
changing-is kind file (Reuse other answer) h = absurd h
changing-is kind file (Force answer) h = tt

changing-only : (kind : ImageKind) (file : ℕ) (events : List Event) → AllByRecursion (λ e. IsChanging (DbDelete file) e.deed) events → Only kind events
changing-only kind file [] h = tt
changing-only kind file (x ∷ xs) h = (changing-is kind file x.deed h.0, changing-only kind file xs h.1)

off-only : (kind : ImageKind) (file : ℕ) (events : List Event) (result : Result (Unit {0}) Refusal) → TakesOff file events result → Only kind events
off-only kind file events result (inl (number, c, is)) = changing-only kind file events c.only
off-only kind file events result (inr (why, c, is)) = changing-only kind file events c.only

gives-only : (kind : ImageKind) (file : Option ℕ) (e answer : Refusal) (events : List Event) → GivesUp file e events answer → Only kind events
gives-only kind None e answer events h = subst (Only kind) (sym h.0) tt
gives-only kind (Some file) e answer events (inl h) = off-only kind file events (Ok tt) h.0
gives-only kind (Some file) e answer events (inr h) = off-only kind file events (Err answer) h

starts-only : (kind : ImageKind) (events : List Event) (result : Result Taken Refusal) → Starts kind events result → Only kind events
starts-only kind events (Ok t) h = opens-only kind events (Ok t) h
starts-only kind events (Err e) (why, (xs, ys, cut, h, f)) =
    then-all (λ e. IsOf kind e.deed) events xs ys cut (opens-only kind xs (Err why) h) (gives-only kind (failed_file why) why e ys f)

completes-only : (kind : ImageKind) (t : Taken) (events : List Event) (result : Result Taken Refusal) → Completes t events result → Only kind events
completes-only kind t events (Ok done) (is, seq, last, (xs, ys, cut, h, f)) =
    then-all (λ e. IsOf kind e.deed) events xs ys cut (continues-only kind xs (Ok seq) h) (made-all (λ e. IsOf kind e.deed) (Force (Ok last)) ys f (λ n. tt))
completes-only kind t events (Err e) (inl (why, (xs, ys, cut, h, f))) =
    then-all (λ e. IsOf kind e.deed) events xs ys cut (continues-only kind xs (Err why) h) (gives-only kind (begun_file t.file why) why e ys f)
completes-only kind t events (Err e) (inr (seq, why, is, (xs, ys, cut, h, f))) =
    then-all (λ e. IsOf kind e.deed) events xs ys cut (continues-only kind xs (Ok seq) h) (made-all (λ e. IsOf kind e.deed) (Force (Err why)) ys f (λ n. tt))

backs-only : (kind : ImageKind) (events : List Event) (result : Result Taken Refusal) → Backs kind events result → Only kind events
backs-only kind events result (inl (e, h, is)) = starts-only kind events (Err e) h
backs-only kind events result (inr (t, (xs, ys, cut, h, f))) = then-all (λ e. IsOf kind e.deed) events xs ys cut (starts-only kind xs (Ok t) h) (completes-only kind t ys result f)

-- ---- causes

begins-caused : (kind : ImageKind) (answer : Result Taken Refusal) (events : List Event) → Begins kind answer events → HasCause (numbers kind) events answer
begins-caused kind (Ok t) events h = tt
begins-caused kind (Err e) events (inl (why, same, f)) =
    subst (λ (x : Refusal). IsCaused (numbers kind) events x) (sym same) (limited-caused (numbers kind) why (Image kind (Err why)) events (has_number (numbers kind) why) f refl (λ t. t))
begins-caused kind (Err e) events (inr (told, same, f)) = inl same

opens-caused : (kind : ImageKind) (events : List Event) (result : Result Taken Refusal) → Opens kind events result → HasCause (numbers kind) events result
opens-caused kind events result h = obtains-caused (numbers kind) (numbers-end kind) (Begins kind) (begins-caused kind) events result h

breaks-caused : (kind : ImageKind) (count : ℕ) (e : Refusal) (events : List Event) → BreaksOff count e events → IsCaused (numbers kind) events e
breaks-caused kind count e events (inl (why, same, f)) =
    subst (λ (x : Refusal). IsCaused (numbers kind) events x) (sym same)
    (limited-caused (numbers kind) why (Image image.Next (Err why)) events (has_number (25 ∷ 31 ∷ 40 ∷ 41 ∷ 50 ∷ []) why) f refl (λ t. unwritten-among kind why t))
breaks-caused kind count e events (inr (inl (file, seq, same, f))) = inl same
breaks-caused kind count e events (inr (inr h)) = inl h.1

continues-caused : (kind : ImageKind) (events : List Event) (e : Refusal) → Continues events (Err e) → IsCaused (numbers kind) events e
continues-caused kind events e (zs, (xs, ys, cut, more, f)) =
    subst (λ (es : List Event). IsCaused (numbers kind) es e) (sym cut) (caused-behind (numbers kind) xs ys e (breaks-caused kind (length zs) e ys f))

-- a refusal that a process ends with, of one that has a cause
stopping-caused : (kind : ImageKind) (list : List ℕ) (why : Refusal) (events : List Event) → IsCaused list events why → IsCaused (numbers kind) events (stopping why)
stopping-caused kind list why events (inl memory) = inl (ap stopping memory)
stopping-caused kind list why events (inr h) = elim (is_stopping why) as (λ b. is_stopping why ≡ b → IsCaused (numbers kind) events (if b then why else refused.Memory)) [
  | true ↦ λ t. inr (stopping-among kind why t, h.1)
  | false ↦ λ t. inl refl
] refl

gone-caused : (kind : ImageKind) (list : List ℕ) (why answer : Refusal) (events : List Event) → IsCaused list events why → (ten : Bool) → ◌≡◌ {A = Result (Unit {0}) Refusal} (Err answer) (if ten then Ok tt else Err (stopping why)) → IsCaused (numbers kind) events answer
gone-caused kind list why answer events h true is = absurd cc
gone-caused kind list why answer events h false is =
    let same : answer ≡ stopping why = cc in
    subst (λ (x : Refusal). IsCaused (numbers kind) events x) (sym same) (stopping-caused kind list why events h)

off-caused : (kind : ImageKind) (file : ℕ) (answer : Refusal) (events : List Event) → TakesOff file events (Err answer) → IsCaused (numbers kind) events answer
off-caused kind file answer events (inl (number, c, is)) = absurd cc
off-caused kind file answer events (inr (why, c, is)) = gone-caused kind changing_numbers why answer events c.cause (number_of why == 10) is

-- what is given up ends with its own refusal, or with that of the transaction that takes it off the list
gives-caused : (kind : ImageKind) (file : Option ℕ) (e answer : Refusal) (xs ys : List Event) → IsCaused (numbers kind) xs e → GivesUp file e ys answer → IsCaused (numbers kind) (xs ++ ys) answer
gives-caused kind None e answer xs ys h (none, is) = subst (λ (x : Refusal). IsCaused (numbers kind) (xs ++ ys) x) (sym is) (caused-before (numbers kind) xs ys e h)
gives-caused kind (Some file) e answer xs ys h (inl (off, is)) = subst (λ (x : Refusal). IsCaused (numbers kind) (xs ++ ys) x) (sym is) (caused-before (numbers kind) xs ys e h)
gives-caused kind (Some file) e answer xs ys h (inr off) = caused-behind (numbers kind) xs ys answer (off-caused kind file answer ys off)

starts-caused : (kind : ImageKind) (events : List Event) (e : Refusal) → Starts kind events (Err e) → IsCaused (numbers kind) events e
starts-caused kind events e (why, (xs, ys, cut, h, f)) =
    subst (λ (es : List Event). IsCaused (numbers kind) es e) (sym cut) (gives-caused kind (failed_file why) why e xs ys (opens-caused kind xs (Err why) h) f)

completes-caused : (kind : ImageKind) (t : Taken) (events : List Event) (result : Result Taken Refusal) → Completes t events result → HasCause (numbers kind) events result
completes-caused kind t events (Ok done) h = tt
completes-caused kind t events (Err e) (inl (why, (xs, ys, cut, h, f))) =
    subst (λ (es : List Event). IsCaused (numbers kind) es e) (sym cut) (gives-caused kind (begun_file t.file why) why e xs ys (continues-caused kind xs why h) f)
completes-caused kind t events (Err e) (inr (seq, why, is, (xs, ys, cut, h, f))) =
    subst (λ (es : List Event). IsCaused (numbers kind) es e) (sym cut)
    (caused-behind (numbers kind) xs ys e
    (subst (λ (x : Refusal). IsCaused (numbers kind) ys x) (sym is) (limited-caused (numbers kind) why (Force (Err why)) ys (is_stopping why) f refl (λ t. stopping-among kind why t))))

backs-caused : (kind : ImageKind) (events : List Event) (result : Result Taken Refusal) → Backs kind events result → HasCause (numbers kind) events result
backs-caused kind events result (inl (e, h, is)) = subst (λ (r : Result Taken Refusal). HasCause (numbers kind) events r) (sym is) (starts-caused kind events e h)
backs-caused kind events (Ok done) (inr h) = tt
backs-caused kind events (Err e) (inr (t, (xs, ys, cut, h, f))) =
    subst (λ (es : List Event). IsCaused (numbers kind) es e) (sym cut) (caused-behind (numbers kind) xs ys e (completes-caused kind t ys (Err e) f))

-- ---- tickets

of-settled : (kind : ImageKind) (d : Deed) (later : List Event) → IsOf kind d → IsSettled d later
of-settled kind (OpenNew pool size prefer answer) later h = absurd h
of-settled kind (OpenCopy object aim avoid answer) later h = absurd h
of-settled kind (WritePiece ticket bytes answer) later h = tt
of-settled kind (CopyPiece ticket answer) later h = tt
of-settled kind (Seal ticket answer) later h = tt
of-settled kind (Commit asked tickets answer) later h = tt
of-settled kind (DropTicket ticket answer) later h = tt
of-settled kind (ReadPiece object kept from offset wanted answer) later h = tt
of-settled kind (Ask query answer) later h = tt
of-settled kind (Image other answer) later h = tt
of-settled kind (Reuse file answer) later h = tt
of-settled kind (Force answer) later h = tt

only-settled : (kind : ImageKind) (events : List Event) → Only kind events → AreSettled events
only-settled kind [] h = tt
only-settled kind (x ∷ xs) h = (of-settled kind x.deed xs h.0, only-settled kind xs h.1)

-- ---- the whole

pub backup-of : (after : Option ℕ) (events : List Event) (result : Result Taken Refusal) → Backs (kind_of after) events result → DatabaseBackup after events result
backup-of after events result h = record {
  order = h;
  only = backs-only (kind_of after) events result h;
  cause = backs-caused (kind_of after) events result h;
  settled = only-settled (kind_of after) events (backs-only (kind_of after) events result h);
}

pub backup-by : {S : Type 0} (did : S → List Event → S → Type 0) (p q : S) (after : Option ℕ) (result : Result Taken Refusal) → Call did p q (λ events. Backs (kind_of after) events result)
    → Call did p q (λ events. DatabaseBackup after events result)
backup-by did p q after result a = so_call did (λ events. Backs (kind_of after) events result) (λ events. DatabaseBackup after events result) p q a (λ xs h. backup-of after xs result h)

-- ---- one that follows the newest

abbrev AreFollowing : List Event → Type 0
AreFollowing events = AllByRecursion (λ e. IsFollowing e.deed) events

asks-following : (events : List Event) → AreAsking events → AreFollowing events
asks-following [] h = tt
asks-following (x ∷ xs) h = (inl h.0, asks-following xs h.1)

since-following : (file : ℕ) (events : List Event) → Only (image.Since file) events → AreFollowing events
since-following file [] h = tt
since-following file (x ∷ xs) h = (inr (file, h.0), since-following file xs h.1)

listed-following : (events : List Event) (lines : List BackupLine) → Listed events lines → AreFollowing events
listed-following events lines h = subst AreFollowing (sym h.2) (inl (_, _, refl), tt)

follows-following : (after : Option ℕ) (events : List Event) (result : Result Taken Refusal) → Follows after events result → AreFollowing events
follows-following None events result h = subst AreFollowing (sym h.0) tt
follows-following (Some file) events result h = since-following file events h.only

newest-following : (events : List Event) (result : Result Taken Refusal) → FollowsNewest events result → AreFollowing events
newest-following events result (inl (e, un, is)) = asks-following events un.1
newest-following events result (inr (lines, (xs, ys, cut, listed, f))) =
    subst AreFollowing (sym cut) (all-append (λ e. IsFollowing e.deed) xs ys (listed-following xs lines listed) (follows-following (newest_file lines) ys result f))

following-settled : (d : Deed) (later : List Event) → IsFollowing d → IsSettled d later
following-settled d later (inl h) = subst (λ (k : Deed). IsSettled k later) (sym h.2) tt
following-settled d later (inr (file, h)) = of-settled (image.Since file) d later h

all-settled : (events : List Event) → AreFollowing events → AreSettled events
all-settled [] h = tt
all-settled (x ∷ xs) h = (following-settled x.deed xs h.0, all-settled xs h.1)

nothing-behind : (events xs ys : List Event) → events ≡ xs ++ ys → ys ≡ [] → xs ≡ events
nothing-behind events xs ys cut none = sym (cut ∙ ap (λ (l : List Event). xs ++ l) none ∙ append-nil xs)

follows-barred : (lines : List BackupLine) (after : Option ℕ) (events xs ys : List Event) (result : Result Taken Refusal) → newest_file lines ≡ after → events ≡ xs ++ ys → Listed xs lines → Follows after ys result → HasBar events result
follows-barred lines after events xs ys (Ok t) is cut listed h = tt
follows-barred lines None events xs ys (Err e) is cut listed (none, same) =
    let why : e ≡ refused.NotFound = cc in
    inr (inl (why, lines, subst (λ (l : List Event). Listed l lines) (nothing-behind events xs ys cut none) listed, is))
follows-barred lines (Some file) events xs ys (Err e) is cut listed h =
    inr (inr (subst (λ (l : List Event). IsCaused since_numbers l e) (sym cut) (caused-behind since_numbers xs ys e h.cause)))

newest-barred : (events : List Event) (result : Result Taken Refusal) → FollowsNewest events result → HasBar events result
newest-barred events result (inl (e, un, is)) = subst (λ (r : Result Taken Refusal). HasBar events r) (sym is) (inl un.0)
newest-barred events result (inr (lines, (xs, ys, cut, listed, f))) = follows-barred lines (newest_file lines) events xs ys result refl cut listed f

pub increment-by : {S : Type 0} (did : S → List Event → S → Type 0) (p q : S) (result : Result Taken Refusal) → Call did p q (λ events. FollowsNewest events result) → Call did p q (λ events. IncrementalBackup events result)
increment-by did p q result a =
    so_call did (λ events. FollowsNewest events result) (λ events. IncrementalBackup events result) p q a
    (λ xs h. record {
      order = h;
      only = newest-following xs result h;
      cause = newest-barred xs result h;
      settled = all-settled xs (newest-following xs result h);
    })

pub follows-not : {S : Type 0} (did : S → List Event → S → Type 0) (p q : S) (e : Refusal) → Call did p q (λ events. Unanswered events e) → Call did p q (λ events. FollowsNewest events (Err e))
follows-not did p q e a = so_call did (λ events. Unanswered events e) (λ events. FollowsNewest events (Err e)) p q a (λ xs h. inl (e, h, refl))

pub follows-on : {S : Type 0} (did : S → List Event → S → Type 0) → GoesOn did → (p q r : S) (lines : List BackupLine) (after : Option ℕ) (result : Result Taken Refusal) → after ≡ newest_file lines
    → Call did p q (λ events. Listed events lines) → Call did q r (λ events. Follows after events result) → Call did p r (λ events. FollowsNewest events result)
follows-on did goes p q r lines after result is a b =
    so_call did (λ events. Then (λ xs. Listed xs lines) (λ ys. Follows after ys result) events) (λ events. FollowsNewest events result) p r
    (then_call did goes (λ events. Listed events lines) (λ events. Follows after events result) p q r a b)
    (λ xs f. inr (lines, subst (λ (o : Option ℕ). Then (λ zs. Listed zs lines) (λ ys. Follows o ys result) xs) is f))
