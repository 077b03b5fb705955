-- What the parts of the deletion of a volume did, one after the other.
use Rattle.std.proofs.Common.{◌≡◌, ◌⊎◌, inl, inr, ℕ, ◌+◌, ◌==◌, cond, Bool, true, false, List, [], ◌∷◌, ◌++◌, append_assoc, map, length, Option, None, Some, Result, Ok, Err, refl, sym, ap, subst, ◌∙◌, arith, if◌then◌else◌}
use Rattle.std.proofs.lemmas.List.{append-nil}
use Rattle.std.specs.List.{AllByRecursion}
use Rattle.kinds.specs.Answers.{Answers}
use Rattle.kinds.specs.Refusals.{number_of}
use Rattle.kinds.specs.declared.refusal.Refusal.{Refusal}
use Rattle.kinds.specs.declared.refusal.Refusal.TheVariants as refused
use Rattle.entries.specs.change_items.declared.items.DroppedCopy.{DroppedCopy}
use Rattle.entries.specs.change_items.declared.reasons.DiscardReason.{DiscardReason}
use Rattle.inventory_answers.specs.declared.lines.PoolLine.{PoolLine}
use Rattle.inventory_answers.specs.declared.lines.VolumeLine.{VolumeLine}
use Rattle.inventory_answers.specs.declared.query.Query.{Query}
use Rattle.inventory_answers.specs.declared.query.Query.TheVariants as query
use Rattle.inventory_answers.specs.declared.reply.Answer.{Answer}
use Rattle.inventory_answers.specs.declared.reply.Rows.TheVariants as rows
use Rattle.inventory_work.specs.declared.lines.CopyLine.{CopyLine}
use Rattle.inventory_work.specs.Copies.{has_volume}
use Rattle.inventory_rows.specs.Search.{segments_on}
use Rattle.steps.proofs.Acknowledged.{receipts-behind}
use Rattle.steps.proofs.Joining.{GoesOn, call_then, does_alone, so_call}
use Rattle.steps.specs.Calls.{Call, Does}
use Rattle.steps.specs.Events.{Deed, Event, event}
use Rattle.steps.specs.Events.Deed.{Ask, Commit, Force}
use Rattle.steps.specs.Receipts.{is_made, made, receipts}
use Rattle.machine.specs.Fits.{Step, inv}
use Rattle.machine.proofs.Runs.{fits-cut, fits-first, fits-one}
use Rattle.copy_attempts.proofs.Facts.{all-append, made-append, met-behind, some-memory}
use Rattle.copy_attempts.specs.Attempts.{stopping}
use Rattle.copy_attempts.specs.Outcomes.{MetBy}
use Rattle.copy_runs.proofs.Ending.{ask-nothing, stopped-behind, unlisted-by}
use Rattle.copy_runs.proofs.Whole.{asks-unmade}
use Rattle.copy_runs.specs.Ends.{AreAsking, AskedPools, AsksPools, IsStopped, IsUnlisted, last_of, unlisted}
use Rattle.deletions.specs.declared.copies.Removed.{Removed}
use Rattle.deletions.specs.declared.objects.Doomed.{Doomed}
use Rattle.deletions.specs.declared.row.Row.{Row}
use Rattle.deletions.specs.Discarding.{AreDiscarding, Works, discards}
use Rattle.deletions.specs.Dropping.{Counts, Drops, IsTaking, doomed, drops, drops_by, drops_in, for_volume}
use Rattle.deletions.specs.Filespaces.{Answered, IsMissing, is_kept_by}
use Rattle.deletions.specs.Volumes.{AreDeleting, Asks, ChecksGone, Cleared, Clears, EmptiedRow, Empties, Ends, Finds, Found, HasNotFound, HasNotGone, HasNotListed, HasOneReceipt, IsCaused, IsDeleting, IsGone, IsInPlace, IsNotThere, IsPlain, IsRefusedLast, IsRowStep, IsUnfound, Listed, Lists, Never, Removes, RemovesRow, RowGone, RowKept, Stops, Taken, TakenOf, Takes, TakesFrom, TakesOf, VolumeDeletion, deleting, gone_by, is_copy_pool, nothing, pool_of, row_found, row_in, row_with}
use Rattle.deletions.proofs.Absent.{is-absent, none-lies, was-there}
use Rattle.deletions.proofs.Dropped.{drops-append, empties-only}
use Rattle.deletions.proofs.Waiting.{row-gone-made, row-gone-only}
use Rattle.deletions.proofs.Gone.{last-behind}
use Rattle.deletions.proofs.Whole.{answered-asks, met-map}
use Rattle.deletions.proofs.Working.{discards-append, handles-only, stopped-by}

-- ---- steps

plain-more : (discard : Bool) (file : ℕ) (d : Deed) → IsPlain file d → IsDeleting discard file d
plain-more true file d h = inl h
plain-more false file d h = h

del-append : (discard : Bool) (file : ℕ) (xs ys : List Event) → AreDeleting discard file xs → AreDeleting discard file ys → AreDeleting discard file (xs ++ ys)
del-append discard file xs ys a b = all-append (λ e. IsDeleting discard file e.deed) xs ys a b

del-more : (discard : Bool) (file : ℕ) (xs : List Event) → AreDeleting false file xs → AreDeleting discard file xs
del-more discard file [] h = tt
del-more discard file (x ∷ xs) h = (plain-more discard file x.deed h.0, del-more discard file xs h.1)

asking-del : (discard : Bool) (file : ℕ) (xs : List Event) → AreAsking xs → AreDeleting discard file xs
asking-del discard file [] h = tt
asking-del discard file (x ∷ xs) h = (plain-more discard file x.deed (inl (inl h.0)), asking-del discard file xs h.1)

taking-del : (file : ℕ) (xs : List Event) → AllByRecursion (λ e. IsTaking file e.deed) xs → AreDeleting true file xs
taking-del file [] h = tt
taking-del file (x ∷ xs) h = (inr h.0, taking-del file xs h.1)

discarding-del : (file : ℕ) (xs : List Event) → AreDiscarding (for_volume file) xs → AreDeleting true file xs
discarding-del file [] h = tt
discarding-del file (x ∷ xs) h = (inr (inr h.0), discarding-del file xs h.1)

row-step-plain : (row : Row) (file : ℕ) (d : Deed) → IsRowStep (deleting row file) d → IsPlain file d
row-step-plain row file d (inl h) = inl h
row-step-plain row file d (inr h) = inr (row, h.0, h.1)

row-del : (discard : Bool) (row : Row) (file : ℕ) (xs : List Event) → AllByRecursion (λ x. IsRowStep (deleting row file) x.deed) xs → AreDeleting discard file xs
row-del discard row file [] h = tt
row-del discard row file (x ∷ xs) h = (plain-more discard file x.deed (row-step-plain row file x.deed h.0), row-del discard row file xs h.1)

-- ---- refusals

caused-behind : (file : ℕ) (xs ys : List Event) (e : Refusal) → IsCaused file ys e → IsCaused file (xs ++ ys) e
caused-behind file xs ys e (inl h) = inl (stopped-behind xs ys e h)
caused-behind file xs ys e (inr (inl h)) = inr (inl (h.0, met-behind (IsNotThere file e) xs ys h.1))
caused-behind file xs ys e (inr (inr h)) = inr (inr (h.0, met-behind (λ d. (row : Row) × (d ≡ Commit (deleting row file) [] (Err e))) xs ys h.1))

place-so : (P Q : List Event → Type 0) (xs : List Event) (e : Refusal) → (P xs → Q xs) → IsStopped xs e ⊎ P xs → IsStopped xs e ⊎ Q xs
place-so P Q xs e more (inl h) = inl h
place-so P Q xs e more (inr h) = inr (more h)

place-behind : (P Q : List Event → Type 0) (xs ys : List Event) (e : Refusal) → (P ys → Q (xs ++ ys)) → IsStopped ys e ⊎ P ys → IsStopped (xs ++ ys) e ⊎ Q (xs ++ ys)
place-behind P Q xs ys e more (inl h) = inl (stopped-behind xs ys e h)
place-behind P Q xs ys e more (inr h) = inr (more h)

stops-behind : (discard : Bool) (file : ℕ) (P Q : List Event → Type 0) (xs ys : List Event) (e : Refusal) → (P ys → Q (xs ++ ys)) → AreDeleting discard file xs → Stops discard file P ys e → Stops discard file Q (xs ++ ys) e
stops-behind discard file P Q xs ys e more a h = record { cause = caused-behind file xs ys e h.cause; only = del-append discard file xs ys a h.only; place = place-behind P Q xs ys e more h.place }

stops-more : (discard : Bool) (file : ℕ) (P : List Event → Type 0) (xs : List Event) (e : Refusal) → Stops false file P xs e → Stops discard file P xs e
stops-more discard file P xs e h = record { cause = h.cause; only = del-more discard file xs h.only; place = h.place }

wanting : (discard : Bool) (file : ℕ) (P : List Event → Type 0) (xs : List Event) (e : Refusal) → e ≡ refused.Memory → AreDeleting discard file xs → Stops discard file P xs e
wanting discard file P xs e is only = record { cause = inl (inl is); only = only; place = inl (inl is) }

unlisted-caused : (file : ℕ) (q : Query) (xs : List Event) (e : Refusal) → IsUnlisted q xs e → IsCaused file xs e
unlisted-caused file q xs e (inl h) = inl h
unlisted-caused file q xs e (inr h) = inr (inl (h.0, met-map (λ d. d ≡ Ask q (Err e)) (IsNotThere file e) xs (λ d is. inl (q, is)) h.1))

-- ---- questions

pub asked-told : {S : Type 0} (did : S → List Event → S → Type 0) (p q : S) (asked : Query) (answer : Answer) → Does did p q (Ask asked (Ok answer)) → Call did p q (λ events. Asks asked events (Ok answer))
asked-told did p q asked answer d = does_alone did (λ events. Asks asked events (Ok answer)) p q (Ask asked (Ok answer)) d (λ n listed. (n, refl)) (λ m. absurd cc)

pub asked-refused : {S : Type 0} (did : S → List Event → S → Type 0) (p q : S) (asked : Query) (e other : Refusal) → other ≡ unlisted e → Does did p q (Ask asked (Err e))
    → Call did p q (λ events. Asks asked events (Err other))
asked-refused did p q asked e other is d = subst (λ (x : Refusal). Call did p q (λ events. Asks asked events (Err x))) (sym is) (unlisted-by did p q asked e d)

unlisted-place : (So : Deed → Type 0) (q : Query) (xs : List Event) (e : Refusal) → ((d : Deed) → d ≡ Ask q (Err e) → So d) → IsUnlisted q xs e → AreAsking xs → IsStopped xs e ⊎ IsMissing So xs e
unlisted-place So q xs e more (inl h) asks = inl h
unlisted-place So q xs e more (inr h) asks = inr (h.0, asks, met-map (λ d. d ≡ Ask q (Err e)) So xs more h.1)

pub unasked : {S : Type 0} (did : S → List Event → S → Type 0) (p q : S) (file : ℕ) (So : Deed → Type 0) (asked : Query) (e : Refusal) → ((d : Deed) → d ≡ Ask asked (Err e) → So d)
    → Call did p q (λ events. Asks asked events (Err e)) → Call did p q (λ events. Stops false file (λ es. IsMissing So es e) events e)
unasked did p q file So asked e more a =
    so_call did (λ events. Asks asked events (Err e)) (λ events. Stops false file (λ es. IsMissing So es e) events e) p q a
    (λ xs f. record { cause = unlisted-caused file asked xs e f.0; only = asking-del false file xs f.1; place = unlisted-place So asked xs e more f.0 f.1 })

-- an answer without the rows that were asked for
pub asked-nothing : {S : Type 0} (did : S → List Event → S → Type 0) (p q : S) (file : ℕ) (P : List Event → Type 0) (asked : Query) (answer : Answer) (e : Refusal) → e ≡ refused.Memory
    → Call did p q (λ events. Asks asked events (Ok answer)) → Call did p q (λ events. Stops false file P events e)
asked-nothing did p q file P asked answer e is a =
    so_call did (λ events. Answered asked events answer) (λ events. Stops false file P events e) p q a (λ xs f. wanting false file P xs e is (asking-del false file xs (answered-asks asked xs answer f)))

row-err : (o : Option VolumeLine) (e : Refusal) → row_found o ≡ Err e → e ≡ refused.NotFound
row-err None e h = let same : refused.NotFound ≡ e = cc in sym same
row-err (Some line) e h = absurd cc

found-or : (file : ℕ) (answer : Answer) (lines those : List VolumeLine) (result : Result Row Refusal) (xs : List Event) → those ≡ lines → answer.rows ≡ rows.Volumes lines
    → Answers result (row_in file those) → Answered (query.Volumes None None) xs answer → Finds file xs result
found-or file answer lines those (Ok row) xs same is said a = (answer, lines, a, is, sym (ap (row_in file) same) ∙ said)
found-or file answer lines those (Err e) xs same is (inl memory) a = wanting false file (HasNotFound file e) xs e memory (asking-del false file xs (answered-asks (query.Volumes None None) xs answer a))
found-or file answer lines those (Err e) xs same is (inr said) a =
    let none : row_in file lines ≡ Err e = sym (ap (row_in file) same) ∙ said in
    let not_found : e ≡ refused.NotFound = row-err (row_with file lines) e none in
    let ten : (number_of e == 10) ≡ true = ap (λ (x : Refusal). number_of x == 10) not_found in
    let asks : AreAsking xs = answered-asks (query.Volumes None None) xs answer a in
    record {
      cause = inr (inl (ten, subst (λ (es : List Event). MetBy (IsNotThere file e) es) (sym a.1) (inl (inr (answer, lines, refl, is, none)))));
      only = asking-del false file xs asks;
      place = inr (ten, asks, subst (λ (es : List Event). MetBy (IsUnfound file e) es) (sym a.1) (inl (inr (answer, lines, refl, is, none))));
    }

pub finds-row : {S : Type 0} (did : S → List Event → S → Type 0) (p q : S) (file : ℕ) (answer : Answer) (lines those : List VolumeLine) (result : Result Row Refusal) → those ≡ lines
    → answer.rows ≡ rows.Volumes lines → Answers result (row_in file those) → Call did p q (λ events. Asks (query.Volumes None None) events (Ok answer)) → Call did p q (λ events. Finds file events result)
finds-row did p q file answer lines those result same is said a =
    so_call did (λ events. Answered (query.Volumes None None) events answer) (λ events. Finds file events result) p q a (λ xs f. found-or file answer lines those result xs same is said f)

pub lists-copies : {S : Type 0} (did : S → List Event → S → Type 0) (p q : S) (file : ℕ) (answer : Answer) (result : Result (List CopyLine) Refusal)
    → ((lines : List CopyLine) → result ≡ Ok lines → answer.rows ≡ rows.OnVolume lines) → ((e : Refusal) → result ≡ Err e → e ≡ refused.Memory)
    → Call did p q (λ events. Asks (query.OnVolume file) events (Ok answer)) → Call did p q (λ events. Lists file events result)
lists-copies did p q file answer (Ok lines) good bad a =
    so_call did (λ events. Answered (query.OnVolume file) events answer) (λ events. Lists file events (Ok lines)) p q a (λ xs f. (answer, f, good lines refl))
lists-copies did p q file answer (Err e) good bad a = asked-nothing did p q file (HasNotListed file e) (query.OnVolume file) answer e (bad e refl) a

-- ---- what lies on the volume

dropped-or : (file : ℕ) (lines : List CopyLine) (result : Result Removed Refusal) (xs : List Event) → Drops file lines xs result → Takes true file lines xs result
dropped-or file lines (Ok m) xs f = f
dropped-or file lines (Err e) xs f = record { cause = inl f.cause; only = taking-del file xs f.only; place = inl f.cause }

pub takes-dropped : {S : Type 0} (did : S → List Event → S → Type 0) (p q : S) (file : ℕ) (lines : List CopyLine) (result : Result Removed Refusal) → Call did p q (λ events. Drops file lines events result)
    → Call did p q (λ events. Takes true file lines events result)
takes-dropped did p q file lines result a = so_call did (λ events. Drops file lines events result) (λ events. Takes true file lines events result) p q a (λ xs f. dropped-or file lines result xs f)

pub takes-discarded : {S : Type 0} (did : S → List Event → S → Type 0) (p q : S) (file : ℕ) (lines : List CopyLine) (objects : List Doomed) (count : ℕ) → objects ≡ map doomed lines
    → Call did p q (λ events. Works (for_volume file) objects events (Ok count)) → Call did p q (λ events. Takes false file lines events (Ok (record { discarded = count; dropped = 0 })))
takes-discarded did p q file lines objects count is a =
    so_call did (λ events. Works (for_volume file) objects events (Ok count)) (λ events. Taken false file lines events (record { discarded = count; dropped = 0 })) p q a
    (λ xs f. (subst (λ (os : List Doomed). Works (for_volume file) os xs (Ok count)) is f, refl))

pub takes-ended : {S : Type 0} (did : S → List Event → S → Type 0) (p q : S) (file : ℕ) (lines : List CopyLine) (objects : List Doomed) (e : Refusal)
    → Call did p q (λ events. Works (for_volume file) objects events (Err e)) → Call did p q (λ events. Takes false file lines events (Err e))
takes-ended did p q file lines objects e a =
    so_call did (λ events. Works (for_volume file) objects events (Err e)) (λ events. Stops true file Never events e) p q a
    (λ xs f. record { cause = inl f.cause; only = discarding-del file xs f.only; place = inl f.cause })

pub takes-wanting : {S : Type 0} (did : S → List Event → S → Type 0) (p : S) (file : ℕ) (lines : List CopyLine) (e : Refusal) → did p [] p → e ≡ refused.Memory
    → Call did p p (λ events. Takes false file lines events (Err e))
takes-wanting did p file lines e stays is = ([], stays, wanting true file Never [] e is tt)

pools-asks : (xs : List Event) (pools : List PoolLine) → AskedPools xs pools → AreAsking xs
pools-asks xs pools h = subst AreAsking (sym h.2) ((query.Pools None, Ok h.1, refl), tt)

from-or : (pool file : ℕ) (lines : List CopyLine) (pools : List PoolLine) (result : Result Removed Refusal) (xs ys : List Event) → AskedPools xs pools
    → Takes (is_copy_pool pool pools) file lines ys result → TakesFrom pool file lines (xs ++ ys) result
from-or pool file lines pools (Ok m) xs ys a b = (pools, (xs, ys, refl, a, b))
from-or pool file lines pools (Err e) xs ys a b = stops-behind true file Never Never xs ys e (λ h. h) (asking-del true file xs (pools-asks xs pools a)) b

pub takes-from : {S : Type 0} (did : S → List Event → S → Type 0) → GoesOn did → (p q r : S) (pool file : ℕ) (lines : List CopyLine) (pools : List PoolLine) (is : Bool) (result : Result Removed Refusal)
    → is ≡ is_copy_pool pool pools → Call did p q (λ events. AsksPools events (Ok pools)) → Call did q r (λ events. Takes is file lines events result)
    → Call did p r (λ events. TakesFrom pool file lines events result)
takes-from did goes p q r pool file lines pools is result same a b =
    call_then did goes (λ events. AskedPools events pools) (λ events. Takes (is_copy_pool pool pools) file lines events result) (λ events. TakesFrom pool file lines events result) p q r a
    (subst (λ (c : Bool). Call did q r (λ events. Takes c file lines events result)) same b) (λ xs ys f g. from-or pool file lines pools result xs ys f g)

pub pools-unasked : {S : Type 0} (did : S → List Event → S → Type 0) (p q : S) (pool file : ℕ) (lines : List CopyLine) (e : Refusal) → Call did p q (λ events. AsksPools events (Err e))
    → Call did p q (λ events. TakesFrom pool file lines events (Err e))
pools-unasked did p q pool file lines e a =
    so_call did (λ events. AsksPools events (Err e)) (λ events. Stops true file Never events e) p q a (λ xs f. record { cause = inl f.0; only = asking-del true file xs f.1; place = inl f.0 })

pub takes-of : {S : Type 0} (did : S → List Event → S → Type 0) (p q : S) (pool file : ℕ) (lines : List CopyLine) (o : Option ℕ) (result : Result Removed Refusal) → o ≡ Some pool
    → Call did p q (λ events. TakesFrom pool file lines events result) → Call did p q (λ events. TakesOf o file lines events result)
takes-of did p q pool file lines o result is a = subst (λ (x : Option ℕ). Call did p q (λ events. TakesOf x file lines events result)) (sym is) (of-some result a) where
  of-some : (r : Result Removed Refusal) → Call did p q (λ events. TakesFrom pool file lines events r) → Call did p q (λ events. TakesOf (Some pool) file lines events r)
  of-some (Ok m) c = c
  of-some (Err e) c = c

pub takes-none : {S : Type 0} (did : S → List Event → S → Type 0) (p : S) (file : ℕ) (lines : List CopyLine) (o : Option ℕ) → did p [] p → o ≡ None
    → Call did p p (λ events. TakesOf o file lines events (Ok nothing))
takes-none did p file lines o stays is = subst (λ (x : Option ℕ). Call did p p (λ events. TakesOf x file lines events (Ok nothing))) (sym is) ([], stays, (refl, refl))

listed-asks : (file : ℕ) (xs : List Event) (lines : List CopyLine) → Listed file xs lines → AreAsking xs
listed-asks file xs lines h = answered-asks (query.OnVolume file) xs h.0 h.1

cleared-or : (file : ℕ) (lines : List CopyLine) (result : Result Removed Refusal) (xs ys : List Event) → Listed file xs lines → TakesOf (pool_of lines) file lines ys result → Clears true file (xs ++ ys) result
cleared-or file lines (Ok m) xs ys a b = (lines, (xs, ys, refl, a, b))
cleared-or file lines (Err e) xs ys a b = stops-behind true file Never (HasNotListed file e) xs ys e (λ h. absurd h) (asking-del true file xs (listed-asks file xs lines a)) b

pub clears-all : {S : Type 0} (did : S → List Event → S → Type 0) → GoesOn did → (p q r : S) (file : ℕ) (lines those : List CopyLine) (result : Result Removed Refusal) → those ≡ lines
    → Call did p q (λ events. Lists file events (Ok lines)) → Call did q r (λ events. TakesOf (pool_of those) file those events result) → Call did p r (λ events. Clears true file events result)
clears-all did goes p q r file lines those result same a b =
    call_then did goes (λ events. Listed file events lines) (λ events. TakesOf (pool_of lines) file lines events result) (λ events. Clears true file events result) p q r a
    (subst (λ (ls : List CopyLine). Call did q r (λ events. TakesOf (pool_of ls) file ls events result)) same b) (λ xs ys f g. cleared-or file lines result xs ys f g)

pub clears-unlisted : {S : Type 0} (did : S → List Event → S → Type 0) (p q : S) (file : ℕ) (e : Refusal) → Call did p q (λ events. Lists file events (Err e))
    → Call did p q (λ events. Clears true file events (Err e))
clears-unlisted did p q file e a =
    so_call did (λ events. Stops false file (HasNotListed file e) events e) (λ events. Stops true file (HasNotListed file e) events e) p q a (λ xs f. stops-more true file (HasNotListed file e) xs e f)

pub clears-nothing : {S : Type 0} (did : S → List Event → S → Type 0) (p : S) (file : ℕ) (discard : Bool) → did p [] p → discard ≡ false → Call did p p (λ events. Clears discard file events (Ok nothing))
clears-nothing did p file discard stays is = subst (λ (b : Bool). Call did p p (λ events. Clears b file events (Ok nothing))) (sym is) ([], stays, (refl, refl))

pub clears-asked : {S : Type 0} (did : S → List Event → S → Type 0) (p q : S) (file : ℕ) (discard : Bool) (result : Result Removed Refusal) → discard ≡ true
    → Call did p q (λ events. Clears true file events result) → Call did p q (λ events. Clears discard file events result)
clears-asked did p q file discard result is a = subst (λ (b : Bool). Call did p q (λ events. Clears b file events result)) (sym is) a

-- ---- the end

abbrev IsForced : ℕ → List Event → Type 0
IsForced number xs = (n : ℕ) × (xs ≡ event n (Force (Ok number)) ∷ [])

asking-one : (n : ℕ) (q : Query) (answer : Result Answer Refusal) → AreAsking (event n (Ask q answer) ∷ [])
asking-one n q answer = ((q, answer, refl), tt)

gone-or : (file n : ℕ) (e : Refusal) → ChecksGone file (event n (Ask (query.OnVolume file) (Err e)) ∷ []) (gone_by e)
gone-or file n e =
    elim (number_of e == 10) as (λ b. (number_of e == 10) ≡ b → ChecksGone file (event n (Ask (query.OnVolume file) (Err e)) ∷ []) (if b then Ok tt else Err (stopping e))) [
      | true ↦ λ ten. (n, e, ten, refl)
      | false ↦ λ other. (stopped-by (event n (Ask (query.OnVolume file) (Err e)) ∷ []) e (inl refl), asking-one n (query.OnVolume file) (Err e))
    ] refl

pub checks-refused : {S : Type 0} (did : S → List Event → S → Type 0) (p q : S) (file : ℕ) (e : Refusal) (result : Result (Unit {0}) Refusal) → result ≡ gone_by e → Does did p q (Ask (query.OnVolume file) (Err e))
    → Call did p q (λ events. ChecksGone file events result)
checks-refused did p q file e result is d =
    subst (λ (r : Result (Unit {0}) Refusal). Call did p q (λ events. ChecksGone file events r)) (sym is)
    (does_alone did (λ events. ChecksGone file events (gone_by e)) p q (Ask (query.OnVolume file) (Err e)) d (λ n listed. gone-or file n e)
    (λ m. subst (λ (x : Refusal). ChecksGone file [] (gone_by x)) (sym (some-memory e (Ask (query.OnVolume file) (Err e)) refl m)) (inl refl, tt)))

pub checks-there : {S : Type 0} (did : S → List Event → S → Type 0) (p q : S) (file : ℕ) (answer : Answer) → Does did p q (Ask (query.OnVolume file) (Ok answer))
    → Call did p q (λ events. ChecksGone file events (Err refused.Memory))
checks-there did p q file answer d = ask-nothing did p q (query.OnVolume file) answer refused.Memory refl d

ends-or : (file number : ℕ) (result : Result (Unit {0}) Refusal) (xs ys : List Event) → IsForced number xs → ChecksGone file ys result → Ends file (xs ++ ys) result
ends-or file number (Ok done) xs ys a b = (a.0, number, (xs, ys, refl, a.1, b))
ends-or file number (Err e) xs ys a b = record {
  cause = inl (stopped-behind xs ys e b.0);
  only = del-append false file xs ys (subst (AreDeleting false file) (sym a.1) (inl (inr (Ok number, refl)), tt)) (asking-del false file ys b.1);
  place = inl (stopped-behind xs ys e b.0);
}

pub ends-checked : {S : Type 0} (did : S → List Event → S → Type 0) → GoesOn did → (p q r : S) (file number : ℕ) (result : Result (Unit {0}) Refusal) → Does did p q (Force (Ok number))
    → Call did q r (λ events. ChecksGone file events result) → Call did p r (λ events. Ends file events result)
ends-checked did goes p q r file number result d a =
    call_then did goes (IsForced number) (λ events. ChecksGone file events result) (λ events. Ends file events result) p q r
    (does_alone did (IsForced number) p q (Force (Ok number)) d (λ n listed. (n, refl)) (λ m. absurd cc)) a (λ xs ys f g. ends-or file number result xs ys f g)

pub ends-unforced : {S : Type 0} (did : S → List Event → S → Type 0) (p q : S) (file : ℕ) (e other : Refusal) → other ≡ stopping e → Does did p q (Force (Err e))
    → Call did p q (λ events. Ends file events (Err other))
ends-unforced did p q file e other same d =
    subst (λ (x : Refusal). Call did p q (λ events. Stops false file Never events x)) (sym same)
    (does_alone did (λ events. Stops false file Never events (stopping e)) p q (Force (Err e)) d
    (λ m listed. (let stops : IsStopped (event m (Force (Err e)) ∷ []) (stopping e) = stopped-by (event m (Force (Err e)) ∷ []) e (inl refl) in
    record { cause = inl stops; only = (inl (inr (Err e, refl)), tt); place = inl stops }))
    (λ m. wanting false file Never [] (stopping e) (ap stopping (some-memory e (Force (Err e)) refl m)) tt))

row-kept-stops : (row : Row) (file : ℕ) (xs : List Event) (e : Refusal) → RowKept (deleting row file) xs e → Stops false file (IsRefusedLast (deleting row file) e) xs e
row-kept-stops row file xs e h = record { cause = of h.cause; only = row-del false row file xs h.only; place = h.place } where
  of : IsStopped xs e ⊎ ((is_kept_by e ≡ true) × MetBy (λ d. d ≡ Commit (deleting row file) [] (Err e)) xs) → IsCaused file xs e
  of (inl s) = inl s
  of (inr s) = inr (inr (s.0, met-map (λ d. d ≡ Commit (deleting row file) [] (Err e)) (λ d. (r : Row) × (d ≡ Commit (deleting r file) [] (Err e))) xs (λ d is. (row, is)) s.1))

pub removes-kept : {S : Type 0} (did : S → List Event → S → Type 0) (p q : S) (row : Row) (file : ℕ) (e : Refusal) → Call did p q (λ events. RemovesRow (deleting row file) events (Err e))
    → Call did p q (λ events. Removes row file events (Err e))
removes-kept did p q row file e a =
    so_call did (λ events. RowKept (deleting row file) events e) (λ events. Stops false file (IsRefusedLast (deleting row file) e) events e) p q a (λ xs f. row-kept-stops row file xs e f)

removed-or : (row : Row) (file : ℕ) (result : Result (Unit {0}) Refusal) (xs ys : List Event) → RowGone (deleting row file) xs → Ends file ys result → Removes row file (xs ++ ys) result
removed-or row file (Ok done) xs ys a b = (xs, ys, refl, a, b)
removed-or row file (Err e) xs ys a b = stops-behind false file Never (IsRefusedLast (deleting row file) e) xs ys e (λ h. absurd h) (row-del false row file xs (row-gone-only (deleting row file) xs a)) b

pub removes-ended : {S : Type 0} (did : S → List Event → S → Type 0) → GoesOn did → (p q r : S) (row : Row) (file : ℕ) (result : Result (Unit {0}) Refusal)
    → Call did p q (λ events. RemovesRow (deleting row file) events (Ok tt)) → Call did q r (λ events. Ends file events result) → Call did p r (λ events. Removes row file events result)
removes-ended did goes p q r row file result a b =
    call_then did goes (λ events. RowGone (deleting row file) events) (λ events. Ends file events result) (λ events. Removes row file events result) p q r a b
    (λ xs ys f g. removed-or row file result xs ys f g)

-- ---- the whole

choice-dropped : (e : Event) (events : List Event) (b : Bool) → drops_by e.deed ≡ [] → drops_in (made events) ≡ [] → drops_in (cond b (e ∷ made events) (made events)) ≡ []
choice-dropped e events true one h = ap (λ (ds : List DroppedCopy). ds ++ drops_in (made events)) one ∙ h
choice-dropped e events false one h = h

-- a discard drops no copy
none-dropped : (reason : DiscardReason) (events : List Event) → AreDiscarding reason events → drops_in (made events) ≡ []
none-dropped reason [] h = refl
none-dropped reason (e ∷ events) h = choice-dropped e events (is_made e.deed) (ap drops_by h.0.2) (none-dropped reason events h.1)

taken-counts : (is : Bool) (file : ℕ) (lines : List CopyLine) (xs : List Event) (m : Removed) → Taken is file lines xs m → Counts xs m
taken-counts true file lines xs m f = f.counts
taken-counts false file lines xs m f = record {
  discarded = f.0.count;
  dropped = ap length (none-dropped (for_volume file) xs (handles-only (for_volume file) (map doomed lines) xs f.0.each)) ∙ sym f.1;
}

-- questions before, and what they led to
zero-plus : (n : ℕ) → 0 + n ≡ n
zero-plus n = omega arith

plus-zero : (n : ℕ) → n + 0 ≡ n
plus-zero n = omega arith

behind-none : (xs ys : List Event) (m : Removed) → made xs ≡ [] → Counts ys m → Counts (xs ++ ys) m
behind-none xs ys m h c = record {
  discarded = discards-append xs ys ∙ ap (λ n. n + discards (made ys)) (ap discards h) ∙ zero-plus (discards (made ys)) ∙ c.discarded;
  dropped = drops-append xs ys ∙ ap (λ n. n + drops (made ys)) (ap drops h) ∙ zero-plus (drops (made ys)) ∙ c.dropped;
}

same-counts : (xs ys : List Event) (m : Removed) → xs ≡ ys → Counts ys m → Counts xs m
same-counts xs ys m is c = record { discarded = ap (λ (es : List Event). discards (made es)) is ∙ c.discarded; dropped = ap (λ (es : List Event). drops (made es)) is ∙ c.dropped }

nothing-counts : (xs : List Event) (m : Removed) → xs ≡ [] → m ≡ nothing → Counts xs m
nothing-counts xs m none is = record {
  discarded = ap (λ (es : List Event). discards (made es)) none ∙ sym (ap (λ (r : Removed). r.discarded) is);
  dropped = ap (λ (es : List Event). drops (made es)) none ∙ sym (ap (λ (r : Removed). r.dropped) is);
}

taken-of-counts : (o : Option ℕ) (file : ℕ) (lines : List CopyLine) (xs : List Event) (m : Removed) → TakenOf o file lines xs m → Counts xs m
taken-of-counts None file lines xs m f = nothing-counts xs m f.0 f.1
taken-of-counts (Some pool) file lines xs m (pools, (us, vs, is, a, b)) =
    same-counts xs (us ++ vs) m is (behind-none us vs m (asks-unmade us (pools-asks us pools a)) (taken-counts (is_copy_pool pool pools) file lines vs m b))

cleared-counts : (discard : Bool) (file : ℕ) (xs : List Event) (m : Removed) → Cleared discard file xs m → Counts xs m
cleared-counts false file xs m f = nothing-counts xs m f.0 f.1
cleared-counts true file xs m (lines, (us, vs, is, a, b)) =
    same-counts xs (us ++ vs) m is (behind-none us vs m (asks-unmade us (listed-asks file us lines a)) (taken-of-counts (pool_of lines) file lines vs m b))

taken-only : (is : Bool) (file : ℕ) (lines : List CopyLine) (xs : List Event) (m : Removed) → Taken is file lines xs m → AreDeleting true file xs
taken-only true file lines xs m f = taking-del file xs (empties-only false file lines xs f.each)
taken-only false file lines xs m f = discarding-del file xs (handles-only (for_volume file) (map doomed lines) xs f.0.each)

taken-of-only : (o : Option ℕ) (file : ℕ) (lines : List CopyLine) (xs : List Event) (m : Removed) → TakenOf o file lines xs m → AreDeleting true file xs
taken-of-only None file lines xs m f = subst (AreDeleting true file) (sym f.0) tt
taken-of-only (Some pool) file lines xs m (pools, (us, vs, is, a, b)) =
    subst (AreDeleting true file) (sym is)
    (del-append true file us vs (asking-del true file us (pools-asks us pools a)) (taken-only (is_copy_pool pool pools) file lines vs m b))

cleared-only : (discard : Bool) (file : ℕ) (xs : List Event) (m : Removed) → Cleared discard file xs m → AreDeleting discard file xs
cleared-only false file xs m f = subst (AreDeleting false file) (sym f.0) tt
cleared-only true file xs m (lines, (us, vs, is, a, b)) =
    subst (AreDeleting true file) (sym is) (del-append true file us vs (asking-del true file us (listed-asks file us lines a)) (taken-of-only (pool_of lines) file lines vs m b))

-- the row's own transaction takes nothing that is counted
row-counts : (row : Row) (file : ℕ) (zs : List Event) → RowGone (deleting row file) zs → Counts zs nothing
row-counts row file zs g = let r = row-gone-made (deleting row file) zs g in record { discarded = ap discards r.2; dropped = ap drops r.2 }

-- what goes before the end, all of which is acknowledged by it
front-counts : (m : Removed) (xs ys zs : List Event) → made xs ≡ [] → Counts ys m → Counts zs nothing → Counts ((xs ++ ys) ++ zs) m
front-counts m xs ys zs none c d =
    let f : Counts (xs ++ ys) m = behind-none xs ys m none c in record {
      discarded = discards-append (xs ++ ys) zs ∙ ap (λ n. discards (made (xs ++ ys)) + n) d.discarded ∙ plus-zero (discards (made (xs ++ ys))) ∙ f.discarded;
      dropped = drops-append (xs ++ ys) zs ∙ ap (λ n. drops (made (xs ++ ys)) + n) d.dropped ∙ plus-zero (drops (made (xs ++ ys))) ∙ f.dropped;
    }

-- the end: all is made durable, and the volume isn't there
abbrev end_of : (file n number k : ℕ) → Refusal → List Event
end_of file n number k e = event n (Force (Ok number)) ∷ event k (Ask (query.OnVolume file) (Err e)) ∷ []

end-receipts : (front : List Event) (file n number k : ℕ) (e : Refusal) → receipts (front ++ end_of file n number k e) ≡ made front
end-receipts front file n number k e = receipts-behind front (end_of file n number k e) refl ∙ append-nil (made front)

row-receipt : (discard : Bool) (file : ℕ) (row : Row) (m : Removed) (xs ys zs : List Event) (n number k : ℕ) (e : Refusal) → made xs ≡ [] → Cleared discard file ys m → RowGone (deleting row file) zs
    → HasOneReceipt discard file (((xs ++ ys) ++ zs) ++ end_of file n number k e)
row-receipt true file row m xs ys zs n number k e none c g = tt
row-receipt false file row m xs ys zs n number k e none c g =
    let r = row-gone-made (deleting row file) zs g in (
      r.0,
      row,
      r.1,
      end-receipts ((xs ++ ys) ++ zs) file n number k e ∙ made-append (xs ++ ys) zs
          ∙ ap (λ (es : List Event). es ++ made zs) (made-append xs ys ∙ ap (λ (es : List Event). es ++ made ys) none ∙ ap made c.0) ∙ r.2,
    )

-- ---- the volume is gone

abbrev first_one : ℕ → Answer → Event
first_one n answer = event n (Ask (query.Volumes None None) (Ok answer))

gone-at : (file n0 : ℕ) (row : Row) (answer : Answer) (lines : List VolumeLine) (rest : List Event) (n number k : ℕ) (e : Refusal) → answer.rows ≡ rows.Volumes lines → row_in file lines ≡ Ok row
    → (number_of e == 10) ≡ true → IsGone file (first_one n0 answer ∷ (rest ++ end_of file n number k e))
gone-at file n0 row answer lines rest n number k e is found ten = λ w actor a b valid fits.
    let x : Event = first_one n0 answer in
    let y : Event = event n (Force (Ok number)) in
    let z : Event = event k (Ask (query.OnVolume file) (Err e)) in
    let f = fits-first w actor a b x (rest ++ y ∷ z ∷ []) fits in
    let t = fits-cut w actor f.0 b rest (y ∷ z ∷ []) f.2 in
    let r = fits-first w actor t.0 b y (z ∷ []) t.2 in
    let s : Step w actor r.0 z b = fits-one w actor r.0 b z r.2 in
    let end : last_of (x ∷ (rest ++ y ∷ z ∷ [])) ≡ k = last-behind (x ∷ rest) y (z ∷ []) in
    let gone : has_volume file (inv w k) ≡ false = is-absent w actor r.0 b k file e ten s in (
      was-there w actor a f.0 n0 file answer lines row f.1 is found,
      ap (λ (m : ℕ). has_volume file (inv w m)) end ∙ gone,
      ap (λ (m : ℕ). segments_on file (inv w m)) end ∙ none-lies file (inv w k) (valid k s.begun s.within) gone,
    )

-- ---- what it did

-- the parts, laid out one after the other
record Parts (discard : Bool) (file : ℕ) (row : Row) (events : List Event) (m : Removed) : Type 0 where
  pub n0 : ℕ
  pub answer : Answer
  pub lines : List VolumeLine
  pub told : answer.rows ≡ rows.Volumes lines
  pub found : row_in file lines ≡ Ok row
  pub ys : List Event
  pub zs : List Event
  pub n : ℕ
  pub number : ℕ
  pub k : ℕ
  pub e : Refusal
  pub ten : (number_of e == 10) ≡ true
  pub cleared : Cleared discard file ys m
  pub gone : RowGone (deleting row file) zs
  pub same : events ≡ (((first_one n0 answer ∷ []) ++ ys) ++ zs) ++ end_of file n number k e

laid-out : (xs ys zs us xs2 us2 events : List Event) → events ≡ xs ++ (ys ++ (zs ++ us)) → xs ≡ xs2 → us ≡ us2 → events ≡ ((xs2 ++ ys) ++ zs) ++ us2
laid-out xs ys zs us xs2 us2 events is a b =
    is ∙ ap (λ (es : List Event). es ++ (ys ++ (zs ++ us))) a ∙ ap (λ (es : List Event). xs2 ++ (ys ++ (zs ++ es))) b
    ∙ sym (append_assoc xs2 ys (zs ++ us2)) ∙ sym (append_assoc (xs2 ++ ys) zs us2)

parts-of : (discard : Bool) (file : ℕ) (row : Row) (m : Removed) (xs ys : List Event) → Found file xs row → EmptiedRow discard row file ys m → Parts discard file row (xs ++ ys) m
parts-of discard file row m xs ys (answer, lines, (n0, one), told, found) (us, vs, is, c, (zs, ws, same, g, (n, number, (fs, ks, both, force, (k, e, ten, ask))))) = record {
  n0 = n0;
  answer = answer;
  lines = lines;
  told = told;
  found = found;
  ys = us;
  zs = zs;
  n = n;
  number = number;
  k = k;
  e = e;
  ten = ten;
  cleared = c;
  gone = g;
  same = laid-out xs us zs ws (first_one n0 answer ∷ []) (end_of file n number k e) (xs ++ ys)
      (ap (λ (es : List Event). xs ++ es) (is ∙ ap (λ (es : List Event). us ++ es) same)) one
      (both ∙ ap (λ (es : List Event). es ++ ks) force ∙ ap (λ (es : List Event). event n (Force (Ok number)) ∷ es) ask);
}

ended-only : (discard : Bool) (file n number k : ℕ) (e : Refusal) → AreDeleting discard file (end_of file n number k e)
ended-only discard file n number k e = (
  plain-more discard file (Force (Ok number)) (inl (inr (Ok number, refl))),
  (plain-more discard file (Ask (query.OnVolume file) (Err e)) (inl (inl (query.OnVolume file, Err e, refl))), tt),
)

deleted-whole : (discard : Bool) (file : ℕ) (row : Row) (m : Removed) (xs ys : List Event) → Found file xs row → EmptiedRow discard row file ys m → VolumeDeletion discard file (xs ++ ys) (Ok m)
deleted-whole discard file row m xs ys f g =
    let p : Parts discard file row (xs ++ ys) m = parts-of discard file row m xs ys f g in
    let first : List Event = first_one p.n0 p.answer ∷ [] in
    let end : List Event = end_of file p.n p.number p.k p.e in
    let counts : Counts ((first ++ p.ys) ++ p.zs) m =
    front-counts m first p.ys p.zs refl (cleared-counts discard file p.ys m p.cleared) (row-counts row file p.zs p.gone) in
    let done : receipts (((first ++ p.ys) ++ p.zs) ++ end) ≡ made ((first ++ p.ys) ++ p.zs) = end-receipts ((first ++ p.ys) ++ p.zs) file p.n p.number p.k p.e in
    record {
      came = record {
        discarded = sym (ap (λ (es : List Event). discards (receipts es)) p.same ∙ ap discards done ∙ counts.discarded);
        dropped = sym (ap (λ (es : List Event). drops (receipts es)) p.same ∙ ap drops done ∙ counts.dropped);
        order = (row, (xs, ys, refl, f, g));
        row = subst (IsGone file) (sym p.same) (gone-at file p.n0 row p.answer p.lines (p.ys ++ p.zs) p.n p.number p.k p.e p.told p.found p.ten);
        receipt = subst (HasOneReceipt discard file) (sym p.same) (row-receipt discard file row m first p.ys p.zs p.n p.number p.k p.e refl p.cleared p.gone);
      };
      only = subst (AreDeleting discard file) (sym p.same)
          (del-append discard file ((first ++ p.ys) ++ p.zs) end
          (del-append discard file (first ++ p.ys) p.zs
          (del-append discard file first p.ys (plain-more discard file (Ask (query.Volumes None None) (Ok p.answer)) (inl (inl (query.Volumes None None, Ok p.answer, refl))), tt) (cleared-only discard file p.ys m p.cleared))
          (row-del discard row file p.zs (row-gone-only (deleting row file) p.zs p.gone))) (ended-only discard file p.n p.number p.k p.e));
      place = tt;
    }

-- a count, or the refusal that came after it
abbrev pub ended_as : Removed → Result (Unit {0}) Refusal → Result Removed Refusal
ended_as m (Ok done) = Ok m
ended_as m (Err e) = Err e

emptied-or : (discard : Bool) (row : Row) (file : ℕ) (m : Removed) (result : Result (Unit {0}) Refusal) (xs ys : List Event) → Cleared discard file xs m → Removes row file ys result
    → Empties discard row file (xs ++ ys) (ended_as m result)
emptied-or discard row file m (Ok done) xs ys a b = (xs, ys, refl, a, b)
emptied-or discard row file m (Err e) xs ys a b =
    let Last : List Event → Type 0 = IsRefusedLast (deleting row file) e in
    stops-behind discard file Last (HasNotGone discard row file e) xs ys e (λ last. inr (m, (xs, ys, refl, a, last))) (cleared-only discard file xs m a) (stops-more discard file Last ys e b)

-- before its own transaction
pub unemptied-row : {S : Type 0} (did : S → List Event → S → Type 0) (p q : S) (discard : Bool) (row : Row) (file : ℕ) (e : Refusal) → Call did p q (λ events. Clears discard file events (Err e))
    → Call did p q (λ events. Empties discard row file events (Err e))
unemptied-row did p q discard row file e a =
    so_call did (λ events. Stops discard file (HasNotListed file e) events e) (λ events. Stops discard file (HasNotGone discard row file e) events e) p q a
    (λ xs f. record { cause = f.cause; only = f.only; place = place-so (HasNotListed file e) (HasNotGone discard row file e) xs e (λ h. inl h) f.place })

pub empties-row : {S : Type 0} (did : S → List Event → S → Type 0) → GoesOn did → (p q r : S) (discard : Bool) (row : Row) (file : ℕ) (m : Removed) (result : Result (Unit {0}) Refusal)
    → Call did p q (λ events. Clears discard file events (Ok m)) → Call did q r (λ events. Removes row file events result) → Call did p r (λ events. Empties discard row file events (ended_as m result))
empties-row did goes p q r discard row file m result a b =
    call_then did goes (λ events. Cleared discard file events m) (λ events. Removes row file events result) (λ events. Empties discard row file events (ended_as m result)) p q r a b
    (λ xs ys f g. emptied-or discard row file m result xs ys f g)

deleted-or : (discard : Bool) (file : ℕ) (row : Row) (result : Result Removed Refusal) (xs ys : List Event) → Found file xs row → Empties discard row file ys result → VolumeDeletion discard file (xs ++ ys) result
deleted-or discard file row (Ok m) xs ys f g = deleted-whole discard file row m xs ys f g
deleted-or discard file row (Err e) xs ys f g =
    record {
      came = caused-behind file xs ys e g.cause;
      only = del-append discard file xs ys (asking-del discard file xs (answered-asks (query.Volumes None None) xs f.0 f.2)) g.only;
      place = elim g.place as (λ _. IsInPlace discard file (xs ++ ys) e) [
        | inl stopped ↦ inl (stopped-behind xs ys e stopped)
        | inr other ↦ inr (inr (row, (xs, ys, refl, f, other)))
      ];
    }

pub deletes-volume : {S : Type 0} (did : S → List Event → S → Type 0) → GoesOn did → (p q r : S) (discard : Bool) (file : ℕ) (row : Row) (result : Result Removed Refusal)
    → Call did p q (λ events. Finds file events (Ok row)) → Call did q r (λ events. Empties discard row file events result) → Call did p r (λ events. VolumeDeletion discard file events result)
deletes-volume did goes p q r discard file row result a b =
    call_then did goes (λ events. Found file events row) (λ events. Empties discard row file events result) (λ events. VolumeDeletion discard file events result) p q r a b
    (λ xs ys f g. deleted-or discard file row result xs ys f g)

pub volume-not-found : {S : Type 0} (did : S → List Event → S → Type 0) (p q : S) (discard : Bool) (file : ℕ) (e : Refusal) → Call did p q (λ events. Finds file events (Err e))
    → Call did p q (λ events. VolumeDeletion discard file events (Err e))
volume-not-found did p q discard file e a =
    so_call did (λ events. Stops false file (HasNotFound file e) events e) (λ events. VolumeDeletion discard file events (Err e)) p q a
    (λ xs f. record {
      came = f.cause;
      only = del-more discard file xs f.only;
      place = elim f.place as (λ _. IsInPlace discard file xs e) [
        | inl stopped ↦ inl stopped
        | inr missing ↦ inr (inl missing)
      ];
    })
