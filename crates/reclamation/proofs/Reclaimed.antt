-- What a reclamation came to.
use Rattle.std.proofs.Common.{◌≡◌, ◌⊎◌, inl, inr, ℕ, ◌+◌, ◌-◌, ◌^◌, ◌≤◌, Bool, true, false, List, [], ◌∷◌, ◌++◌, append_assoc, None, Result, Ok, Err, IfOk, refl, sym, ap, ap₂, subst, ◌∙◌, arith, ◌==◌}
use Rattle.std.proofs.lemmas.Bool.{false≢true}
use Rattle.std.proofs.lemmas.List.{append-nil}
use Rattle.kinds.specs.Refusals.{number_of}
use Rattle.kinds.specs.declared.refusal.Refusal.{Refusal}
use Rattle.kinds.specs.declared.refusal.Refusal.TheVariants as refused
use Rattle.inventory_answers.specs.declared.lines.PoolLine.{PoolLine}
use Rattle.inventory_answers.specs.declared.query.Query.TheVariants as query
use Rattle.inventory_answers.specs.declared.reply.Answer.{Answer}
use Rattle.inventory_answers.specs.declared.reply.Rows.TheVariants as rows
use Rattle.inventory_answers.specs.Stores.{pool_lines}
use Rattle.inventory_work.specs.Volumes.{eligible_in}
use Rattle.steps.proofs.Acknowledged.{receipts-behind}
use Rattle.steps.proofs.Joining.{GoesOn, call_then}
use Rattle.steps.specs.Calls.{Call, Then, risen}
use Rattle.steps.specs.Events.{Event, event}
use Rattle.steps.specs.Events.Deed.{Ask}
use Rattle.steps.specs.Receipts.{made, receipts}
use Rattle.machine.specs.Fits.{inv, last}
use Rattle.machine.proofs.Runs.{fits-cut, fits-first, fits-rises}
use Rattle.copy_attempts.proofs.Facts.{made-append}
use Rattle.copy_attempts.specs.Outcomes.{MetBy}
use Rattle.copy_runs.specs.declared.wanted.Moved.{Moved}
use Rattle.copy_runs.specs.Ends.{AreAsking, Finished, IsStopped, last_of, IsUnheld}
use Rattle.copy_runs.specs.Returning.{is_kept}
use Rattle.copy_runs.specs.Runs.{copies_in, failing_in, is_among}
use Rattle.copy_runs.specs.Wanting.{IsIn}
use Rattle.copy_runs.proofs.Outcomes.{copies-append, failing-append}
use Rattle.copy_runs.proofs.Returning.{held-all-along, placed-past}
use Rattle.copy_runs.proofs.Risen.{call-rises}
use Rattle.copy_runs.proofs.Told.{reaches}
use Rattle.copy_runs.proofs.Unheld.{asking-unheld, other-unheld}
use Rattle.copy_runs.proofs.Whole.{IsFinish, asks-unmade, finish-is, reached-last}
use Rattle.copy_pools.proofs.Missing.{asked-pools}
use Rattle.reclamation.specs.Reclaiming.{Answered, AreMovedOff, BeginsPool, Begun, Breaks, Emptied, IsNotThere, IsRefusedPool, IsSequential, IsTold, IsUnopened, ListedFiles, Reclaimed, Reclamation, Turn, Turns, Works, files_of, is_sequential_in}
use Rattle.reclamation.specs.Tried.{Key}
use Rattle.reclamation.proofs.Clearing.{Clean, Within, breaks-behind, clean-append, clean-asks, clean-ends, turns-clean}
use Rattle.reclamation.proofs.Counting.{Share, Stays, failed_in, on-before, on-behind, share-turns, turns-done}
use Rattle.reclamation.proofs.Listing.{asked-eligible}
use Rattle.reclamation.proofs.Moves.{last-later, last-within}
use Rattle.reclamation.proofs.Questions.{begun-asks}
use Rattle.reclamation.proofs.Sequential.{sequential-is}

-- ---- the pool

sequential-by : (pool : ℕ) (is : Bool) (x : Event) (n : ℕ) (answer : Answer) (lines : List PoolLine) (others : List Event) → answer.rows ≡ rows.Pools lines → is_sequential_in pool lines ≡ is
    → IsSequential pool (x ∷ event n (Ask (query.Pools None) (Ok answer)) ∷ others) is
sequential-by pool is x n answer lines others lines_are so w actor a b valid f =
    let y : Event = event n (Ask (query.Pools None) (Ok answer)) in
    let r = fits-first w actor a b x (y ∷ others) f in
    let s = fits-first w actor r.0 b y others r.2 in
    let low : x.n ≤ r.0.reached = reaches w actor a r.0 x r.1 in
    let since : r.0.reached ≤ n = s.1.since in
    let high : n ≤ last_of (y ∷ others) = last-later w actor r.0 b y others r.2 in
    let told : lines ≡ pool_lines None (inv w n).stores = asked-pools w actor r.0 s.0 n answer lines s.1 lines_are in
    (n, omega arith, high, sym (sequential-is pool (inv w n) lines (valid n s.1.begun s.1.within) told) ∙ so)

-- ---- the first two steps

-- what begins with the two questions
record Opening (pool threshold : ℕ) (files : List ℕ) (is : Bool) (events : List Event) : Type 0 where
  n : ℕ
  told : Answer
  files_are : told.rows ≡ rows.Eligible files
  m : ℕ
  answer : Answer
  lines : List PoolLine
  lines_are : answer.rows ≡ rows.Pools lines
  so : is_sequential_in pool lines ≡ is
  both : events ≡ event n (Ask (query.Eligible pool threshold) (Ok told)) ∷ event m (Ask (query.Pools None) (Ok answer)) ∷ []

opening-of : (pool threshold : ℕ) (files : List ℕ) (is : Bool) (events : List Event) → Then (λ xs. ListedFiles pool threshold xs files) (λ ys. Answered pool ys is) events → Opening pool threshold files is events
opening-of pool threshold files is events (xs, ys, same, a, b) = record {
  n = a.0;
  told = a.1;
  files_are = a.3;
  m = b.1.0;
  answer = b.1.1;
  lines = b.0;
  lines_are = b.1.3;
  so = b.2;
  both = same ∙ ap₂ (λ (p q : List Event). p ++ q) a.2 b.1.2;
}

-- ---- the row

by-end : (b : Bool) (failed : Bool) → (b ≡ true → failed ≡ true) → (failed ≡ true) ⊎ (b ≡ false)
by-end true failed h = inl (h refl)
by-end false failed h = inr refl

tried-none : (failed : Bool) → (false ≡ true) ⊎ (failed ≡ true) → failed ≡ true
tried-none failed (inl h) = absurd (false≢true h)
tried-none failed (inr h) = h

last-end : (xs : List Event) (y : Event) (ys : List Event) → last_of (xs ++ (y ∷ ys)) ≡ last_of (y ∷ ys)
last-end [] y ys = refl
last-end (x ∷ []) y ys = refl
last-end (x ∷ k ∷ xs) y ys = last-end (k ∷ xs) y ys

rows-of : (pool threshold : ℕ) (files : List ℕ) (n : ℕ) (told : Answer) (y : Event) (turns : List Turn) (us : List Event) (z : Event) (zs : List Event) → told.rows ≡ rows.Eligible files
    → AreAsking (event n (Ask (query.Eligible pool threshold) (Ok told)) ∷ y ∷ []) → files_of turns ≡ files → (h : Turns pool [] turns us)
    → AreMovedOff pool threshold (failed_in pool [] turns us h) ((event n (Ask (query.Eligible pool threshold) (Ok told)) ∷ y ∷ []) ++ (us ++ (z ∷ zs)))
rows-of pool threshold files n told y turns us z zs files_are asks all h w actor a b valid none f file object copy eligible holds lies =
    let x : Event = event n (Ask (query.Eligible pool threshold) (Ok told)) in
    let begin : List Event = x ∷ y ∷ [] in
    let failed : List ℕ = failed_in pool [] turns us h in
    by-end (is_kept object copy (inv w (last_of (begin ++ (us ++ (z ∷ zs)))))) (is_among object failed) (λ kept.
    let r = fits-cut w actor a b begin (us ++ (z ∷ zs)) f in
    let t = fits-cut w actor r.0 b us (z ∷ zs) r.2 in
    let s = fits-first w actor a r.0 x (y ∷ []) r.1 in
    let begun : w.base.number ≤ n = s.1.begun in
    let within : n ≤ last w = s.1.within in
    let low : n ≤ s.0.reached = reaches w actor a s.0 x s.1 in
    let then_low : s.0.reached ≤ r.0.reached = fits-rises w actor s.0 r.0 (y ∷ []) s.2 in
    let mid : r.0.reached ≤ t.0.reached = fits-rises w actor r.0 t.0 us t.1 in
    let high : t.0.reached ≤ last_of (z ∷ zs) = reached-last w actor t.0 b z zs t.2 in
    let ending : last_of (begin ++ (us ++ (z ∷ zs))) ≡ last_of (z ∷ zs) = ap last_of (sym (append_assoc begin us (z ∷ zs))) ∙ last-end (begin ++ us) z zs in
    let end : last_of (z ∷ zs) ≤ last w = last-within w actor t.0 b z zs t.2 in
    let up : n ≤ last_of (z ∷ zs) = omega arith in
    let at : files ≡ eligible_in pool threshold (inv w n).stores = asked-eligible w actor a s.0 n pool threshold told files s.1 files_are in
    let among : IsIn file (files_of turns) = subst (λ (fs : List ℕ). IsIn file fs) (sym (all ∙ at)) eligible in
    let kept_then : is_kept object copy (inv w (last_of (z ∷ zs))) ≡ true = subst (λ (k : ℕ). is_kept object copy (inv w k) ≡ true) ending kept in
    let past : copy.placed ≤ n = placed-past w n object copy valid begun within holds in
    let stays : Stays w object copy r.0.reached t.0.reached = record {
      there = λ k l g. held-all-along w object copy n (last_of (z ∷ zs)) valid begun up end holds kept_then k (omega arith) (omega arith);
      past = omega arith;
    } in
    let empty : r.0.tickets ≡ [] = (clean-asks [] pool begin asks).none_left w actor a r.0 none r.1 in
    tried-none (is_among object failed) (turns-done w actor r.0 t.0 pool file object copy (files_of turns) [] turns us valid empty t.1 (λ g i. i) h stays lies among))

-- ---- counts

reclaimed-of : (pool threshold : ℕ) (files : List ℕ) (new : List Key) (xs us fs : List Event) (m : Moved) → Begun pool threshold files xs → Emptied pool files [] new us m → Finished fs
    → Clean files pool (xs ++ (us ++ fs)) → Reclaimed pool threshold files (xs ++ (us ++ fs)) m
reclaimed-of pool threshold files new xs us [] m begun h finished clean = let fin : IsFinish [] = finish-is [] finished in absurd (false≢true fin.forced)
reclaimed-of pool threshold files new xs us (z ∷ zs) m begun h finished clean =
    let end : List Event = z ∷ zs in
    let fin : IsFinish end = finish-is end finished in
    let o : Opening pool threshold files true xs = opening-of pool threshold files true xs begun in
    let x : Event = event o.n (Ask (query.Eligible pool threshold) (Ok o.told)) in
    let y : Event = event o.m (Ask (query.Pools None) (Ok o.answer)) in
    let asks : AreAsking xs = begun-asks pool threshold files xs begun in
    let failed : List ℕ = failed_in pool [] h.turns us h.done in
    let share : Share files pool us m failed = subst (λ (k : Moved). Share files pool us k failed) (sym h.count)
    (share-turns files pool [] h.turns us (λ file i. subst (λ (gs : List ℕ). IsIn file gs) h.all i) h.done) in
    let none : copies_in (made xs) ≡ 0 = ap copies_in (asks-unmade xs asks) in
    let acknowledged : copies_in (receipts (xs ++ (us ++ end))) ≡ copies_in (made xs) + copies_in (made us) =
    ap copies_in (ap receipts (sym (append_assoc xs us end)) ∙ receipts-behind (xs ++ us) end fin.forced ∙ ap (λ (r : List Event). made (xs ++ us) ++ r) fin.none
    ∙ append-nil (made (xs ++ us)) ∙ made-append xs us)
    ∙ copies-append (made xs) (made us) in
    let count : m.moved ≡ copies_in (made us) = share.moved in
    let all : failing_in (xs ++ (us ++ end)) ≡ failing_in xs + (failing_in us + failing_in end) = failing-append xs (us ++ end) ∙ ap (λ k. failing_in xs + k) (failing-append us end) in
    let few : m.failed ≤ failing_in us = share.risen in
    record {
      failed = failed;
      moved = omega arith;
      number = share.number;
      risen = omega arith;
      each = on-behind files pool xs (us ++ end) failed (on-before files pool us end failed share.each);
      row = subst (λ (es : List Event). AreMovedOff pool threshold failed (es ++ (us ++ end))) (sym o.both)
          (rows-of pool threshold files o.n o.told y h.turns us z zs o.files_are (subst AreAsking o.both asks) h.all h.done);
      order = (xs, us ++ end, refl, begun, (us, end, refl, (new, h), finished));
      sequential = subst (λ (es : List Event). IsSequential pool (es ++ (us ++ end)) true) (sym o.both) (sequential-by pool true x o.m o.answer o.lines (us ++ end) o.lines_are o.so);
      settled = clean.settled;
      none_left = clean.none_left;
    }

-- ---- the whole

told-of : (pool threshold : ℕ) (files : List ℕ) (xs ys : List Event) → Begun pool threshold files xs → IsTold pool threshold files (xs ++ ys)
told-of pool threshold files xs ys (us, vs, same, a, b) = inr (us, vs ++ ys, ap (λ (es : List Event). es ++ ys) same ∙ append_assoc us vs ys, a, tt)

cause-of : (pool threshold : ℕ) (events : List Event) (e : Refusal) → IsStopped events e ⊎ IsUnopened pool events e → IsStopped events e ⊎ IsNotThere pool threshold events e
cause-of pool threshold events e (inl h) = inl h
cause-of pool threshold events e (inr h) = inr (inr (inr h))

reclamation-of : (pool threshold : ℕ) (files : List ℕ) (xs ys : List Event) (result : Result Moved Refusal) → Begun pool threshold files xs → Works pool files ys result → Reclamation pool threshold (xs ++ ys) result
reclamation-of pool threshold files xs ys (Ok m) begun (us, fs, same, cleared, finished) =
    let h : Emptied pool files [] cleared.0 us m = cleared.1 in
    let within : Within (files_of h.turns) files = λ file i. subst (λ (gs : List ℕ). IsIn file gs) h.all i in
    let clean : Clean files pool (xs ++ (us ++ fs)) =
    clean-append files pool xs (us ++ fs) (clean-asks files pool xs (begun-asks pool threshold files xs begun))
    (clean-append files pool us fs (turns-clean files pool [] h.turns us within h.done) (clean-ends files pool fs (finish-is fs finished).ending)) in
    subst (λ (es : List Event). Reclamation pool threshold (xs ++ es) (Ok m)) (sym same) (record {
      files = files;
      told = told-of pool threshold files xs (us ++ fs) begun;
      came = reclaimed-of pool threshold files cleared.0 xs us fs m begun h finished clean;
      only = clean.only;
      entries = clean.entries;
    })
reclamation-of pool threshold files xs ys (Err e) begun broken =
    let b : Breaks files pool (xs ++ ys) e = breaks-behind files pool xs ys e (clean-asks files pool xs (begun-asks pool threshold files xs begun)) broken in
    record {
      files = files;
      told = told-of pool threshold files xs ys begun;
      came = record { cause = cause-of pool threshold (xs ++ ys) e b.cause; unheld = b.unheld; settled = b.settled; none_left = b.none_left };
      only = b.only;
      entries = b.entries;
    }

not-there : (pool threshold : ℕ) (events : List Event) (e : Refusal) → AreAsking events → IsRefusedPool pool threshold events e → IsStopped events e ⊎ IsNotThere pool threshold events e
not-there pool threshold events e asks (inl (inl h)) = inl h
not-there pool threshold events e asks (inl (inr h)) = inr (inl (h.0, h.1, asks))
not-there pool threshold events e asks (inr (is, files, both)) =
    let o : Opening pool threshold files false events = opening-of pool threshold files false events both in
    let x : Event = event o.n (Ask (query.Eligible pool threshold) (Ok o.told)) in
    inr (inr (inl (
      is,
      subst (λ (es : List Event). IsSequential pool es false) (sym o.both) (sequential-by pool false x o.m o.answer o.lines [] o.lines_are o.so),
      (
        asks,
        subst (λ (es : List Event). MetBy (λ d. (answer : Answer) × (lines : List PoolLine) × (d ≡ Ask (query.Pools None) (Ok answer)) × (answer.rows ≡ rows.Pools lines) × (is_sequential_in pool lines ≡ false)) es) (sym o.both)
            (inr (inl (o.answer, o.lines, refl, o.lines_are, o.so))),
      ),
    )))

begin-unheld : (pool threshold : ℕ) (events : List Event) (e : Refusal) → AreAsking events → IsRefusedPool pool threshold events e → IsUnheld events e
begin-unheld pool threshold events e asks (inl (inl stopped)) = asking-unheld events e asks stopped
begin-unheld pool threshold events e asks (inl (inr h)) = other-unheld events e (λ holder busy. (let odd : (number_of (refused.Busy holder) == 10) ≡ true = subst (λ (x : Refusal). (number_of x == 10) ≡ true) busy h.0 in cc))
begin-unheld pool threshold events e asks (inr h) = other-unheld events e (λ holder busy. (let odd : refused.NotFound ≡ refused.Busy holder = sym h.0 ∙ busy in cc))

refused-reclamation : (pool threshold : ℕ) (events : List Event) (e : Refusal) → BeginsPool pool threshold events (Err e) → Reclamation pool threshold events (Err e)
refused-reclamation pool threshold events e h =
    let clean : Clean [] pool events = clean-asks [] pool events h.1 in
    record {
      files = [];
      told = inl refl;
      came = record { cause = not-there pool threshold events e h.1 h.0; unheld = begin-unheld pool threshold events e h.1 h.0; settled = λ leave. clean.settled; none_left = λ leave. clean.none_left };
      only = clean.only;
      entries = clean.entries;
    }

pub reclaims : {S : Type 0} (did : S → List Event → S → Type 0) → GoesOn did → (p q r : S) (pool threshold : ℕ) (files those : List ℕ) (result : Result Moved Refusal) → those ≡ files
    → Call did p q (λ events. BeginsPool pool threshold events (Ok files)) → Call did q r (λ events. Works pool those events result) → Call did p r (λ events. Reclamation pool threshold events result)
reclaims did on p q r pool threshold files those result same a b =
    call_then did on (λ events. BeginsPool pool threshold events (Ok files)) (λ events. Works pool files events result) (λ events. Reclamation pool threshold events result) p q r a
    (subst (λ (fs : List ℕ). Call did q r (λ events. Works pool fs events result)) same b)
    (λ xs ys f g. reclamation-of pool threshold files xs ys result f g)

pub reclaim-refused : {S : Type 0} (did : S → List Event → S → Type 0) (p q : S) (pool threshold : ℕ) (e : Refusal) → Call did p q (λ events. BeginsPool pool threshold events (Err e))
    → Call did p q (λ events. Reclamation pool threshold events (Err e))
reclaim-refused did p q pool threshold e a = (a.0, a.1, refused-reclamation pool threshold a.0 e a.2)

-- its failed objects are no more than the count of refused steps rose by, unless that is at its last value
pub reclaim-rises : {S : Type 0} (did : S → List Event → S → Type 0) (refused_of : S → ℕ) → ((p q : S) (xs : List Event) → did p xs q → refused_of q ≡ risen (refused_of p) xs)
    → (p q : S) (pool threshold : ℕ) (result : Result Moved Refusal)
    → Call did p q (λ events. Reclamation pool threshold events result) → IfOk result (λ m. (refused_of p + m.failed ≤ refused_of q) ⊎ (2 ^ 64 - 1 ≤ refused_of q))
reclaim-rises did refused_of counts p q pool threshold (Ok m) a = call-rises did refused_of counts (λ events. Reclamation pool threshold events (Ok m)) p q m.failed a (λ events h. h.came.risen)
reclaim-rises did refused_of counts p q pool threshold (Err e) a = tt
