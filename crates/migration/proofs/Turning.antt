-- Turns of a migration, one after the other, and how it breaks off.
use Rattle.std.proofs.Common.{◌≡◌, ◌⊎◌, inl, inr, ℕ, zero, suc, ◌+◌, ◌≤◌, ◌==◌, Bool, true, false, List, [], ◌∷◌, ◌++◌, Option, Some, None, Result, Ok, Err, refl, sym, ap, ap₂, subst, ◌∙◌, arith, append_assoc}
use Rattle.std.proofs.lemmas.Bool.{false≢true}
use Rattle.std.proofs.lemmas.List.{append-nil}
use Rattle.std.proofs.lemmas.Option.{same_Some}
use Rattle.std.specs.List.{AllByRecursion, remove, slice_get}
use Rattle.choosers.specs.declared.candidate.Candidate.{Candidate}
use Rattle.kinds.specs.Refusals.{number_of}
use Rattle.kinds.specs.declared.refusal.Holder.{Holder}
use Rattle.kinds.specs.declared.refusal.Refusal.{Refusal}
use Rattle.kinds.specs.declared.refusal.Refusal.TheVariants as refused
use Rattle.entries.specs.declared.change.Change.{Change}
use Rattle.inventory_answers.specs.declared.lines.PoolLine.{PoolLine}
use Rattle.inventory_answers.specs.Stores.{pool_lines}
use Rattle.inventory_answers.specs.declared.query.Query.{Query}
use Rattle.inventory_answers.specs.declared.query.Query.TheVariants as query
use Rattle.inventory_answers.specs.declared.reply.Answer.{Answer}
use Rattle.inventory_rows.specs.version_groups.Entries.{is_nil}
use Rattle.space.specs.declared.aim.Aim.{Aim}
use Rattle.space.specs.declared.aim.Aim.TheVariants as aim
use Rattle.steps.proofs.Joining.{GoesOn, call_then}
use Rattle.steps.specs.Calls.{Call}
use Rattle.steps.specs.Events.{Deed, Event, event}
use Rattle.steps.specs.Events.Deed.{Ask, OpenCopy}
use Rattle.steps.specs.Receipts.{made}
use Rattle.machine.specs.Fits.{Fits, History, Own, Step, inv}
use Rattle.machine.proofs.Runs.{fits-cut, fits-one, fits-rises}
use Rattle.copy_attempts.proofs.Facts.{all-append, made-append, met-before, met-behind}
use Rattle.steps.proofs.Spending.{settled-append}
use Rattle.copy_attempts.specs.Outcomes.{IsOf, MetBy, may_leave}
use Rattle.steps.specs.Spent.{AreSettled}
use Rattle.copy_pools.proofs.Missing.{asked-pools}
use Rattle.copy_runs.specs.declared.wanted.Moved.{Moved}
use Rattle.copy_runs.specs.declared.wanted.Wanted.{Wanted}
use Rattle.copy_runs.specs.Ends.{AreAsking, AskedPools, IsAsking, IsStopped, IsUnheld, IsUnlisted}
use Rattle.copy_runs.specs.Parts.{Part, both_moved, none_moved}
use Rattle.copy_runs.specs.Processes.{AreMoving}
use Rattle.copy_runs.specs.Runs.{AreOfThese, EntersOnly, HasFailed, IsCausedByOne, IsEntered, IsEntryFor, LeavesNone, Run}
use Rattle.copy_runs.specs.Tickets.{ListsCopy}
use Rattle.copy_runs.specs.Wanting.{IsIn}
use Rattle.copy_runs.proofs.Ending.{stopped-behind}
use Rattle.copy_runs.proofs.Listing.{flat-parts, is-only}
use Rattle.copy_runs.proofs.Outcomes.{then-none}
use Rattle.copy_runs.proofs.Parts.{none-behind, part-as, part-behind-asks, part-join, part-of-asks, part-of-run}
use Rattle.copy_runs.proofs.Tickets.{ticket-behind}
use Rattle.copy_runs.proofs.Told.{reaches}
use Rattle.copy_runs.proofs.Unheld.{asking-unheld, other-unheld, run-unheld, unheld-behind}
use Rattle.copy_runs.proofs.Whole.{IsBegun, asks-begun, asks-unmade}
use Rattle.migration.specs.Marks.{Looked, Looks, is_within, line_of, onward, target, target_of}
use Rattle.migration.specs.Migrating.{AreMigration, Breaks, BreaksFor, EndsTurn, EntersFrom, Going, GoesSo, HasFailedIn, HasLeft, IsBarred, IsEnteredIn, IsLeftBehind, IsMigrating, IsMigration, Lowers, Migrates, TellsNext, TellsWhy, Turning}
use Rattle.migration.specs.Turns.{AreTried, AsksPool, Filled, FilledFrom, Fills, IsLow, IsOver, IsPicked, Lowered, Picks, Rest, Turned, Turns, candidate, candidates_of, is_fresh, moving, unasked}

-- ---- of the pool

abbrev pub AreMigrating : (pool : ℕ) → List Wanted → Type 0
AreMigrating pool wanted = (x : Wanted) → IsIn x wanted → IsMigrating pool x

picked-migrates : (picks : Picks) (pool to : ℕ) (q s : Rest) (x : Wanted) → IsPicked picks pool to q s x → IsMigrating pool x
picked-migrates picks pool to q s x h = (h.2, to, ap (λ (y : Wanted). y.aim) h.7)

pub turns-migrate : (picks : Picks) (pool low : ℕ) (r s : Rest) (wanted : List Wanted) (events : List Event) → Turns picks pool low r s wanted events → AreMigrating pool wanted
turns-migrate picks pool low r s [] events h x i = absurd i
turns-migrate picks pool low r s (y ∷ wanted) events h x (inl is) = subst (λ (z : Wanted). IsMigrating pool z) is (picked-migrates picks pool h.2.3.0 h.2.3.1 h.0 y h.2.3.2)
turns-migrate picks pool low r s (y ∷ wanted) events h x (inr i) = turns-migrate picks pool low h.0 s wanted h.2.1 h.2.4 x i

one-migrates : (pool : ℕ) (x : Wanted) → IsMigrating pool x → AreMigrating pool (x ∷ [])
one-migrates pool x m y (inl is) = subst (λ (z : Wanted). IsMigrating pool z) is m
one-migrates pool x m y (inr i) = absurd i

pub only-migration : (pool : ℕ) (wanted : List Wanted) (xs : List Event) → AreMigrating pool wanted → AreMoving wanted 0 xs → AreMigration pool xs
only-migration pool wanted [] all h = tt
only-migration pool wanted (e ∷ xs) all h = (
  elim h.0 as (λ _. IsMigration pool e.deed) [
    | inl ending ↦ inl ending
    | inr one ↦ (let m = all one.0 one.1 in inr (one.0.object, m.0, m.1, subst (λ (to : Aim). IsOf one.0.object to 0 e.deed) m.2 one.2))
  ],
  only-migration pool wanted xs all h.1,
)

entered-in : (pool : ℕ) (wanted : List Wanted) (w : History) (actor : ℕ) (xs : List Event) → AreMigrating pool wanted → AllByRecursion (IsEntered w actor wanted) xs → AllByRecursion (IsEnteredIn pool w actor) xs
entered-in pool wanted w actor [] all h = tt
entered-in pool wanted w actor (e ∷ xs) all h =
    let m = all h.0.0 h.0.2 in
    ((h.0.0.object, m.0, m.1, h.0.1, subst (λ (to : Aim). IsEntryFor h.0.0.object to h.0.1) m.2 h.0.3, h.0.4), entered-in pool wanted w actor xs all h.1)

pub enters-from : (pool : ℕ) (wanted : List Wanted) (xs : List Event) → AreMigrating pool wanted → EntersOnly wanted xs → EntersFrom pool xs
enters-from pool wanted xs all h w actor a b none f = entered-in pool wanted w actor (made xs) all (h w actor a b none f)

pub enters-both : (pool : ℕ) (xs ys : List Event) → EntersFrom pool xs → LeavesNone xs → EntersFrom pool ys → EntersFrom pool (xs ++ ys)
enters-both pool xs ys h none_left g w actor a b none f =
    let r = fits-cut w actor a b xs ys f in
    subst (λ (es : List Event). AllByRecursion (IsEnteredIn pool w actor) es) (sym (made-append xs ys))
    (all-append (IsEnteredIn pool w actor) (made xs) (made ys) (h w actor a r.0 none r.1) (g w actor r.0 b (none_left w actor a r.0 none r.1) r.2))

failed-in : (pool : ℕ) (wanted : List Wanted) (events : List Event) (object : ℕ) → AreMigrating pool wanted → HasFailed wanted 0 events object → HasFailedIn pool events object
failed-in pool wanted events object all h = (h.0, all h.0 h.4, (h.0, h.1, h.2, h.3, inl refl, h.5, h.6, h.7))

pub each-failed : (pool : ℕ) (wanted : List Wanted) (events : List Event) (objects : List ℕ) → AreMigrating pool wanted → AllByRecursion (HasFailed wanted 0 events) objects → AllByRecursion (HasFailedIn pool events) objects
each-failed pool wanted events [] all h = tt
each-failed pool wanted events (o ∷ objects) all h = (failed-in pool wanted events o all h.0, each-failed pool wanted events objects all h.1)

-- ---- refusals that nothing holds

onward-other : (within : Bool) (next : Option ℕ) (e : Refusal) → onward within next ≡ Err e → (h : Holder) → e ≡ refused.Busy h → ⊥
onward-other within None e is h busy = (let odd : ◌≡◌ {A = Result (Option ℕ) Refusal} (Err refused.BadHierarchy) (Err (refused.Busy h)) = is ∙ ap (λ (x : Refusal). Err x) busy in cc)
onward-other true (Some next) e is h busy = absurd cc
onward-other false (Some next) e is h busy = absurd cc

of-other : (low : ℕ) (found : Option PoolLine) (e : Refusal) → target_of low found ≡ Err e → (h : Holder) → e ≡ refused.Busy h → ⊥
of-other low None e is h busy = (let odd : ◌≡◌ {A = Result (Option ℕ) Refusal} (Err refused.NotFound) (Err (refused.Busy h)) = is ∙ ap (λ (x : Refusal). Err x) busy in cc)
of-other low (Some line) e is h busy = onward-other (is_within low line) line.settings.next e is h busy

target-other : (pool low : ℕ) (lines : List PoolLine) (e : Refusal) → target pool low lines ≡ Err e → (h : Holder) → e ≡ refused.Busy h → ⊥
target-other pool low lines e is h busy = of-other low (line_of pool lines) e is h busy

ten-other : (e : Refusal) → (number_of e == 10) ≡ true → (h : Holder) → e ≡ refused.Busy h → ⊥
ten-other e ten h busy = (let odd : (number_of (refused.Busy h) == 10) ≡ true = subst (λ (x : Refusal). (number_of x == 10) ≡ true) busy ten in cc)

unlisted-unheld : (q : Query) (xs : List Event) (e : Refusal) → AreAsking xs → IsUnlisted q xs e → IsUnheld xs e
unlisted-unheld q xs e asks (inl stopped) = asking-unheld xs e asks stopped
unlisted-unheld q xs e asks (inr h) = other-unheld xs e (ten-other e h.0)

-- ---- what breaks off

asks-break : (pool low : ℕ) (xs : List Event) (e : Refusal) → AreAsking xs → IsUnheld xs e → IsStopped xs e ⊎ IsBarred pool low xs e → Breaks pool low xs e
asks-break pool low xs e asks unheld cause =
    let b : IsBegun xs = asks-begun xs asks in
    let p : Part [] 0 xs none_moved = part-of-asks 0 xs asks in
    let none : AreMigrating pool [] = λ x i. absurd i in
    record {
      cause = cause;
      unheld = unheld;
      only = only-migration pool [] xs none p.only;
      entries = enters-from pool [] xs none p.entries;
      settled = λ leave. b.settled;
      none_left = λ leave. b.none_left;
    }

pools-ask : (xs : List Event) (lines : List PoolLine) → AskedPools xs lines → AreAsking xs
pools-ask xs lines h = subst AreAsking (sym h.2) ((query.Pools None, Ok h.1, refl), tt)

pub looked-asks : (pool low : ℕ) (xs : List Event) (is : Result (Option ℕ) Refusal) → Looked pool low xs is → AreAsking xs
looked-asks pool low xs is h = pools-ask xs h.0 h.1

-- what the pools were by the answer, they are at that number
pub goes-so : (pool low : ℕ) (xs : List Event) (is : Result (Option ℕ) Refusal) → Looked pool low xs is → GoesSo pool low xs is
goes-so pool low xs is h w actor a b f =
    let n : ℕ = h.1.0 in
    let s : Step w actor a (event n (Ask (query.Pools None) (Ok h.1.1))) b =
    fits-one w actor a b (event n (Ask (query.Pools None) (Ok h.1.1))) (subst (λ (es : List Event). Fits w actor a es b) h.1.2 f) in
    let lines : h.0 ≡ pool_lines None (inv w n).stores = asked-pools w actor a b n h.1.1 h.0 s h.1.3 in
    (n, s.since, reaches w actor a b (event n (Ask (query.Pools None) (Ok h.1.1))) s, ap (target pool low) (sym lines) ∙ h.2)

why-told : (pool low : ℕ) (xs : List Event) (e : Refusal) → Looked pool low xs (Err e) → MetBy (TellsWhy pool low e) xs
why-told pool low xs e h = subst (λ (es : List Event). MetBy (TellsWhy pool low e) es) (sym h.1.2) (inl (h.1.1, h.0, refl, h.1.3, h.2))

pub look-breaks : (pool low : ℕ) (xs : List Event) (e : Refusal) → Looks pool low xs (Err e) → Breaks pool low xs e
look-breaks pool low xs e (inl h) = asks-break pool low xs e h.1 (asking-unheld xs e h.1 h.0) (inl h.0)
look-breaks pool low xs e (inr h) =
    asks-break pool low xs e (looked-asks pool low xs (Err e) h) (other-unheld xs e (target-other pool low h.0 e h.2)) (inr (inl (goes-so pool low xs (Err e) h, why-told pool low xs e h)))

unlisted-bars : (pool low : ℕ) (xs : List Event) (e : Refusal) → IsUnlisted (query.OnPool pool) xs e → IsStopped xs e ⊎ IsBarred pool low xs e
unlisted-bars pool low xs e (inl h) = inl h
unlisted-bars pool low xs e (inr h) = inr (inr (inl h))

these-move : (wanted : List Wanted) (xs : List Event) → AreOfThese wanted 0 xs → AreMoving wanted 0 xs
these-move wanted [] h = tt
these-move wanted (e ∷ xs) h = (inr h.0, these-move wanted xs h.1)

run-breaks : (pool : ℕ) (x : Wanted) (xs : List Event) (e : Refusal) → IsMigrating pool x → Run (x ∷ []) 0 xs (Err e) → BreaksFor pool (IsCausedByOne (x ∷ []) 0 xs e) xs e
run-breaks pool x xs e m r = record {
  cause = r.outcome.0;
  unheld = run-unheld (x ∷ []) 0 xs e r;
  only = only-migration pool (x ∷ []) xs (one-migrates pool x m) (these-move (x ∷ []) xs r.only);
  entries = enters-from pool (x ∷ []) xs (one-migrates pool x m) r.entries;
  settled = r.outcome.1;
  none_left = r.outcome.2;
}

-- ---- behind other steps

so-behind : (pool low : ℕ) (xs ys : List Event) (is : Result (Option ℕ) Refusal) → GoesSo pool low ys is → GoesSo pool low (xs ++ ys) is
so-behind pool low xs ys is h w actor a b f =
    let r = fits-cut w actor a b xs ys f in
    let g = h w actor r.0 b r.2 in
    let rise : a.reached ≤ r.0.reached = fits-rises w actor a r.0 xs r.1 in
    let low_then : r.0.reached ≤ g.0 = g.1 in
    (g.0, omega arith, g.2, g.3)

pub cause-behind : (pool low : ℕ) (xs ys : List Event) (e : Refusal) → IsStopped ys e ⊎ IsBarred pool low ys e → IsStopped (xs ++ ys) e ⊎ IsBarred pool low (xs ++ ys) e
cause-behind pool low xs ys e (inl h) = inl (stopped-behind xs ys e h)
cause-behind pool low xs ys e (inr (inl h)) = inr (inl (so-behind pool low xs ys (Err e) h.0, met-behind (TellsWhy pool low e) xs ys h.1))
cause-behind pool low xs ys e (inr (inr (inl h))) = inr (inr (inl (h.0, met-behind (λ d. d ≡ Ask (query.OnPool pool) (Err e)) xs ys h.1)))
cause-behind pool low xs ys e (inr (inr (inr h))) =
    inr (inr (inr (h.0, (h.1.0, h.1.1, h.1.2, met-behind (TellsNext pool low h.1.2) xs ys h.1.3, ticket-behind h.1.0 pool h.1.1 h.1.2 true 0 xs ys e h.1.4))))

for-behind : (pool : ℕ) (C D : Type 0) (wanted : List Wanted) (xs ys : List Event) (m : Moved) (e : Refusal) → AreMigrating pool wanted → Part wanted 0 xs m → (C → D) → BreaksFor pool C ys e → BreaksFor pool D (xs ++ ys) e
for-behind pool C D wanted xs ys m e all p so h = record {
  cause = so h.cause;
  unheld = unheld-behind xs ys e h.unheld;
  only = all-append (λ x. IsMigration pool x.deed) xs ys (only-migration pool wanted xs all p.only) h.only;
  entries = enters-both pool xs ys (enters-from pool wanted xs all p.entries) p.done.none_left h.entries;
  settled = λ leave. settled-append xs ys p.done.settled (h.settled leave);
  none_left = λ leave. then-none xs ys p.done.none_left (h.none_left leave);
}

pub breaks-behind : (pool low : ℕ) (wanted : List Wanted) (xs ys : List Event) (m : Moved) (e : Refusal) → AreMigrating pool wanted → Part wanted 0 xs m → Breaks pool low ys e → Breaks pool low (xs ++ ys) e
breaks-behind pool low wanted xs ys m e all p h =
    for-behind pool (IsStopped ys e ⊎ IsBarred pool low ys e) (IsStopped (xs ++ ys) e ⊎ IsBarred pool low (xs ++ ys) e) wanted xs ys m e all p (cause-behind pool low xs ys e) h

asks-behind : (pool low : ℕ) (xs ys : List Event) (e : Refusal) → AreAsking xs → Breaks pool low ys e → Breaks pool low (xs ++ ys) e
asks-behind pool low xs ys e asks h = breaks-behind pool low [] xs ys none_moved e (λ x i. absurd i) (part-of-asks 0 xs asks) h

-- want of memory behind a part
pub part-breaks : (pool low : ℕ) (wanted : List Wanted) (xs : List Event) (m : Moved) → AreMigrating pool wanted → Part wanted 0 xs m → Breaks pool low xs refused.Memory
part-breaks pool low wanted xs m all p = record {
  cause = inl (inl refl);
  unheld = other-unheld xs refused.Memory (λ h busy. cc);
  only = only-migration pool wanted xs all p.only;
  entries = enters-from pool wanted xs all p.entries;
  settled = λ leave. p.done.settled;
  none_left = λ leave. p.done.none_left;
}

-- ---- one turn

filled-asks : (pool : ℕ) (r q : Rest) (empty : Bool) (xs : List Event) → Filled empty pool r xs q → AreAsking xs
filled-asks pool r q false xs h = subst AreAsking (sym h.0) tt
filled-asks pool r q true xs h = subst AreAsking (sym h.2.1) ((query.OnPool pool, Ok h.0, refl), tt)

next-told : (pool low to : ℕ) (xs : List Event) → Looked pool low xs (Ok (Some to)) → MetBy (TellsNext pool low to) xs
next-told pool low to xs h = subst (λ (es : List Event). MetBy (TellsNext pool low to) es) (sym h.1.2) (inl (h.1.1, h.0, refl, h.1.3, h.2))

-- what is left of a list was listed, or was left before
fill-left : (pool object : ℕ) (r k : Rest) (empty : Bool) (us : List Event) → Filled empty pool r us k → HasLeft object k → MetBy (ListsCopy object pool) us ⊎ HasLeft object r
fill-left pool object r k true us (answer, lines, asked, told, is) (c, among, same) =
    let l = flat-parts (candidates_of r.seen) c lines (subst (λ (x : Rest). IsIn c x.candidates) is among) in
    let its = is-only (is_fresh r.seen l.0) (candidate l.0) c l.2 in
    inl (subst (λ (es : List Event). MetBy (ListsCopy object pool) es) (sym asked.1) (inl (inr (answer, lines, l.0, refl, told, l.1, ap (λ (x : Candidate). x.object) its.0 ∙ same))))
fill-left pool object r k false us (none, is) left = inr (subst (λ (x : Rest). HasLeft object x) is left)

at-in : (xs : List Candidate) (place : ℕ) (c : Candidate) → slice_get xs place ≡ Some c → IsIn c xs
at-in [] place c is = absurd cc
at-in (x ∷ xs) zero c is = inl (same_Some x c is)
at-in (x ∷ xs) (suc place) c is = inr (at-in xs place c is)

in-removed : (xs : List Candidate) (place : ℕ) (c : Candidate) → IsIn c (remove xs place) → IsIn c xs
in-removed [] zero c i = absurd i
in-removed [] (suc place) c i = absurd i
in-removed (x ∷ xs) zero c i = inr i
in-removed (x ∷ xs) (suc place) c (inl same) = inl same
in-removed (x ∷ xs) (suc place) c (inr i) = inr (in-removed xs place c i)

turned-listed : (picks : Picks) (pool low object : ℕ) (r s : Rest) (x : Wanted) (m : Moved) (events before : List Event) → Turned picks pool low r s x m events → (HasLeft object r → MetBy (ListsCopy object pool) before) → HasLeft object s
    → MetBy (ListsCopy object pool) (before ++ events)
turned-listed picks pool low object r s x m events before (to, k, picked, (xs, ys, cut, looked, (us, vs, both, filled, run))) first (c, among, same) =
    let left : HasLeft object k = (c, in-removed k.candidates picked.0 c (subst (λ (y : Rest). IsIn c y.candidates) picked.6 among), same) in
    elim (fill-left pool object r k (is_nil r.candidates) us filled left) as (λ _. MetBy (ListsCopy object pool) (before ++ events)) [
      | inl listed ↦ met-behind (ListsCopy object pool) before events
          (subst (λ (es : List Event). MetBy (ListsCopy object pool) es) (sym cut)
          (met-behind (ListsCopy object pool) xs ys (subst (λ (es : List Event). MetBy (ListsCopy object pool) es) (sym both) (met-before (ListsCopy object pool) us vs listed))))
      | inr old ↦ met-before (ListsCopy object pool) before events (first old)
    ]

-- what is left behind some turns was listed by one of them, or was left before
turns-listed : (picks : Picks) (pool low object : ℕ) (r s : Rest) (wanted : List Wanted) (events before : List Event) → Turns picks pool low r s wanted events → (HasLeft object r → MetBy (ListsCopy object pool) before) → HasLeft object s
    → MetBy (ListsCopy object pool) (before ++ events)
turns-listed picks pool low object r s [] events before h first left = met-before (ListsCopy object pool) before events (first (subst (λ (x : Rest). HasLeft object x) h.1 left))
turns-listed picks pool low object r s (x ∷ wanted) events before (q, m, (us, vs, cut, turned, more)) first left =
    subst (λ (es : List Event). MetBy (ListsCopy object pool) es) (append_assoc before us vs ∙ ap (λ (es : List Event). before ++ es) (sym cut))
    (turns-listed picks pool low object q s wanted vs (before ++ us) more (turned-listed picks pool low object r q x m us before turned first) left)

one-is : (x y : Wanted) → IsIn y (x ∷ []) → x ≡ y
one-is x y (inl same) = same
one-is x y (inr i) = absurd i

-- why a turn ended in which a copy was picked
turn-caused : (picks : Picks) (pool low to : ℕ) (r k s : Rest) (x : Wanted) (xs us vs : List Event) (e : Refusal) → IsPicked picks pool to k s x → Looked pool low xs (Ok (Some to)) → Filled (is_nil r.candidates) pool r us k
    → IsCausedByOne (x ∷ []) 0 vs e → IsStopped (xs ++ (us ++ vs)) e ⊎ IsBarred pool low (xs ++ (us ++ vs)) e ⊎ IsLeftBehind pool low r (xs ++ (us ++ vs)) e
turn-caused picks pool low to r k s x xs us vs e picked looked filled h =
    elim h.2 as (λ _. IsStopped (xs ++ (us ++ vs)) e ⊎ IsBarred pool low (xs ++ (us ++ vs)) e ⊎ IsLeftBehind pool low r (xs ++ (us ++ vs)) e) [
      | inl memory ↦ inl (inl memory)
      | inr more ↦ elim more as (λ _. IsStopped (xs ++ (us ++ vs)) e ⊎ IsBarred pool low (xs ++ (us ++ vs)) e ⊎ IsLeftBehind pool low r (xs ++ (us ++ vs)) e) [
        | inl met ↦ inl (stopped-behind xs (us ++ vs) e (stopped-behind us vs e (inr met)))
        | inr gone ↦ by-ticket gone.0 gone.1
      ]
    ]
  where
    by-ticket : (number_of e == 10) ≡ true → MetBy (λ d. d ≡ OpenCopy h.0.object h.0.aim 0 (Err e)) vs → IsStopped (xs ++ (us ++ vs)) e ⊎ IsBarred pool low (xs ++ (us ++ vs)) e ⊎ IsLeftBehind pool low r (xs ++ (us ++ vs)) e
    by-ticket ten met =
        let c : Candidate = picked.1 in
        let placed : ℕ = picked.2 in
        let Opens : Deed → Type 0 = (λ d. d ≡ OpenCopy c.object (aim.Move pool placed to true) 0 (Err e)) in
        let same : moving pool to c placed ≡ h.0 = sym picked.7 ∙ one-is x h.0 h.1 in
        let opened : MetBy Opens vs = subst (λ (y : Wanted). MetBy (λ d. d ≡ OpenCopy y.object y.aim 0 (Err e)) vs) (sym same) met in
        let next : MetBy (TellsNext pool low to) (xs ++ (us ++ vs)) = met-before (TellsNext pool low to) xs (us ++ vs) (next-told pool low to xs looked) in
        elim (fill-left pool c.object r k (is_nil r.candidates) us filled (c, at-in k.candidates picked.0 c picked.4, refl))
        as (λ _. IsStopped (xs ++ (us ++ vs)) e ⊎ IsBarred pool low (xs ++ (us ++ vs)) e ⊎ IsLeftBehind pool low r (xs ++ (us ++ vs)) e) [
          | inl listed ↦ inr (inl (inr (inr (ten, (c.object, placed, to, next, (xs ++ us, vs, sym (append_assoc xs us vs), met-behind (ListsCopy c.object pool) xs us listed, opened))))))
          | inr left ↦ inr (inr (ten, (c.object, placed, to, left, next, met-behind Opens xs (us ++ vs) (met-behind Opens us vs opened))))
        ]

as-turn : (pool low : ℕ) (r : Rest) (xs : List Event) (e : Refusal) → Breaks pool low xs e → EndsTurn pool low r xs e
as-turn pool low r xs e h = record { cause = wider h.cause; unheld = h.unheld; only = h.only; entries = h.entries; settled = h.settled; none_left = h.none_left } where
  wider : IsStopped xs e ⊎ IsBarred pool low xs e → IsStopped xs e ⊎ IsBarred pool low xs e ⊎ IsLeftBehind pool low r xs e
  wider (inl stopped) = inl stopped
  wider (inr barred) = inr (inl barred)

-- behind the turns before it
turn-behind : (picks : Picks) (pool low : ℕ) (r : Rest) (wanted : List Wanted) (xs ys : List Event) (e : Refusal) → Turns picks pool low unasked r wanted xs
    → IsStopped ys e ⊎ IsBarred pool low ys e ⊎ IsLeftBehind pool low r ys e → IsStopped (xs ++ ys) e ⊎ IsBarred pool low (xs ++ ys) e
turn-behind picks pool low r wanted xs ys e turns (inl stopped) = inl (stopped-behind xs ys e stopped)
turn-behind picks pool low r wanted xs ys e turns (inr (inl barred)) = cause-behind pool low xs ys e (inr barred)
turn-behind picks pool low r wanted xs ys e turns (inr (inr (ten, (object, placed, to, left, next, met)))) =
    let listed : MetBy (ListsCopy object pool) xs = turns-listed picks pool low object unasked r wanted xs [] turns (λ none. absurd none.1) left in
    inr (inr (inr (ten, (object, placed, to, met-behind (TellsNext pool low to) xs ys next, (xs, ys, refl, listed, met)))))

-- the pool to which copies go, as it was told
pub to-some : {S : Type 0} (did : S → List Event → S → Type 0) (p q : S) (pool low to : ℕ) (o : Option ℕ) → o ≡ Some to → Call did p q (λ events. Looks pool low events (Ok o))
    → Call did p q (λ events. Looks pool low events (Ok (Some to)))
to-some did p q pool low to o is a = subst (λ (k : Option ℕ). Call did p q (λ events. Looks pool low events (Ok k))) is a

pub turning-as : {S : Type 0} (did : S → List Event → S → Type 0) (p q : S) (picks : Picks) (pool low : ℕ) (r s : Rest) (o k : Option Moved) → o ≡ k → Call did p q (λ events. Turning picks pool low r s events (Ok o))
    → Call did p q (λ events. Turning picks pool low r s events (Ok k))
turning-as did p q picks pool low r s o k is a = subst (λ (l : Option Moved). Call did p q (λ events. Turning picks pool low r s events (Ok l))) is a

pub turn-low : {S : Type 0} (did : S → List Event → S → Type 0) (p q : S) (picks : Picks) (pool low : ℕ) (r s : Rest) → Call did p q (λ events. Looks pool low events (Ok None))
    → Call did p q (λ events. Turning picks pool low r s events (Ok None))
turn-low did p q picks pool low r s a = (a.0, a.1, inl a.2)

pub turn-unlooked : {S : Type 0} (did : S → List Event → S → Type 0) (p q : S) (picks : Picks) (pool low : ℕ) (r s : Rest) (e : Refusal) → Call did p q (λ events. Looks pool low events (Err e))
    → Call did p q (λ events. Turning picks pool low r s events (Err e))
turn-unlooked did p q picks pool low r s e a = (a.0, a.1, as-turn pool low r a.0 e (look-breaks pool low a.0 e a.2))

pub turn-unfilled : {S : Type 0} (did : S → List Event → S → Type 0) → GoesOn did → (p q t : S) (picks : Picks) (pool low to : ℕ) (r k s : Rest) (e : Refusal)
    → Call did p q (λ events. Looks pool low events (Ok (Some to))) → Call did q t (λ events. Fills (is_nil r.candidates) pool r events k (Err e))
    → Call did p t (λ events. Turning picks pool low r s events (Err e))
turn-unfilled did goes p q t picks pool low to r k s e a b =
    call_then did goes (λ events. Looks pool low events (Ok (Some to))) (λ events. Fills (is_nil r.candidates) pool r events k (Err e)) (λ events. Turning picks pool low r s events (Err e)) p q t a b
    (λ xs ys f g. as-turn pool low r (xs ++ ys) e
    (asks-behind pool low xs ys e (looked-asks pool low xs (Ok (Some to)) f) (asks-break pool low ys e g.1 (unlisted-unheld (query.OnPool pool) ys e g.1 g.0) (unlisted-bars pool low ys e g.0))))

none-left : (picks : Picks) (pool low to : ℕ) (r k : Rest) (empty : Bool) (xs ys : List Event) → is_nil r.candidates ≡ empty → is_nil k.candidates ≡ true → Looked pool low xs (Ok (Some to)) → Filled empty pool r ys k
    → IsOver pool low r (xs ++ ys)
none-left picks pool low to r k true xs ys is none f g = inr (to, k, is, none, (xs, ys, refl, f, g))
none-left picks pool low to r k false xs ys is none f g = absurd (false≢true (sym is ∙ ap (λ (l : Rest). is_nil l.candidates) (sym g.1) ∙ none))

pub turn-tried : {S : Type 0} (did : S → List Event → S → Type 0) → GoesOn did → (p q t : S) (picks : Picks) (pool low to : ℕ) (r k s : Rest) → is_nil k.candidates ≡ true
    → Call did p q (λ events. Looks pool low events (Ok (Some to))) → Call did q t (λ events. Fills (is_nil r.candidates) pool r events k (Ok tt))
    → Call did p t (λ events. Turning picks pool low r s events (Ok None))
turn-tried did goes p q t picks pool low to r k s none a b =
    call_then did goes (λ events. Looks pool low events (Ok (Some to))) (λ events. Fills (is_nil r.candidates) pool r events k (Ok tt)) (λ events. Turning picks pool low r s events (Ok None)) p q t a b
    (λ xs ys f g. none-left picks pool low to r k (is_nil r.candidates) xs ys refl none f g)

abbrev turned_by : Result Moved Refusal → Result (Option Moved) Refusal
turned_by (Ok m) = Ok (Some m)
turned_by (Err e) = Err e

turn-of : (picks : Picks) (pool low to : ℕ) (r k s : Rest) (x : Wanted) (result : Result Moved Refusal) (xs us vs : List Event) → IsPicked picks pool to k s x → Looked pool low xs (Ok (Some to))
    → Filled (is_nil r.candidates) pool r us k → Run (x ∷ []) 0 vs result → Turning picks pool low r s (xs ++ (us ++ vs)) (turned_by result)
turn-of picks pool low to r k s x (Ok m) xs us vs i f g h = (x, (to, k, i, (xs, us ++ vs, refl, f, (us, vs, refl, g, h))))
turn-of picks pool low to r k s x (Err e) xs us vs i f g h =
    let Cause : Type 0 = IsStopped (xs ++ (us ++ vs)) e ⊎ IsBarred pool low (xs ++ (us ++ vs)) e ⊎ IsLeftBehind pool low r (xs ++ (us ++ vs)) e in
    for-behind pool Cause Cause [] xs (us ++ vs) none_moved e (λ y n. absurd n) (part-of-asks 0 xs (looked-asks pool low xs (Ok (Some to)) f)) (λ c. c)
    (for-behind pool (IsCausedByOne (x ∷ []) 0 vs e) Cause [] us vs none_moved e (λ y n. absurd n) (part-of-asks 0 us (filled-asks pool r k (is_nil r.candidates) us g))
    (turn-caused picks pool low to r k s x xs us vs e i f g) (run-breaks pool x vs e (picked-migrates picks pool to k s x i) h))

pub turn-made : {S : Type 0} (did : S → List Event → S → Type 0) → GoesOn did → (p q t u : S) (picks : Picks) (pool low to : ℕ) (r k s : Rest) (x : Wanted) (wanted : List Wanted) (result : Result Moved Refusal)
    → wanted ≡ x ∷ [] → IsPicked picks pool to k s x
    → Call did p q (λ events. Looks pool low events (Ok (Some to))) → Call did q t (λ events. Fills (is_nil r.candidates) pool r events k (Ok tt)) → Call did t u (λ events. Run wanted 0 events result)
    → Call did p u (λ events. Turning picks pool low r s events (turned_by result))
turn-made did goes p q t u picks pool low to r k s x wanted result same i a b c =
    let d : Call did t u (λ events. Run (x ∷ []) 0 events result) = subst (λ (ws : List Wanted). Call did t u (λ events. Run ws 0 events result)) same c in (
      a.0 ++ (b.0 ++ d.0),
      goes p q u a.0 (b.0 ++ d.0) a.1 (goes q t u b.0 d.0 b.1 d.1),
      turn-of picks pool low to r k s x result a.0 b.0 d.0 i a.2 b.2 d.2,
    )

-- ---- several

turns-more : (picks : Picks) (pool low : ℕ) (r s t : Rest) (wanted : List Wanted) (x : Wanted) (m : Moved) (xs ys : List Event) → Turns picks pool low r s wanted xs → Turned picks pool low s t x m ys
    → Turns picks pool low r t (wanted ++ x ∷ []) (xs ++ ys)
turns-more picks pool low r s t [] x m xs ys h g =
    subst (λ (k : Rest). Turns picks pool low k t (x ∷ []) (xs ++ ys)) h.1
    (t, m, (ys, [], ap (λ (es : List Event). es ++ ys) h.0 ∙ sym (append-nil ys), g, (refl, refl)))
turns-more picks pool low r s t (y ∷ wanted) x m xs ys h g =
    (h.0, h.1, (h.2.0, h.2.1 ++ ys, ap (λ (es : List Event). es ++ ys) h.2.2 ∙ append_assoc h.2.0 h.2.1 ys, h.2.3, turns-more picks pool low h.0 s t wanted x m h.2.1 ys h.2.4 g))

turned-part : (picks : Picks) (pool low : ℕ) (r s : Rest) (x : Wanted) (m : Moved) (events : List Event) → Turned picks pool low r s x m events → Part (x ∷ []) 0 events m
turned-part picks pool low r s x m events h =
    part-as (x ∷ []) 0 (h.3.0 ++ (h.3.4.0 ++ h.3.4.1)) events m m (h.3.2 ∙ ap (λ (es : List Event). h.3.0 ++ es) h.3.4.2) refl
    (part-behind-asks (x ∷ []) 0 h.3.0 (h.3.4.0 ++ h.3.4.1) m (looked-asks pool low h.3.0 (Ok (Some h.0)) h.3.3)
    (part-behind-asks (x ∷ []) 0 h.3.4.0 h.3.4.1 m (filled-asks pool r h.1 (is_nil r.candidates) h.3.4.0 h.3.4.3) (part-of-run (x ∷ []) 0 h.3.4.1 m h.3.4.4)))

pub going-start : {S : Type 0} (did : S → List Event → S → Type 0) → ((p : S) → did p [] p) → (p : S) (picks : Picks) (pool low : ℕ) (left : Rest) → left ≡ unasked
    → Call did p p (λ events. Going picks pool low left events none_moved)
going-start did stays p picks pool low left is = ([], stays p, record { wanted = []; order = (refl, is); part = part-of-asks 0 [] tt })

going-more : (picks : Picks) (pool low : ℕ) (r s : Rest) (m k : Moved) (xs ys : List Event) → Going picks pool low r xs m → Turning picks pool low r s ys (Ok (Some k)) → Going picks pool low s (xs ++ ys) (both_moved m k)
going-more picks pool low r s m k xs ys g t = record {
  wanted = g.wanted ++ t.0 ∷ [];
  order = turns-more picks pool low unasked r s g.wanted t.0 k xs ys g.order t.1;
  part = part-join g.wanted (t.0 ∷ []) 0 xs ys m k g.part (turned-part picks pool low r s t.0 k ys t.1);
}

pub going-on : {S : Type 0} (did : S → List Event → S → Type 0) → GoesOn did → (p q t : S) (picks : Picks) (pool low : ℕ) (r s : Rest) (m k new : Moved) → new ≡ both_moved m k
    → Call did p q (λ events. Going picks pool low r events m) → Call did q t (λ events. Turning picks pool low r s events (Ok (Some k)))
    → Call did p t (λ events. Going picks pool low s events new)
going-on did goes p q t picks pool low r s m k new same a b =
    call_then did goes (λ events. Going picks pool low r events m) (λ events. Turning picks pool low r s events (Ok (Some k))) (λ events. Going picks pool low s events new) p q t a b
    (λ xs ys f g. subst (λ (n : Moved). Going picks pool low s (xs ++ ys) n) (sym same) (going-more picks pool low r s m k xs ys f g))

going-all : (picks : Picks) (pool low : ℕ) (r : Rest) (xs : List Event) (m : Moved) → (g : Going picks pool low r xs m) → AreMigrating pool g.wanted
going-all picks pool low r xs m g = turns-migrate picks pool low unasked r g.wanted xs g.order

pub going-breaks : {S : Type 0} (did : S → List Event → S → Type 0) → GoesOn did → (p q t : S) (picks : Picks) (pool low : ℕ) (r s : Rest) (m : Moved) (e : Refusal)
    → Call did p q (λ events. Going picks pool low r events m) → Call did q t (λ events. Turning picks pool low r s events (Err e)) → Call did p t (λ events. Lowers picks pool low events (Err e))
going-breaks did goes p q t picks pool low r s m e a b =
    call_then did goes (λ events. Going picks pool low r events m) (λ events. Turning picks pool low r s events (Err e)) (λ events. Lowers picks pool low events (Err e)) p q t a b
    (λ xs ys f g. for-behind pool (IsStopped ys e ⊎ IsBarred pool low ys e ⊎ IsLeftBehind pool low r ys e) (IsStopped (xs ++ ys) e ⊎ IsBarred pool low (xs ++ ys) e) f.wanted xs ys m e (going-all picks pool low r xs m f) f.part
    (turn-behind picks pool low r f.wanted xs ys e f.order) g)

pub going-ends : {S : Type 0} (did : S → List Event → S → Type 0) (p q : S) (picks : Picks) (pool low : ℕ) (r : Rest) (m : Moved) → Call did p q (λ events. Going picks pool low r events m)
    → Call did p q (λ events. Lowers picks pool low events (Err refused.Memory))
going-ends did p q picks pool low r m a = (a.0, a.1, part-breaks pool low a.2.wanted a.0 m (going-all picks pool low r a.0 m a.2) a.2.part)

pub going-too-far : {S : Type 0} (did : S → List Event → S → Type 0) → GoesOn did → (p q t : S) (picks : Picks) (pool low : ℕ) (r s : Rest) (m k : Moved)
    → Call did p q (λ events. Going picks pool low r events m) → Call did q t (λ events. Turning picks pool low r s events (Ok (Some k)))
    → Call did p t (λ events. Lowers picks pool low events (Err refused.Memory))
going-too-far did goes p q t picks pool low r s m k a b = going-ends did p t picks pool low s (both_moved m k) (going-on did goes p q t picks pool low r s m k (both_moved m k) refl a b)

pub over-asks : (pool low : ℕ) (r : Rest) (xs : List Event) → IsOver pool low r xs → AreAsking xs
over-asks pool low r xs (inl h) = looked-asks pool low xs (Ok None) h
over-asks pool low r xs (inr h) =
    subst AreAsking (sym h.4.2) (all-append (λ e. IsAsking e.deed) h.4.0 h.4.1 (looked-asks pool low h.4.0 (Ok (Some h.0)) h.4.3) (filled-asks pool r h.1 true h.4.1 h.4.4))

migrates-over : (picks : Picks) (pool low : ℕ) (r : Rest) (m : Moved) (xs ys : List Event) → Going picks pool low r xs m → IsOver pool low r ys → Migrates picks pool low (xs ++ ys) m
migrates-over picks pool low r m xs ys g o = record {
  wanted = g.wanted;
  order = (r, (xs, ys, refl, g.order, o));
  part = subst (λ (ws : List Wanted). Part ws 0 (xs ++ ys) m) (append-nil g.wanted)
      (part-as (g.wanted ++ []) 0 (xs ++ ys) (xs ++ ys) (both_moved m none_moved) m refl (sym (none-behind m)) (part-join g.wanted [] 0 xs ys m none_moved g.part (part-of-asks 0 ys (over-asks pool low r ys o))));
}

pub going-over : {S : Type 0} (did : S → List Event → S → Type 0) → GoesOn did → (p q t : S) (picks : Picks) (pool low : ℕ) (r s : Rest) (m : Moved)
    → Call did p q (λ events. Going picks pool low r events m) → Call did q t (λ events. Turning picks pool low r s events (Ok None)) → Call did p t (λ events. Lowers picks pool low events (Ok m))
going-over did goes p q t picks pool low r s m a b =
    call_then did goes (λ events. Going picks pool low r events m) (λ events. Turning picks pool low r s events (Ok None)) (λ events. Lowers picks pool low events (Ok m)) p q t a b
    (λ xs ys f g. migrates-over picks pool low r m xs ys f g)
