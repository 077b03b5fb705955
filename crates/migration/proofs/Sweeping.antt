-- The migration of all pools that are due.
use Rattle.std.proofs.Common.{◌≡◌, ◌⊎◌, inl, inr, ℕ, ◌+◌, ◌-◌, ◌^◌, ◌≤◌, Bool, true, false, List, [], ◌∷◌, ◌++◌, length, Option, Some, None, Result, Ok, Err, IfOk, refl, sym, ap, ap₂, subst, ◌∙◌, arith, append_assoc}
use Rattle.std.proofs.lemmas.List.{append-nil}
use Rattle.std.specs.List.{AllByRecursion}
use Rattle.kinds.specs.declared.refusal.Refusal.{Refusal}
use Rattle.kinds.specs.declared.refusal.Refusal.TheVariants as refused
use Rattle.inventory_answers.specs.declared.lines.PoolLine.{PoolLine}
use Rattle.inventory_answers.specs.declared.query.Query.TheVariants as query
use Rattle.space.specs.declared.aim.Aim.{Aim}
use Rattle.space.specs.declared.aim.Aim.TheVariants as aim
use Rattle.steps.proofs.Joining.{GoesOn, call_then, does_alone}
use Rattle.steps.specs.Calls.{Call, Does, risen}
use Rattle.steps.specs.Events.{Event}
use Rattle.steps.specs.Events.Deed.{Force}
use Rattle.steps.specs.Receipts.{is_forced, made, receipts}
use Rattle.machine.specs.Fits.{Fits, History, Own}
use Rattle.machine.proofs.Runs.{fits-cut}
use Rattle.copy_attempts.proofs.Facts.{all-append, made-append, met-behind}
use Rattle.steps.proofs.Spending.{settled-append}
use Rattle.copy_attempts.specs.Attempts.{stopping}
use Rattle.copy_attempts.specs.Outcomes.{IsOf, MetBy, may_leave}
use Rattle.copy_runs.specs.declared.wanted.Moved.{Moved}
use Rattle.copy_runs.specs.declared.wanted.Wanted.{Wanted}
use Rattle.copy_runs.specs.Ends.{AreAsking, AreEnding, AskedPools, AsksPools, Finishes, IsStopped, IsUnheld}
use Rattle.copy_runs.specs.Parts.{Part, both_moved, none_moved}
use Rattle.copy_runs.specs.Processes.{AreMoving}
use Rattle.copy_runs.specs.Runs.{EntersOnly, HasFailed, IsEntered, IsEntryFor, LeavesNone, failing_in}
use Rattle.copy_runs.specs.Wanting.{IsIn}
use Rattle.copy_runs.proofs.Ending.{force-refused, stopped-behind}
use Rattle.copy_runs.proofs.Outcomes.{failing-append, then-none}
use Rattle.copy_runs.proofs.Parts.{all-before, as-failed, asks-failed, behind-failed, in-either, join-failed, none-behind, part-acknowledged, part-as, part-behind-asks, part-join, part-of-asks}
use Rattle.copy_runs.proofs.Risen.{call-rises}
use Rattle.copy_runs.proofs.Unheld.{asking-unheld, ending-unheld, other-unheld, unheld-behind}
use Rattle.copy_runs.proofs.Whole.{asks-begun, ends-none, ends-settled, ends-unmade}
use Rattle.migration.specs.declared.sweep.Due.{Due}
use Rattle.migration.specs.declared.sweep.Swept.{Swept}
use Rattle.migration.specs.Migrating.{AreMigration, Breaks, EntersFrom, IsEnteredIn, IsForced, IsMigrated, IsMigration, Lowers, Migrates}
use Rattle.migration.specs.Sweeping.{AllMigration, AreAny, AreSweep, AskedDue, AsksDue, EntersAny, HasFailedAny, IsAny, IsBarredIn, IsEnteredAny, IsSweep, SweepBreaks, SweepTurn, Sweeping, Sweeps, SweepsAll, SweptAll, TellsDue, Turn, due_of, last_of_turns}
use Rattle.migration.specs.Turns.{Picks, unasked}
use Rattle.migration.proofs.Rows.{row-of}
use Rattle.migration.proofs.Turning.{AreMigrating, cause-behind, turns-migrate}

-- ---- of any pool

any-migration : (pool : ℕ) (xs : List Event) → AreMigration pool xs → AreSweep xs
any-migration pool [] h = tt
any-migration pool (e ∷ xs) h = (
  elim h.0 as (λ _. IsSweep e.deed) [
    | inl ending ↦ inl ending
    | inr one ↦ inr (one.0, pool, one.1, one.2, one.3)
  ],
  any-migration pool xs h.1,
)

any-entered : (pool : ℕ) (w : History) (actor : ℕ) (xs : List Event) → AllByRecursion (IsEnteredIn pool w actor) xs → AllByRecursion (IsEnteredAny w actor) xs
any-entered pool w actor [] h = tt
any-entered pool w actor (e ∷ xs) h = ((h.0.0, pool, h.0.1, h.0.2, h.0.3, h.0.4, h.0.5), any-entered pool w actor xs h.1)

any-enters : (pool : ℕ) (xs : List Event) → EntersFrom pool xs → EntersAny xs
any-enters pool xs h w actor a b none f = any-entered pool w actor (made xs) (h w actor a b none f)

only-any : (wanted : List Wanted) (xs : List Event) → AreAny wanted → AreMoving wanted 0 xs → AreSweep xs
only-any wanted [] all h = tt
only-any wanted (e ∷ xs) all h = (
  elim h.0 as (λ _. IsSweep e.deed) [
    | inl ending ↦ inl ending
    | inr one ↦ (let m = all one.0 one.1 in inr (one.0.object, m.0, m.1.0, m.1.1, subst (λ (to : Aim). IsOf one.0.object to 0 e.deed) m.1.2 one.2))
  ],
  only-any wanted xs all h.1,
)

entered-any : (wanted : List Wanted) (w : History) (actor : ℕ) (xs : List Event) → AreAny wanted → AllByRecursion (IsEntered w actor wanted) xs → AllByRecursion (IsEnteredAny w actor) xs
entered-any wanted w actor [] all h = tt
entered-any wanted w actor (e ∷ xs) all h =
    let m = all h.0.0 h.0.2 in
    ((h.0.0.object, m.0, m.1.0, m.1.1, h.0.1, subst (λ (to : Aim). IsEntryFor h.0.0.object to h.0.1) m.1.2 h.0.3, h.0.4), entered-any wanted w actor xs all h.1)

enters-any : (wanted : List Wanted) (xs : List Event) → AreAny wanted → EntersOnly wanted xs → EntersAny xs
enters-any wanted xs all h w actor a b none f = entered-any wanted w actor (made xs) all (h w actor a b none f)

enters-both : (xs ys : List Event) → EntersAny xs → LeavesNone xs → EntersAny ys → EntersAny (xs ++ ys)
enters-both xs ys h none_left g w actor a b none f =
    let r = fits-cut w actor a b xs ys f in
    subst (λ (es : List Event). AllByRecursion (IsEnteredAny w actor) es) (sym (made-append xs ys))
    (all-append (IsEnteredAny w actor) (made xs) (made ys) (h w actor a r.0 none r.1) (g w actor r.0 b (none_left w actor a r.0 none r.1) r.2))

failed-any : (wanted : List Wanted) (events : List Event) (objects : List ℕ) → AreAny wanted → AllByRecursion (HasFailed wanted 0 events) objects → AllByRecursion (HasFailedAny events) objects
failed-any wanted events [] all h = tt
failed-any wanted events (o ∷ objects) all h = ((h.0.0, all h.0.0 h.0.4, (h.0.0, h.0.1, h.0.2, h.0.3, inl refl, h.0.5, h.0.6, h.0.7)), failed-any wanted events objects all h.1)

any-behind : (xs ys : List Event) (e : Refusal) → IsStopped ys e ⊎ IsBarredIn ys e → IsStopped (xs ++ ys) e ⊎ IsBarredIn (xs ++ ys) e
any-behind xs ys e (inl h) = inl (stopped-behind xs ys e h)
any-behind xs ys e (inr h) = elim (cause-behind h.0.pool h.0.low xs ys e (inr h.2)) as (λ _. IsStopped (xs ++ ys) e ⊎ IsBarredIn (xs ++ ys) e) [
  | inl stopped ↦ inl stopped
  | inr barred ↦ inr (h.0, met-behind (TellsDue h.0) xs ys h.1, barred)
]

breaks-behind : (wanted : List Wanted) (xs ys : List Event) (m : Moved) (e : Refusal) → AreAny wanted → Part wanted 0 xs m → SweepBreaks ys e → SweepBreaks (xs ++ ys) e
breaks-behind wanted xs ys m e all p h = record {
  cause = any-behind xs ys e h.cause;
  unheld = unheld-behind xs ys e h.unheld;
  only = all-append (λ x. IsSweep x.deed) xs ys (only-any wanted xs all p.only) h.only;
  entries = enters-both xs ys (enters-any wanted xs all p.entries) p.done.none_left h.entries;
  settled = λ leave. settled-append xs ys p.done.settled (h.settled leave);
  none_left = λ leave. then-none xs ys p.done.none_left (h.none_left leave);
}

none-any : AreAny []
none-any x i = absurd i

part-breaks : (wanted : List Wanted) (xs : List Event) (m : Moved) (e : Refusal) → IsStopped xs e → IsUnheld xs e → AreAny wanted → Part wanted 0 xs m → SweepBreaks xs e
part-breaks wanted xs m e stopped unheld all p = record {
  cause = inl stopped;
  unheld = unheld;
  only = only-any wanted xs all p.only;
  entries = enters-any wanted xs all p.entries;
  settled = λ leave. p.done.settled;
  none_left = λ leave. p.done.none_left;
}

-- ---- the question

asked-so : (before : Option ℕ) (lines those : List PoolLine) (next : Option Due) (events : List Event) → those ≡ lines → next ≡ due_of before those → AsksPools events (Ok lines) → AsksDue before events (Ok next)
asked-so before lines those next events same h a = (lines, a, ap (due_of before) (sym same) ∙ sym h)

pub asked-due : {S : Type 0} (did : S → List Event → S → Type 0) (p q : S) (before : Option ℕ) (lines those : List PoolLine) (next : Option Due) → those ≡ lines → next ≡ due_of before those
    → Call did p q (λ events. AsksPools events (Ok lines)) → Call did p q (λ events. AsksDue before events (Ok next))
asked-due did p q before lines those next same h a = (a.0, a.1, asked-so before lines those next a.0 same h a.2)

due-asks : (before : Option ℕ) (xs : List Event) (next : Option Due) → AskedDue before xs next → AreAsking xs
due-asks before xs next h = subst AreAsking (sym h.1.2) ((query.Pools None, Ok h.1.1, refl), tt)

pub due-as : {S : Type 0} (did : S → List Event → S → Type 0) (p q : S) (before : Option ℕ) (o k : Option Due) → o ≡ k → Call did p q (λ events. AsksDue before events (Ok o)) → Call did p q (λ events. AsksDue before events (Ok k))
due-as did p q before o k is a = subst (λ (l : Option Due). Call did p q (λ events. AsksDue before events (Ok l))) is a

-- ---- one pool

pub sweep-none : {S : Type 0} (did : S → List Event → S → Type 0) (p q : S) (picks : Picks) (before : Option ℕ) → Call did p q (λ events. AsksDue before events (Ok None))
    → Call did p q (λ events. SweepTurn picks before events (Ok None))
sweep-none did p q picks before a = a

pub sweep-unasked : {S : Type 0} (did : S → List Event → S → Type 0) (p q : S) (picks : Picks) (before : Option ℕ) (e : Refusal) → Call did p q (λ events. AsksDue before events (Err e))
    → Call did p q (λ events. SweepTurn picks before events (Err e))
sweep-unasked did p q picks before e a = (a.0, a.1, part-breaks [] a.0 none_moved e a.2.0 (asking-unheld a.0 e a.2.1 a.2.0) none-any (part-of-asks 0 a.0 a.2.1))

turn-row : (picks : Picks) (pool low : ℕ) (xs : List Event) (m : Moved) → (h : Migrates picks pool low xs m) → IsMigrated pool low h.part.done.failed xs
turn-row picks pool low xs m h = subst (λ (es : List Event). IsMigrated pool low h.part.done.failed es) (append-nil xs) (row-of picks pool low h.wanted m xs [] h.order h.part (inl refl))

sweep-ok : (picks : Picks) (before : Option ℕ) (t : Due) (m : Moved) (xs ys : List Event) → AskedDue before xs (Some t) → Migrates picks t.pool t.low ys m
    → SweepTurn picks before (xs ++ ys) (Ok (Some (record { pool = t.pool; moved = m })))
sweep-ok picks before t m xs ys a h =
    (t, h.part.done.failed, refl, (xs, ys, refl, a, record { migrates = h; same = refl; row = turn-row picks t.pool t.low ys m h }))

pub sweep-moved : {S : Type 0} (did : S → List Event → S → Type 0) → GoesOn did → (p q r : S) (picks : Picks) (before : Option ℕ) (t : Due) (m : Moved)
    → Call did p q (λ events. AsksDue before events (Ok (Some t))) → Call did q r (λ events. Lowers picks t.pool t.low events (Ok m))
    → Call did p r (λ events. SweepTurn picks before events (Ok (Some (record { pool = t.pool; moved = m }))))
sweep-moved did goes p q r picks before t m a b =
    call_then did goes (λ events. AsksDue before events (Ok (Some t))) (λ events. Lowers picks t.pool t.low events (Ok m))
    (λ events. SweepTurn picks before events (Ok (Some (record { pool = t.pool; moved = m })))) p q r a b (λ xs ys f g. sweep-ok picks before t m xs ys f g)

due-told : (before : Option ℕ) (t : Due) (xs ys : List Event) → AskedDue before xs (Some t) → MetBy (TellsDue t) (xs ++ ys)
due-told before t xs ys h = subst (λ (es : List Event). MetBy (TellsDue t) (es ++ ys)) (sym h.1.2) (inl (before, h.1.1, h.0, refl, h.1.3, h.2))

broke-of : (before : Option ℕ) (t : Due) (xs ys : List Event) (e : Refusal) → AskedDue before xs (Some t) → Breaks t.pool t.low ys e → SweepBreaks (xs ++ ys) e
broke-of before t xs ys e asked h =
    let p : Part [] 0 xs none_moved = part-of-asks 0 xs (due-asks before xs (Some t) asked) in
    record {
      cause = elim (cause-behind t.pool t.low xs ys e h.cause) as (λ _. IsStopped (xs ++ ys) e ⊎ IsBarredIn (xs ++ ys) e) [
        | inl stopped ↦ inl stopped
        | inr barred ↦ inr (t, due-told before t xs ys asked, barred)
      ];
      unheld = unheld-behind xs ys e h.unheld;
      only = all-append (λ x. IsSweep x.deed) xs ys (only-any [] xs none-any p.only) (any-migration t.pool ys h.only);
      entries = enters-both xs ys (enters-any [] xs none-any p.entries) p.done.none_left (any-enters t.pool ys h.entries);
      settled = λ leave. settled-append xs ys p.done.settled (h.settled leave);
      none_left = λ leave. then-none xs ys p.done.none_left (h.none_left leave);
    }

pub sweep-broke : {S : Type 0} (did : S → List Event → S → Type 0) → GoesOn did → (p q r : S) (picks : Picks) (before : Option ℕ) (t : Due) (e : Refusal)
    → Call did p q (λ events. AsksDue before events (Ok (Some t))) → Call did q r (λ events. Lowers picks t.pool t.low events (Err e))
    → Call did p r (λ events. SweepTurn picks before events (Err e))
sweep-broke did goes p q r picks before t e a b =
    call_then did goes (λ events. AsksDue before events (Ok (Some t))) (λ events. Lowers picks t.pool t.low events (Err e)) (λ events. SweepTurn picks before events (Err e)) p q r a b
    (λ xs ys f g. broke-of before t xs ys e f g)

-- ---- several

sweeps-more : (picks : Picks) (before : Option ℕ) (turns : List Due) (failed : List ℕ) (t : Due) (some : List ℕ) (m : Moved) (xs ys zs : List Event) → Sweeps picks before turns failed xs
    → AskedDue (last_of_turns before turns) ys (Some t) → Turn picks t.pool t.low some zs m → Sweeps picks before (turns ++ t ∷ []) (failed ++ some) (xs ++ (ys ++ zs))
sweeps-more picks before [] failed t some m xs ys zs h a g = (
  m,
  some,
  [],
  ap (λ (fs : List ℕ). fs ++ some) h.1 ∙ sym (append-nil some),
  (
    ys,
    zs ++ [],
    ap (λ (es : List Event). es ++ (ys ++ zs)) h.0 ∙ ap (λ (es : List Event). ys ++ es) (sym (append-nil zs)),
    a,
    (zs, [], refl, g, (refl, refl)),
  ),
)
sweeps-more picks before (u ∷ turns) failed t some m xs ys zs h a g = (
  h.0,
  h.1,
  h.2 ++ some,
  ap (λ (fs : List ℕ). fs ++ some) h.3 ∙ append_assoc h.1 h.2 some,
  (
    h.4.0,
    h.4.1 ++ (ys ++ zs),
    ap (λ (es : List Event). es ++ (ys ++ zs)) h.4.2 ∙ append_assoc h.4.0 h.4.1 (ys ++ zs),
    h.4.3,
    (
      h.4.4.0,
      h.4.4.1 ++ (ys ++ zs),
      ap (λ (es : List Event). es ++ (ys ++ zs)) h.4.4.2 ∙ append_assoc h.4.4.0 h.4.4.1 (ys ++ zs),
      h.4.4.3,
      sweeps-more picks (Some u.pool) turns h.2 t some m h.4.4.1 ys zs h.4.4.4 a g,
    ),
  ),
)

last-more : (before : Option ℕ) (turns : List Due) (t : Due) → last_of_turns before (turns ++ t ∷ []) ≡ Some t.pool
last-more before [] t = refl
last-more before (u ∷ turns) t = last-more (Some u.pool) turns t

any-both : (xs ys : List Wanted) → AreAny xs → AreAny ys → AreAny (xs ++ ys)
any-both xs ys h g x i = elim (in-either x xs ys i) as (λ _. IsAny x) [ inl a ↦ h x a | inr b ↦ g x b ]

turn-any : (picks : Picks) (pool low : ℕ) (xs : List Event) (m : Moved) → (h : Migrates picks pool low xs m) → AreAny h.wanted
turn-any picks pool low xs m h x i = (pool, turns-migrate picks pool low unasked h.order.0 h.wanted h.order.1.0 h.order.1.3 x i)

pub sweeping-start : {S : Type 0} (did : S → List Event → S → Type 0) → ((p : S) → did p [] p) → (p : S) (picks : Picks) → Call did p p (λ events. Sweeping picks None events none_moved)
sweeping-start did stays p picks =
    ([], stays p, record { turns = []; failed = []; wanted = []; order = (refl, refl); at = refl; part = part-of-asks 0 [] tt; same = asks-failed 0 [] tt; all = none-any })

sweeping-more : (picks : Picks) (before : Option ℕ) (s : Swept) (m new : Moved) (xs ys : List Event) → new ≡ both_moved m s.moved → Sweeping picks before xs m → SweepTurn picks before ys (Ok (Some s))
    → Sweeping picks (Some s.pool) (xs ++ ys) new
sweeping-more picks before s m new xs ys is g t =
    let d : Due = t.0 in
    let some : List ℕ = t.1 in
    let us : List Event = t.3.0 in
    let vs : List Event = t.3.1 in
    let asked : AskedDue before us (Some d) = t.3.3 in
    let turn : Turn picks d.pool d.low some vs s.moved = t.3.4 in
    let behind : Part turn.migrates.wanted 0 (us ++ vs) s.moved = part-behind-asks turn.migrates.wanted 0 us vs s.moved (due-asks before us (Some d) asked) turn.migrates.part in
    record {
      turns = g.turns ++ d ∷ [];
      failed = g.failed ++ some;
      wanted = g.wanted ++ turn.migrates.wanted;
      order = subst (λ (es : List Event). Sweeps picks None (g.turns ++ d ∷ []) (g.failed ++ some) (xs ++ es)) (sym t.3.2)
          (sweeps-more picks None g.turns g.failed d some s.moved xs us vs g.order (subst (λ (o : Option ℕ). AskedDue o us (Some d)) (sym g.at) asked) turn);
      at = last-more None g.turns d ∙ ap Some t.2;
      part = part-as (g.wanted ++ turn.migrates.wanted) 0 (xs ++ (us ++ vs)) (xs ++ ys) (both_moved m s.moved) new (ap (λ (es : List Event). xs ++ es) t.3.2) is
          (part-join g.wanted turn.migrates.wanted 0 xs (us ++ vs) m s.moved g.part behind);
      same = as-failed (g.wanted ++ turn.migrates.wanted) 0 (xs ++ (us ++ vs)) (xs ++ ys) (both_moved m s.moved) new (ap (λ (es : List Event). xs ++ es) t.3.2) is
          (part-join g.wanted turn.migrates.wanted 0 xs (us ++ vs) m s.moved g.part behind)
          ∙ join-failed g.wanted turn.migrates.wanted 0 xs (us ++ vs) m s.moved g.part behind
          ∙ ap₂ (λ (fs gs : List ℕ). fs ++ gs) g.same
          (behind-failed turn.migrates.wanted 0 us vs s.moved (due-asks before us (Some d) asked) turn.migrates.part ∙ turn.same);
      all = any-both g.wanted turn.migrates.wanted g.all (turn-any picks d.pool d.low vs s.moved turn.migrates);
    }

pub sweeping-on : {S : Type 0} (did : S → List Event → S → Type 0) → GoesOn did → (p q r : S) (picks : Picks) (before : Option ℕ) (s : Swept) (m new : Moved) → new ≡ both_moved m s.moved
    → Call did p q (λ events. Sweeping picks before events m) → Call did q r (λ events. SweepTurn picks before events (Ok (Some s))) → Call did p r (λ events. Sweeping picks (Some s.pool) events new)
sweeping-on did goes p q r picks before s m new is a b =
    call_then did goes (λ events. Sweeping picks before events m) (λ events. SweepTurn picks before events (Ok (Some s))) (λ events. Sweeping picks (Some s.pool) events new) p q r a b
    (λ xs ys f g. sweeping-more picks before s m new xs ys is f g)

pub swept-as : {S : Type 0} (did : S → List Event → S → Type 0) (p q : S) (picks : Picks) (before : Option ℕ) (o k : Option Swept) → o ≡ k → Call did p q (λ events. SweepTurn picks before events (Ok o))
    → Call did p q (λ events. SweepTurn picks before events (Ok k))
swept-as did p q picks before o k is a = subst (λ (l : Option Swept). Call did p q (λ events. SweepTurn picks before events (Ok l))) is a

pub sweeping-breaks : {S : Type 0} (did : S → List Event → S → Type 0) → GoesOn did → (p q r : S) (picks : Picks) (before : Option ℕ) (m : Moved) (e : Refusal)
    → Call did p q (λ events. Sweeping picks before events m) → Call did q r (λ events. SweepTurn picks before events (Err e)) → Call did p r (λ events. SweepsAll picks events (Err e))
sweeping-breaks did goes p q r picks before m e a b =
    call_then did goes (λ events. Sweeping picks before events m) (λ events. SweepTurn picks before events (Err e)) (λ events. SweepsAll picks events (Err e)) p q r a b
    (λ xs ys f g. breaks-behind f.wanted xs ys m e f.all f.part g)

pub sweeping-ends : {S : Type 0} (did : S → List Event → S → Type 0) (p q : S) (picks : Picks) (before : Option ℕ) (m : Moved) → Call did p q (λ events. Sweeping picks before events m)
    → Call did p q (λ events. SweepsAll picks events (Err refused.Memory))
sweeping-ends did p q picks before m a = (a.0, a.1, part-breaks a.2.wanted a.0 m refused.Memory (inl refl) (other-unheld a.0 refused.Memory (λ h busy. cc)) a.2.all a.2.part)

pub sweeping-too-far : {S : Type 0} (did : S → List Event → S → Type 0) → GoesOn did → (p q r : S) (picks : Picks) (before : Option ℕ) (s : Swept) (m : Moved)
    → Call did p q (λ events. Sweeping picks before events m) → Call did q r (λ events. SweepTurn picks before events (Ok (Some s)))
    → Call did p r (λ events. SweepsAll picks events (Err refused.Memory))
sweeping-too-far did goes p q r picks before s m a b = sweeping-ends did p r picks (Some s.pool) (both_moved m s.moved) (sweeping-on did goes p q r picks before s m (both_moved m s.moved) refl a b)

pub sweeping-over : {S : Type 0} (did : S → List Event → S → Type 0) → GoesOn did → (p q r : S) (picks : Picks) (before : Option ℕ) (m : Moved)
    → Call did p q (λ events. Sweeping picks before events m) → Call did q r (λ events. SweepTurn picks before events (Ok None)) → Call did p r (λ events. SweepsAll picks events (Ok m))
sweeping-over did goes p q r picks before m a b =
    call_then did goes (λ events. Sweeping picks before events m) (λ events. SweepTurn picks before events (Ok None)) (λ events. SweepsAll picks events (Ok m)) p q r a b
    (λ xs ys f g. record { before = before; sweeping = (xs, ys, refl, f, g) })

-- ---- the whole

forced-ends : (zs : List Event) → IsForced zs → AreEnding zs
forced-ends zs h = subst AreEnding (sym h.2) (inr (Ok h.1, refl), tt)

ending-sweeps : (zs : List Event) → AreEnding zs → AreSweep zs
ending-sweeps [] h = tt
ending-sweeps (z ∷ zs) h = (inl h.0, ending-sweeps zs h.1)

ending-enters : (zs : List Event) → AreEnding zs → EntersAny zs
ending-enters zs h w actor a b none f = subst (λ (es : List Event). AllByRecursion (IsEnteredAny w actor) es) (sym (ends-unmade zs h)) tt

ending-breaks : (zs : List Event) (e : Refusal) → AreEnding zs → IsStopped zs e → SweepBreaks zs e
ending-breaks zs e h stopped = record {
  cause = inl stopped;
  unheld = ending-unheld zs e h stopped;
  only = ending-sweeps zs h;
  entries = ending-enters zs h;
  settled = λ leave. ends-settled zs h;
  none_left = λ leave. ends-none zs h;
}

-- with the last question
swept-part : (picks : Picks) (xs : List Event) (m : Moved) → (h : SweptAll picks xs m) → Part (h.sweeping.3.wanted ++ []) 0 xs m
swept-part picks xs m h =
    part-as (h.sweeping.3.wanted ++ []) 0 (h.sweeping.0 ++ h.sweeping.1) xs (both_moved m none_moved) m h.sweeping.2 (sym (none-behind m))
    (part-join h.sweeping.3.wanted [] 0 h.sweeping.0 h.sweeping.1 m none_moved h.sweeping.3.part (part-of-asks 0 h.sweeping.1 (due-asks h.before h.sweeping.1 None h.sweeping.4)))

swept-failed : (picks : Picks) (xs : List Event) (m : Moved) → (h : SweptAll picks xs m) → (swept-part picks xs m h).done.failed ≡ h.sweeping.3.failed
unfolding swept-part
swept-failed picks xs m h =
    as-failed (h.sweeping.3.wanted ++ []) 0 (h.sweeping.0 ++ h.sweeping.1) xs (both_moved m none_moved) m h.sweeping.2 (sym (none-behind m))
    (part-join h.sweeping.3.wanted [] 0 h.sweeping.0 h.sweeping.1 m none_moved h.sweeping.3.part (part-of-asks 0 h.sweeping.1 (due-asks h.before h.sweeping.1 None h.sweeping.4)))
    ∙ join-failed h.sweeping.3.wanted [] 0 h.sweeping.0 h.sweeping.1 m none_moved h.sweeping.3.part (part-of-asks 0 h.sweeping.1 (due-asks h.before h.sweeping.1 None h.sweeping.4))
    ∙ ap₂ (λ (fs gs : List ℕ). fs ++ gs) h.sweeping.3.same (asks-failed 0 h.sweeping.1 (due-asks h.before h.sweeping.1 None h.sweeping.4)) ∙ append-nil h.sweeping.3.failed

swept-any : (picks : Picks) (xs : List Event) (m : Moved) → (h : SweptAll picks xs m) → AreAny (h.sweeping.3.wanted ++ [])
swept-any picks xs m h = any-both h.sweeping.3.wanted [] h.sweeping.3.all none-any

all-of : (picks : Picks) (xs zs : List Event) (m : Moved) → SweptAll picks xs m → IsForced zs → AllMigration picks (xs ++ zs) (Ok m)
all-of picks xs zs m h forced =
    let g : Sweeping picks h.before h.sweeping.0 m = h.sweeping.3 in
    let wanted : List Wanted = g.wanted ++ [] in
    let p : Part wanted 0 xs m = swept-part picks xs m h in
    let all : AreAny wanted = swept-any picks xs m h in
    let ends : AreEnding zs = forced-ends zs forced in
    let some : failing_in (xs ++ zs) ≡ failing_in xs + failing_in zs = failing-append xs zs in
    let few : m.failed ≤ failing_in xs = p.done.risen in
    record {
      came = record {
        turns = g.turns;
        failed = p.done.failed;
        moved = part-acknowledged wanted 0 xs zs m p (ap is_forced forced.2) (ap receipts forced.2);
        number = p.done.number;
        risen = omega arith;
        each = failed-any wanted (xs ++ zs) p.done.failed all (all-before wanted 0 xs zs p.done.failed p.done.each);
        order = (
          xs,
          zs,
          refl,
          (
            h.sweeping.0,
            h.sweeping.1,
            h.sweeping.2,
            subst (λ (fs : List ℕ). Sweeps picks None g.turns fs h.sweeping.0) (sym (swept-failed picks xs m h)) g.order,
            subst (λ
                (o : Option ℕ). AskedDue o h.sweeping.1 None) (sym g.at) h.sweeping.4,
          ),
          forced,
        );
        settled = settled-append xs zs p.done.settled (ends-settled zs ends);
        none_left = then-none xs zs p.done.none_left (ends-none zs ends);
      };
      only = all-append (λ e. IsSweep e.deed) xs zs (only-any wanted xs all p.only) (ending-sweeps zs ends);
      entries = enters-both xs zs (enters-any wanted xs all p.entries) p.done.none_left (ending-enters zs ends);
    }

broken-of : (picks : Picks) (xs : List Event) (e : Refusal) → SweepBreaks xs e → AllMigration picks xs (Err e)
broken-of picks xs e h = record { came = h; only = h.only; entries = h.entries }

pub all-broke : {S : Type 0} (did : S → List Event → S → Type 0) (p q : S) (picks : Picks) (e : Refusal) → Call did p q (λ events. SweepsAll picks events (Err e))
    → Call did p q (λ events. AllMigration picks events (Err e))
all-broke did p q picks e a = (a.0, a.1, broken-of picks a.0 e a.2)

pub all-unforced : {S : Type 0} (did : S → List Event → S → Type 0) → GoesOn did → (p q r : S) (picks : Picks) (m : Moved) (e k : Refusal) → k ≡ stopping e
    → Call did p q (λ events. SweepsAll picks events (Ok m)) → Does did q r (Force (Err e)) → Call did p r (λ events. AllMigration picks events (Err k))
all-unforced did goes p q r picks m e k is a d =
    subst (λ (l : Refusal). Call did p r (λ events. AllMigration picks events (Err l))) (sym is)
    (call_then did goes (λ events. SweepsAll picks events (Ok m)) (λ events. Finishes events (Err (stopping e))) (λ events. AllMigration picks events (Err (stopping e))) p q r a (force-refused did q r e d)
    (λ xs ys f g. broken-of picks (xs ++ ys) (stopping e)
    (breaks-behind (f.sweeping.3.wanted ++ []) xs ys m (stopping e) (swept-any picks xs m f) (swept-part picks xs m f) (ending-breaks ys (stopping e) g.1 g.0))))

pub all-done : {S : Type 0} (did : S → List Event → S → Type 0) → GoesOn did → (p q r : S) (picks : Picks) (number : ℕ) (m : Moved)
    → Call did p q (λ events. SweepsAll picks events (Ok m)) → Does did q r (Force (Ok number)) → Call did p r (λ events. AllMigration picks events (Ok m))
all-done did goes p q r picks number m a d =
    call_then did goes (λ events. SweepsAll picks events (Ok m)) IsForced (λ events. AllMigration picks events (Ok m)) p q r a
    (does_alone did IsForced q r (Force (Ok number)) d (λ n listed. (n, number, refl)) (λ memory. absurd cc)) (λ xs ys f g. all-of picks xs ys m f g)

pub all-rises : {S : Type 0} (did : S → List Event → S → Type 0) (refused_of : S → ℕ) → ((p q : S) (xs : List Event) → did p xs q → refused_of q ≡ risen (refused_of p) xs)
    → (p q : S) (picks : Picks) (result : Result Moved Refusal)
    → Call did p q (λ events. AllMigration picks events result) → IfOk result (λ m. (refused_of p + m.failed ≤ refused_of q) ⊎ (2 ^ 64 - 1 ≤ refused_of q))
all-rises did refused_of counts p q picks (Ok m) a = call-rises did refused_of counts (λ events. AllMigration picks events (Ok m)) p q m.failed a (λ events h. h.came.risen)
all-rises did refused_of counts p q picks (Err e) a = tt
