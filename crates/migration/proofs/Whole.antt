-- What a migration came to.
use Rattle.std.proofs.Common.{◌≡◌, ◌⊎◌, inl, inr, ℕ, ◌+◌, ◌-◌, ◌^◌, ◌≤◌, Bool, true, false, List, [], ◌∷◌, ◌++◌, length, Option, Some, None, Result, Ok, Err, IfOk, refl, sym, ap, subst, ◌∙◌, arith}
use Rattle.std.specs.List.{AllByRecursion}
use Rattle.kinds.specs.declared.refusal.Refusal.{Refusal}
use Rattle.kinds.specs.declared.refusal.Refusal.TheVariants as refused
use Rattle.steps.proofs.Joining.{GoesOn, call_then, does_alone}
use Rattle.steps.specs.Calls.{Call, Does, risen}
use Rattle.steps.specs.Events.{Event, event}
use Rattle.steps.specs.Events.Deed.{Force}
use Rattle.steps.specs.Receipts.{is_forced, receipts}
use Rattle.copy_attempts.proofs.Facts.{all-append, some-memory}
use Rattle.steps.proofs.Spending.{settled-append}
use Rattle.copy_attempts.specs.Attempts.{stopping}
use Rattle.copy_runs.specs.declared.wanted.Moved.{Moved}
use Rattle.copy_runs.specs.declared.wanted.Wanted.{Wanted}
use Rattle.copy_runs.specs.Ends.{AreEnding, Finishes, IsEnding, IsStopped}
use Rattle.copy_runs.specs.Parts.{Part}
use Rattle.copy_runs.specs.Runs.{failing_in}
use Rattle.copy_runs.proofs.Ending.{force-refused}
use Rattle.copy_runs.proofs.Outcomes.{failing-append, then-none}
use Rattle.copy_runs.proofs.Parts.{all-before, part-acknowledged}
use Rattle.copy_runs.proofs.Risen.{call-rises}
use Rattle.copy_runs.proofs.Unheld.{ending-unheld}
use Rattle.copy_runs.proofs.Whole.{ends-none, ends-settled, ends-unmade}
use Rattle.migration.specs.Migrating.{AreMigration, Breaks, EntersFrom, HasFailedIn, IsEnteredIn, IsForced, IsMigration, Lowers, Migrated, Migrates, Migration}
use Rattle.migration.specs.Turns.{Lowered, Picks, unasked}
use Rattle.migration.proofs.Rows.{row-of}
use Rattle.migration.proofs.Turning.{AreMigrating, breaks-behind, each-failed, enters-both, enters-from, only-migration, turns-migrate}

lowered-migrate : (picks : Picks) (pool low : ℕ) (wanted : List Wanted) (xs : List Event) → Lowered picks pool low wanted xs → AreMigrating pool wanted
lowered-migrate picks pool low wanted xs o = turns-migrate picks pool low unasked o.0 wanted o.1.0 o.1.3

-- ---- the force

forced-ends : (zs : List Event) → IsForced zs → AreEnding zs
forced-ends zs h = subst AreEnding (sym h.2) (inr (Ok h.1, refl), tt)

ending-migrates : (pool : ℕ) (zs : List Event) → AreEnding zs → AreMigration pool zs
ending-migrates pool [] h = tt
ending-migrates pool (z ∷ zs) h = (inl h.0, ending-migrates pool zs h.1)

ending-enters : (pool : ℕ) (zs : List Event) → AreEnding zs → EntersFrom pool zs
ending-enters pool zs h w actor a b none f = subst (λ (es : List Event). AllByRecursion (IsEnteredIn pool w actor) es) (sym (ends-unmade zs h)) tt

ending-breaks : (pool low : ℕ) (zs : List Event) (e : Refusal) → AreEnding zs → IsStopped zs e → Breaks pool low zs e
ending-breaks pool low zs e h stopped = record {
  cause = inl stopped;
  unheld = ending-unheld zs e h stopped;
  only = ending-migrates pool zs h;
  entries = ending-enters pool zs h;
  settled = λ leave. ends-settled zs h;
  none_left = λ leave. ends-none zs h;
}

-- ---- the whole

migrated-of : (picks : Picks) (pool low : ℕ) (xs zs : List Event) (m : Moved) → Migrates picks pool low xs m → IsForced zs → Migration picks pool low (xs ++ zs) (Ok m)
migrated-of picks pool low xs zs m h forced =
    let all : AreMigrating pool h.wanted = lowered-migrate picks pool low h.wanted xs h.order in
    let ends : AreEnding zs = forced-ends zs forced in
    let some : failing_in (xs ++ zs) ≡ failing_in xs + failing_in zs = failing-append xs zs in
    let few : m.failed ≤ failing_in xs = h.part.done.risen in
    record {
      came = record {
        failed = h.part.done.failed;
        wanted = h.wanted;
        moved = part-acknowledged h.wanted 0 xs zs m h.part (ap is_forced forced.2) (ap receipts forced.2);
        number = h.part.done.number;
        risen = omega arith;
        each = each-failed pool h.wanted (xs ++ zs) h.part.done.failed all (all-before h.wanted 0 xs zs h.part.done.failed h.part.done.each);
        order = (xs, zs, refl, h.order, forced);
        row = row-of picks pool low h.wanted m xs zs h.order h.part (inr forced);
        settled = settled-append xs zs h.part.done.settled (ends-settled zs ends);
        none_left = then-none xs zs h.part.done.none_left (ends-none zs ends);
      };
      only = all-append (λ e. IsMigration pool e.deed) xs zs (only-migration pool h.wanted xs all h.part.only) (ending-migrates pool zs ends);
      entries = enters-both pool xs zs (enters-from pool h.wanted xs all h.part.entries) h.part.done.none_left (ending-enters pool zs ends);
    }

broken-of : (picks : Picks) (pool low : ℕ) (xs : List Event) (e : Refusal) → Breaks pool low xs e → Migration picks pool low xs (Err e)
broken-of picks pool low xs e h = record { came = h; only = h.only; entries = h.entries }

unforced-of : (picks : Picks) (pool low : ℕ) (xs zs : List Event) (m : Moved) (e : Refusal) → Migrates picks pool low xs m → Finishes zs (Err e) → Migration picks pool low (xs ++ zs) (Err e)
unforced-of picks pool low xs zs m e h g =
    broken-of picks pool low (xs ++ zs) e
    (breaks-behind pool low h.wanted xs zs m e (lowered-migrate picks pool low h.wanted xs h.order) h.part (ending-breaks pool low zs e g.1 g.0))

pub migration-broke : {S : Type 0} (did : S → List Event → S → Type 0) (p q : S) (picks : Picks) (pool low : ℕ) (e : Refusal) → Call did p q (λ events. Lowers picks pool low events (Err e))
    → Call did p q (λ events. Migration picks pool low events (Err e))
migration-broke did p q picks pool low e a = (a.0, a.1, broken-of picks pool low a.0 e a.2)

pub migration-unforced : {S : Type 0} (did : S → List Event → S → Type 0) → GoesOn did → (p q r : S) (picks : Picks) (pool low : ℕ) (m : Moved) (e k : Refusal) → k ≡ stopping e
    → Call did p q (λ events. Lowers picks pool low events (Ok m)) → Does did q r (Force (Err e)) → Call did p r (λ events. Migration picks pool low events (Err k))
migration-unforced did goes p q r picks pool low m e k is a d =
    subst (λ (l : Refusal). Call did p r (λ events. Migration picks pool low events (Err l))) (sym is)
    (call_then did goes (λ events. Lowers picks pool low events (Ok m)) (λ events. Finishes events (Err (stopping e))) (λ events. Migration picks pool low events (Err (stopping e))) p q r a
    (force-refused did q r e d) (λ xs ys f g. unforced-of picks pool low xs ys m (stopping e) f g))

pub migration-done : {S : Type 0} (did : S → List Event → S → Type 0) → GoesOn did → (p q r : S) (picks : Picks) (pool low number : ℕ) (m : Moved)
    → Call did p q (λ events. Lowers picks pool low events (Ok m)) → Does did q r (Force (Ok number)) → Call did p r (λ events. Migration picks pool low events (Ok m))
migration-done did goes p q r picks pool low number m a d =
    call_then did goes (λ events. Lowers picks pool low events (Ok m)) IsForced (λ events. Migration picks pool low events (Ok m)) p q r a
    (does_alone did IsForced q r (Force (Ok number)) d (λ n listed. (n, number, refl)) (λ memory. absurd cc)) (λ xs ys f g. migrated-of picks pool low xs ys m f g)

-- its failed objects are no more than the count of refused steps rose by, unless that is at its last value
pub migration-rises : {S : Type 0} (did : S → List Event → S → Type 0) (refused_of : S → ℕ) → ((p q : S) (xs : List Event) → did p xs q → refused_of q ≡ risen (refused_of p) xs)
    → (p q : S) (picks : Picks) (pool low : ℕ) (result : Result Moved Refusal)
    → Call did p q (λ events. Migration picks pool low events result) → IfOk result (λ m. (refused_of p + m.failed ≤ refused_of q) ⊎ (2 ^ 64 - 1 ≤ refused_of q))
migration-rises did refused_of counts p q picks pool low (Ok m) a = call-rises did refused_of counts (λ events. Migration picks pool low events (Ok m)) p q m.failed a (λ events h. h.came.risen)
migration-rises did refused_of counts p q picks pool low (Err e) a = tt
