-- What follows from the order of an attempt's steps.
use Rattle.std.proofs.Common.{◌≡◌, ◌⊎◌, inl, inr, ℕ, ◌==◌, ◌||◌, ◌&&◌, zero, suc, Bool, true, false, List, [], ◌∷◌, ◌++◌, Option, None, Some, Result, Ok, Err, refl, sym, ap, subst, ◌∙◌, arith, if◌then◌else◌}
use Rattle.std.proofs.lemmas.Bool.{cond-false, eq-eqb}
use Rattle.std.proofs.lemmas.List.Elements.{filter-append}
use Rattle.std.specs.List.{AllByRecursion, list_any}
use Rattle.std.specs.Option.{option_map_or}
use Rattle.kinds.specs.Refusals.{number_of}
use Rattle.kinds.specs.declared.refusal.Holder.{Holder}
use Rattle.kinds.specs.declared.refusal.Holder.TheVariants as holder
use Rattle.kinds.specs.declared.refusal.Refusal.{Refusal}
use Rattle.kinds.specs.declared.refusal.Refusal.TheVariants as refused
use Rattle.space.specs.declared.aim.Aim.{Aim}
use Rattle.steps.specs.declared.asked.Asked.TheVariants as asked
use Rattle.steps.specs.Calls.{IsStep, Made, fails_object, forced}
use Rattle.steps.specs.Events.{Deed, Event, event, is_listed, refusal, refusal_in}
use Rattle.steps.specs.Events.Deed.{OpenNew, OpenCopy, WritePiece, CopyPiece, Seal, Commit, DropTicket, ReadPiece, Ask, Image, Reuse, Force}
use Rattle.steps.specs.Receipts.{is_made, made}
use Rattle.copy_attempts.specs.declared.outcome.Came.{Came}
use Rattle.copy_attempts.specs.declared.outcome.Came.TheVariants as came
use Rattle.copy_attempts.specs.Attempts.{Awaits, Copies, Ends, Fills, GivesUp, Goes, Held, IsPiece, Makes, Spends, Tries, Waited, came_of, behind_drop, holder_in, is_passed, is_spent_by, is_stopping, piece_count, stopping, unopened}
use Rattle.copy_attempts.specs.Outcomes.{AreOf, Attempt, Commits, IsCaused, IsOf, Means, Met, MetBy, MetOf, is_opened, may_leave, opens}
use Rattle.steps.specs.Spent.{AreSettled, IsSettled, is_spent, spends}
use Rattle.steps.proofs.Spending.{any-behind, settled-append, spent-before, spent-behind}

-- ---- lists of steps

pub all-append : (P : Event → Type 0) (xs ys : List Event) → AllByRecursion P xs → AllByRecursion P ys → AllByRecursion P (xs ++ ys)
all-append P [] ys a b = b
all-append P (x ∷ xs) ys a b = (a.0, all-append P xs ys a.1 b)

opened-behind : (ticket : ℕ) (xs ys : List Event) → is_opened ticket ys ≡ true → is_opened ticket (xs ++ ys) ≡ true
opened-behind ticket xs ys h = any-behind (λ e. opens ticket e.deed) xs ys h

pub made-append : (xs ys : List Event) → made (xs ++ ys) ≡ made xs ++ made ys
made-append xs ys = filter-append (λ e. is_made e.deed) xs ys

-- ---- steps that were refused, or that neither open nor commit

-- it opens a ticket, or a transaction joins by it
abbrev pub changes : Deed → Bool
changes (OpenNew pool size prefer (Ok ticket)) = true
changes (OpenCopy object aim avoid (Ok ticket)) = true
changes (Commit a tickets (Ok number)) = true
changes _ = false

abbrev pub IsQuiet : (object : ℕ) → Aim → (avoid : ℕ) → Deed → Type 0
IsQuiet object aim avoid d = IsOf object aim avoid d × (changes d ≡ false)

abbrev pub AreQuiet : (object : ℕ) → Aim → (avoid : ℕ) → List Event → Type 0
AreQuiet object aim avoid events = AllByRecursion (λ e. IsQuiet object aim avoid e.deed) events

quiet-append : (object : ℕ) (aim : Aim) (avoid : ℕ) (xs ys : List Event) → AreQuiet object aim avoid xs → AreQuiet object aim avoid ys → AreQuiet object aim avoid (xs ++ ys)
quiet-append object aim avoid xs ys a b = all-append (λ e. IsQuiet object aim avoid e.deed) xs ys a b

pub of-append : (object : ℕ) (aim : Aim) (avoid : ℕ) (xs ys : List Event) → AreOf object aim avoid xs → AreOf object aim avoid ys → AreOf object aim avoid (xs ++ ys)
of-append object aim avoid xs ys a b = all-append (λ e. IsOf object aim avoid e.deed) xs ys a b

quiet-of : (object : ℕ) (aim : Aim) (avoid : ℕ) (xs : List Event) → AreQuiet object aim avoid xs → AreOf object aim avoid xs
quiet-of object aim avoid [] h = tt
quiet-of object aim avoid (x ∷ xs) h = (h.0.0, quiet-of object aim avoid xs h.1)

not-made : (object : ℕ) (aim : Aim) (avoid : ℕ) (d : Deed) → IsOf object aim avoid d → changes d ≡ false → is_made d ≡ false
not-made object aim avoid (OpenNew pool size prefer answer) h q = refl
not-made object aim avoid (OpenCopy number to other answer) h q = refl
not-made object aim avoid (WritePiece ticket bytes answer) h q = refl
not-made object aim avoid (CopyPiece ticket answer) h q = refl
not-made object aim avoid (Seal ticket answer) h q = refl
not-made object aim avoid (Commit a tickets (Ok number)) h q = absurd cc
not-made object aim avoid (Commit a tickets (Err e)) h q = refl
not-made object aim avoid (DropTicket ticket answer) h q = refl
not-made object aim avoid (ReadPiece number kept from offset wanted answer) h q = refl
not-made object aim avoid (Ask query answer) h q = refl
not-made object aim avoid (Image kind answer) h q = refl
not-made object aim avoid (Reuse file answer) h q = absurd h
not-made object aim avoid (Force answer) h q = refl

quiet-made : (object : ℕ) (aim : Aim) (avoid : ℕ) (xs : List Event) → AreQuiet object aim avoid xs → made xs ≡ []
quiet-made object aim avoid [] h = refl
quiet-made object aim avoid (x ∷ xs) h =
    cond-false (is_made x.deed) (x ∷ made xs) (made xs) (not-made object aim avoid x.deed h.0.0 h.0.1) ∙ quiet-made object aim avoid xs h.1

not-opened : (d : Deed) (later : List Event) → changes d ≡ false → IsSettled d later
not-opened (OpenNew pool size prefer (Ok ticket)) later q = absurd cc
not-opened (OpenNew pool size prefer (Err e)) later q = tt
not-opened (OpenCopy object aim avoid (Ok ticket)) later q = absurd cc
not-opened (OpenCopy object aim avoid (Err e)) later q = tt
not-opened (WritePiece ticket bytes answer) later q = tt
not-opened (CopyPiece ticket answer) later q = tt
not-opened (Seal ticket answer) later q = tt
not-opened (Commit a tickets answer) later q = tt
not-opened (DropTicket ticket answer) later q = tt
not-opened (ReadPiece object kept from offset wanted answer) later q = tt
not-opened (Ask query answer) later q = tt
not-opened (Image kind answer) later q = tt
not-opened (Reuse file answer) later q = tt
not-opened (Force answer) later q = tt

quiet-settled : (object : ℕ) (aim : Aim) (avoid : ℕ) (xs : List Event) → AreQuiet object aim avoid xs → AreSettled xs
quiet-settled object aim avoid [] h = tt
quiet-settled object aim avoid (x ∷ xs) h = (not-opened x.deed xs h.0.1, quiet-settled object aim avoid xs h.1)

made-quiet : (object : ℕ) (aim : Aim) (avoid : ℕ) (d : Deed) (events : List Event) → Made d events → IsQuiet object aim avoid d → AreQuiet object aim avoid events
made-quiet object aim avoid d events (inl h) q = subst (λ (es : List Event). AreQuiet object aim avoid es) (sym h.1) (q, tt)
made-quiet object aim avoid d events (inr h) q = subst (λ (es : List Event). AreQuiet object aim avoid es) (sym h.1) tt

piece-quiet : (object : ℕ) (aim : Aim) (avoid ticket : ℕ) (d : Deed) → IsPiece ticket d → IsQuiet object aim avoid d
piece-quiet object aim avoid ticket (OpenNew pool size prefer answer) h = absurd h
piece-quiet object aim avoid ticket (OpenCopy number to other answer) h = absurd h
piece-quiet object aim avoid ticket (WritePiece number bytes answer) h = absurd h
piece-quiet object aim avoid ticket (CopyPiece number (Ok done)) h = (tt, refl)
piece-quiet object aim avoid ticket (CopyPiece number (Err e)) h = absurd h
piece-quiet object aim avoid ticket (Seal number answer) h = absurd h
piece-quiet object aim avoid ticket (Commit a tickets answer) h = absurd h
piece-quiet object aim avoid ticket (DropTicket number answer) h = absurd h
piece-quiet object aim avoid ticket (ReadPiece number kept from offset wanted answer) h = absurd h
piece-quiet object aim avoid ticket (Ask query answer) h = absurd h
piece-quiet object aim avoid ticket (Image kind answer) h = absurd h
piece-quiet object aim avoid ticket (Reuse file answer) h = absurd h
piece-quiet object aim avoid ticket (Force answer) h = absurd h

pieces-quiet : (object : ℕ) (aim : Aim) (avoid ticket : ℕ) (events : List Event) → AllByRecursion (λ e. IsPiece ticket e.deed) events → AreQuiet object aim avoid events
pieces-quiet object aim avoid ticket [] h = tt
pieces-quiet object aim avoid ticket (x ∷ xs) h = (piece-quiet object aim avoid ticket x.deed h.0, pieces-quiet object aim avoid ticket xs h.1)

-- ---- what was met

pub met-behind : (Is : Deed → Type 0) (xs ys : List Event) → MetBy Is ys → MetBy Is (xs ++ ys)
met-behind Is [] ys h = h
met-behind Is (x ∷ xs) ys h = inr (met-behind Is xs ys h)

pub met-before : (Is : Deed → Type 0) (xs ys : List Event) → MetBy Is xs → MetBy Is (xs ++ ys)
met-before Is [] ys h = absurd h
met-before Is (x ∷ xs) ys (inl h) = inl h
met-before Is (x ∷ xs) ys (inr h) = inr (met-before Is xs ys h)

met-of : (test : Refusal → Bool) (e : Refusal) (events : List Event) → test e ≡ true → Met e events → MetOf test events
met-of test e [] t h = absurd h
met-of test e (x ∷ xs) t (inl h) = inl (ap (λ (o : Option Refusal). option_map_or test o false) h ∙ t)
met-of test e (x ∷ xs) t (inr h) = inr (met-of test e xs t h)

pub caused-behind : (object : ℕ) (aim : Aim) (avoid : ℕ) (xs ys : List Event) (e : Refusal) → IsCaused object aim avoid ys e → IsCaused object aim avoid (xs ++ ys) e
caused-behind object aim avoid xs ys e (inl h) = inl h
caused-behind object aim avoid xs ys e (inr (inl h)) = inr (inl (h.0, met-behind (λ d. refusal d ≡ Some e) xs ys h.1))
caused-behind object aim avoid xs ys e (inr (inr h)) = inr (inr (h.0, met-behind (λ d. d ≡ OpenCopy object aim avoid (Err e)) xs ys h.1))

means-behind : (object : ℕ) (aim : Aim) (avoid : ℕ) (xs ys : List Event) (result : Result Came Refusal) → Means object aim avoid ys result → Means object aim avoid (xs ++ ys) result
means-behind object aim avoid xs ys (Ok (came.Copied number)) h = tt
means-behind object aim avoid xs ys (Ok came.Failed) h = met-behind (λ d. option_map_or fails_object (refusal d) false ≡ true) xs ys h
means-behind object aim avoid xs ys (Ok came.Passed) h = met-behind (λ d. option_map_or is_passed (refusal d) false ≡ true) xs ys h
means-behind object aim avoid xs ys (Err e) h = caused-behind object aim avoid xs ys e h

-- it is want of memory, or one of the steps met it
abbrev pub MetOr : Refusal → List Event → Type 0
MetOr e events = (e ≡ refused.Memory) ⊎ Met e events

met-or-behind : (e : Refusal) (xs ys : List Event) → MetOr e ys → MetOr e (xs ++ ys)
met-or-behind e xs ys (inl h) = inl h
met-or-behind e xs ys (inr h) = inr (met-behind (λ d. refusal d ≡ Some e) xs ys h)

met-or-before : (e : Refusal) (xs ys : List Event) → MetOr e xs → MetOr e (xs ++ ys)
met-or-before e xs ys (inl h) = inl h
met-or-before e xs ys (inr h) = inr (met-before (λ d. refusal d ≡ Some e) xs ys h)

pub some-memory : (e : Refusal) (d : Deed) → refusal d ≡ Some e → refusal d ≡ Some refused.Memory → e ≡ refused.Memory
some-memory e d h g = let same : Some e ≡ Some refused.Memory = sym h ∙ g in cc

made-met : (d : Deed) (e : Refusal) (events : List Event) → Made d events → refusal d ≡ Some e → MetOr e events
made-met d e events (inl h) is = inr (subst (λ (es : List Event). Met e es) (sym h.1) (inl is))
made-met d e events (inr h) is = inl (some-memory e d is h.0)

stopping-means : (object : ℕ) (aim : Aim) (avoid : ℕ) (e : Refusal) (events : List Event) → MetOr e events → IsCaused object aim avoid events (stopping e)
stopping-means object aim avoid e events (inl h) = inl (ap stopping h)
stopping-means object aim avoid e events (inr h) =
    elim (is_stopping e) as (λ b. is_stopping e ≡ b → IsCaused object aim avoid events (if b then e else refused.Memory)) [
      | true ↦ λ t. inr (inl (t, h))
      | false ↦ λ t. inl refl
    ] refl

met-means : (object : ℕ) (aim : Aim) (avoid : ℕ) (e : Refusal) (events : List Event) → Met e events → Means object aim avoid events (came_of e)
met-means object aim avoid e events h =
    elim (is_passed e) as (λ b. is_passed e ≡ b → Means object aim avoid events (if b then Ok came.Passed else (if fails_object e then Ok came.Failed else Err (stopping e)))) [
      | true ↦ λ t. met-of is_passed e events t h
      | false ↦ λ t. elim (fails_object e) as (λ b. fails_object e ≡ b → Means object aim avoid events (if b then Ok came.Failed else Err (stopping e))) [
        | true ↦ λ u. met-of fails_object e events u h
        | false ↦ λ u. stopping-means object aim avoid e events (inr h)
      ] refl
    ] refl

memory-means : (object : ℕ) (aim : Aim) (avoid : ℕ) (events : List Event) → Means object aim avoid events (came_of refused.Memory)
memory-means object aim avoid events = inl refl

came-means : (object : ℕ) (aim : Aim) (avoid : ℕ) (e : Refusal) (events : List Event) → MetOr e events → Means object aim avoid events (came_of e)
came-means object aim avoid e events (inl h) = subst (λ (x : Refusal). Means object aim avoid events (came_of x)) (sym h) (memory-means object aim avoid events)
came-means object aim avoid e events (inr h) = met-means object aim avoid e events h

-- ---- what isn't a copy that was made

abbrev pub is_copied : Result Came Refusal → Bool
is_copied (Ok (came.Copied number)) = true
is_copied _ = false

none-commits : (events : List Event) (result : Result Came Refusal) → is_copied result ≡ false → made events ≡ [] → Commits events result
none-commits events (Ok (came.Copied number)) h none = absurd cc
none-commits events (Ok came.Failed) h none = none
none-commits events (Ok came.Passed) h none = none
none-commits events (Err e) h none = none

came-not-copied : (e : Refusal) → is_copied (came_of e) ≡ false
came-not-copied e =
    elim (is_passed e) as (λ b. is_copied (if b then Ok came.Passed else (if fails_object e then Ok came.Failed else Err (stopping e))) ≡ false) [
      | true ↦ refl
      | false ↦ elim (fails_object e) as (λ b. is_copied (if b then Ok came.Failed else Err (stopping e)) ≡ false) [
        | true ↦ refl
        | false ↦ refl
      ]
    ]

unopened-not-copied : (e : Refusal) → is_copied (unopened e) ≡ false
unopened-not-copied e =
    elim (number_of e == 10) as (λ b. is_copied (if b then Err e else came_of e) ≡ false) [
      | true ↦ refl
      | false ↦ came-not-copied e
    ]

-- ---- refusals by number

-- such a ticket is gone, or can't be given back
pub spent-by : (e : Refusal) → is_spent_by e ≡ true → (number_of e ≡ 25) ⊎ (may_leave (came_of e) ≡ true)
spent-by (refused.Syntax a) h = let never : false ≡ true = h in absurd cc
spent-by (refused.UnknownWord a) h = let never : false ≡ true = h in absurd cc
spent-by (refused.Ambiguous a) h = let never : false ≡ true = h in absurd cc
spent-by (refused.BadValue a) h = let never : false ≡ true = h in absurd cc
spent-by refused.NotFound h = let never : false ≡ true = h in absurd cc
spent-by refused.Exists h = let never : false ≡ true = h in absurd cc
spent-by (refused.InUse a) h = let never : false ≡ true = h in absurd cc
spent-by refused.NoDefaultClass h = let never : false ≡ true = h in absurd cc
spent-by refused.BadHierarchy h = let never : false ≡ true = h in absurd cc
spent-by (refused.DayBack a b) h = let never : false ≡ true = h in absurd cc
spent-by refused.NoBackupGroup h = let never : false ≡ true = h in absurd cc
spent-by refused.NoArchiveGroup h = let never : false ≡ true = h in absurd cc
spent-by (refused.NoSpace a) h = let never : false ≡ true = h in absurd cc
spent-by (refused.Busy a) h = let never : false ≡ true = h in absurd cc
spent-by (refused.Stale a) h = let never : false ≡ true = h in absurd cc
spent-by (refused.Gone a) h = let never : false ≡ true = h in absurd cc
spent-by refused.Unavailable h = let never : false ≡ true = h in absurd cc
spent-by (refused.WriteFault a) h = inl refl
spent-by refused.TreeFault h = let never : false ≡ true = h in absurd cc
spent-by (refused.Changed a b) h = let never : false ≡ true = h in absurd cc
spent-by (refused.DigestDiffers a b) h = let never : false ≡ true = h in absurd cc
spent-by refused.TooLarge h = let never : false ≡ true = h in absurd cc
spent-by refused.RecordFull h = let never : false ≡ true = h in absurd cc
spent-by refused.InventoryFull h = let never : false ≡ true = h in absurd cc
spent-by (refused.NotYet a b) h = let never : false ≡ true = h in absurd cc
spent-by (refused.LogFault a b) h = inr refl
spent-by refused.RunFull h = inr refl
spent-by refused.Memory h = let never : false ≡ true = h in absurd cc

-- a ticket that wasn't dropped wasn't there, or can't be given back
pub not-dropped : (ticket : ℕ) (e : Refusal) → is_listed (DropTicket ticket (Err e)) ≡ true → (number_of e ≡ 10) ⊎ (may_leave (Err (stopping e)) ≡ true)
unfolding is_listed
not-dropped ticket (refused.Syntax a) h = let never : false ≡ true = h in absurd cc
not-dropped ticket (refused.UnknownWord a) h = let never : false ≡ true = h in absurd cc
not-dropped ticket (refused.Ambiguous a) h = let never : false ≡ true = h in absurd cc
not-dropped ticket (refused.BadValue a) h = let never : false ≡ true = h in absurd cc
not-dropped ticket refused.NotFound h = inl refl
not-dropped ticket refused.Exists h = let never : false ≡ true = h in absurd cc
not-dropped ticket (refused.InUse a) h = let never : false ≡ true = h in absurd cc
not-dropped ticket refused.NoDefaultClass h = let never : false ≡ true = h in absurd cc
not-dropped ticket refused.BadHierarchy h = let never : false ≡ true = h in absurd cc
not-dropped ticket (refused.DayBack a b) h = let never : false ≡ true = h in absurd cc
not-dropped ticket refused.NoBackupGroup h = let never : false ≡ true = h in absurd cc
not-dropped ticket refused.NoArchiveGroup h = let never : false ≡ true = h in absurd cc
not-dropped ticket (refused.NoSpace a) h = let never : false ≡ true = h in absurd cc
not-dropped ticket (refused.Busy a) h = let never : false ≡ true = h in absurd cc
not-dropped ticket (refused.Stale a) h = let never : false ≡ true = h in absurd cc
not-dropped ticket (refused.Gone a) h = let never : false ≡ true = h in absurd cc
not-dropped ticket refused.Unavailable h = let never : false ≡ true = h in absurd cc
not-dropped ticket (refused.WriteFault a) h = let never : false ≡ true = h in absurd cc
not-dropped ticket refused.TreeFault h = let never : false ≡ true = h in absurd cc
not-dropped ticket (refused.Changed a b) h = let never : false ≡ true = h in absurd cc
not-dropped ticket (refused.DigestDiffers a b) h = let never : false ≡ true = h in absurd cc
not-dropped ticket refused.TooLarge h = let never : false ≡ true = h in absurd cc
not-dropped ticket refused.RecordFull h = let never : false ≡ true = h in absurd cc
not-dropped ticket refused.InventoryFull h = let never : false ≡ true = h in absurd cc
not-dropped ticket (refused.NotYet a b) h = let never : false ≡ true = h in absurd cc
not-dropped ticket (refused.LogFault a b) h = inr refl
not-dropped ticket refused.RunFull h = inr refl
not-dropped ticket refused.Memory h = let never : false ≡ true = h in absurd cc

-- no commit answers that writing to a volume failed
pub commit-listed : (tickets : List ℕ) (e : Refusal) → is_listed (Commit asked.Placed tickets (Err e)) ≡ true → number_of e ≡ 25 → ⊥
unfolding is_listed
commit-listed tickets e listed h =
    let one : list_any (λ n. n == 25) (4 ∷ 10 ∷ 11 ∷ 12 ∷ 13 ∷ 14 ∷ 15 ∷ 21 ∷ 22 ∷ 23 ∷ 28 ∷ 30 ∷ 31 ∷ 40 ∷ 41 ∷ 50 ∷ []) ≡ true =
    subst (λ (m : ℕ). list_any (λ n. n == m) (4 ∷ 10 ∷ 11 ∷ 12 ∷ 13 ∷ 14 ∷ 15 ∷ 21 ∷ 22 ∷ 23 ∷ 28 ∷ 30 ∷ 31 ∷ 40 ∷ 41 ∷ 50 ∷ []) ≡ true) h listed in
    let never : false ≡ true = one in
    absurd cc

none-some : {A : Type 0} (x : A) → None ≡ Some x → ⊥
none-some x h = absurd cc

ok-err : {A : Type 0} (x : A) (e : Refusal) → Ok x ≡ Err e → ⊥
ok-err x e h = absurd cc

abbrev pub busy : Holder → Result Came Refusal
busy h = Err (refused.Busy h)

some-is : (a h : Holder) → Some a ≡ Some h → a ≡ h
some-is a h g = cc

-- who is waited for stands in what it came to
pub held-by : (tried : Result Came Refusal) (h : Holder) → holder_in tried ≡ Some h → tried ≡ Err (refused.Busy h)
held-by (Ok x) h g = absurd cc
held-by (Err (refused.Syntax a)) h g = absurd (none-some h g)
held-by (Err (refused.UnknownWord a)) h g = absurd (none-some h g)
held-by (Err (refused.Ambiguous a)) h g = absurd (none-some h g)
held-by (Err (refused.BadValue a)) h g = absurd (none-some h g)
held-by (Err refused.NotFound) h g = absurd (none-some h g)
held-by (Err refused.Exists) h g = absurd (none-some h g)
held-by (Err (refused.InUse a)) h g = absurd (none-some h g)
held-by (Err refused.NoDefaultClass) h g = absurd (none-some h g)
held-by (Err refused.BadHierarchy) h g = absurd (none-some h g)
held-by (Err (refused.DayBack a b)) h g = absurd (none-some h g)
held-by (Err refused.NoBackupGroup) h g = absurd (none-some h g)
held-by (Err refused.NoArchiveGroup) h g = absurd (none-some h g)
held-by (Err (refused.NoSpace a)) h g = absurd (none-some h g)
held-by (Err (refused.Busy a)) h g = ap busy (some-is a h g)
held-by (Err (refused.Stale a)) h g = absurd (none-some h g)
held-by (Err (refused.Gone a)) h g = absurd (none-some h g)
held-by (Err refused.Unavailable) h g = absurd (none-some h g)
held-by (Err (refused.WriteFault a)) h g = absurd (none-some h g)
held-by (Err refused.TreeFault) h g = absurd (none-some h g)
held-by (Err (refused.Changed a b)) h g = absurd (none-some h g)
held-by (Err (refused.DigestDiffers a b)) h g = absurd (none-some h g)
held-by (Err refused.TooLarge) h g = absurd (none-some h g)
held-by (Err refused.RecordFull) h g = absurd (none-some h g)
held-by (Err refused.InventoryFull) h g = absurd (none-some h g)
held-by (Err (refused.NotYet a b)) h g = absurd (none-some h g)
held-by (Err (refused.LogFault a b)) h g = absurd (none-some h g)
held-by (Err refused.RunFull) h g = absurd (none-some h g)
held-by (Err refused.Memory) h g = absurd (none-some h g)

-- ---- a ticket's steps, up to a refusal

-- none of them opened or committed, the refusal was met, and behind a fault of writing the ticket isn't there any more
record Stopped (object : ℕ) (aim : Aim) (avoid ticket : ℕ) (e : Refusal) (events : List Event) : Type 0 where
  quiet : AreQuiet object aim avoid events
  met : MetOr e events
  faulted : number_of e ≡ 25 → is_spent ticket events ≡ true

fifty : (n : ℕ) → n ≡ 50 → n ≡ 25 → ⊥
fifty n h g = absurd (omega arith)

one-spends : (ticket : ℕ) (d : Deed) (e : Refusal) (events : List Event) → Made d events → refusal d ≡ Some e → number_of e ≡ 25
    → (is_listed d ≡ true → spends ticket d ≡ true) → is_spent ticket events ≡ true
one-spends ticket d e events (inl h) is fault spent =
    subst (λ (es : List Event). is_spent ticket es ≡ true) (sym h.1) (ap (λ b. b || false) (spent h.2))
one-spends ticket d e events (inr h) is fault spent =
    absurd (fifty (number_of e) (ap number_of (some-memory e d is h.0)) fault)

both-true : (a b : Bool) → a ≡ true → b ≡ true → (a && b) ≡ true
both-true a b h g = ap (λ x. x && b) h ∙ g

is-numbered : (ticket number : ℕ) (e : Refusal) → number_of e ≡ number → (ticket == ticket && number_of e == number) ≡ true
is-numbered ticket number e h = both-true (ticket == ticket) (number_of e == number) (eq-eqb ticket ticket refl) (eq-eqb (number_of e) number h)

stopped-behind : (object : ℕ) (aim : Aim) (avoid ticket : ℕ) (e : Refusal) (xs ys : List Event) → AreQuiet object aim avoid xs → Stopped object aim avoid ticket e ys
    → Stopped object aim avoid ticket e (xs ++ ys)
stopped-behind object aim avoid ticket e xs ys a b = record {
  quiet = quiet-append object aim avoid xs ys a b.quiet;
  met = met-or-behind e xs ys b.met;
  faulted = λ h. spent-behind ticket xs ys (b.faulted h);
}

stopped-by : (object : ℕ) (aim : Aim) (avoid ticket : ℕ) (e : Refusal) (d : Deed) (events : List Event) → Made d events → refusal d ≡ Some e → IsQuiet object aim avoid d
    → (number_of e ≡ 25 → is_listed d ≡ true → spends ticket d ≡ true) → Stopped object aim avoid ticket e events
stopped-by object aim avoid ticket e d events h is quiet spent = record {
  quiet = made-quiet object aim avoid d events h quiet;
  met = made-met d e events h is;
  faulted = λ fault. one-spends ticket d e events h is fault (spent fault);
}

stopped-same : (object : ℕ) (aim : Aim) (avoid ticket : ℕ) (e : Refusal) (events all : List Event) → all ≡ events → Stopped object aim avoid ticket e events → Stopped object aim avoid ticket e all
stopped-same object aim avoid ticket e events all same h = subst (λ (es : List Event). Stopped object aim avoid ticket e es) (sym same) h

copies-stopped : (object : ℕ) (aim : Aim) (avoid ticket number : ℕ) (e : Refusal) (events : List Event) → Copies ticket number events (Err e) → Stopped object aim avoid ticket e events
copies-stopped object aim avoid ticket number e events h =
    stopped-same object aim avoid ticket e (h.2.0 ++ h.2.1) events h.2.2
    (stopped-behind object aim avoid ticket e h.2.0 h.2.1 (pieces-quiet object aim avoid ticket h.2.0 h.2.3.only)
    (stopped-by object aim avoid ticket e (CopyPiece ticket (Err e)) h.2.1 h.2.4 refl (tt, refl) (λ fault listed. is-numbered ticket 25 e fault)))

fills-quiet : (object : ℕ) (aim : Aim) (avoid ticket size : ℕ) (events : List Event) → Fills ticket size events (Ok tt) → AreQuiet object aim avoid events
fills-quiet object aim avoid ticket size events (inl h) = absurd (ok-err tt h.0 h.2)
fills-quiet object aim avoid ticket size events (inr h) =
    subst (λ (es : List Event). AreQuiet object aim avoid es) (sym h.2)
    (quiet-append object aim avoid h.0 h.1 (pieces-quiet object aim avoid ticket h.0 h.3.only) (made-quiet object aim avoid (Seal ticket (Ok tt)) h.1 h.4 (tt, refl)))

some-same : (a b : Refusal) → Some a ≡ Some b → b ≡ a
some-same a b h = cc

fills-stopped : (object : ℕ) (aim : Aim) (avoid ticket size : ℕ) (e : Refusal) (events : List Event) → Fills ticket size events (Err e) → Stopped object aim avoid ticket e events
fills-stopped object aim avoid ticket size e events (inl h) =
    let same : refusal (Seal ticket (Err e)) ≡ refusal (Seal ticket (Err h.0)) = ap refusal_in h.2 in
    let is : h.0 ≡ e = some-same e h.0 same in
    subst (λ (x : Refusal). Stopped object aim avoid ticket x events) is (copies-stopped object aim avoid ticket (piece_count size) h.0 events h.1)
fills-stopped object aim avoid ticket size e events (inr h) =
    stopped-same object aim avoid ticket e (h.0 ++ h.1) events h.2
    (stopped-behind object aim avoid ticket e h.0 h.1 (pieces-quiet object aim avoid ticket h.0 h.3.only)
    (stopped-by object aim avoid ticket e (Seal ticket (Err e)) h.1 h.4 refl (tt, refl) (λ fault listed. is-numbered ticket 25 e fault)))

makes-stopped : (object : ℕ) (aim : Aim) (avoid ticket size : ℕ) (e : Refusal) (events : List Event) → Makes ticket size events (Err e) → Stopped object aim avoid ticket e events
makes-stopped object aim avoid ticket size e events (inl h) =
    let same : Some e ≡ Some h.0 = ap refusal_in h.2 in
    let is : h.0 ≡ e = some-same e h.0 same in
    subst (λ (x : Refusal). Stopped object aim avoid ticket x events) is (fills-stopped object aim avoid ticket size h.0 events h.1)
makes-stopped object aim avoid ticket size e events (inr h) =
    stopped-same object aim avoid ticket e (h.0 ++ h.1) events h.2
    (stopped-behind object aim avoid ticket e h.0 h.1 (fills-quiet object aim avoid ticket size h.0 h.3)
    (stopped-by object aim avoid ticket e (Commit asked.Placed (ticket ∷ []) (Err e)) h.1 h.4 refl ((ticket, refl, refl), refl) (λ fault listed. absurd (commit-listed (ticket ∷ []) e listed fault))))

-- ---- a ticket's steps, to their end

-- the transaction of one ticket
abbrev pub CommitsTicket : ℕ → List Event → Result Came Refusal → Type 0
CommitsTicket ticket events (Ok (came.Copied number)) = (n : ℕ) × (made events ≡ event n (Commit asked.Placed (ticket ∷ []) (Ok number)) ∷ [])
CommitsTicket ticket events _ = made events ≡ []

none-commits-ticket : (ticket : ℕ) (events : List Event) (result : Result Came Refusal) → is_copied result ≡ false → made events ≡ [] → CommitsTicket ticket events result
none-commits-ticket ticket events (Ok (came.Copied number)) h none = absurd cc
none-commits-ticket ticket events (Ok came.Failed) h none = none
none-commits-ticket ticket events (Ok came.Passed) h none = none
none-commits-ticket ticket events (Err e) h none = none

record Spent (object : ℕ) (aim : Aim) (avoid ticket : ℕ) (events : List Event) (result : Result Came Refusal) : Type 0 where
  only : AreOf object aim avoid events
  settled : AreSettled events
  spent : may_leave result ≡ false → is_spent ticket events ≡ true
  commits : CommitsTicket ticket events result
  means : Means object aim avoid events result

-- what giving a ticket up adds
record Given (object : ℕ) (aim : Aim) (avoid ticket : ℕ) (before events : List Event) (result : Result Came Refusal) : Type 0 where
  quiet : AreQuiet object aim avoid events
  spent : may_leave result ≡ false → is_spent ticket (before ++ events) ≡ true
  copied : is_copied result ≡ false
  means : Means object aim avoid (before ++ events) result

fault-or : (e : Refusal) → (number_of e ≡ 25) ⊎ (may_leave (came_of e) ≡ true) → may_leave (came_of e) ≡ false → number_of e ≡ 25
fault-or e (inl h) leave = h
fault-or e (inr h) leave = let never : true ≡ false = sym h ∙ leave in absurd cc

given-nothing : (object : ℕ) (aim : Aim) (avoid ticket : ℕ) (e : Refusal) (before events : List Event) → Stopped object aim avoid ticket e before → is_spent_by e ≡ true → events ≡ []
    → Given object aim avoid ticket before events (came_of e)
given-nothing object aim avoid ticket e before events h spent none = record {
  quiet = subst (λ (es : List Event). AreQuiet object aim avoid es) (sym none) tt;
  spent = λ leave. spent-before ticket before events (h.faulted (fault-or e (spent-by e spent) leave));
  copied = came-not-copied e;
  means = came-means object aim avoid e (before ++ events) (met-or-before e before events h.met);
}

dropped-spends : (ticket : ℕ) (events : List Event) → IsStep (DropTicket ticket (Ok tt)) events → is_spent ticket events ≡ true
dropped-spends ticket events h = subst (λ (es : List Event). is_spent ticket es ≡ true) (sym h.1) (ap (λ b. b || false) (eq-eqb ticket ticket refl))

pub not-there-spends : (ticket : ℕ) (e : Refusal) → (number_of e ≡ 10) ⊎ (may_leave (Err (stopping e)) ≡ true) → may_leave (Err (stopping e)) ≡ false → spends ticket (DropTicket ticket (Err e)) ≡ true
not-there-spends ticket e (inl h) leave = is-numbered ticket 10 e h
not-there-spends ticket e (inr h) leave = let never : true ≡ false = sym h ∙ leave in absurd cc

undropped-spends : (ticket : ℕ) (e : Refusal) (events : List Event) → IsStep (DropTicket ticket (Err e)) events → may_leave (Err (stopping e)) ≡ false → is_spent ticket events ≡ true
undropped-spends ticket e events h leave =
    subst (λ (es : List Event). is_spent ticket es ≡ true) (sym h.1) (ap (λ b. b || false) (not-there-spends ticket e (not-dropped ticket e h.2) leave))

given-back : (object : ℕ) (aim : Aim) (avoid ticket : ℕ) (e : Refusal) (before events : List Event) (answer : Result (Unit {0}) Refusal) → Stopped object aim avoid ticket e before
    → IsStep (DropTicket ticket answer) events → Given object aim avoid ticket before events (behind_drop e answer)
given-back object aim avoid ticket e before events (Ok done) h d = record {
  quiet = made-quiet object aim avoid (DropTicket ticket (Ok done)) events (inl d) (tt, refl);
  spent = λ leave. spent-behind ticket before events (dropped-spends ticket events d);
  copied = came-not-copied e;
  means = came-means object aim avoid e (before ++ events) (met-or-before e before events h.met);
}
given-back object aim avoid ticket e before events (Err other) h d = record {
  quiet = made-quiet object aim avoid (DropTicket ticket (Err other)) events (inl d) (tt, refl);
  spent = λ leave. spent-behind ticket before events (undropped-spends ticket other events d leave);
  copied = refl;
  means = stopping-means object aim avoid other (before ++ events) (met-or-behind other before events (made-met (DropTicket ticket (Err other)) other events (inl d) refl));
}

given-up : (object : ℕ) (aim : Aim) (avoid ticket : ℕ) (e : Refusal) (before events : List Event) (result : Result Came Refusal) → Stopped object aim avoid ticket e before
    → GivesUp ticket e events result → Given object aim avoid ticket before events result
given-up object aim avoid ticket e before events result h (inl g) =
    subst (λ (r : Result Came Refusal). Given object aim avoid ticket before events r) (sym g.2) (given-nothing object aim avoid ticket e before events h g.0 g.1)
given-up object aim avoid ticket e before events result h (inr g) =
    subst (λ (r : Result Came Refusal). Given object aim avoid ticket before events r) (sym g.3) (given-back object aim avoid ticket e before events g.1 h g.2)

spent-given : (object : ℕ) (aim : Aim) (avoid ticket : ℕ) (xs ys : List Event) (result : Result Came Refusal) → AreQuiet object aim avoid xs → Given object aim avoid ticket xs ys result
    → Spent object aim avoid ticket (xs ++ ys) result
spent-given object aim avoid ticket xs ys result quiet g =
    let all : AreQuiet object aim avoid (xs ++ ys) = quiet-append object aim avoid xs ys quiet g.quiet in
    record {
      only = quiet-of object aim avoid (xs ++ ys) all;
      settled = quiet-settled object aim avoid (xs ++ ys) all;
      spent = g.spent;
      commits = none-commits-ticket ticket (xs ++ ys) result g.copied (quiet-made object aim avoid (xs ++ ys) all);
      means = g.means;
    }

-- the commit itself
committed : (object : ℕ) (aim : Aim) (avoid ticket number n : ℕ) (xs : List Event) → AreQuiet object aim avoid xs
    → Spent object aim avoid ticket (xs ++ event n (Commit asked.Placed (ticket ∷ []) (Ok number)) ∷ []) (Ok (came.Copied number))
committed object aim avoid ticket number n xs quiet =
    let last : List Event = event n (Commit asked.Placed (ticket ∷ []) (Ok number)) ∷ [] in
    record {
      only = of-append object aim avoid xs last (quiet-of object aim avoid xs quiet) ((ticket, refl, refl), tt);
      settled = settled-append xs last (quiet-settled object aim avoid xs quiet) (tt, tt);
      spent = λ leave. spent-behind ticket xs last (ap (λ b. (b || false) || false) (eq-eqb ticket ticket refl));
      commits = (n, made-append xs last ∙ ap (λ (es : List Event). es ++ made last) (quiet-made object aim avoid xs quiet));
      means = tt;
    }

committed-by : (object : ℕ) (aim : Aim) (avoid ticket number : ℕ) (xs ys : List Event) → AreQuiet object aim avoid xs → Made (Commit asked.Placed (ticket ∷ []) (Ok number)) ys
    → Spent object aim avoid ticket (xs ++ ys) (Ok (came.Copied number))
committed-by object aim avoid ticket number xs ys quiet (inl g) =
    subst (λ (es : List Event). Spent object aim avoid ticket (xs ++ es) (Ok (came.Copied number))) (sym g.1) (committed object aim avoid ticket number g.0 xs quiet)
committed-by object aim avoid ticket number xs ys quiet (inr g) = absurd (none-some refused.Memory g.0)

makes-spent : (object : ℕ) (aim : Aim) (avoid ticket size number : ℕ) (events : List Event) → Makes ticket size events (Ok number) → Spent object aim avoid ticket events (Ok (came.Copied number))
makes-spent object aim avoid ticket size number events (inl h) = absurd (ok-err number h.0 h.2)
makes-spent object aim avoid ticket size number events (inr h) =
    subst (λ (es : List Event). Spent object aim avoid ticket es (Ok (came.Copied number))) (sym h.2)
    (committed-by object aim avoid ticket number h.0 h.1 (fills-quiet object aim avoid ticket size h.0 h.3) h.4)

spends-spent : (object : ℕ) (aim : Aim) (avoid ticket size : ℕ) (events : List Event) (result : Result Came Refusal) → Spends ticket size events result → Spent object aim avoid ticket events result
spends-spent object aim avoid ticket size events result (inl h) =
    subst (λ (r : Result Came Refusal). Spent object aim avoid ticket events r) (sym h.2) (makes-spent object aim avoid ticket size h.0 events h.1)
spends-spent object aim avoid ticket size events result (inr h) =
    let stopped : Stopped object aim avoid ticket h.0 h.1.0 = makes-stopped object aim avoid ticket size h.0 h.1.0 h.1.3 in
    subst (λ (es : List Event). Spent object aim avoid ticket es result) (sym h.1.2)
    (spent-given object aim avoid ticket h.1.0 h.1.1 result stopped.quiet (given-up object aim avoid ticket h.0 h.1.0 h.1.1 result stopped h.1.4))

-- ---- tries

record Facts (object : ℕ) (aim : Aim) (avoid : ℕ) (events : List Event) (result : Result Came Refusal) : Type 0 where
  only : AreOf object aim avoid events
  settled : may_leave result ≡ false → AreSettled events
  commits : Commits events result
  means : Means object aim avoid events result

not-there : (object : ℕ) (aim : Aim) (avoid : ℕ) (e : Refusal) (events : List Event) → Made (OpenCopy object aim avoid (Err e)) events → (number_of e == 10) ≡ true → IsCaused object aim avoid events e
not-there object aim avoid e events (inl h) ten =
    inr (inr (ten, subst (λ (es : List Event). MetBy (λ d. d ≡ OpenCopy object aim avoid (Err e)) es) (sym h.1) (inl refl)))
not-there object aim avoid e events (inr h) ten = inl (some-memory e (OpenCopy object aim avoid (Err e)) refl h.0)

unopened-means : (object : ℕ) (aim : Aim) (avoid : ℕ) (e : Refusal) (events : List Event) → Made (OpenCopy object aim avoid (Err e)) events → Means object aim avoid events (unopened e)
unopened-means object aim avoid e events h =
    elim (number_of e == 10) as (λ b. (number_of e == 10) ≡ b → Means object aim avoid events (if b then Err e else came_of e)) [
      | true ↦ λ ten. not-there object aim avoid e events h ten
      | false ↦ λ other. came-means object aim avoid e events (made-met (OpenCopy object aim avoid (Err e)) e events h refl)
    ] refl

opened-commits : (object : ℕ) (aim : Aim) (avoid ticket n : ℕ) (events : List Event) (result : Result Came Refusal) → CommitsTicket ticket events result
    → Commits (event n (OpenCopy object aim avoid (Ok ticket)) ∷ events) result
opened-commits object aim avoid ticket n events (Ok (came.Copied number)) h =
    (h.0, ticket, h.1, ap (λ b. b || is_opened ticket events) (eq-eqb ticket ticket refl))
opened-commits object aim avoid ticket n events (Ok came.Failed) h = h
opened-commits object aim avoid ticket n events (Ok came.Passed) h = h
opened-commits object aim avoid ticket n events (Err e) h = h

tried-opened : (object : ℕ) (aim : Aim) (avoid ticket n : ℕ) (events : List Event) (result : Result Came Refusal) → Spent object aim avoid ticket events result
    → Facts object aim avoid (event n (OpenCopy object aim avoid (Ok ticket)) ∷ events) result
tried-opened object aim avoid ticket n events result h = record {
  only = ((refl, refl, refl), h.only);
  settled = λ leave. (h.spent leave, h.settled);
  commits = opened-commits object aim avoid ticket n events result h.commits;
  means = means-behind object aim avoid (event n (OpenCopy object aim avoid (Ok ticket)) ∷ []) events result h.means;
}

opened-facts : (object : ℕ) (aim : Aim) (avoid ticket : ℕ) (xs ys : List Event) (result : Result Came Refusal) → Spent object aim avoid ticket ys result
    → Made (OpenCopy object aim avoid (Ok ticket)) xs → Facts object aim avoid (xs ++ ys) result
opened-facts object aim avoid ticket xs ys result h (inl f) =
    subst (λ (es : List Event). Facts object aim avoid (es ++ ys) result) (sym f.1) (tried-opened object aim avoid ticket f.0 ys result h)
opened-facts object aim avoid ticket xs ys result h (inr f) = absurd (none-some refused.Memory f.0)

tries-facts : (object : ℕ) (aim : Aim) (avoid size : ℕ) (events : List Event) (result : Result Came Refusal) → Tries object aim avoid size events result → Facts object aim avoid events result
tries-facts object aim avoid size events result (inl h) =
    let quiet : AreQuiet object aim avoid events = made-quiet object aim avoid (OpenCopy object aim avoid (Err h.0)) events h.1 ((refl, refl, refl), refl) in
    subst (λ (r : Result Came Refusal). Facts object aim avoid events r) (sym h.2) (record {
      only = quiet-of object aim avoid events quiet;
      settled = λ leave. quiet-settled object aim avoid events quiet;
      commits = none-commits events (unopened h.0) (unopened-not-copied h.0) (quiet-made object aim avoid events quiet);
      means = unopened-means object aim avoid h.0 events h.1;
    })
tries-facts object aim avoid size events result (inr h) =
    subst (λ (es : List Event). Facts object aim avoid es result) (sym h.1.2)
    (opened-facts object aim avoid h.0 h.1.0 h.1.1 result (spends-spent object aim avoid h.0 size h.1.1 result h.1.4) h.1.3)

-- ---- waiting

-- nothing joined, and no ticket is left
record Calm (object : ℕ) (aim : Aim) (avoid : ℕ) (events : List Event) : Type 0 where
  only : AreOf object aim avoid events
  settled : AreSettled events
  unmade : made events ≡ []

calm-append : (object : ℕ) (aim : Aim) (avoid : ℕ) (xs ys : List Event) → Calm object aim avoid xs → Calm object aim avoid ys → Calm object aim avoid (xs ++ ys)
calm-append object aim avoid xs ys a b = record {
  only = of-append object aim avoid xs ys a.only b.only;
  settled = settled-append xs ys a.settled b.settled;
  unmade = made-append xs ys ∙ ap (λ (es : List Event). es ++ made ys) a.unmade ∙ b.unmade;
}

calm-quiet : (object : ℕ) (aim : Aim) (avoid : ℕ) (xs : List Event) → AreQuiet object aim avoid xs → Calm object aim avoid xs
calm-quiet object aim avoid xs h = record {
  only = quiet-of object aim avoid xs h;
  settled = quiet-settled object aim avoid xs h;
  unmade = quiet-made object aim avoid xs h;
}

awaits-quiet : (object : ℕ) (aim : Aim) (avoid : ℕ) (h : Holder) (events : List Event) (answer : Result (Unit {0}) Refusal) → Awaits h events answer → AreQuiet object aim avoid events
awaits-quiet object aim avoid (holder.Unforced number) events answer w = made-quiet object aim avoid (Force w.0) events w.2 (tt, refl)
awaits-quiet object aim avoid (holder.Ticket number) events answer w = subst (λ (es : List Event). AreQuiet object aim avoid es) (sym w.0) tt
awaits-quiet object aim avoid (holder.Image actor) events answer w = subst (λ (es : List Event). AreQuiet object aim avoid es) (sym w.0) tt

busy-met : (object : ℕ) (aim : Aim) (avoid : ℕ) (h : Holder) (events : List Event) → IsCaused object aim avoid events (refused.Busy h) → Met (refused.Busy h) events
busy-met object aim avoid h events (inl c) = absurd cc
busy-met object aim avoid h events (inr (inl c)) = c.1
busy-met object aim avoid h events (inr (inr c)) = let never : false ≡ true = c.0 in absurd cc

force-met : (a : Result ℕ Refusal) (e : Refusal) (events : List Event) → Made (Force a) events → Err e ≡ forced a → MetOr e events
force-met (Ok number) e events h same = absurd (ok-err tt e (sym same))
force-met (Err other) e events h same = made-met (Force (Err other)) e events h (sym (ap refusal_in same))

-- what a refused wait was refused with is want of memory, or was met by the try or by the wait
waited-met : (h : Holder) (e : Refusal) (answer : Result (Unit {0}) Refusal) (xs ys : List Event) → answer ≡ Err e → Met (refused.Busy h) xs
    → ((answer ≡ Ok tt) ⊎ (answer ≡ Err (refused.Busy h)) ⊎ (answer ≡ Err refused.Memory)) → MetOr e (xs ++ ys)
waited-met h e answer xs ys it met (inl same) = absurd (ok-err tt e (sym same ∙ it))
waited-met h e answer xs ys it met (inr (inl same)) =
    let is : Some e ≡ Some (refused.Busy h) = ap refusal_in (sym it ∙ same) in
    met-or-before e xs ys (inr (subst (λ (x : Refusal). Met x xs) (some-same e (refused.Busy h) is) met))
waited-met h e answer xs ys it met (inr (inr same)) =
    let is : Some e ≡ Some refused.Memory = ap refusal_in (sym it ∙ same) in
    inl (sym (some-same e refused.Memory is))

wait-met : (h : Holder) (e : Refusal) (xs ys : List Event) → Met (refused.Busy h) xs → Awaits h ys (Err e) → MetOr e (xs ++ ys)
wait-met (holder.Unforced number) e xs ys met w = met-or-behind e xs ys (force-met w.0 e ys w.2 w.1)
wait-met (holder.Ticket number) e xs ys met w = waited-met (holder.Ticket number) e (Err e) xs ys refl met w.1
wait-met (holder.Image actor) e xs ys met w = waited-met (holder.Image actor) e (Err e) xs ys refl met w.1

-- a try that found the room held
held-facts : (object : ℕ) (aim : Aim) (avoid size : ℕ) (tried : Result Came Refusal) (h : Holder) (events : List Event) → holder_in tried ≡ Some h → Tries object aim avoid size events tried
    → Facts object aim avoid events (Err (refused.Busy h))
held-facts object aim avoid size tried h events is t =
    subst (λ (r : Result Came Refusal). Facts object aim avoid events r) (held-by tried h is) (tries-facts object aim avoid size events tried t)

facts-calm : (object : ℕ) (aim : Aim) (avoid : ℕ) (h : Holder) (events : List Event) → Facts object aim avoid events (Err (refused.Busy h)) → Calm object aim avoid events
facts-calm object aim avoid h events f = record { only = f.only; settled = f.settled refl; unmade = f.commits }

held-calm : (object : ℕ) (aim : Aim) (avoid size : ℕ) (events : List Event) (answer : Result (Unit {0}) Refusal) → Held object aim avoid size events answer → Calm object aim avoid events
held-calm object aim avoid size events answer h =
    subst (λ (es : List Event). Calm object aim avoid es) (sym h.3.2)
    (calm-append object aim avoid h.3.0 h.3.1 (facts-calm object aim avoid h.1 h.3.0 (held-facts object aim avoid size h.0 h.1 h.3.0 h.2 h.3.3))
    (calm-quiet object aim avoid h.3.1 (awaits-quiet object aim avoid h.1 h.3.1 answer h.3.4)))

held-means : (object : ℕ) (aim : Aim) (avoid size : ℕ) (events : List Event) (e : Refusal) → Held object aim avoid size events (Err e) → IsCaused object aim avoid events (stopping e)
held-means object aim avoid size events e h =
    let f : Facts object aim avoid h.3.0 (Err (refused.Busy h.1)) = held-facts object aim avoid size h.0 h.1 h.3.0 h.2 h.3.3 in
    subst (λ (es : List Event). IsCaused object aim avoid es (stopping e)) (sym h.3.2)
    (stopping-means object aim avoid e (h.3.0 ++ h.3.1) (wait-met h.1 e h.3.0 h.3.1 (busy-met object aim avoid h.1 h.3.0 f.means) h.3.4))

waited-calm : (object : ℕ) (aim : Aim) (avoid size number : ℕ) (events : List Event) → Waited object aim avoid size number events → Calm object aim avoid events
waited-calm object aim avoid size zero events h = subst (λ (es : List Event). Calm object aim avoid es) (sym h) (record { only = tt; settled = tt; unmade = refl })
waited-calm object aim avoid size (suc number) events h =
    subst (λ (es : List Event). Calm object aim avoid es) (sym h.2)
    (calm-append object aim avoid h.0 h.1 (waited-calm object aim avoid size number h.0 h.3) (held-calm object aim avoid size h.1 (Ok tt) h.4))

-- ---- the whole

calm-facts : (object : ℕ) (aim : Aim) (avoid : ℕ) (events : List Event) (e : Refusal) → Calm object aim avoid events → IsCaused object aim avoid events e → Facts object aim avoid events (Err e)
calm-facts object aim avoid events e c h = record { only = c.only; settled = λ leave. c.settled; commits = c.unmade; means = h }

ends-facts : (object : ℕ) (aim : Aim) (avoid size waited : ℕ) (events : List Event) (result : Result Came Refusal) → Ends object aim avoid size waited events result
    → Facts object aim avoid events result
ends-facts object aim avoid size waited events result (inl h) = tries-facts object aim avoid size events result h.1
ends-facts object aim avoid size waited events result (inr (inl h)) =
    subst (λ (r : Result Came Refusal). Facts object aim avoid events r) (sym h.2)
    (calm-facts object aim avoid events (stopping h.0) (held-calm object aim avoid size events (Err h.0) h.1) (held-means object aim avoid size events h.0 h.1))
ends-facts object aim avoid size waited events result (inr (inr h)) =
    subst (λ (r : Result Came Refusal). Facts object aim avoid events r) (sym h.2)
    (calm-facts object aim avoid events refused.Memory (subst (λ (es : List Event). Calm object aim avoid es) (sym h.1) (record { only = tt; settled = tt; unmade = refl })) (inl refl))

commits-behind : (xs ys : List Event) (result : Result Came Refusal) → made xs ≡ [] → Commits ys result → Commits (xs ++ ys) result
commits-behind xs ys (Ok (came.Copied number)) none h =
    (h.0, h.1, made-append xs ys ∙ ap (λ (es : List Event). es ++ made ys) none ∙ h.2, opened-behind h.1 xs ys h.3)
commits-behind xs ys (Ok came.Failed) none h = made-append xs ys ∙ ap (λ (es : List Event). es ++ made ys) none ∙ h
commits-behind xs ys (Ok came.Passed) none h = made-append xs ys ∙ ap (λ (es : List Event). es ++ made ys) none ∙ h
commits-behind xs ys (Err e) none h = made-append xs ys ∙ ap (λ (es : List Event). es ++ made ys) none ∙ h

facts-behind : (object : ℕ) (aim : Aim) (avoid : ℕ) (xs ys : List Event) (result : Result Came Refusal) → Calm object aim avoid xs → Facts object aim avoid ys result
    → Facts object aim avoid (xs ++ ys) result
facts-behind object aim avoid xs ys result c f = record {
  only = of-append object aim avoid xs ys c.only f.only;
  settled = λ leave. settled-append xs ys c.settled (f.settled leave);
  commits = commits-behind xs ys result c.unmade f.commits;
  means = means-behind object aim avoid xs ys result f.means;
}

goes-facts : (object : ℕ) (aim : Aim) (avoid size : ℕ) (events : List Event) (result : Result Came Refusal) → Goes object aim avoid size events result → Facts object aim avoid events result
goes-facts object aim avoid size events result h =
    subst (λ (es : List Event). Facts object aim avoid es result) (sym h.1.2)
    (facts-behind object aim avoid h.1.0 h.1.1 result (waited-calm object aim avoid size h.0 h.1.0 h.1.3) (ends-facts object aim avoid size h.0 h.1.1 result h.1.4))

-- what an attempt came to, by the order of its steps
pub attempt-of : (object : ℕ) (aim : Aim) (avoid size : ℕ) (events : List Event) (result : Result Came Refusal) → Goes object aim avoid size events result → Attempt object aim avoid size events result
attempt-of object aim avoid size events result h =
    let f : Facts object aim avoid events result = goes-facts object aim avoid size events result h in
    record { order = h; only = f.only; settled = f.settled; commits = f.commits; means = f.means }
