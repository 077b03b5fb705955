-- Copies that move: what a run over them is, by its steps and its transactions.
use Rattle.std.proofs.Common.{◌≡◌, ◌⊎◌, inl, inr, ℕ, ◌≤◌, ◌==◌, true, false, List, [], ◌∷◌, ◌++◌, map, Err, refl, sym, ap, subst, arith}
use Rattle.std.specs.List.{AllByRecursion}
use Rattle.kinds.specs.Refusals.{number_of}
use Rattle.kinds.specs.declared.refusal.Refusal.{Refusal}
use Rattle.inventory_work.specs.declared.lines.CopyLine.{CopyLine}
use Rattle.space.specs.declared.aim.Aim.{Aim}
use Rattle.space.specs.declared.aim.Aim.TheVariants as aim
use Rattle.steps.specs.Events.{Deed, Event, event}
use Rattle.steps.specs.Events.Deed.{OpenCopy}
use Rattle.steps.specs.Receipts.{made}
use Rattle.machine.specs.Fits.{Fits, History, Own, last}
use Rattle.machine.proofs.Runs.{fits-first}
use Rattle.copy_attempts.specs.Outcomes.{IsOf, MetBy}
use Rattle.copy_runs.specs.declared.wanted.Wanted.{Wanted}
use Rattle.copy_runs.specs.Ends.{AreAsking, IsStopped, last_of}
use Rattle.copy_runs.specs.Processes.{AreMoving as AreOfRun}
use Rattle.copy_runs.specs.Runs.{EntersOnly, HasFailed, IsCausedByOne, IsEntered, IsEntryFor}
use Rattle.copy_runs.specs.Tickets.{GotNoTicket}
use Rattle.copy_runs.specs.Wanting.{IsIn}
use Rattle.copy_runs.proofs.Tickets.{AreListed, met-later}
use Rattle.copy_runs.proofs.Told.{reaches}
use Rattle.copy_runs.proofs.Whole.{reached-last}
use Rattle.reclamation.specs.Moving.{AreMoving, EntersOff, HasFailedOff, IsEnteredOff, IsMove, IsMoving, into, moving}

-- ---- numbers

pub last-later : (w : History) (actor : ℕ) (a b : Own) (e : Event) (events : List Event) → Fits w actor a (e ∷ events) b → e.n ≤ last_of (e ∷ events)
last-later w actor a b e [] f = omega arith
last-later w actor a b e (x ∷ events) f =
    let r = fits-first w actor a b e (x ∷ events) f in
    let i : e.n ≤ r.0.reached = reaches w actor a r.0 e r.1 in
    let j : r.0.reached ≤ last_of (x ∷ events) = reached-last w actor r.0 b x events r.2 in
    omega arith

pub last-within : (w : History) (actor : ℕ) (a b : Own) (e : Event) (events : List Event) → Fits w actor a (e ∷ events) b → last_of (e ∷ events) ≤ last w
last-within w actor a b e [] f = (fits-first w actor a b e [] f).1.within
last-within w actor a b e (x ∷ events) f = let r = fits-first w actor a b e (x ∷ events) f in last-within w actor r.0 b x events r.2

pub first-is : (x : Event) (n : ℕ) (d : Deed) → x ∷ [] ≡ event n d ∷ [] → x ≡ event n d
first-is x n d h = cc

-- ---- what was wanted

pub moving-in : (to : ℕ) (lines : List CopyLine) (l : CopyLine) → IsIn l lines → IsIn (moving to l) (map (moving to) lines)
moving-in to [] l h = absurd h
moving-in to (k ∷ lines) l (inl h) = inl (ap (moving to) h)
moving-in to (k ∷ lines) l (inr h) = inr (moving-in to lines l h)

abbrev pub AreMoves : (to : ℕ) → List Wanted → Type 0
AreMoves to wanted = (x : Wanted) → IsIn x wanted → IsMove to x

pub all-moves : (to : ℕ) (lines : List CopyLine) → AreMoves to (map (moving to) lines)
all-moves to [] x h = absurd h
all-moves to (l ∷ lines) x (inl h) = (l.pool, l.placed, ap (λ (y : Wanted). y.aim) (sym h))
all-moves to (l ∷ lines) x (inr h) = all-moves to lines x h

-- ---- its parts

one-failed : (file to : ℕ) (wanted : List Wanted) (events : List Event) (object : ℕ) → AreMoves to wanted → HasFailed wanted file events object → HasFailedOff file to events object
one-failed file to wanted events object all h = (h.0, all h.0 h.4, (h.0, h.1, h.2, h.3, inl refl, h.5, h.6, h.7))

pub each-failed : (file to : ℕ) (wanted : List Wanted) (events : List Event) (objects : List ℕ) → AreMoves to wanted → AllByRecursion (HasFailed wanted file events) objects
    → AllByRecursion (HasFailedOff file to events) objects
each-failed file to wanted events [] all h = tt
each-failed file to wanted events (o ∷ objects) all h = (one-failed file to wanted events o all h.0, each-failed file to wanted events objects all h.1)

pub one-moving : (file to : ℕ) (wanted : List Wanted) (d : Deed) → AreMoves to wanted → (x : Wanted) → IsIn x wanted → IsOf x.object x.aim file d → IsMoving file to d
one-moving file to wanted d all x m one =
    let is = all x m in
    inr (x.object, is.0, is.1, subst (λ (a : Aim). IsOf x.object a file d) is.2 one)

pub only-moving : (file to : ℕ) (wanted : List Wanted) (events : List Event) → AreMoves to wanted → AreOfRun wanted file events → AreMoving file to events
only-moving file to wanted [] all h = tt
only-moving file to wanted (e ∷ events) all h = (
  elim h.0 as (λ _. IsMoving file to e.deed) [
    | inl ending ↦ inl ending
    | inr one ↦ one-moving file to wanted e.deed all one.0 one.1 one.2
  ],
  only-moving file to wanted events all h.1,
)

one-off : (to : ℕ) (wanted : List Wanted) (w : History) (actor : ℕ) (e : Event) → AreMoves to wanted → IsEntered w actor wanted e → IsEnteredOff to w actor e
one-off to wanted w actor e all h =
    let is = all h.0 h.2 in
    (h.0.object, is.0, is.1, h.1, subst (λ (a : Aim). IsEntryFor h.0.object a h.1) is.2 h.3, h.4)

each-off : (to : ℕ) (wanted : List Wanted) (w : History) (actor : ℕ) (events : List Event) → AreMoves to wanted → AllByRecursion (IsEntered w actor wanted) events
    → AllByRecursion (IsEnteredOff to w actor) events
each-off to wanted w actor [] all h = tt
each-off to wanted w actor (e ∷ events) all h = (one-off to wanted w actor e all h.0, each-off to wanted w actor events all h.1)

pub entries-off : (to : ℕ) (wanted : List Wanted) (events : List Event) → AreMoves to wanted → EntersOnly wanted events → EntersOff to events
entries-off to wanted events all h w actor a b none f = each-off to wanted w actor (made events) all (h w actor a b none f)

pub asking-moving : (file to : ℕ) (events : List Event) → AreAsking events → AreMoving file to events
asking-moving file to [] h = tt
asking-moving file to (e ∷ events) h = (inl (inl h.0), asking-moving file to events h.1)

-- ---- tickets

-- what is wanted is the move of one of them
of-line : (to : ℕ) (lines : List CopyLine) (x : Wanted) → IsIn x (map (moving to) lines) → (l : CopyLine) × IsIn l lines × (moving to l ≡ x)
of-line to [] x h = absurd h
of-line to (l ∷ lines) x (inl h) = (l, inl refl, h)
of-line to (l ∷ lines) x (inr h) = (let r = of-line to lines x h in (r.0, inr r.1, r.2))

-- the pool wasn't there to which a copy that was listed was to go
abbrev pub IsUnopened : (file to : ℕ) → List Event → Refusal → Type 0
IsUnopened file to events e = ((number_of e == 10) ≡ true) × ((object : ℕ) × (from : ℕ) × (placed : ℕ) × GotNoTicket object from placed (into to from) false file events e)

pub caused : (file to : ℕ) (lines : List CopyLine) (xs ys : List Event) (e : Refusal) → AreAsking xs → AreListed lines xs → IsCausedByOne (map (moving to) lines) file (xs ++ ys) e
    → IsStopped (xs ++ ys) e ⊎ IsUnopened file to (xs ++ ys) e
caused file to lines xs ys e asks listed h = elim h.2 as (λ _. IsStopped (xs ++ ys) e ⊎ IsUnopened file to (xs ++ ys) e) [
  | inl memory ↦ inl (inl memory)
  | inr more ↦ elim more as (λ _. IsStopped (xs ++ ys) e ⊎ IsUnopened file to (xs ++ ys) e) [
    | inl met ↦ inl (inr met)
    | inr gone ↦ (let k = of-line to lines h.0 h.1 in
        let l : CopyLine = k.0 in
        let met : MetBy (λ d. d ≡ OpenCopy l.object (aim.Move l.pool l.placed (into to l.pool) false) file (Err e)) (xs ++ ys) =
        subst (λ (x : Wanted). MetBy (λ d. d ≡ OpenCopy x.object x.aim file (Err e)) (xs ++ ys)) (sym k.2) gone.1 in
        inr (gone.0, (l.object, l.pool, l.placed, (xs, ys, refl, listed l k.1, met-later l.object (aim.Move l.pool l.placed (into to l.pool) false) file (Err e) xs ys asks met))))
  ]
]
