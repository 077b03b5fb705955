-- What a backup came to.
use Rattle.std.proofs.Common.{◌≡◌, ◌⊎◌, inl, inr, ℕ, ◌+◌, ◌-◌, ◌^◌, ◌≤◌, ◌==◌, ◌&&◌, Bool, true, false, List, [], ◌∷◌, ◌++◌, map, Option, Some, None, Result, Ok, Err, IfOk, refl, sym, ap, ap₂, subst, ◌∙◌, arith}
use Rattle.std.specs.List.{AllByRecursion}
use Rattle.std.specs.Option.{option_map_or}
use Rattle.kinds.specs.Refusals.{number_of}
use Rattle.kinds.specs.declared.refusal.Holder.TheVariants as holder
use Rattle.kinds.specs.declared.refusal.Refusal.{Refusal}
use Rattle.kinds.specs.declared.refusal.Refusal.TheVariants as refused
use Rattle.inventory_answers.specs.Stores.{pool_lines}
use Rattle.inventory_answers.specs.declared.query.Query.TheVariants as query
use Rattle.inventory_rows.specs.version_groups.Copies.{has_copy}
use Rattle.inventory_rows.specs.version_groups.declared.versions.Version.{Version}
use Rattle.inventory_rows.specs.Search.{version}
use Rattle.inventory_rows.specs.State.{Inv}
use Rattle.inventory_work.specs.Copies.{is_missing, missing_in}
use Rattle.inventory_work.specs.declared.lines.MissingLine.{MissingLine}
use Rattle.space.specs.declared.aim.Aim.{Aim}
use Rattle.space.specs.declared.aim.Aim.TheVariants as aim
use Rattle.steps.proofs.Joining.{GoesOn, call_then}
use Rattle.steps.specs.Calls.{Call, risen}
use Rattle.steps.specs.Events.{Deed, Event, event}
use Rattle.steps.specs.Events.Deed.{Ask, OpenCopy}
use Rattle.steps.specs.Receipts.{made}
use Rattle.machine.specs.Fits.{Fits, History, Own, Step, inv}
use Rattle.machine.proofs.Runs.{fits-first}
use Rattle.copy_attempts.proofs.Facts.{all-append}
use Rattle.copy_attempts.specs.Outcomes.{IsOf, MetBy}
use Rattle.copy_runs.specs.declared.wanted.Moved.{Moved}
use Rattle.copy_runs.specs.declared.wanted.Wanted.{Wanted}
use Rattle.copy_runs.specs.Ends.{AreAsking, IsAsking, IsEnding, IsStopped, IsUnheld, last_of}
use Rattle.copy_runs.specs.Processes.{AreMoving, Completes, Ended, IsDoneAllAlong, Process}
use Rattle.copy_runs.specs.Runs.{EntersOnly, HasFailed, IsCausedByOne, IsEntered, IsEntryFor, is_among}
use Rattle.copy_runs.specs.Wanting.{IsIn, is_open_for, is_wanted}
use Rattle.copy_runs.proofs.Entries.{enters-append, unmade-enters}
use Rattle.copy_runs.proofs.Risen.{call-rises}
use Rattle.copy_runs.proofs.Told.{reaches}
use Rattle.copy_runs.proofs.Unheld.{asking-unheld}
use Rattle.copy_runs.proofs.Whole.{IsBegun, Told, asks-begun, asks-unmade, process-told, reached-last}
use Rattle.copy_pools.specs.Backups.{Answered, Backup, Begins, HasFailedIn, IsBackedUp, IsBackup, IsEnteredIn, IsForListed, IsFurther, IsNotThere, IsRefused, KindsAre, Lacks, Listed, TellsOtherwise, are_kinds, further, kind_of, lies_in, pool_kind}
use Rattle.copy_pools.proofs.Missing.{asked-missing, asked-pools, kind-is, missing-listed}

-- ---- numbers

-- no step is made behind the last
last-later : (w : History) (actor : ℕ) (a b : Own) (e : Event) (events : List Event) → Fits w actor a (e ∷ events) b → e.n ≤ last_of (e ∷ events)
last-later w actor a b e [] f = omega arith
last-later w actor a b e (x ∷ events) f =
    let r = fits-first w actor a b e (x ∷ events) f in
    let i : e.n ≤ r.0.reached = reaches w actor a r.0 e r.1 in
    let j : r.0.reached ≤ last_of (x ∷ events) = reached-last w actor r.0 b x events r.2 in
    omega arith

first-is : (x : Event) (n : ℕ) (d : Deed) → x ∷ [] ≡ event n d ∷ [] → x ≡ event n d
first-is x n d h = cc

-- ---- what was wanted

further-in : (copy : ℕ) (lines : List MissingLine) (l : MissingLine) → IsIn l lines → IsIn (further copy l) (map (further copy) lines)
further-in copy (k ∷ lines) l (inl h) = inl (ap (further copy) h)
further-in copy (k ∷ lines) l (inr h) = inr (further-in copy lines l h)
further-in copy [] l h = absurd h

all-further : (copy : ℕ) (lines : List MissingLine) (x : Wanted) → IsIn x (map (further copy) lines) → IsFurther copy x
all-further copy [] x h = absurd h
all-further copy (l ∷ lines) x (inl h) = ap (λ (y : Wanted). y.aim) (sym h)
all-further copy (l ∷ lines) x (inr h) = all-further copy lines x h

abbrev AreFurther : (copy : ℕ) → List Wanted → Type 0
AreFurther copy wanted = (x : Wanted) → IsIn x wanted → IsFurther copy x

-- ---- the row

-- an object that lies in the one pool and is wanted in the other
record Lacking (primary copy object : ℕ) (v : Inv) : Type 0 where
  x : Version
  there : version object v ≡ Some x
  missing : is_missing primary copy x ≡ true

lacking : (primary copy object : ℕ) (v : Inv) → lies_in primary object v ≡ true → is_wanted (aim.Copy copy) object v ≡ true → Lacking primary copy object v
lacking primary copy object v h g = go (version object v) refl h g where
  go : (o : Option Version) → version object v ≡ o → option_map_or (λ (x : Version). has_copy primary x.copies) o false ≡ true → option_map_or (is_open_for (aim.Copy copy)) o false ≡ true
      → Lacking primary copy object v
  go None e s t = let never : false ≡ true = s in absurd cc
  go (Some x) e s t = record { x = x; there = e; missing = ap₂ (λ a b. a && b) s t }

row-of : (primary copy : ℕ) (x y : Event) (rest : List Event) (lines : List MissingLine) (failed : List ℕ) → Listed primary copy (x ∷ []) lines
    → IsDoneAllAlong (map (further copy) lines) failed (x ∷ y ∷ rest)
    → IsBackedUp primary copy failed (x ∷ y ∷ rest)
row-of primary copy x y rest lines failed h done w actor a b none f object lies along =
    let r = fits-first w actor a b x (y ∷ rest) f in
    let high : x.n ≤ last_of (x ∷ y ∷ rest) = last-later w actor a b x (y ∷ rest) f in
    let same : x.n ≤ x.n = omega arith in
    let l : Lacking primary copy object (inv w x.n) = lacking primary copy object (inv w x.n) lies (along x.n same high) in
    let m = missing-listed primary copy object (inv w x.n) l.x l.there l.missing in
    let s : Step w actor a (event h.0 (Ask (query.Missing primary copy) (Ok h.1))) r.0 = subst (λ (e : Event). Step w actor a e r.0) (first-is x h.0 (Ask (query.Missing primary copy)
    (Ok h.1)) h.2) r.1 in
    let at : x.n ≡ h.0 = ap (λ (e : Event). e.n) (first-is x h.0 (Ask (query.Missing primary copy) (Ok h.1)) h.2) in
    let told : lines ≡ missing_in primary copy (inv w h.0) = asked-missing w actor a r.0 h.0 primary copy h.1 lines s h.3 in
    let among : IsIn m.0 lines = subst (λ (ls : List MissingLine). IsIn m.0 ls) (sym (told ∙ ap (λ (n : ℕ). missing_in primary copy (inv w n)) (sym at))) m.2 in
    subst (λ (k : ℕ). is_among k failed ≡ true) m.1
    (done w actor a b none f (further copy m.0) (further-in copy lines m.0 among) tt (λ n low up. ap (λ (k : ℕ). is_wanted (aim.Copy copy) k (inv w n)) m.1 ∙ along n low up))

-- ---- kinds

kinds-of : (primary copy : ℕ) (is : Bool) (x y : Event) (rest : List Event) → Answered primary copy (y ∷ []) is → KindsAre primary copy (x ∷ y ∷ rest) is
kinds-of primary copy is x y rest h w actor a b f =
    let r = fits-first w actor a b x (y ∷ rest) f in
    let s = fits-first w actor r.0 b y rest r.2 in
    let low : x.n ≤ r.0.reached = reaches w actor a r.0 x r.1 in
    let since : r.0.reached ≤ y.n = s.1.since in
    let high : y.n ≤ last_of (y ∷ rest) = last-later w actor r.0 b y rest r.2 in
    let same : y ≡ event h.1.0 (Ask (query.Pools None) (Ok h.1.1)) = first-is y h.1.0 (Ask (query.Pools None) (Ok h.1.1)) h.1.2 in
    let step : Step w actor r.0 (event h.1.0 (Ask (query.Pools None) (Ok h.1.1))) s.0 = subst (λ (e : Event). Step w actor r.0 e s.0) same s.1 in
    let at : h.1.0 ≡ y.n = ap (λ (e : Event). e.n) (sym same) in
    let lines : h.0 ≡ pool_lines None (inv w h.1.0).stores = asked-pools w actor r.0 s.0 h.1.0 h.1.1 h.0 step h.1.3 in
    let one : kind_of primary h.0 ≡ pool_kind primary (inv w y.n) = kind-is primary (inv w h.1.0) h.0 lines ∙ ap (λ (n : ℕ). pool_kind primary (inv w n)) at in
    let two : kind_of copy h.0 ≡ pool_kind copy (inv w y.n) = kind-is copy (inv w h.1.0) h.0 lines ∙ ap (λ (n : ℕ). pool_kind copy (inv w n)) at in
    (y.n, omega arith, high, sym (ap₂ are_kinds one two) ∙ h.2)

-- ---- the whole

one-failed : (copy : ℕ) (wanted : List Wanted) (events : List Event) (object : ℕ) → AreFurther copy wanted → HasFailed wanted 0 events object → HasFailedIn copy events object
one-failed copy wanted events object all h = (h.0, all h.0 h.4, (h.0, h.1, h.2, h.3, inl refl, h.5, h.6, h.7))

each-failed : (copy : ℕ) (wanted : List Wanted) (events : List Event) (objects : List ℕ) → AreFurther copy wanted → AllByRecursion (HasFailed wanted 0 events) objects
    → AllByRecursion (HasFailedIn copy events) objects
each-failed copy wanted events [] all h = tt
each-failed copy wanted events (o ∷ objects) all h = (one-failed copy wanted events o all h.0, each-failed copy wanted events objects all h.1)

only-backup : (copy : ℕ) (wanted : List Wanted) (events : List Event) → AreFurther copy wanted → AreMoving wanted 0 events → AllByRecursion (λ e. IsBackup copy e.deed) events
only-backup copy wanted [] all h = tt
only-backup copy wanted (e ∷ events) all h = (
  elim h.0 as (λ _. IsBackup copy e.deed) [
    | inl ending ↦ inl ending
    | inr one ↦ inr (one.0.object, subst (λ (to : Aim). IsOf one.0.object to 0 e.deed) (all one.0 one.1) one.2)
  ],
  only-backup copy wanted events all h.1,
)

one-in : (copy : ℕ) (wanted : List Wanted) (w : History) (actor : ℕ) (e : Event) → AreFurther copy wanted → IsEntered w actor wanted e → IsEnteredIn copy w actor e
one-in copy wanted w actor e all h = (h.0.object, h.1, subst (λ (to : Aim). IsEntryFor h.0.object to h.1) (all h.0 h.2) h.3, h.4)

each-in : (copy : ℕ) (wanted : List Wanted) (w : History) (actor : ℕ) (events : List Event) → AreFurther copy wanted → AllByRecursion (IsEntered w actor wanted) events
    → AllByRecursion (IsEnteredIn copy w actor) events
each-in copy wanted w actor [] all h = tt
each-in copy wanted w actor (e ∷ events) all h = (one-in copy wanted w actor e all h.0, each-in copy wanted w actor events all h.1)

abbrev EntersIn : (copy : ℕ) → List Event → Type 0
EntersIn copy events = (w : History) (actor : ℕ) (a b : Own) → a.tickets ≡ [] → Fits w actor a events b → AllByRecursion (IsEnteredIn copy w actor) (made events)

entries-in : (copy : ℕ) (wanted : List Wanted) (events : List Event) → AreFurther copy wanted → EntersOnly wanted events → EntersIn copy events
entries-in copy wanted events all h w actor a b none f = each-in copy wanted w actor (made events) all (h w actor a b none f)

asks-enter : (wanted : List Wanted) (events : List Event) → AreAsking events → EntersOnly wanted events
asks-enter wanted events asks = unmade-enters wanted events (asks-unmade events asks)

asking-backup : (copy : ℕ) (events : List Event) → AreAsking events → AllByRecursion (λ e. IsBackup copy e.deed) events
asking-backup copy [] h = tt
asking-backup copy (e ∷ events) h = (inl (inl h.0), asking-backup copy events h.1)

-- ---- tickets for listed objects

listed-lacks : (primary copy object : ℕ) (x : Event) (lines : List MissingLine) (line : MissingLine) → Listed primary copy (x ∷ []) lines → IsIn line lines → line.object ≡ object → Lacks primary copy object x.deed
listed-lacks primary copy object x lines line (n, answer, is, told) within same =
    (answer, lines, ap (λ (e : Event). e.deed) (first-is x n (Ask (query.Missing primary copy) (Ok answer)) is), told, line, within, same)

of-line : (copy : ℕ) (lines : List MissingLine) (x : Wanted) → IsIn x (map (further copy) lines) → (line : MissingLine) × IsIn line lines × (line.object ≡ x.object)
of-line copy [] x h = absurd h
of-line copy (l ∷ lines) x (inl h) = (l, inl refl, ap (λ (y : Wanted). y.object) h)
of-line copy (l ∷ lines) x (inr h) = (let r = of-line copy lines x h in (r.0, inr r.1, r.2))

-- of an attempt for one of these
try-listed : (primary copy object : ℕ) (to : Aim) (all : List Event) (d : Deed) → MetBy (Lacks primary copy object) all → IsOf object to 0 d → IsForListed primary copy all d
try-listed primary copy object to all (OpenCopy number a avoid answer) met (same, is, none) = subst (λ (n : ℕ). MetBy (Lacks primary copy n) all) (sym same) met
try-listed primary copy object to all d met h = tt

asking-listed : (primary copy : ℕ) (all : List Event) (d : Deed) → IsAsking d → IsForListed primary copy all d
asking-listed primary copy all d (q, answer, is) = subst (λ (k : Deed). IsForListed primary copy all k) (sym is) tt

ending-listed : (primary copy : ℕ) (all : List Event) (d : Deed) → IsEnding d → IsForListed primary copy all d
ending-listed primary copy all d (inl h) = asking-listed primary copy all d h
ending-listed primary copy all d (inr (answer, is)) = subst (λ (k : Deed). IsForListed primary copy all k) (sym is) tt

asks-listed : (primary copy : ℕ) (all events : List Event) → AreAsking events → AllByRecursion (λ e. IsForListed primary copy all e.deed) events
asks-listed primary copy all [] h = tt
asks-listed primary copy all (e ∷ events) h = (asking-listed primary copy all e.deed h.0, asks-listed primary copy all events h.1)

moves-listed : (primary copy : ℕ) (x : Event) (lines : List MissingLine) (rest events : List Event) → Listed primary copy (x ∷ []) lines → AreMoving (map (further copy) lines) 0 events
    → AllByRecursion (λ e. IsForListed primary copy (x ∷ rest) e.deed) events
moves-listed primary copy x lines rest [] l h = tt
moves-listed primary copy x lines rest (e ∷ events) l h = (
  elim h.0 as (λ _. IsForListed primary copy (x ∷ rest) e.deed) [
    | inl ending ↦ ending-listed primary copy (x ∷ rest) e.deed ending
    | inr one ↦ (let line = of-line copy lines one.0 one.1 in
        try-listed primary copy one.0.object one.0.aim (x ∷ rest) e.deed (inl (listed-lacks primary copy one.0.object x lines line.0 l line.1 line.2)) one.2)
  ],
  moves-listed primary copy x lines rest events l h.1,
)

caused : (primary copy : ℕ) (wanted : List Wanted) (events : List Event) (e : Refusal) → AreFurther copy wanted → IsStopped events e ⊎ IsCausedByOne wanted 0 events e
    → IsStopped events e ⊎ IsNotThere primary copy events e
caused primary copy wanted events e all (inl h) = inl h
caused primary copy wanted events e all (inr h) = elim h.2 as (λ _. IsStopped events e ⊎ IsNotThere primary copy events e) [
  | inl memory ↦ inl (inl memory)
  | inr more ↦ elim more as (λ _. IsStopped events e ⊎ IsNotThere primary copy events e) [
    | inl met ↦ inl (inr met)
    | inr gone ↦ inr (gone.0, inr (inr (h.0.object, subst (λ (to : Aim). MetBy (λ d. d ≡ OpenCopy h.0.object to 0 (Err e)) events) (all h.0 h.1) gone.1)))
  ]
]

came-of : (primary copy : ℕ) (x y : Event) (zs : List Event) (lines : List MissingLine) (result : Result Moved Refusal) → Listed primary copy (x ∷ []) lines → Answered primary copy (y ∷ []) true
    → AreAsking (x ∷ y ∷ []) → Completes (map (further copy) lines) 0 zs result → Told (map (further copy) lines) 0 (x ∷ y ∷ []) zs result → Backup primary copy ((x ∷ y ∷ []) ++ zs) result
came-of primary copy x y zs lines (Ok m) h k asks g t =
    let p : Process (map (further copy) lines) 0 ((x ∷ y ∷ []) ++ zs) m = t.answers in
    let all : AreFurther copy (map (further copy) lines) = all-further copy lines in
    record {
      came = record {
        failed = p.failed;
        wanted = map (further copy) lines;
        order = (x ∷ y ∷ [], zs, refl, (lines, refl, (x ∷ [], y ∷ [], refl, h, k)), g);
        moved = p.moved;
        number = p.number;
        risen = p.risen;
        each = each-failed copy (map (further copy) lines) ((x ∷ y ∷ []) ++ zs) p.failed all p.each;
        row = row-of primary copy x y zs lines p.failed h p.done;
        kinds = kinds-of primary copy true x y zs k;
        settled = p.settled;
        none_left = p.none_left;
      };
      only = all-append (λ e. IsBackup copy e.deed) (x ∷ y ∷ []) zs (asking-backup copy (x ∷ y ∷ []) asks) (only-backup copy (map (further copy) lines) zs all t.only);
      listed = all-append (λ e. IsForListed primary copy ((x ∷ y ∷ []) ++ zs) e.deed) (x ∷ y ∷ []) zs (asks-listed primary copy ((x ∷ y ∷ []) ++ zs) (x ∷ y ∷ []) asks)
          (moves-listed primary copy x lines (y ∷ zs) zs h t.only);
      entries = entries-in copy (map (further copy) lines) ((x ∷ y ∷ []) ++ zs) all
          (enters-append (map (further copy) lines) (x ∷ y ∷ []) zs (asks-enter (map (further copy) lines) (x ∷ y ∷ []) asks) (asks-begun (x ∷ y ∷ []) asks).none_left t.entries);
    }
came-of primary copy x y zs lines (Err e) h k asks g t =
    let p : Ended (map (further copy) lines) 0 ((x ∷ y ∷ []) ++ zs) e = t.answers in
    let all : AreFurther copy (map (further copy) lines) = all-further copy lines in
    record {
      came = record { cause = caused primary copy (map (further copy) lines) ((x ∷ y ∷ []) ++ zs) e all p.cause; unheld = p.unheld; settled = p.settled; none_left = p.none_left };
      only = all-append (λ e. IsBackup copy e.deed) (x ∷ y ∷ []) zs (asking-backup copy (x ∷ y ∷ []) asks) (only-backup copy (map (further copy) lines) zs all t.only);
      listed = all-append (λ e. IsForListed primary copy ((x ∷ y ∷ []) ++ zs) e.deed) (x ∷ y ∷ []) zs (asks-listed primary copy ((x ∷ y ∷ []) ++ zs) (x ∷ y ∷ []) asks)
          (moves-listed primary copy x lines (y ∷ zs) zs h t.only);
      entries = entries-in copy (map (further copy) lines) ((x ∷ y ∷ []) ++ zs) all
          (enters-append (map (further copy) lines) (x ∷ y ∷ []) zs (asks-enter (map (further copy) lines) (x ∷ y ∷ []) asks) (asks-begun (x ∷ y ∷ []) asks).none_left t.entries);
    }

-- what began with two questions and was completed
began : (primary copy : ℕ) (wanted : List Wanted) (xs ys : List Event) (result : Result Moved Refusal) → Begins primary copy xs (Ok wanted) → Completes wanted 0 ys result
    → Backup primary copy (xs ++ ys) result
began primary copy wanted xs ys result h g =
    let a = h.2.3 in
    let b = h.2.4 in
    let x : Event = event a.0 (Ask (query.Missing primary copy) (Ok a.1)) in
    let y : Event = event b.1.0 (Ask (query.Pools None) (Ok b.1.1)) in
    let those : xs ≡ x ∷ y ∷ [] = h.2.2 ∙ ap₂ (λ (p q : List Event). p ++ q) a.2 b.1.2 in
    let asks : AreAsking (x ∷ y ∷ []) = ((query.Missing primary copy, Ok a.1, refl), ((query.Pools None, Ok b.1.1, refl), tt)) in
    let done : Completes (map (further copy) h.0) 0 ys result = subst (λ (ws : List Wanted). Completes ws 0 ys result) h.1 g in
    subst (λ (es : List Event). Backup primary copy (es ++ ys) result) (sym those)
    (came-of primary copy x y ys h.0 result (a.0, a.1, refl, a.3) (b.0, (b.1.0, b.1.1, refl, b.1.3), b.2) asks done (process-told (map (further copy) h.0) 0 x (y ∷ []) ys result (asks-begun (x ∷ y ∷ []) asks) done))

not-there : (primary copy : ℕ) (events : List Event) (e : Refusal) → IsRefused primary copy events e → IsStopped events e ⊎ IsNotThere primary copy events e
not-there primary copy events e (inl (inl h)) = inl h
not-there primary copy events e (inl (inr h)) = inr (h.0, inl h.1)
not-there primary copy events e (inr h) =
    let a = h.2.3 in
    let b = h.2.4 in
    let x : Event = event a.0 (Ask (query.Missing primary copy) (Ok a.1)) in
    let y : Event = event b.1.0 (Ask (query.Pools None) (Ok b.1.1)) in
    let those : events ≡ x ∷ y ∷ [] = h.2.2 ∙ ap₂ (λ (p q : List Event). p ++ q) a.2 b.1.2 in
    inr (
      ap (λ k. number_of k == 10) h.0,
      inr (inl (
        subst (λ (es : List Event). KindsAre primary copy es false) (sym those) (kinds-of primary copy false x y [] (b.0, (b.1.0, b.1.1, refl, b.1.3), b.2)),
        subst (λ (es : List Event). MetBy (TellsOtherwise primary copy) es) (sym those) (inr (inl (b.1.1, b.0, refl, b.1.3, b.2))),
      )),
    )

-- a refusal with NotFound holds nothing
ten-unheld : (events : List Event) (e : Refusal) → (number_of e == 10) ≡ true → IsUnheld events e
ten-unheld events e ten number busy = absurd (let odd : false ≡ true = sym (ap (λ (x : Refusal). number_of x == 10) busy) ∙ ten in cc)

begin-unheld : (primary copy : ℕ) (events : List Event) (e : Refusal) → IsRefused primary copy events e → AreAsking events → IsUnheld events e
begin-unheld primary copy events e (inl (inl stopped)) asks = asking-unheld events e asks stopped
begin-unheld primary copy events e (inl (inr h)) asks = ten-unheld events e h.0
begin-unheld primary copy events e (inr h) asks = ten-unheld events e (ap (λ k. number_of k == 10) h.0)

refused-backup : (primary copy : ℕ) (events : List Event) (e : Refusal) → Begins primary copy events (Err e) → Backup primary copy events (Err e)
refused-backup primary copy events e h =
    let b : IsBegun events = asks-begun events h.1 in
    record {
      came = record { cause = not-there primary copy events e h.0; unheld = begin-unheld primary copy events e h.0 h.1; settled = λ _. b.settled; none_left = λ _. b.none_left };
      only = asking-backup copy events h.1;
      listed = asks-listed primary copy events events h.1;
      entries = entries-in copy [] events (λ x i. absurd i) (asks-enter [] events h.1);
    }

pub backs-up : {S : Type 0} (did : S → List Event → S → Type 0) → GoesOn did → (p q r : S) (primary copy : ℕ) (wanted those : List Wanted) (result : Result Moved Refusal) → those ≡ wanted
    → Call did p q (λ events. Begins primary copy events (Ok wanted)) → Call did q r (λ events. Completes those 0 events result) → Call did p r (λ events. Backup primary copy events result)
backs-up did goes p q r primary copy wanted those result same a b =
    call_then did goes (λ events. Begins primary copy events (Ok wanted)) (λ events. Completes wanted 0 events result) (λ events. Backup primary copy events result) p q r a
    (subst (λ (ws : List Wanted). Call did q r (λ events. Completes ws 0 events result)) same b)
    (λ xs ys f g. began primary copy wanted xs ys result f g)

pub backup-refused : {S : Type 0} (did : S → List Event → S → Type 0) (p q : S) (primary copy : ℕ) (e : Refusal) → Call did p q (λ events. Begins primary copy events (Err e))
    → Call did p q (λ events. Backup primary copy events (Err e))
backup-refused did p q primary copy e a = (a.0, a.1, refused-backup primary copy a.0 e a.2)

-- its failed objects are no more than the count of refused steps rose by, unless that is at its last value
pub backup-rises : {S : Type 0} (did : S → List Event → S → Type 0) (refused_of : S → ℕ) → ((p q : S) (xs : List Event) → did p xs q → refused_of q ≡ risen (refused_of p) xs)
    → (p q : S) (primary copy : ℕ) (result : Result Moved Refusal)
    → Call did p q (λ events. Backup primary copy events result) → IfOk result (λ m. (refused_of p + m.failed ≤ refused_of q) ⊎ (2 ^ 64 - 1 ≤ refused_of q))
backup-rises did refused_of counts p q primary copy (Ok m) a = call-rises did refused_of counts (λ events. Backup primary copy events (Ok m)) p q m.failed a (λ events h. h.came.risen)
backup-rises did refused_of counts p q primary copy (Err e) a = tt
