-- What the restoring of a volume came to.
use Rattle.std.proofs.Common.{◌≡◌, ◌⊎◌, inl, inr, ℕ, ◌+◌, ◌-◌, ◌^◌, ◌≤◌, Bool, true, false, cond, List, [], ◌∷◌, ◌++◌, Option, Some, None, Result, Ok, Err, IfOk, refl, sym, ap, ap₂, subst, ◌∙◌, arith, append_assoc, if◌then◌else◌}
use Rattle.std.specs.List.{AllByRecursion}
use Rattle.kinds.specs.Answers.{Answers}
use Rattle.kinds.specs.declared.refusal.Refusal.{Refusal}
use Rattle.kinds.specs.declared.refusal.Refusal.TheVariants as refused
use Rattle.entries.specs.declared.change.Change.{Change}
use Rattle.inventory_answers.specs.declared.lines.VolumeLine.{VolumeLine}
use Rattle.inventory_answers.specs.declared.query.Query.TheVariants as query
use Rattle.steps.proofs.Joining.{GoesOn, call_then}
use Rattle.steps.specs.declared.asked.Asked.TheVariants as asked
use Rattle.steps.specs.Calls.{Call, risen}
use Rattle.steps.specs.Events.{Deed, Event, event, refusal}
use Rattle.steps.specs.Events.Deed.{OpenNew, OpenCopy, WritePiece, CopyPiece, Seal, Commit, DropTicket, ReadPiece, Ask, Image, Reuse, Force}
use Rattle.steps.specs.Receipts.{is_made, made}
use Rattle.machine.specs.Fits.{Fits, History, Own, Step}
use Rattle.machine.specs.State.{without}
use Rattle.machine.proofs.Runs.{fits-cut, fits-first}
use Rattle.copy_attempts.proofs.Facts.{all-append, made-append, met-before, met-behind}
use Rattle.steps.proofs.Spending.{settled-append}
use Rattle.copy_attempts.specs.Outcomes.{Met, MetBy, may_leave}
use Rattle.steps.specs.Spent.{AreSettled, IsSettled}
use Rattle.copy_runs.specs.declared.wanted.Moved.{Moved}
use Rattle.copy_runs.specs.declared.wanted.Wanted.{Wanted}
use Rattle.copy_runs.specs.Ends.{AreAsking, IsAsking, IsStopped, IsUnlisted}
use Rattle.copy_runs.specs.Processes.{AreMoving, Completes, Ended, IsDoneAllAlong, Process}
use Rattle.copy_runs.specs.Runs.{EntersOnly, LeavesNone, copies_by, copies_in}
use Rattle.copy_runs.specs.Wanting.{IsIn}
use Rattle.copy_runs.proofs.Carrying.{force-leaves}
use Rattle.copy_runs.proofs.Ending.{stopped-behind}
use Rattle.copy_runs.proofs.Outcomes.{copies-append, then-none}
use Rattle.copy_runs.proofs.Risen.{call-rises}
use Rattle.copy_runs.proofs.Told.{fits-empty}
use Rattle.copy_runs.proofs.Unheld.{unheld-behind}
use Rattle.copy_runs.proofs.Whole.{IsBegun, Told, asks-begun, asks-unmade, process-told}
use Rattle.sessions.specs.Changing.{Changing, IsOf}
use Rattle.pool_restores.specs.Listing.{AskedVolumes, AsksVolumes, Collected, Collects, IsUncollected, destroying_of}
use Rattle.pool_restores.specs.Restoring.{IsAimless, IsEnteredSo, IsRestore}
use Rattle.pool_restores.specs.Volumes.{BeginsVolume, BegunVolume, Destroyed, Destroys, EndsBehind, IsEnteredOr, IsInPlace, IsNoVolume, IsVolumeBarred, IsVolumeRestore, IsVolumeRestored, Unbegun, VolumeRestore, VolumeStopped, is_unmade, unmade}
use Rattle.pool_restores.proofs.Beginning.{collected-asks, uncollected-behind, volumes-ask}
use Rattle.pool_restores.proofs.Restored.{AreFound, AreRestoring, asking-restore, collected-found, collected-restoring, completes-caused, completes-some, counted-of, entered-so, found-behind, lost-row, only-restore, unlisted-unheld}

-- ---- a change

of-change : (c : Change) (d : Deed) → IsOf c d → ((answer : Result ℕ Refusal) × (d ≡ Commit (asked.Plain c) [] answer)) ⊎ ((answer : Result ℕ Refusal) × (d ≡ Force answer))
of-change c (OpenNew pool size prefer answer) h = absurd h
of-change c (OpenCopy object aim avoid answer) h = absurd h
of-change c (WritePiece ticket bytes answer) h = absurd h
of-change c (CopyPiece ticket answer) h = absurd h
of-change c (Seal ticket answer) h = absurd h
of-change c (Commit it tickets answer) h = inl (answer, ap₂ (λ i ts. Commit i ts answer) h.0 h.1)
of-change c (DropTicket ticket answer) h = absurd h
of-change c (ReadPiece object kept from offset wanted answer) h = absurd h
of-change c (Ask q answer) h = absurd h
of-change c (Image kind answer) h = absurd h
of-change c (Reuse file answer) h = absurd h
of-change c (Force answer) h = inr (answer, refl)

abbrev AreOfChange : Change → List Event → Type 0
AreOfChange c events = AllByRecursion (λ e. IsOf c e.deed) events

change-uncopied : (c : Change) (events : List Event) → AreOfChange c events → copies_in (made events) ≡ 0
change-uncopied c [] h = refl
change-uncopied c (e ∷ events) h = elim (of-change c e.deed h.0) as (λ _. copies_in (cond (is_made e.deed) (e ∷ made events) (made events)) ≡ 0) [
  | inl commit ↦ elim (is_made e.deed) as (λ b. copies_in (cond b (e ∷ made events) (made events)) ≡ 0) [
    | true ↦ (let one : copies_by e.deed ≡ 0 = ap copies_by commit.1 in let more : copies_in (made events) ≡ 0 = change-uncopied c events h.1 in omega arith)
    | false ↦ change-uncopied c events h.1
  ]
  | inr force ↦ ap (λ (d : Deed). copies_in (cond (is_made d) (e ∷ made events) (made events))) force.1 ∙ change-uncopied c events h.1
]

change-settled : (c : Change) (events : List Event) → AreOfChange c events → AreSettled events
change-settled c [] h = tt
change-settled c (e ∷ events) h = (
  elim (of-change c e.deed h.0) as (λ _. IsSettled e.deed events) [
    | inl commit ↦ subst (λ (d : Deed). IsSettled d events) (sym commit.1) tt
    | inr force ↦ subst (λ (d : Deed). IsSettled d events) (sym force.1) tt
  ],
  change-settled c events h.1,
)

commit-none : (w : History) (actor : ℕ) (a b : Own) (n : ℕ) (c : Change) (answer : Result ℕ Refusal) → a.tickets ≡ [] → Step w actor a (event n (Commit (asked.Plain c) [] answer)) b → b.tickets ≡ []
commit-none w actor a b n c (Ok number) none s = s.has.tickets ∙ ap (without actor []) none
commit-none w actor a b n c (Err e) none s = elim s.has.tickets as (λ _. b.tickets ≡ []) [
  | inl same ↦ same ∙ none
  | inr doubt ↦ doubt.1 ∙ ap (without actor []) none
]

change-step : (w : History) (actor : ℕ) (a b : Own) (c : Change) (e : Event) → IsOf c e.deed → a.tickets ≡ [] → Step w actor a e b → b.tickets ≡ []
change-step w actor a b c e h none s = elim (of-change c e.deed h) as (λ _. b.tickets ≡ []) [
  | inl commit ↦ commit-none w actor a b e.n c commit.0 none (subst (λ (d : Deed). Step w actor a (event e.n d) b) commit.1 s)
  | inr force ↦ force-leaves w actor a b e.n force.0 (subst (λ (d : Deed). Step w actor a (event e.n d) b) force.1 s) ∙ none
]

change-none : (c : Change) (events : List Event) → AreOfChange c events → LeavesNone events
change-none c [] h w actor a b none f = ap (λ (o : Own). o.tickets) (fits-empty w actor a b f) ∙ none
change-none c (e ∷ events) h w actor a b none f =
    let r = fits-first w actor a b e events f in
    change-none c events h.1 w actor r.0 b (change-step w actor a r.0 c e h.0 none r.1) r.2

change-begun : (c : Change) (events : List Event) → AreOfChange c events → IsBegun events
change-begun c events h = record { unmade = change-uncopied c events h; settled = change-settled c events h; none_left = change-none c events h }

begun-both : (xs ys : List Event) → IsBegun xs → IsBegun ys → IsBegun (xs ++ ys)
begun-both xs ys b c = record {
  unmade = ap copies_in (made-append xs ys) ∙ copies-append (made xs) (made ys) ∙ ap₂ (λ (m n : ℕ). m + n) b.unmade c.unmade;
  settled = settled-append xs ys b.settled c.settled;
  none_left = then-none xs ys b.none_left c.none_left;
}

-- ---- steps and transactions

abbrev AreVolume : (file : ℕ) → List Event → Type 0
AreVolume file events = AllByRecursion (λ e. IsVolumeRestore file e.deed) events

restores-volume : (file : ℕ) (events : List Event) → AllByRecursion (λ e. IsRestore e.deed) events → AreVolume file events
restores-volume file [] h = tt
restores-volume file (e ∷ events) h = (inl h.0, restores-volume file events h.1)

asks-volume : (file : ℕ) (events : List Event) → AreAsking events → AreVolume file events
asks-volume file events h = restores-volume file events (asking-restore events h)

change-volume : (file : ℕ) (lines : List VolumeLine) (c : Change) (events : List Event) → destroying_of file lines ≡ Ok c → AreOfChange c events → AreVolume file events
change-volume file lines c [] is h = tt
change-volume file lines c (e ∷ events) is h = (
  elim (of-change c e.deed h.0) as (λ _. IsVolumeRestore file e.deed) [
    | inl commit ↦ inr (lines, c, commit.0, is, commit.1)
    | inr force ↦ inl (inl (inr (force.0, force.1)))
  ],
  change-volume file lines c events is h.1,
)

abbrev EntersOr : (file : ℕ) → List Event → Type 0
EntersOr file events = (w : History) (actor : ℕ) (a b : Own) → a.tickets ≡ [] → Fits w actor a events b → AllByRecursion (IsEnteredOr file w actor) (made events)

asks-enter : (file : ℕ) (events : List Event) → AreAsking events → EntersOr file events
asks-enter file events h w actor a b none f = subst (λ (es : List Event). AllByRecursion (IsEnteredOr file w actor) es) (sym (asks-unmade events h)) tt

change-enter : (file : ℕ) (lines : List VolumeLine) (c : Change) (w : History) (actor : ℕ) (events : List Event) → destroying_of file lines ≡ Ok c → AreOfChange c events → AllByRecursion (IsEnteredOr file w actor) (made events)
change-enter file lines c w actor [] is h = tt
change-enter file lines c w actor (e ∷ events) is h = elim (of-change c e.deed h.0) as (λ _. AllByRecursion (IsEnteredOr file w actor) (cond (is_made e.deed) (e ∷ made events) (made events))) [
  | inl commit ↦ elim (is_made e.deed) as (λ b. AllByRecursion (IsEnteredOr file w actor) (cond b (e ∷ made events) (made events))) [
    | true ↦ (inr (lines, c, commit.0, is, commit.1), change-enter file lines c w actor events is h.1)
    | false ↦ change-enter file lines c w actor events is h.1
  ]
  | inr force ↦ subst (λ (d : Deed). AllByRecursion (IsEnteredOr file w actor) (cond (is_made d) (e ∷ made events) (made events))) (sym force.1) (change-enter file lines c w actor events is h.1)
]

moves-enter : (file : ℕ) (w : History) (actor : ℕ) (events : List Event) → AllByRecursion (IsEnteredSo w actor) events → AllByRecursion (IsEnteredOr file w actor) events
moves-enter file w actor [] h = tt
moves-enter file w actor (e ∷ events) h = (inl h.0, moves-enter file w actor events h.1)

enters-both : (file : ℕ) (xs ys : List Event) → EntersOr file xs → LeavesNone xs → EntersOr file ys → EntersOr file (xs ++ ys)
enters-both file xs ys h none_left g w actor a b none f =
    let r = fits-cut w actor a b xs ys f in
    subst (λ (es : List Event). AllByRecursion (IsEnteredOr file w actor) es) (sym (made-append xs ys))
    (all-append (IsEnteredOr file w actor) (made xs) (made ys) (h w actor a r.0 none r.1) (g w actor r.0 b (none_left w actor a r.0 none r.1) r.2))

-- what comes before the copies are made
record IsFirst (file : ℕ) (events : List Event) : Type 0 where
  begun : IsBegun events
  only : AreVolume file events
  entries : EntersOr file events

first-asks : (file : ℕ) (events : List Event) → AreAsking events → IsFirst file events
first-asks file events h = record { begun = asks-begun events h; only = asks-volume file events h; entries = asks-enter file events h }

first-change : (file : ℕ) (lines : List VolumeLine) (c : Change) (events : List Event) → destroying_of file lines ≡ Ok c → AreOfChange c events → IsFirst file events
first-change file lines c events is h = record {
  begun = change-begun c events h;
  only = change-volume file lines c events is h;
  entries = λ w actor a b none f. change-enter file lines c w actor events is h;
}

first-both : (file : ℕ) (xs ys : List Event) → IsFirst file xs → IsFirst file ys → IsFirst file (xs ++ ys)
first-both file xs ys f g = record {
  begun = begun-both xs ys f.begun g.begun;
  only = all-append (λ e. IsVolumeRestore file e.deed) xs ys f.only g.only;
  entries = enters-both file xs ys f.entries f.begun.none_left g.entries;
}

unbegun-of : (file : ℕ) (events : List Event) (e : Refusal) → IsFirst file events → IsStopped events e ⊎ IsVolumeBarred file events e → IsInPlace file events e → Unbegun file events e
unbegun-of file events e f cause place = record {
  stopped = record { cause = cause; place = place; settled = λ leave. f.begun.settled; none_left = λ leave. f.begun.none_left };
  only = f.only;
  entries = f.entries;
}

-- ---- the volume's transaction

pub unasked : {S : Type 0} (did : S → List Event → S → Type 0) (p q : S) (file : ℕ) (e : Refusal) → Call did p q (λ events. AsksVolumes events (Err e)) → Call did p q (λ events. Destroys file events (Err e))
unasked did p q file e a = (a.0, a.1, unbegun-of file a.0 e (first-asks file a.0 a.2.1) (inl a.2.0) (inl (inl a.2.0, a.2.1)))

no-volume : (file : ℕ) (lines : List VolumeLine) (e : Refusal) (xs : List Event) → destroying_of file lines ≡ Err e → AskedVolumes xs lines → MetBy (IsNoVolume file e) xs
no-volume file lines e xs is h = subst (λ (es : List Event). MetBy (IsNoVolume file e) es) (sym h.2) (inl (h.1, lines, refl, h.3, is))

pub unfound : {S : Type 0} (did : S → List Event → S → Type 0) (p q : S) (file : ℕ) (lines those : List VolumeLine) (e : Refusal) → those ≡ lines → (e ≡ refused.Memory) ⊎ (destroying_of file those ≡ Err e)
    → Call did p q (λ events. AsksVolumes events (Ok lines)) → Call did p q (λ events. Destroys file events (Err e))
unfound did p q file lines those e same (inl memory) a =
    let asks : AreAsking a.0 = volumes-ask a.0 lines a.2 in
    (a.0, a.1, unbegun-of file a.0 e (first-asks file a.0 asks) (inl (inl memory)) (inl (inl (inl memory), asks)))
unfound did p q file lines those e same (inr is) a =
    let asks : AreAsking a.0 = volumes-ask a.0 lines a.2 in
    let none : MetBy (IsNoVolume file e) a.0 = no-volume file lines e a.0 (ap (destroying_of file) (sym same) ∙ is) a.2 in
    (a.0, a.1, unbegun-of file a.0 e (first-asks file a.0 asks) (inr (inl none)) (inl (inr none, asks)))

unmade-cause : (file : ℕ) (xs us : List Event) (e : Refusal) → (e ≡ refused.Memory) ⊎ Met e us → IsStopped (xs ++ us) (unmade e) ⊎ IsVolumeBarred file (xs ++ us) (unmade e)
unmade-cause file xs us e (inl h) = inl (inl (ap unmade h))
unmade-cause file xs us e (inr h) = elim (is_unmade e) as (λ b. is_unmade e ≡ b
    → IsStopped (xs ++ us) (if b then e else refused.Memory) ⊎ IsVolumeBarred file (xs ++ us) (if b then e else refused.Memory)) [
      | true ↦ λ t. inr (inr (inl (t, met-behind (λ d. refusal d ≡ Some e) xs us h)))
      | false ↦ λ t. inl (inl refl)
    ] refl

changed-cause : (c : Change) (us : List Event) (e : Refusal) → Changing c us (Err e) → (e ≡ refused.Memory) ⊎ Met e us
changed-cause c us e h = elim h.cause as (λ _. (e ≡ refused.Memory) ⊎ Met e us) [ inl memory ↦ inl memory | inr met ↦ inr met.1 ]

unchanged-by : (file : ℕ) (lines : List VolumeLine) (c : Change) (xs us : List Event) (e : Refusal) → destroying_of file lines ≡ Ok c → AskedVolumes xs lines → Changing c us (Err e) → Unbegun file (xs ++ us) (unmade e)
unchanged-by file lines c xs us e is a h =
    unbegun-of file (xs ++ us) (unmade e) (first-both file xs us (first-asks file xs (volumes-ask xs lines a)) (first-change file lines c us is h.only)) (unmade-cause file xs us e (changed-cause c us e h))
    (inr (inl (lines, c, e, is, refl, (xs, us, refl, a, h))))

pub unchanged : {S : Type 0} (did : S → List Event → S → Type 0) → GoesOn did → (p q r : S) (file : ℕ) (lines those : List VolumeLine) (c : Change) (e k : Refusal) → those ≡ lines → destroying_of file those ≡ Ok c → k ≡ unmade e
    → Call did p q (λ events. AsksVolumes events (Ok lines)) → Call did q r (λ events. Changing c events (Err e)) → Call did p r (λ events. Destroys file events (Err k))
unchanged did goes p q r file lines those c e k same is alike a b =
    subst (λ (l : Refusal). Call did p r (λ events. Destroys file events (Err l))) (sym alike)
    (call_then did goes (λ events. AsksVolumes events (Ok lines)) (λ events. Changing c events (Err e)) (λ events. Destroys file events (Err (unmade e))) p q r a b
    (λ xs us f g. unchanged-by file lines c xs us e (ap (destroying_of file) (sym same) ∙ is) f g))

pub destroyed : {S : Type 0} (did : S → List Event → S → Type 0) → GoesOn did → (p q r : S) (file number : ℕ) (lines those : List VolumeLine) (c : Change) → those ≡ lines → destroying_of file those ≡ Ok c
    → Call did p q (λ events. AsksVolumes events (Ok lines)) → Call did q r (λ events. Changing c events (Ok number)) → Call did p r (λ events. Destroys file events (Ok tt))
destroyed did goes p q r file number lines those c same is a b =
    call_then did goes (λ events. AsksVolumes events (Ok lines)) (λ events. Changing c events (Ok number)) (λ events. Destroys file events (Ok tt)) p q r a b
    (λ xs us f g. (c, (lines, number, ap (destroying_of file) (sym same) ∙ is, (xs, us, refl, f, g))))

-- ---- the copies

first-destroyed : (file : ℕ) (c : Change) (xs : List Event) → Destroyed file c xs → IsFirst file xs
first-destroyed file c xs h =
    subst (IsFirst file) (sym h.3.2) (first-both file h.3.0 h.3.1 (first-asks file h.3.0 (volumes-ask h.3.0 h.0 h.3.3)) (first-change file h.0 c h.3.1 h.2 h.3.4.only))

begins-by : (file : ℕ) (c : Change) (xs vs : List Event) (result : Result (List Wanted) Refusal) → Destroyed file c xs → Collects None (file ∷ []) vs result → BeginsVolume file (xs ++ vs) result
begins-by file c xs vs (Ok wanted) h g =
    (c, (h.0, h.1, h.2, (h.3.0, h.3.1 ++ vs, ap (λ (es : List Event). es ++ vs) h.3.2 ∙ append_assoc h.3.0 h.3.1 vs, h.3.3, (h.3.1, vs, refl, h.3.4, g))))
begins-by file c xs vs (Err e) h g =
    unbegun-of file (xs ++ vs) e (first-both file xs vs (first-destroyed file c xs h) (first-asks file vs g.1)) (inr (inr (inr (inl (uncollected-behind (file ∷ []) xs vs e g.0)))))
    (inr (inr (c, (xs, vs, refl, h, record { cause = inr (inl g); unheld = unlisted-unheld g.0.0 vs e g.1 g.0.2; only = asking-restore vs g.1 }))))

pub begins-volume : {S : Type 0} (did : S → List Event → S → Type 0) → GoesOn did → (p q r : S) (file : ℕ) (files : List ℕ) (result : Result (List Wanted) Refusal) → files ≡ file ∷ []
    → Call did p q (λ events. Destroys file events (Ok tt)) → Call did q r (λ events. Collects None files events result) → Call did p r (λ events. BeginsVolume file events result)
begins-volume did goes p q r file files result same a b =
    call_then did goes (λ events. Destroys file events (Ok tt)) (λ events. Collects None (file ∷ []) events result) (λ events. BeginsVolume file events result) p q r a
    (subst (λ (fs : List ℕ). Call did q r (λ events. Collects None fs events result)) same b) (λ xs vs f g. begins-by file f.0 xs vs result f.1 g)

pub not-destroyed : {S : Type 0} (did : S → List Event → S → Type 0) (p q : S) (file : ℕ) (e : Refusal) → Call did p q (λ events. Destroys file events (Err e)) → Call did p q (λ events. BeginsVolume file events (Err e))
not-destroyed did p q file e a = a

-- ---- the whole

volume-row : (file : ℕ) (wanted : List Wanted) (failed : List ℕ) (x y : Event) (us vs ys : List Event) → Collected None (file ∷ []) [] wanted vs → IsDoneAllAlong wanted failed ((x ∷ (us ++ vs)) ++ (y ∷ ys))
    → AreRestoring wanted → IsVolumeRestored file failed ((x ∷ (us ++ vs)) ++ (y ∷ ys))
volume-row file wanted failed x y us vs ys got done all w actor a b valid none f object copy there on_it =
    lost-row w actor a b None (file ∷ []) file object copy wanted failed x y us vs ys valid none f got done all there (inl refl) on_it (λ l same. refl)

-- it ended behind the volume's transaction
ended-behind : (file : ℕ) (wanted : List Wanted) (vs ys : List Event) (e : Refusal) → AreFound wanted vs → AreAsking vs → AllByRecursion (λ x. IsRestore x.deed) ys → Completes wanted 0 ys (Err e)
    → EndsBehind file (vs ++ ys) e
ended-behind file wanted vs ys e found asks only h =
    let why = completes-caused wanted vs ys e found h in
    record {
      cause = elim why.0 as (λ _. IsStopped (vs ++ ys) e ⊎ (IsUncollected (file ∷ []) (vs ++ ys) e × AreAsking (vs ++ ys)) ⊎ IsAimless (vs ++ ys) e) [
        | inl stopped ↦ inl stopped
        | inr aimless ↦ inr (inr aimless)
      ];
      unheld = unheld-behind vs ys e why.1;
      only = all-append (λ x. IsRestore x.deed) vs ys (asking-restore vs asks) only;
    }

place-behind : (file : ℕ) (c : Change) (x : Event) (us vs ys : List Event) (e : Refusal) → Destroyed file c (x ∷ us) → EndsBehind file (vs ++ ys) e → IsInPlace file ((x ∷ (us ++ vs)) ++ ys) e
place-behind file c x us vs ys e done h = inr (inr (c, (x ∷ us, vs ++ ys, ap (λ (es : List Event). x ∷ es) (append_assoc us vs ys), done, h)))

volume-of : (file : ℕ) (c : Change) (wanted : List Wanted) (x : Event) (us vs ys : List Event) (result : Result Moved Refusal) → BegunVolume file c wanted (x ∷ (us ++ vs)) → IsFirst file (x ∷ (us ++ vs))
    → Destroyed file c (x ∷ us) → Collected None (file ∷ []) [] wanted vs → Completes wanted 0 ys result → VolumeRestore file ((x ∷ (us ++ vs)) ++ ys) result
volume-of file c wanted x us vs ys (Ok m) begun f done got h =
    let first : List Event = x ∷ (us ++ vs) in
    let all : AreRestoring wanted = collected-restoring None (file ∷ []) [] wanted vs got (λ y i. absurd i) in
    let t : Told wanted 0 first ys (Ok m) = process-told wanted 0 x (us ++ vs) ys (Ok m) f.begun h in
    let p : Process wanted 0 (first ++ ys) m = t.answers in
    let some = completes-some wanted ys m h in
    record {
      came = record {
        failed = p.failed;
        change = c;
        wanted = wanted;
        order = (first, ys, refl, begun, h);
        counts = counted-of wanted (first ++ ys) m all p;
        row = subst (λ (es : List Event). IsVolumeRestored file p.failed (first ++ es)) (sym some.2)
            (volume-row file wanted p.failed x some.0 us vs some.1 got (subst (λ (es : List Event). IsDoneAllAlong wanted p.failed (first ++ es)) some.2 p.done) all);
      };
      only = all-append (λ e. IsVolumeRestore file e.deed) first ys f.only (restores-volume file ys (only-restore wanted ys all t.only));
      entries = enters-both file first ys f.entries f.begun.none_left (λ w actor a b none g. moves-enter file w actor (made ys) (entered-so wanted w actor (made ys) all (t.entries w actor a b none g)));
    }
volume-of file c wanted x us vs ys (Err e) begun f done got h =
    let first : List Event = x ∷ (us ++ vs) in
    let all : AreRestoring wanted = collected-restoring None (file ∷ []) [] wanted vs got (λ y i. absurd i) in
    let found : AreFound wanted vs = collected-found None (file ∷ []) [] wanted vs [] got (λ y i. absurd i) in
    let t : Told wanted 0 first ys (Err e) = process-told wanted 0 x (us ++ vs) ys (Err e) f.begun h in
    let p : Ended wanted 0 (first ++ ys) e = t.answers in
    record {
      came = record {
        cause = elim (completes-caused wanted first ys e (found-behind wanted (x ∷ us) vs found) h).0 as (λ _. IsStopped (first ++ ys) e ⊎ IsVolumeBarred file (first ++ ys) e) [
          | inl stopped ↦ inl stopped
          | inr aimless ↦ inr (inr (inr (inr aimless)))
        ];
        place =
            place-behind file c x us vs ys e done
            (ended-behind file wanted vs ys e found (collected-asks None (file ∷ []) [] wanted vs got) (only-restore wanted ys all t.only) h);
        settled = p.settled;
        none_left = p.none_left;
      };
      only = all-append (λ x0. IsVolumeRestore file x0.deed) first ys f.only (restores-volume file ys (only-restore wanted ys all t.only));
      entries = enters-both file first ys f.entries f.begun.none_left (λ w actor a b none g. moves-enter file w actor (made ys) (entered-so wanted w actor (made ys) all (t.entries w actor a b none g)));
    }

began : (file : ℕ) (c : Change) (wanted : List Wanted) (xs ys : List Event) (result : Result Moved Refusal) → BegunVolume file c wanted xs → Completes wanted 0 ys result → VolumeRestore file (xs ++ ys) result
began file c wanted xs ys result h g =
    let q = h.3.3 in
    let t = h.3.4 in
    let x : Event = event q.0 (Ask (query.Volumes None None) (Ok q.1)) in
    let those : xs ≡ x ∷ (t.0 ++ t.1) = h.3.2 ∙ ap₂ (λ (es fs : List Event). es ++ fs) q.2 t.2 in
    let one : IsFirst file (x ∷ []) = first-asks file (x ∷ []) ((query.Volumes None None, Ok q.1, refl), tt) in
    let first : IsFirst file (x ∷ (t.0 ++ t.1)) = first-both file (x ∷ []) (t.0 ++ t.1) one
    (first-both file t.0 t.1 (first-change file h.0 c t.0 h.2 t.3.only) (first-asks file t.1 (collected-asks None (file ∷ []) [] wanted t.1 t.4))) in
    subst (λ (es : List Event). VolumeRestore file (es ++ ys) result) (sym those)
    (volume-of file c wanted x t.0 t.1 ys result (subst (λ (es : List Event). BegunVolume file c wanted es) those h) first
    (h.0, h.1, h.2, (x ∷ [], t.0, refl, (q.0, q.1, refl, q.3), t.3)) t.4 g)

pub restores-of : {S : Type 0} (did : S → List Event → S → Type 0) → GoesOn did → (p q r : S) (file : ℕ) (wanted those : List Wanted) (result : Result Moved Refusal) → those ≡ wanted
    → Call did p q (λ events. BeginsVolume file events (Ok wanted)) → Call did q r (λ events. Completes those 0 events result) → Call did p r (λ events. VolumeRestore file events result)
restores-of did goes p q r file wanted those result same a b =
    call_then did goes (λ events. BeginsVolume file events (Ok wanted)) (λ events. Completes wanted 0 events result) (λ events. VolumeRestore file events result) p q r a
    (subst (λ (ws : List Wanted). Call did q r (λ events. Completes ws 0 events result)) same b) (λ xs ys f g. began file f.0 wanted xs ys result f.1 g)

pub volume-refused : {S : Type 0} (did : S → List Event → S → Type 0) (p q : S) (file : ℕ) (e : Refusal) → Call did p q (λ events. BeginsVolume file events (Err e))
    → Call did p q (λ events. VolumeRestore file events (Err e))
volume-refused did p q file e a = (a.0, a.1, record { came = a.2.stopped; only = a.2.only; entries = a.2.entries })

-- its failed objects are no more than the count of refused steps rose by, unless that is at its last value
pub volume-rises : {S : Type 0} (did : S → List Event → S → Type 0) (refused_of : S → ℕ) → ((p q : S) (xs : List Event) → did p xs q → refused_of q ≡ risen (refused_of p) xs)
    → (p q : S) (file : ℕ) (result : Result Moved Refusal)
    → Call did p q (λ events. VolumeRestore file events result) → IfOk result (λ m. (refused_of p + m.failed ≤ refused_of q) ⊎ (2 ^ 64 - 1 ≤ refused_of q))
volume-rises did refused_of counts p q file (Ok m) a = call-rises did refused_of counts (λ events. VolumeRestore file events (Ok m)) p q m.failed a (λ events h. h.came.counts.risen)
volume-rises did refused_of counts p q file (Err e) a = tt
