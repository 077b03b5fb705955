-- A checkpoint, piece by piece, and what it leaves.
use Rattle.std.proofs.Common.{◌≡◌, inl, inr, ℕ, zero, suc, ◌+◌, ◌-◌, ◌^◌, ◌==◌, Bool, true, false, if◌then◌else◌, List, [], ◌∷◌, length, None, Result, Ok, Err, refl, sym, ap, subst, ◌∙◌, length-append}
use Rattle.std.proofs.lemmas.Bool.{false≢true}
use Rattle.std.specs.List.{AllByRecursion, list_any}
use Rattle.kinds.specs.Refusals.{number_of}
use Rattle.kinds.specs.declared.refusal.Refusal.{Refusal}
use Rattle.kinds.specs.declared.refusal.Refusal.TheVariants as refused
use Rattle.client_files.specs.Sending.{is_stopping as is_broken, stopping as broken_off}
use Rattle.copy_attempts.proofs.Facts.{all-append}
use Rattle.copy_attempts.specs.Attempts.{is_stopping}
use Rattle.machine.proofs.Runs.{fits-cut, fits-one}
use Rattle.machine.specs.Fits.{Fits, History, Own, Step}
use Rattle.steps.proofs.Joining.{GoesOn, does_made, so_call, then_call, then_does}
use Rattle.steps.specs.declared.image.ImageKind.TheVariants as image
use Rattle.steps.specs.declared.image.ImageReply.{ImageReply}
use Rattle.steps.specs.declared.image.ImageReply.TheVariants as reply
use Rattle.steps.specs.Calls.{Call, Does, Made, Then}
use Rattle.steps.specs.Events.{Deed, Event, event, has_number}
use Rattle.steps.specs.Events.Deed.{OpenNew, OpenCopy, WritePiece, CopyPiece, Seal, Commit, DropTicket, ReadPiece, Ask, Image, Reuse, Force}
use Rattle.sessions.proofs.Causes.{HasEnds, awaits-all, caused-behind, has-ends, limited-caused, made-all, obtains-all, obtains-caused, one-of-three, then-all}
use Rattle.sessions.specs.Checkpoints.{AreMore, Begins, BreaksOff, Checkpointing, Checkpoints, Continues, IsOf, Opens, may_leave, numbers}
use Rattle.sessions.specs.Outcomes.{HasCause, IsCaused}
use Rattle.sessions.specs.Waiting.{Held, Waited}

-- ---- pieces

-- a piece that was answered so
pub told-as : {S : Type 0} (did : S → List Event → S → Type 0) (p q : S) (told is : ImageReply) → told ≡ is → Does did p q (Image image.Next (Ok told)) → Does did p q (Image image.Next (Ok is))
told-as did p q told is same d = subst (λ (it : ImageReply). Does did p q (Image image.Next (Ok it))) same d

-- so many pieces were written
abbrev pub Written : ℕ → List Event → Type 0
Written count events = AreMore events × (length events ≡ count)

pub written-more : {S : Type 0} (did : S → List Event → S → Type 0) → GoesOn did → (p q r : S) (count : ℕ) → Call did p q (Written count) → Does did q r (Image image.Next (Ok reply.More)) → Call did p r (Written (count + 1))
written-more did goes p q r count a d =
    then_does did goes (Written count) (Written (count + 1)) p q r (Image image.Next (Ok reply.More)) a d
    (λ xs f n listed. (
      all-append (λ e. e.deed ≡ Image image.Next (Ok reply.More)) xs (event n (Image image.Next (Ok reply.More)) ∷ []) f.0 (refl, tt),
      length-append xs (event n (Image image.Next (Ok reply.More)) ∷ []) ∙ ap (λ k. k + 1) f.1,
    ))
    (λ xs f m. absurd cc)

pub continues-done : {S : Type 0} (did : S → List Event → S → Type 0) → GoesOn did → (p q r : S) (count seq : ℕ) → Call did p q (Written count) → Does did q r (Image image.Next (Ok (reply.Done seq)))
    → Call did p r (λ events. Continues events (Ok seq))
continues-done did goes p q r count seq a d =
    then_call did goes AreMore (λ events. Made (Image image.Next (Ok (reply.Done seq))) events) p q r (so_call did (Written count) AreMore p q a (λ xs f. f.0)) (does_made did q r (Image image.Next (Ok (reply.Done seq))) d)

-- the pieces, and what broke them off
breaks-behind : {S : Type 0} (did : S → List Event → S → Type 0) → GoesOn did → (p q r : S) (count : ℕ) (e : Refusal) → Call did p q (Written count) → Call did q r (BreaksOff count e)
    → Call did p r (λ events. Continues events (Err e))
breaks-behind did goes p q r count e a b =
    so_call did (λ events. Then (Written count) (BreaksOff count e) events) (λ events. Continues events (Err e)) p r (then_call did goes (Written count) (BreaksOff count e) p q r a b)
    (λ events f. (f.0, (f.0, f.1, f.2, (refl, f.3.0), subst (λ (k : ℕ). BreaksOff k e f.1) (sym f.3.1) f.4)))

pub continues-refused : {S : Type 0} (did : S → List Event → S → Type 0) → GoesOn did → (p q r : S) (count : ℕ) (why e : Refusal) → Call did p q (Written count) → Does did q r (Image image.Next (Err why)) → e ≡ broken_off why
    → Call did p r (λ events. Continues events (Err e))
continues-refused did goes p q r count why e a d same =
    breaks-behind did goes p q r count e a
    (so_call did (λ events. Made (Image image.Next (Err why)) events) (BreaksOff count e) q r (does_made did q r (Image image.Next (Err why)) d) (λ xs f. inl (why, same, f)))

pub continues-begun : {S : Type 0} (did : S → List Event → S → Type 0) → GoesOn did → (p q r : S) (count file seq : ℕ) → Call did p q (Written count) → Does did q r (Image image.Next (Ok (reply.Begun file seq)))
    → Call did p r (λ events. Continues events (Err refused.Memory))
continues-begun did goes p q r count file seq a d =
    breaks-behind did goes p q r count refused.Memory a
    (so_call did (λ events. Made (Image image.Next (Ok (reply.Begun file seq))) events) (BreaksOff count refused.Memory) q r (does_made did q r (Image image.Next (Ok (reply.Begun file seq))) d)
    (λ xs f. inr (inl (file, seq, refl, f))))

pub continues-used : {S : Type 0} (did : S → List Event → S → Type 0) → GoesOn did → (p q : S) (count : ℕ) → did q [] q → count ≡ 2 ^ 64 - 1 → Call did p q (Written count)
    → Call did p q (λ events. Continues events (Err refused.Memory))
continues-used did goes p q count stays all a = breaks-behind did goes p q q count refused.Memory a ([], stays, inr (inr (all, refl, refl)))

-- ---- the whole

pub checkpoints-on : {S : Type 0} (did : S → List Event → S → Type 0) → GoesOn did → (p q r : S) (seq : ℕ) (result : Result ℕ Refusal) → Call did p q (λ events. Opens events (Ok seq))
    → Call did q r (λ events. Continues events result) → Call did p r (λ events. Checkpoints events result)
checkpoints-on did goes p q r seq result a b =
    so_call did (λ events. Then (λ xs. Opens xs (Ok seq)) (λ ys. Continues ys result) events) (λ events. Checkpoints events result) p r
    (then_call did goes (λ events. Opens events (Ok seq)) (λ events. Continues events result) p q r a b) (λ xs f. inr (seq, f))

pub checkpoints-not : {S : Type 0} (did : S → List Event → S → Type 0) (p q : S) (e : Refusal) → Call did p q (λ events. Opens events (Err e)) → Call did p q (λ events. Checkpoints events (Err e))
checkpoints-not did p q e a = so_call did (λ events. Opens events (Err e)) (λ events. Checkpoints events (Err e)) p q a (λ xs f. inl (e, f, refl))

-- ---- no others

abbrev Only : List Event → Type 0
Only events = AllByRecursion (λ e. IsOf e.deed) events

begins-only : (answer : Result ℕ Refusal) (events : List Event) → Begins answer events → Only events
begins-only (Ok seq) events (file, f) = made-all (λ e. IsOf e.deed) (Image image.Checkpoint (Ok (reply.Begun file seq))) events f (λ n. tt)
begins-only (Err e) events (inl (why, same, f)) = made-all (λ e. IsOf e.deed) (Image image.Checkpoint (Err why)) events f (λ n. tt)
begins-only (Err e) events (inr (told, same, f)) = made-all (λ e. IsOf e.deed) (Image image.Checkpoint (Ok told)) events f (λ n. tt)

opens-only : (events : List Event) (result : Result ℕ Refusal) → Opens events result → Only events
opens-only events result h = obtains-all (λ e. IsOf e.deed) (λ n answer. tt) Begins begins-only events result h

more-only : (events : List Event) → AreMore events → Only events
more-only [] h = tt
more-only (x ∷ xs) h = (subst (λ (d : Deed). IsOf d) (sym h.0) tt, more-only xs h.1)

breaks-only : (count : ℕ) (e : Refusal) (events : List Event) → BreaksOff count e events → Only events
breaks-only count e events (inl (why, same, f)) = made-all (λ e. IsOf e.deed) (Image image.Next (Err why)) events f (λ n. tt)
breaks-only count e events (inr (inl (file, seq, same, f))) = made-all (λ e. IsOf e.deed) (Image image.Next (Ok (reply.Begun file seq))) events f (λ n. tt)
breaks-only count e events (inr (inr h)) = subst Only (sym h.2) tt

continues-only : (events : List Event) (result : Result ℕ Refusal) → Continues events result → Only events
continues-only events (Ok seq) (xs, ys, cut, more, f) =
    then-all (λ e. IsOf e.deed) events xs ys cut (more-only xs more) (made-all (λ e. IsOf e.deed) (Image image.Next (Ok (reply.Done seq))) ys f (λ n. tt))
continues-only events (Err e) (zs, (xs, ys, cut, more, f)) = then-all (λ e. IsOf e.deed) events xs ys cut (more-only xs more.1) (breaks-only (length zs) e ys f)

checkpoints-only : (events : List Event) (result : Result ℕ Refusal) → Checkpoints events result → Only events
checkpoints-only events result (inl (e, h, is)) = opens-only events (Err e) h
checkpoints-only events result (inr (seq, (xs, ys, cut, h, f))) = then-all (λ e. IsOf e.deed) events xs ys cut (opens-only xs (Ok seq) h) (continues-only ys result f)

-- ---- causes

numbers-end : HasEnds numbers
numbers-end = has-ends numbers refl refl

begins-caused : (answer : Result ℕ Refusal) (events : List Event) → Begins answer events → HasCause numbers events answer
begins-caused (Ok seq) events h = tt
begins-caused (Err e) events (inl (why, same, f)) =
    subst (λ (x : Refusal). IsCaused numbers events x) (sym same) (limited-caused numbers why (Image image.Checkpoint (Err why)) events (is_stopping why) f refl (λ t. t))
begins-caused (Err e) events (inr (told, same, f)) = inl same

three-among : (e : Refusal) → is_broken e ≡ true → has_number numbers e ≡ true
three-among e h = elim (one-of-three (number_of e) (40 == number_of e) (41 == number_of e) (50 == number_of e) refl refl refl h) as (λ _. has_number numbers e ≡ true) [
  | inl is ↦ subst (λ (m : ℕ). list_any (λ n. n == m) numbers ≡ true) is refl
  | inr (inl is) ↦ subst (λ (m : ℕ). list_any (λ n. n == m) numbers ≡ true) is refl
  | inr (inr is) ↦ subst (λ (m : ℕ). list_any (λ n. n == m) numbers ≡ true) is refl
]

breaks-caused : (count : ℕ) (e : Refusal) (events : List Event) → BreaksOff count e events → IsCaused numbers events e
breaks-caused count e events (inl (why, same, f)) =
    subst (λ (x : Refusal). IsCaused numbers events x) (sym same)
    (limited-caused numbers why (Image image.Next (Err why)) events (is_broken why) f refl (λ t. three-among why t))
breaks-caused count e events (inr (inl (file, seq, same, f))) = inl same
breaks-caused count e events (inr (inr h)) = inl h.1

checkpoints-caused : (events : List Event) (result : Result ℕ Refusal) → Checkpoints events result → HasCause numbers events result
checkpoints-caused events result (inl (e, h, is)) =
    subst (λ (r : Result ℕ Refusal). HasCause numbers events r) (sym is) (obtains-caused numbers numbers-end Begins begins-caused events (Err e) h)
checkpoints-caused events (Ok seq) (inr h) = tt
checkpoints-caused events (Err e) (inr (seq, (xs, ys, cut, h, (zs, (vs, ws, apart, more, f))))) =
    subst (λ (es : List Event). IsCaused numbers es e) (sym cut)
    (caused-behind numbers xs ys e (subst (λ (es : List Event). IsCaused numbers es e) (sym apart) (caused-behind numbers vs ws e (breaks-caused (length zs) e ws f))))

pub checkpointing-of : (events : List Event) (result : Result ℕ Refusal) → Checkpoints events result → Checkpointing events result
checkpointing-of events result h = record { order = h; only = checkpoints-only events result h; cause = checkpoints-caused events result h }

-- ---- no image is left

-- the step leaves the actor's image
abbrev is_quiet : Deed → Bool
is_quiet (Image image.Checkpoint (Err e)) = true
is_quiet (Force answer) = true
is_quiet _ = false

abbrev AreQuiet : List Event → Type 0
AreQuiet events = AllByRecursion (λ e. is_quiet e.deed ≡ true) events

quiet-step : (w : History) (actor : ℕ) (a b : Own) (n : ℕ) (d : Deed) → is_quiet d ≡ true → Step w actor a (event n d) b → b.image ≡ a.image
quiet-step w actor a b n (OpenNew pool size prefer answer) q s = absurd cc
quiet-step w actor a b n (OpenCopy object aim avoid answer) q s = absurd cc
quiet-step w actor a b n (WritePiece ticket bytes answer) q s = absurd cc
quiet-step w actor a b n (CopyPiece ticket answer) q s = absurd cc
quiet-step w actor a b n (Seal ticket answer) q s = absurd cc
quiet-step w actor a b n (Commit asked tickets answer) q s = absurd cc
quiet-step w actor a b n (DropTicket ticket answer) q s = absurd cc
quiet-step w actor a b n (ReadPiece object kept from offset wanted answer) q s = absurd cc
quiet-step w actor a b n (Ask query answer) q s = absurd cc
quiet-step w actor a b n (Image image.Checkpoint (Ok told)) q s = absurd cc
quiet-step w actor a b n (Image image.Checkpoint (Err e)) q s = s.has.image
quiet-step w actor a b n (Image image.Backup answer) q s = absurd cc
quiet-step w actor a b n (Image (image.Since after) answer) q s = absurd cc
quiet-step w actor a b n (Image image.Next answer) q s = absurd cc
quiet-step w actor a b n (Reuse file answer) q s = absurd cc
quiet-step w actor a b n (Force answer) q s = s.has.image

quiet-image : (w : History) (actor : ℕ) (a b : Own) (events : List Event) → AreQuiet events → Fits w actor a events b → b.image ≡ a.image
unfolding Fits
quiet-image w actor a b [] q f = ap (λ (o : Own). o.image) f
quiet-image w actor a b (x ∷ xs) q f = quiet-image w actor f.0 b xs q.1 f.2 ∙ quiet-step w actor a f.0 x.n x.deed q.0 f.1

refused-quiet : (e : Refusal) (events : List Event) → (e ≡ refused.Memory → ⊥) → Begins (Err e) events → AreQuiet events
refused-quiet e events mild (inl (why, same, f)) = made-all (λ e. is_quiet e.deed ≡ true) (Image image.Checkpoint (Err why)) events f (λ n. refl)
refused-quiet e events mild (inr (told, same, f)) = absurd (mild same)

held-quiet : (events : List Event) (answer : Result (Unit {0}) Refusal) → Held Begins events answer → AreQuiet events
held-quiet events answer (h, (xs, ys, cut, tried, awaited)) =
    then-all (λ e. is_quiet e.deed ≡ true) events xs ys cut (refused-quiet (refused.Busy h) xs (λ same. absurd cc) tried) (awaits-all (λ e. is_quiet e.deed ≡ true) (λ n a. refl) h ys answer awaited)

waited-quiet : (number : ℕ) (events : List Event) → Waited Begins number events → AreQuiet events
waited-quiet zero events h = subst AreQuiet (sym h) tt
waited-quiet (suc number) events (xs, ys, cut, waited, held) =
    then-all (λ e. is_quiet e.deed ≡ true) events xs ys cut (waited-quiet number xs waited) (held-quiet ys (Ok tt) held)

opens-quiet : (e : Refusal) (events : List Event) → (e ≡ refused.Memory → ⊥) → Opens events (Err e) → AreQuiet events
opens-quiet e events mild (number, (xs, ys, cut, waited, inl h)) = then-all (λ e. is_quiet e.deed ≡ true) events xs ys cut (waited-quiet number xs waited) (refused-quiet e ys mild h.1)
opens-quiet e events mild (number, (xs, ys, cut, waited, inr (inl (f, held, is)))) = then-all (λ e. is_quiet e.deed ≡ true) events xs ys cut (waited-quiet number xs waited) (held-quiet ys (Err f) held)
opens-quiet e events mild (number, (xs, ys, cut, waited, inr (inr h))) = absurd (mild (let same : Err e ≡ Err refused.Memory = h.2 in cc))

memory-leaves : (e : Refusal) → is_broken e ≡ false → e ≡ refused.Memory → ⊥
memory-leaves e other same = false≢true (sym other ∙ ap is_broken same)

broken-leaves : (why : Refusal) → is_broken (broken_off why) ≡ true
broken-leaves why = elim (is_broken why) as (λ b. is_broken why ≡ b → is_broken (if b then why else refused.Memory) ≡ true) [ true ↦ λ t. t | false ↦ λ t. refl ] refl

breaks-leaves : (count : ℕ) (e : Refusal) (events : List Event) → BreaksOff count e events → is_broken e ≡ true
breaks-leaves count e events (inl (why, same, f)) = ap is_broken same ∙ broken-leaves why
breaks-leaves count e events (inr (inl (file, seq, same, f))) = ap is_broken same
breaks-leaves count e events (inr (inr h)) = ap is_broken h.1

-- the last piece is the image's end
done-image : (w : History) (actor : ℕ) (a b : Own) (seq : ℕ) (events : List Event) → Made (Image image.Next (Ok (reply.Done seq))) events → Fits w actor a events b → b.image ≡ None
done-image w actor a b seq events (inl h) f =
    (let s : Step w actor a (event h.0 (Image image.Next (Ok (reply.Done seq)))) b = fits-one w actor a b (event h.0 (Image image.Next (Ok (reply.Done seq)))) (subst (λ (es : List Event). Fits w actor a es b) h.1 f) in
    s.has.image)
done-image w actor a b seq events (inr h) f = absurd cc

pub none-left : (w : History) (actor : ℕ) (old new : Own) (events : List Event) (result : Result ℕ Refusal) → Fits w actor old events new → old.image ≡ None → Checkpoints events result → may_leave result ≡ false → new.image ≡ None
none-left w actor old new events (Ok seq) f none (inl (e, h, is)) ends = absurd cc
none-left w actor old new events (Err e) f none (inl (g, h, is)) ends =
    let same : g ≡ e = cc in
    quiet-image w actor old new events (opens-quiet g events (λ m. memory-leaves e ends (sym same ∙ m)) h) f ∙ none
none-left w actor old new events (Ok seq) f none (inr (first, (xs, ys, cut, h, (zs, ws, apart, more, done)))) ends =
    let parts = fits-cut w actor old new xs ys (subst (λ (es : List Event). Fits w actor old es new) cut f) in
    let pieces = fits-cut w actor parts.0 new zs ws (subst (λ (es : List Event). Fits w actor parts.0 es new) apart parts.2) in
    done-image w actor pieces.0 new seq ws done pieces.2
none-left w actor old new events (Err e) f none (inr (first, (xs, ys, cut, h, (vs, (zs, ws, apart, more, broken))))) ends =
    absurd (false≢true (sym ends ∙ breaks-leaves (length vs) e ws broken))
