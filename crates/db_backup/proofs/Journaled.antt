-- What a backup leaves in the journal, and that no image is left.
use Rattle.std.proofs.Common.{◌≡◌, ◌⊎◌, inl, inr, ℕ, zero, suc, ◌+◌, ◌-◌, ◌<◌, ◌≤◌, ◌==◌, ◌||◌, Bool, true, false, if◌then◌else◌, List, [], ◌∷◌, ◌++◌, length, Option, None, Some, Result, Ok, Err, refl, sym, ap, subst, ◌∙◌, arith}
use Rattle.std.proofs.lemmas.Bool.{eqb-true, false≢true}
use Rattle.std.specs.List.{AllByRecursion, slice_get}
use Rattle.kinds.specs.Refusals.{number_of}
use Rattle.kinds.specs.declared.refusal.Holder.{Holder}
use Rattle.kinds.specs.declared.refusal.Refusal.{Refusal}
use Rattle.kinds.specs.declared.refusal.Refusal.TheVariants as refused
use Rattle.entries.specs.declared.change.Change.{Change}
use Rattle.entries.specs.declared.change.Change.TheVariants.{DbBegin, DbDelete, DbEnd}
use Rattle.copy_attempts.proofs.Facts.{some-memory}
use Rattle.copy_runs.proofs.Returning.{inv-number}
use Rattle.machine.proofs.Runs.{fits-cut, fits-first, fits-one, fits-rises, step-rises}
use Rattle.machine.specs.Fits.{Fits, History, IsEnd, JoinsAt, Own, Step, drops_image, inv, number_after, sight_at}
use Rattle.machine.specs.Says.{Says}
use Rattle.machine.specs.State.{Image as Picture, backup, checkpoint}
use Rattle.reuse_delay.proofs.Causes.{not-both}
use Rattle.sessions.proofs.Causes.{awaits-all, made-all, then-all}
use Rattle.sessions.specs.Changing.{Changing, IsOf as IsChanging}
use Rattle.sessions.specs.Checkpoints.{AreMore}
use Rattle.sessions.specs.Waiting.{Held, Waited}
use Rattle.steps.specs.declared.image.ImageKind.{ImageKind}
use Rattle.steps.specs.declared.image.ImageKind.TheVariants as image
use Rattle.steps.specs.declared.image.ImageReply.TheVariants as reply
use Rattle.steps.specs.Calls.{Made}
use Rattle.steps.specs.Events.{Deed, Event, event, has_number}
use Rattle.steps.specs.Events.Deed.{OpenNew, OpenCopy, WritePiece, CopyPiece, Seal, Commit, DropTicket, ReadPiece, Ask, Image, Reuse, Force}
use Rattle.db_backup.specs.declared.taking.Taken.{Taken}
use Rattle.db_backup.specs.Rows.{IsBackedUp}
use Rattle.db_backup.specs.Taking.{Backs, Begins, BreaksOff, Completes, Continues, GivesUp, Opens, Starts, TakesOff, begun_file, failed_file, kind_of, may_leave, unwritten}

-- ---- the beginning

-- the actor has the image of this backup
abbrev pub HasImage : Taken → Own → Type 0
HasImage t own = (i : Picture) × (own.image ≡ Some i) × (i.file ≡ t.file) × (i.picture ≡ backup)

-- the backup's beginning joined, in front of what the actor has reached
abbrev IsBegun : History → (actor : ℕ) → (after : Option ℕ) → Taken → Own → Type 0
IsBegun w actor after t own =
    (n : ℕ) × (w.base.number ≤ n) × (t.seq ≡ n + 1) × (n + 1 ≤ own.reached)
    × (slice_get w.journal (n - w.base.number) ≡ Some (record { actor = actor; change = DbBegin t.file after })) × HasImage t own

joined-at : (w : History) (actor n : ℕ) (joined : Option Change) (c : Change) → joined ≡ Some c → JoinsAt w actor n joined → slice_get w.journal (n - w.base.number) ≡ Some (record { actor = actor; change = c })
joined-at w actor n joined c is at = subst (λ (o : Option Change). JoinsAt w actor n o) is at

begun-step : (w : History) (actor : ℕ) (a b : Own) (n : ℕ) (after : Option ℕ) (t : Taken) → Step w actor a (event n (Image (kind_of after) (Ok (reply.Begun t.file t.seq)))) b → IsBegun w actor after t b
unfolding Says
begun-step w actor a b n None t s =
    let this : (inv w n).number ≡ n = inv-number w n s.begun s.within in
    let told : t.seq ≡ (inv w n).number + 1 = s.says.1 in
    let seq : t.seq ≡ n + 1 = omega (arith, told, this) in
    let reached : b.reached ≡ n + 1 = s.has.reached ∙ ap (number_after n) s.joins in
    let on : n + 1 ≤ b.reached = omega (arith, reached) in
    (n, s.begun, seq, on, joined-at w actor n s.joined (DbBegin t.file None) s.joins s.joins_at, (s.has.image.0, s.has.image.1, s.has.image.3, s.has.image.4))
begun-step w actor a b n (Some file) t s =
    let this : (inv w n).number ≡ n = inv-number w n s.begun s.within in
    let told : t.seq ≡ (inv w n).number + 1 = s.says.1 in
    let seq : t.seq ≡ n + 1 = omega (arith, told, this) in
    let reached : b.reached ≡ n + 1 = s.has.reached ∙ ap (number_after n) s.joins in
    let on : n + 1 ≤ b.reached = omega (arith, reached) in
    (n, s.begun, seq, on, joined-at w actor n s.joined (DbBegin t.file (Some file)) s.joins s.joins_at, (s.has.image.0, s.has.image.1, s.has.image.3, s.has.image.4))

opened : (w : History) (actor : ℕ) (a b : Own) (after : Option ℕ) (events : List Event) (t : Taken) → Fits w actor a events b → Opens (kind_of after) events (Ok t) → IsBegun w actor after t b
opened w actor a b after events t f (waited, (xs, ys, cut, some, inl (none, inl it))) =
    let e : Event = event it.0 (Image (kind_of after) (Ok (reply.Begun t.file t.seq))) in
    let parts = fits-cut w actor a b xs ys (subst (λ (es : List Event). Fits w actor a es b) cut f) in
    begun-step w actor parts.0 b it.0 after t (fits-one w actor parts.0 b e (subst (λ (es : List Event). Fits w actor parts.0 es b) it.1 parts.2))
opened w actor a b after events t f (waited, (xs, ys, cut, some, inl (none, inr m))) = absurd cc
opened w actor a b after events t f (waited, (xs, ys, cut, some, inr (inl (e, held, is)))) = absurd cc
opened w actor a b after events t f (waited, (xs, ys, cut, some, inr (inr h))) = (let is : Ok t ≡ Err refused.Memory = h.2 in absurd cc)

-- ---- its pieces

more-step : (w : History) (actor : ℕ) (a b : Own) (n : ℕ) (t : Taken) → Step w actor a (event n (Image image.Next (Ok reply.More))) b → HasImage t a → HasImage t b
more-step w actor a b n t s (i, is, file, picture) =
    let h = s.has.image in
    let same : h.0 ≡ i = (let both : Some h.0 ≡ Some i = sym h.2 ∙ is in cc) in
    (h.1, h.3, h.5 ∙ ap (λ (p : Picture). p.file) same ∙ file, h.6 ∙ ap (λ (p : Picture). p.picture) same ∙ picture)

all-more : (w : History) (actor : ℕ) (a b : Own) (t : Taken) (events : List Event) → Fits w actor a events b → AreMore events → HasImage t a → HasImage t b
unfolding Fits
all-more w actor a b t [] f more h = subst (HasImage t) (sym f) h
all-more w actor a b t (x ∷ xs) f more h =
    all-more w actor f.0 b t xs f.2 more.1 (more-step w actor a f.0 x.n t (subst (λ (d : Deed). Step w actor a (event x.n d) f.0) more.0 f.1) h)

ended-at : (w : History) (actor n : ℕ) (t : Taken) (i : Picture) (o : Option Picture) (joined : Option Change) → o ≡ Some i → i.file ≡ t.file → i.picture ≡ backup → IsEnd o joined → JoinsAt w actor n joined
    → slice_get w.journal (n - w.base.number) ≡ Some (record { actor = actor; change = DbEnd t.file })
ended-at w actor n t i None joined is file picture ends at = absurd ends
ended-at w actor n t i (Some j) None is file picture ends at =
    let same : j ≡ i = cc in
    absurd (let never : backup ≡ checkpoint = sym picture ∙ ap (λ (p : Picture). p.picture) (sym same) ∙ ends in cc)
ended-at w actor n t i (Some j) (Some c) is file picture ends at =
    let same : j ≡ i = cc in
    joined-at w actor n (Some c) (DbEnd t.file) (ap Some (ends.1 ∙ ap DbEnd (ap (λ (p : Picture). p.file) same ∙ file))) at

done-step : (w : History) (actor : ℕ) (a b : Own) (n seq : ℕ) (t : Taken) → Step w actor a (event n (Image image.Next (Ok (reply.Done seq)))) b → HasImage t a
    → slice_get w.journal (n - w.base.number) ≡ Some (record { actor = actor; change = DbEnd t.file })
done-step w actor a b n seq t s (i, is, file, picture) = ended-at w actor n t i a.image s.joined is file picture s.joins s.joins_at

-- its end joined, behind what the actor had reached
continued : (w : History) (actor : ℕ) (a b : Own) (events : List Event) (seq : ℕ) (t : Taken) → Fits w actor a events b → Continues events (Ok seq) → HasImage t a
    → (k : ℕ) × (a.reached ≤ k) × (slice_get w.journal (k - w.base.number) ≡ Some (record { actor = actor; change = DbEnd t.file }))
continued w actor a b events seq t f (xs, ys, cut, more, inl it) h =
    let e : Event = event it.0 (Image image.Next (Ok (reply.Done seq))) in
    let parts = fits-cut w actor a b xs ys (subst (λ (es : List Event). Fits w actor a es b) cut f) in
    let s : Step w actor parts.0 e b = fits-one w actor parts.0 b e (subst (λ (es : List Event). Fits w actor parts.0 es b) it.1 parts.2) in
    let low : a.reached ≤ parts.0.reached = fits-rises w actor a parts.0 xs parts.1 in
    let up : parts.0.reached ≤ it.0 = s.since in
    (it.0, omega arith, done-step w actor parts.0 b it.0 seq t s (all-more w actor a parts.0 t xs parts.1 more h))
continued w actor a b events seq t f (xs, ys, cut, more, inr m) h = absurd cc

pub backed-up : (w : History) (actor : ℕ) (old new : Own) (after : Option ℕ) (events : List Event) (t : Taken) → Fits w actor old events new → Backs (kind_of after) events (Ok t) → IsBackedUp w actor after t
backed-up w actor old new after events t f (inl (e, starts, is)) = absurd cc
backed-up w actor old new after events t f (inr (begun, (xs, ys, cut, opens, (same, seq, last, (us, vs, apart, continues, forced))))) =
    let parts = fits-cut w actor old new xs ys (subst (λ (es : List Event). Fits w actor old es new) cut f) in
    let pieces = fits-cut w actor parts.0 new us vs (subst (λ (es : List Event). Fits w actor parts.0 es new) apart parts.2) in
    let first = opened w actor old parts.0 after xs begun parts.1 opens in
    let end = continued w actor parts.0 pieces.0 us seq begun pieces.1 continues first.5 in
    let next : first.0 + 1 ≤ parts.0.reached = first.3 in
    let later : parts.0.reached ≤ end.0 = end.1 in
    let apart_by : first.0 < end.0 = omega arith in
    subst (IsBackedUp w actor after) (sym same) (first.0, end.0, first.1, first.2, apart_by, first.4, end.2)

-- ---- no image is left

-- the step leaves the actor's image
abbrev is_quiet : Deed → Bool
is_quiet (Image image.Backup (Err e)) = true
is_quiet (Image (image.Since after) (Err e)) = true
is_quiet (Commit asked tickets answer) = true
is_quiet (Force answer) = true
is_quiet _ = false

abbrev AreQuiet : List Event → Type 0
AreQuiet events = AllByRecursion (λ e. is_quiet e.deed ≡ true) events

quiet-step : (w : History) (actor : ℕ) (a b : Own) (n : ℕ) (d : Deed) → is_quiet d ≡ true → Step w actor a (event n d) b → b.image ≡ a.image
quiet-step w actor a b n (OpenNew pool size prefer answer) q s = absurd cc
quiet-step w actor a b n (OpenCopy object aim avoid answer) q s = absurd cc
quiet-step w actor a b n (WritePiece ticket bytes answer) q s = absurd cc
quiet-step w actor a b n (CopyPiece ticket answer) q s = absurd cc
quiet-step w actor a b n (Seal ticket answer) q s = absurd cc
quiet-step w actor a b n (Commit asked tickets answer) q s = s.has.image
quiet-step w actor a b n (DropTicket ticket answer) q s = absurd cc
quiet-step w actor a b n (ReadPiece object kept from offset wanted answer) q s = absurd cc
quiet-step w actor a b n (Ask query answer) q s = absurd cc
quiet-step w actor a b n (Image image.Checkpoint answer) q s = absurd cc
quiet-step w actor a b n (Image image.Backup (Ok told)) q s = absurd cc
quiet-step w actor a b n (Image image.Backup (Err e)) q s = s.has.image
quiet-step w actor a b n (Image (image.Since after) (Ok told)) q s = absurd cc
quiet-step w actor a b n (Image (image.Since after) (Err e)) q s = s.has.image
quiet-step w actor a b n (Image image.Next answer) q s = absurd cc
quiet-step w actor a b n (Reuse file answer) q s = absurd cc
quiet-step w actor a b n (Force answer) q s = s.has.image

quiet-image : (w : History) (actor : ℕ) (a b : Own) (events : List Event) → AreQuiet events → Fits w actor a events b → b.image ≡ a.image
unfolding Fits
quiet-image w actor a b [] q f = ap (λ (o : Own). o.image) f
quiet-image w actor a b (x ∷ xs) q f = quiet-image w actor f.0 b xs q.1 f.2 ∙ quiet-step w actor a f.0 x.n x.deed q.0 f.1

abbrev Quiet : Event → Type 0
Quiet e = is_quiet e.deed ≡ true

kind-quiet : (after : Option ℕ) (n : ℕ) (why : Refusal) → Quiet (event n (Image (kind_of after) (Err why)))
kind-quiet None n why = refl
kind-quiet (Some file) n why = refl

refused-quiet : (after : Option ℕ) (e : Refusal) (events : List Event) → (e ≡ refused.Memory → ⊥) → Begins (kind_of after) (Err e) events → AreQuiet events
refused-quiet after e events mild (inl (why, same, f)) = made-all Quiet (Image (kind_of after) (Err why)) events f (λ n. kind-quiet after n why)
refused-quiet after e events mild (inr (told, same, f)) = absurd (mild same)

held-quiet : (after : Option ℕ) (events : List Event) (answer : Result (Unit {0}) Refusal) → Held (Begins (kind_of after)) events answer → AreQuiet events
held-quiet after events answer (h, (xs, ys, cut, tried, awaited)) =
    then-all Quiet events xs ys cut (refused-quiet after (refused.Busy h) xs (λ same. absurd cc) tried) (awaits-all Quiet (λ n a. refl) h ys answer awaited)

waited-quiet : (after : Option ℕ) (number : ℕ) (events : List Event) → Waited (Begins (kind_of after)) number events → AreQuiet events
waited-quiet after zero events h = subst AreQuiet (sym h) tt
waited-quiet after (suc number) events (xs, ys, cut, waited, held) = then-all Quiet events xs ys cut (waited-quiet after number xs waited) (held-quiet after ys (Ok tt) held)

opens-quiet : (after : Option ℕ) (e : Refusal) (events : List Event) → (e ≡ refused.Memory → ⊥) → Opens (kind_of after) events (Err e) → AreQuiet events
opens-quiet after e events mild (number, (xs, ys, cut, waited, inl h)) = then-all Quiet events xs ys cut (waited-quiet after number xs waited) (refused-quiet after e ys mild h.1)
opens-quiet after e events mild (number, (xs, ys, cut, waited, inr (inl (f, held, is)))) = then-all Quiet events xs ys cut (waited-quiet after number xs waited) (held-quiet after ys (Err f) held)
opens-quiet after e events mild (number, (xs, ys, cut, waited, inr (inr h))) = absurd (mild (let same : Err e ≡ Err refused.Memory = h.2 in cc))

changing-quiet : (file : ℕ) (d : Deed) → IsChanging (DbDelete file) d → is_quiet d ≡ true
changing-quiet file (OpenNew pool size prefer answer) h = absurd h
changing-quiet file (OpenCopy object aim avoid answer) h = absurd h
changing-quiet file (WritePiece ticket bytes answer) h = absurd h
changing-quiet file (CopyPiece ticket answer) h = absurd h
changing-quiet file (Seal ticket answer) h = absurd h
changing-quiet file (Commit asked tickets answer) h = refl
changing-quiet file (DropTicket ticket answer) h = absurd h
changing-quiet file (ReadPiece object kept from offset wanted answer) h = absurd h
changing-quiet file (Ask query answer) h = absurd h
changing-quiet file (Image kind answer) h = absurd h
changing-quiet file (Reuse other answer) h = absurd h
changing-quiet file (Force answer) h = refl

changes-quiet : (file : ℕ) (events : List Event) → AllByRecursion (λ e. IsChanging (DbDelete file) e.deed) events → AreQuiet events
changes-quiet file [] h = tt
changes-quiet file (x ∷ xs) h = (changing-quiet file x.deed h.0, changes-quiet file xs h.1)

off-quiet : (file : ℕ) (events : List Event) (result : Result (Unit {0}) Refusal) → TakesOff file events result → AreQuiet events
off-quiet file events result (inl (number, c, is)) = changes-quiet file events c.only
off-quiet file events result (inr (why, c, is)) = changes-quiet file events c.only

gives-quiet : (file : Option ℕ) (e answer : Refusal) (events : List Event) → GivesUp file e events answer → AreQuiet events
gives-quiet None e answer events h = subst AreQuiet (sym h.0) tt
gives-quiet (Some file) e answer events (inl h) = off-quiet file events (Ok tt) h.0
gives-quiet (Some file) e answer events (inr h) = off-quiet file events (Err answer) h

-- a refusal with which an image may be left
abbrev leaves : Refusal → Bool
leaves e = has_number (40 ∷ 41 ∷ 50 ∷ []) e

starts-none : (w : History) (actor : ℕ) (a b : Own) (after : Option ℕ) (events : List Event) (e : Refusal) → Fits w actor a events b → a.image ≡ None → Starts (kind_of after) events (Err e) → leaves e ≡ false → b.image ≡ None
starts-none w actor a b after events e f none (why, (xs, ys, cut, opens, gives)) ends =
    let mild : why ≡ refused.Memory → ⊥ = λ same. (
    let h : GivesUp None refused.Memory ys e = subst (λ (x : Refusal). GivesUp (failed_file x) x ys e) same gives in
    false≢true (sym ends ∙ ap leaves h.1)) in
    quiet-image w actor a b events (then-all Quiet events xs ys cut (opens-quiet after why xs mild opens) (gives-quiet (failed_file why) why e ys gives)) f ∙ none

done-image : (w : History) (actor : ℕ) (a b : Own) (seq : ℕ) (events : List Event) → Continues events (Ok seq) → Fits w actor a events b → b.image ≡ None
done-image w actor a b seq events (xs, ys, cut, more, inl it) f =
    let e : Event = event it.0 (Image image.Next (Ok (reply.Done seq))) in
    let parts = fits-cut w actor a b xs ys (subst (λ (es : List Event). Fits w actor a es b) cut f) in
    let s : Step w actor parts.0 e b = fits-one w actor parts.0 b e (subst (λ (es : List Event). Fits w actor parts.0 es b) it.1 parts.2) in
    s.has.image
done-image w actor a b seq events (xs, ys, cut, more, inr m) f = absurd cc

-- a refusal that ends the pieces, and that leaves no image, has dropped it
drops-by : (k : ℕ) → (25 == k || (31 == k || (40 == k || (41 == k || (50 == k || false))))) ≡ true → (40 == k || (41 == k || (50 == k || false))) ≡ false → (k == 25 || k == 31) ≡ true
drops-by k some none = elim (25 == k) as (λ x. (25 == k) ≡ x → (x || (31 == k || (40 == k || (41 == k || (50 == k || false))))) ≡ true → (k == 25 || k == 31) ≡ true) [
  | true ↦ λ x _. subst (λ (n : ℕ). (n == 25 || n == 31) ≡ true) (eqb-true 25 k x) refl
  | false ↦ λ _ others. elim (31 == k) as (λ y. (31 == k) ≡ y → (y || (40 == k || (41 == k || (50 == k || false)))) ≡ true → (k == 25 || k == 31) ≡ true) [
    | true ↦ λ y _. subst (λ (n : ℕ). (n == 25 || n == 31) ≡ true) (eqb-true 31 k y) refl
    | false ↦ λ _ rest. absurd (false≢true (sym none ∙ rest))
  ] refl others
] refl some

dropped-as : (w0 : Refusal) (t : Bool) → has_number (25 ∷ 31 ∷ 40 ∷ 41 ∷ 50 ∷ []) w0 ≡ t → leaves (if t then w0 else refused.Memory) ≡ false → drops_image w0 ≡ true
dropped-as w0 true is mild = drops-by (number_of w0) is mild
dropped-as w0 false is mild = absurd cc

dropped : (w0 why : Refusal) → why ≡ unwritten w0 → leaves why ≡ false → drops_image w0 ≡ true
dropped w0 why same mild = dropped-as w0 (has_number (25 ∷ 31 ∷ 40 ∷ 41 ∷ 50 ∷ []) w0) refl (ap leaves (sym same) ∙ mild)

next-refused : (w : History) (actor : ℕ) (a b : Own) (n : ℕ) (e : Refusal) → Step w actor a (event n (Image image.Next (Err e))) b → drops_image e ≡ true → b.image ≡ None
next-refused w actor a b n e s drops = s.has.image ∙ ap (λ (t : Bool). if t then None else a.image) drops

memory-leaves : (e : Refusal) → e ≡ refused.Memory → leaves e ≡ false → ⊥
memory-leaves e same mild = false≢true (sym mild ∙ ap leaves same)

broken-image : (w : History) (actor : ℕ) (a b : Own) (why : Refusal) (events : List Event) → Continues events (Err why) → leaves why ≡ false → Fits w actor a events b → b.image ≡ None
broken-image w actor a b why events (zs, (xs, ys, cut, more, inl (w0, same, inl it))) mild f =
    let e : Event = event it.0 (Image image.Next (Err w0)) in
    let parts = fits-cut w actor a b xs ys (subst (λ (es : List Event). Fits w actor a es b) cut f) in
    let s : Step w actor parts.0 e b = fits-one w actor parts.0 b e (subst (λ (es : List Event). Fits w actor parts.0 es b) it.1 parts.2) in
    next-refused w actor parts.0 b it.0 w0 s (dropped w0 why same mild)
broken-image w actor a b why events (zs, (xs, ys, cut, more, inl (w0, same, inr m))) mild f =
    absurd (memory-leaves why (same ∙ ap unwritten (some-memory w0 (Image image.Next (Err w0)) refl m.0)) mild)
broken-image w actor a b why events (zs, (xs, ys, cut, more, inr (inl (file, seq, same, m)))) mild f = absurd (memory-leaves why same mild)
broken-image w actor a b why events (zs, (xs, ys, cut, more, inr (inr h))) mild f = absurd (memory-leaves why h.1 mild)

-- what may leave an image isn't a fault of the backup's file, and is answered as it is
given-up-mild : (file : ℕ) (why e : Refusal) (events : List Event) → GivesUp (begun_file file why) why events e → leaves e ≡ false → leaves why ≡ false
given-up-mild file why e events gives ends = elim (leaves why) as (λ t. leaves why ≡ t → t ≡ false) [
  | true ↦ λ stays. absurd (
      let other : (number_of why == 25) ≡ false = (elim (number_of why == 25) as (λ t. (number_of why == 25) ≡ t → t ≡ false) [
        | true ↦ λ same. absurd (not-both (40 ∷ 41 ∷ 50 ∷ []) (25 ∷ []) why refl stays (subst (λ (k : ℕ). (25 == k || false) ≡ true) (sym (eqb-true (number_of why) 25 same)) refl))
        | false ↦ λ _. refl
      ] refl) in
      let h : GivesUp None why events e = subst (λ (o : Option ℕ). GivesUp o why events e) (ap (λ (t : Bool). if t then Some file else None) other) gives in
      false≢true (sym ends ∙ ap leaves h.1 ∙ stays))
  | false ↦ λ _. refl
] refl

completes-none : (w : History) (actor : ℕ) (a b : Own) (t : Taken) (events : List Event) (result : Result Taken Refusal) → Fits w actor a events b → Completes t events result → may_leave result ≡ false → b.image ≡ None
completes-none w actor a b t events (Ok done) f (is, seq, last, (xs, ys, cut, continues, forced)) ends =
    let parts = fits-cut w actor a b xs ys (subst (λ (es : List Event). Fits w actor a es b) cut f) in
    quiet-image w actor parts.0 b ys (made-all Quiet (Force (Ok last)) ys forced (λ n. refl)) parts.2 ∙ done-image w actor a parts.0 seq xs continues parts.1
completes-none w actor a b t events (Err e) f (inl (why, (xs, ys, cut, broken, gives))) ends =
    let parts = fits-cut w actor a b xs ys (subst (λ (es : List Event). Fits w actor a es b) cut f) in
    quiet-image w actor parts.0 b ys (gives-quiet (begun_file t.file why) why e ys gives) parts.2
    ∙ broken-image w actor a parts.0 why xs broken (given-up-mild t.file why e ys gives ends) parts.1
completes-none w actor a b t events (Err e) f (inr (seq, why, is, (xs, ys, cut, continues, forced))) ends =
    let parts = fits-cut w actor a b xs ys (subst (λ (es : List Event). Fits w actor a es b) cut f) in
    quiet-image w actor parts.0 b ys (made-all Quiet (Force (Err why)) ys forced (λ n. refl)) parts.2 ∙ done-image w actor a parts.0 seq xs continues parts.1

pub none-left : (w : History) (actor : ℕ) (old new : Own) (after : Option ℕ) (events : List Event) (result : Result Taken Refusal) → Fits w actor old events new → old.image ≡ None → Backs (kind_of after) events result
    → may_leave result ≡ false → new.image ≡ None
none-left w actor old new after events result f none (inl (e, starts, is)) ends =
    starts-none w actor old new after events e f none starts (subst (λ (r : Result Taken Refusal). may_leave r ≡ false) is ends)
none-left w actor old new after events result f none (inr (t, (xs, ys, cut, opens, completes))) ends =
    let parts = fits-cut w actor old new xs ys (subst (λ (es : List Event). Fits w actor old es new) cut f) in
    completes-none w actor parts.0 new t ys result parts.2 completes ends
