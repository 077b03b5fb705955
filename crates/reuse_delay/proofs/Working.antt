-- What the parts of the process did, one after the other.
use Rattle.std.proofs.Common.{◌≡◌, ◌⊎◌, inl, inr, ℕ, suc, ◌+◌, ◌<◌, ◌≤◌, get_or, Bool, true, false, List, [], ◌∷◌, ◌++◌, append_assoc, length, drop, Option, None, Some, Result, Ok, Err, refl, sym, ap, subst, ◌∙◌, arith, if◌then◌else◌}
use Rattle.std.proofs.Math.Seq.{drop-cons}
use Rattle.std.proofs.lemmas.Grind.{flat_map-append}
use Rattle.std.proofs.lemmas.List.{append-nil, drop_all, length-append}
use Rattle.std.proofs.lemmas.List.Elements.{filter-append}
use Rattle.kinds.specs.declared.refusal.Holder.{Holder}
use Rattle.kinds.specs.declared.refusal.Holder.TheVariants as holder
use Rattle.kinds.specs.declared.refusal.Refusal.{Refusal}
use Rattle.kinds.specs.declared.refusal.Refusal.TheVariants as refused
use Rattle.inventory_answers.specs.declared.query.Query.{Query}
use Rattle.inventory_answers.specs.declared.query.Query.TheVariants as query
use Rattle.inventory_answers.specs.declared.reply.Answer.{Answer}
use Rattle.inventory_answers.specs.declared.reply.Rows.TheVariants as rows
use Rattle.steps.proofs.Joining.{GoesOn, call_then, does_alone, does_made, so_call}
use Rattle.steps.specs.Calls.{Call, Does, IsStep, Made, Then, Waits, forced}
use Rattle.steps.specs.Events.{Deed, Event, event, refusal, refusal_in}
use Rattle.steps.specs.Events.Deed.{Ask, Force, Reuse}
use Rattle.steps.specs.Receipts.{is_made, is_receipt, made, receipts}
use Rattle.copy_attempts.proofs.Facts.{all-append, some-memory}
use Rattle.copy_attempts.specs.Attempts.{Awaits, is_stopping, stopping}
use Rattle.copy_attempts.specs.Outcomes.{Met}
use Rattle.copy_runs.proofs.Ending.{ask-nothing, stopped-behind}
use Rattle.copy_runs.specs.Ends.{AreAsking, AsksToday, IsStopped}
use Rattle.copy_runs.specs.Wanting.{IsIn}
use Rattle.reuse_delay.proofs.Rows.{all-reused}
use Rattle.reuse_delay.specs.declared.tried.Tried.{Tried}
use Rattle.reuse_delay.specs.declared.tried.Tried.TheVariants as came
use Rattle.reuse_delay.specs.Reusing.{AreReusing, Breaks, Came, Handles, IsInOrder, IsReusing, IsTold, Listed, Lists, Reused, Tries, VolumeReuse, Worked, Works, file_by, holder_of, held_or_passed, is_passed, is_unforced, outcome, passed_as, refused_as, reused, reused_files}

-- ---- refusals, questions and waits

stopped-by : (events : List Event) (e : Refusal) → (e ≡ refused.Memory) ⊎ Met e events → IsStopped events (stopping e)
stopped-by events e (inl h) = inl (ap stopping h)
stopped-by events e (inr h) = elim (is_stopping e) as (λ b. is_stopping e ≡ b → IsStopped events (if b then e else refused.Memory)) [
  | true ↦ λ t. inr (t, h)
  | false ↦ λ t. inl refl
] refl

awaited : {S : Type 0} (did : S → List Event → S → Type 0) (p q : S) (h : Holder) (answer : Result (Unit {0}) Refusal) → Waits did p q h answer → Call did p q (λ events. Awaits h events answer)
awaited did p q (holder.Unforced number) answer w =
    so_call did (λ events. Made (Force w.0) events) (λ events. Awaits (holder.Unforced number) events answer) p q (does_made did p q (Force w.0) w.2) (λ xs f. (w.0, w.1, f))
awaited did p q (holder.Ticket number) answer w = ([], w.0, (refl, w.1))
awaited did p q (holder.Image actor) answer w = ([], w.0, (refl, w.1))

asking-one : (n : ℕ) (q : Query) (answer : Result Answer Refusal) → AreAsking (event n (Ask q answer) ∷ [])
asking-one n q answer = ((q, answer, refl), tt)

-- ---- volumes that were tried

works-then : (due : Bool) (files mid left : List ℕ) (xs ys : List Event) → Works due files mid xs → Works false mid left ys → Works due files left (xs ++ ys)
works-then due files mid left [] ys f g = subst (λ (b : Bool). Works b files left ys) (sym f.0) (subst (λ (ls : List ℕ). Works false ls left ys) f.1 g)
works-then true files mid left (x ∷ xs) ys f g = (f.0, works-then false files mid left xs ys f.1 g)
works-then false [] mid left (x ∷ xs) ys f g = absurd f
works-then false (file ∷ files) mid left (x ∷ xs) ys (inl f) g = inl (f.0, works-then false files mid left xs ys f.1 g)
works-then false (file ∷ files) mid left (x ∷ xs) ys (inr (inl f)) g = inr (inl (f.0, works-then false files mid left xs ys f.1 g))
works-then false (file ∷ files) mid left (x ∷ xs) ys (inr (inr f)) g = inr (inr (f.0, f.1, works-then (is_unforced f.0) (file ∷ files) mid left xs ys f.2 g))

-- with more volumes behind them
works-before : (due : Bool) (files left more : List ℕ) (xs : List Event) → Works due files left xs → Works due (files ++ more) (left ++ more) xs
works-before due files left more [] f = (f.0, ap (λ (ls : List ℕ). ls ++ more) f.1)
works-before true files left more (x ∷ xs) f = (f.0, works-before false files left more xs f.1)
works-before false [] left more (x ∷ xs) f = absurd f
works-before false (file ∷ files) left more (x ∷ xs) (inl f) = inl (f.0, works-before false files left more xs f.1)
works-before false (file ∷ files) left more (x ∷ xs) (inr (inl f)) = inr (inl (f.0, works-before false files left more xs f.1))
works-before false (file ∷ files) left more (x ∷ xs) (inr (inr f)) = inr (inr (f.0, f.1, works-before (is_unforced f.0) (file ∷ files) left more xs f.2))

-- these volumes alone are reused, and no step is of another kind
force-reusing : (files : List ℕ) (n : ℕ) (answer : Result ℕ Refusal) → IsReusing files (Force answer)
force-reusing files n answer = inl (inr (answer, refl))

reuse-reusing : (files : List ℕ) (file : ℕ) (answer : Result ℕ Refusal) → IsIn file files → IsReusing files (Reuse file answer)
reuse-reusing files file answer m = inr (file, answer, m, refl)

reuse-event : (files : List ℕ) (file n : ℕ) (answer : Result ℕ Refusal) (e : Event) → IsIn file files → e ≡ event n (Reuse file answer) → IsReusing files e.deed
reuse-event files file n answer e m is = subst (λ (x : Event). IsReusing files x.deed) (sym is) (reuse-reusing files file answer m)

works-only : (files : List ℕ) (due : Bool) (those left : List ℕ) (xs : List Event) → ((file : ℕ) → IsIn file those → IsIn file files) → Works due those left xs → AreReusing files xs
works-only files due those left [] within f = tt
works-only files true those left (x ∷ xs) within f =
    (subst (λ (e : Event). IsReusing files e.deed) (sym f.0.2) (force-reusing files f.0.0 (Ok f.0.1)), works-only files false those left xs within f.1)
works-only files false [] left (x ∷ xs) within f = absurd f
works-only files false (file ∷ those) left (x ∷ xs) within (inl f) =
    (reuse-event files file f.0.0 (Ok f.0.1) x (within file (inl refl)) f.0.2, works-only files false those left xs (λ k m. within k (inr m)) f.1)
works-only files false (file ∷ those) left (x ∷ xs) within (inr (inl f)) =
    (reuse-event files file f.0.0 (Err f.0.1) x (within file (inl refl)) f.0.3, works-only files false those left xs (λ k m. within k (inr m)) f.1)
works-only files false (file ∷ those) left (x ∷ xs) within (inr (inr f)) =
    (reuse-event files file f.1.0 (Err (refused.Busy f.0)) x (within file (inl refl)) f.1.1, works-only files (is_unforced f.0) (file ∷ those) left xs within f.2)

reused-append : (xs ys : List Event) → reused (made (xs ++ ys)) ≡ reused (made xs) + reused (made ys)
reused-append xs ys =
    ap reused (filter-append (λ e. is_made e.deed) xs ys) ∙ ap length (flat_map-append (λ e. file_by e.deed) (made xs) (made ys)) ∙ length-append (reused_files (made xs)) (reused_files (made ys))

worked-then : (files mid left : List ℕ) (xs ys : List Event) (a b : ℕ) → Worked files mid xs a → Worked mid left ys b → Worked files left (xs ++ ys) (a + b)
worked-then files mid left xs ys a b f g = record {
  each = works-then false files mid left xs ys f.each g.each;
  count = reused-append xs ys ∙ ap (λ n. n + reused (made ys)) f.count ∙ ap (λ n. a + n) g.count;
}

worked-before : (files left more : List ℕ) (xs : List Event) (a : ℕ) → Worked files left xs a → Worked (files ++ more) (left ++ more) xs a
worked-before files left more xs a f = record { each = works-before false files left more xs f.each; count = f.count }

same-files : (files : List ℕ) (file : ℕ) → IsIn file files → IsIn file files
same-files files file m = m

worked-only : (files left : List ℕ) (xs : List Event) (a : ℕ) → Worked files left xs a → AreReusing files xs
worked-only files left xs a f = works-only files false files left xs (same-files files) f.each

only-append : (files : List ℕ) (xs ys : List Event) → AreReusing files xs → AreReusing files ys → AreReusing files (xs ++ ys)
only-append files xs ys a b = all-append (λ e. IsReusing files e.deed) xs ys a b

breaks-behind : (files : List ℕ) (xs ys : List Event) (e : Refusal) → AreReusing files xs → Breaks files ys e → Breaks files (xs ++ ys) e
breaks-behind files xs ys e a h = record { cause = stopped-behind xs ys e h.cause; only = only-append files xs ys a h.only }

-- ---- one try

-- a step that was made is one event
one-made : (d : Deed) (events : List Event) → Made d events → (refusal d ≡ Some refused.Memory → ⊥) → (n : ℕ) × (events ≡ event n d ∷ [])
one-made d events (inl h) not = (h.0, h.1)
one-made d events (inr h) not = absurd (not h.0)

passed-err : (e f : Refusal) (t : Tried) → passed_as e ≡ Ok t → (t ≡ came.Passed) × (is_passed e ≡ true)
passed-err e f t h =
    elim (is_passed e) as (λ b. (if b then Ok came.Passed else Err (stopping e)) ≡ Ok t → (t ≡ came.Passed) × (b ≡ true)) [
      | true ↦ λ s. (let same : came.Passed ≡ t = cc in sym same, refl)
      | false ↦ λ s. absurd (let never : Err (stopping e) ≡ Ok t = s in cc)
    ] h

passed-ends : (e f : Refusal) → passed_as e ≡ Err f → f ≡ stopping e
passed-ends e f h =
    elim (is_passed e) as (λ b. (if b then Ok came.Passed else Err (stopping e)) ≡ Err f → f ≡ stopping e) [
      | true ↦ λ s. absurd (let never : Ok came.Passed ≡ Err f = s in cc)
      | false ↦ λ s. (let same : stopping e ≡ f = cc in sym same)
    ] h

-- who is named as the holder holds it
holder-is : (e : Refusal) (h : Holder) → holder_of e ≡ Some h → e ≡ refused.Busy h
holder-is (refused.Syntax at) h s = absurd cc
holder-is (refused.UnknownWord at) h s = absurd cc
holder-is (refused.Ambiguous at) h s = absurd cc
holder-is (refused.BadValue at) h s = absurd cc
holder-is refused.NotFound h s = absurd cc
holder-is refused.Exists h s = absurd cc
holder-is (refused.InUse by) h s = absurd cc
holder-is refused.NoDefaultClass h s = absurd cc
holder-is refused.BadHierarchy h s = absurd cc
holder-is (refused.DayBack today given) h s = absurd cc
holder-is refused.NoBackupGroup h s = absurd cc
holder-is refused.NoArchiveGroup h s = absurd cc
holder-is (refused.NoSpace pool) h s = absurd cc
holder-is (refused.Busy other) h s = let same : other ≡ h = cc in ap refused.Busy same
holder-is (refused.Stale seq) h s = absurd cc
holder-is (refused.Gone seq) h s = absurd cc
holder-is refused.Unavailable h s = absurd cc
holder-is (refused.WriteFault file) h s = absurd cc
holder-is refused.TreeFault h s = absurd cc
holder-is (refused.Changed listed read) h s = absurd cc
holder-is (refused.DigestDiffers kept given) h s = absurd cc
holder-is refused.TooLarge h s = absurd cc
holder-is refused.RecordFull h s = absurd cc
holder-is refused.InventoryFull h s = absurd cc
holder-is (refused.NotYet file day) h s = absurd cc
holder-is (refused.LogFault file count) h s = absurd cc
holder-is refused.RunFull h s = absurd cc
holder-is refused.Memory h s = absurd cc

-- what a refusal came to, by the holder that it names
held-not-reused : (e : Refusal) (o : Option Holder) → held_or_passed e o ≡ Ok came.Reused → ⊥
held-not-reused e (Some h) s = cc
held-not-reused e None s = let r = passed-err e e came.Reused s in let never : came.Reused ≡ came.Passed = r.0 in cc

held-passed : (e : Refusal) (o : Option Holder) → held_or_passed e o ≡ Ok came.Passed → is_passed e ≡ true
held-passed e (Some h) s = absurd cc
held-passed e None s = (passed-err e e came.Passed s).1

held-by : (e : Refusal) (o : Option Holder) (h : Holder) → held_or_passed e o ≡ Ok (came.Held h) → o ≡ Some h
held-by e (Some k) h s = let same : k ≡ h = cc in ap Some same
held-by e None h s = absurd (let r = passed-err e e (came.Held h) s in let never : came.Held h ≡ came.Passed = r.0 in cc)

held-ends : (e f : Refusal) (o : Option Holder) → held_or_passed e o ≡ Err f → f ≡ stopping e
held-ends e f (Some h) s = absurd cc
held-ends e f None s = passed-ends e f s

-- what was answered
was-reused : (answer : Result ℕ Refusal) → outcome answer ≡ Ok came.Reused → (number : ℕ) × (answer ≡ Ok number)
was-reused (Ok number) h = (number, refl)
was-reused (Err e) h = absurd (held-not-reused e (holder_of e) h)

was-passed : (answer : Result ℕ Refusal) → outcome answer ≡ Ok came.Passed → (e : Refusal) × (answer ≡ Err e) × (is_passed e ≡ true)
was-passed (Ok number) h = absurd cc
was-passed (Err e) h = (e, refl, held-passed e (holder_of e) h)

was-held : (answer : Result ℕ Refusal) (k : Holder) → outcome answer ≡ Ok (came.Held k) → answer ≡ Err (refused.Busy k)
was-held (Ok number) k h = absurd cc
was-held (Err e) k h = ap Err (holder-is e k (held-by e (holder_of e) k h))

was-ended : (answer : Result ℕ Refusal) (f : Refusal) → outcome answer ≡ Err f → (e : Refusal) × (answer ≡ Err e) × (f ≡ stopping e)
was-ended (Ok number) f h = absurd cc
was-ended (Err e) f h = (e, refl, held-ends e f (holder_of e) h)

-- a passed refusal isn't want of memory
passed-made : (file : ℕ) (e : Refusal) → is_passed e ≡ true → refusal (Reuse file (Err e)) ≡ Some refused.Memory → ⊥
passed-made file e p h = let same : e ≡ refused.Memory = cc in let never : is_passed refused.Memory ≡ true = subst (λ (x : Refusal). is_passed x ≡ true) same p in cc

tried-reused : (file : ℕ) (events : List Event) → Tries file events (Ok came.Reused) → Worked (file ∷ []) [] events 1
tried-reused file events t =
    let a = was-reused t.0 (sym t.2) in
    let m : Made (Reuse file (Ok a.0)) events = subst (λ (r : Result ℕ Refusal). Made (Reuse file r) events) a.1 t.1 in
    let one = one-made (Reuse file (Ok a.0)) events m (λ h. cc) in
    subst (λ (es : List Event). Worked (file ∷ []) [] es 1) (sym one.1) (record { each = inl ((one.0, a.0, refl), (refl, refl)); count = refl })

tried-passed : (file : ℕ) (events : List Event) → Tries file events (Ok came.Passed) → Worked (file ∷ []) [] events 0
tried-passed file events t =
    let a = was-passed t.0 (sym t.2) in
    let m : Made (Reuse file (Err a.0)) events = subst (λ (r : Result ℕ Refusal). Made (Reuse file r) events) a.1 t.1 in
    let one = one-made (Reuse file (Err a.0)) events m (passed-made file a.0 a.2) in
    subst (λ (es : List Event). Worked (file ∷ []) [] es 0) (sym one.1) (record { each = inr (inl ((one.0, a.0, a.2, refl), (refl, refl))); count = refl })

-- the refused try for which something was held
held-event : (file : ℕ) (events : List Event) (h : Holder) → Tries file events (Ok (came.Held h)) → (n : ℕ) × (events ≡ event n (Reuse file (Err (refused.Busy h))) ∷ [])
held-event file events h t =
    one-made (Reuse file (Err (refused.Busy h))) events (subst (λ (r : Result ℕ Refusal). Made (Reuse file r) events) (was-held t.0 h (sym t.2)) t.1) (λ m. cc)

made-met : (d : Deed) (e : Refusal) (events : List Event) → Made d events → refusal d ≡ Some e → (e ≡ refused.Memory) ⊎ Met e events
made-met d e events (inl h) is = inr (subst (λ (es : List Event). Met e es) (sym h.1) (inl is))
made-met d e events (inr h) is = inl (some-memory e d is h.0)

made-only : (files : List ℕ) (d : Deed) (events : List Event) → Made d events → IsReusing files d → AreReusing files events
made-only files d events (inl h) r = subst (AreReusing files) (sym h.1) (r, tt)
made-only files d events (inr h) r = subst (AreReusing files) (sym h.1) tt

tried-ended : (file : ℕ) (events : List Event) (f : Refusal) → Tries file events (Err f) → Breaks (file ∷ []) events f
tried-ended file events f t =
    let a = was-ended t.0 f (sym t.2) in
    let m : Made (Reuse file (Err a.0)) events = subst (λ (r : Result ℕ Refusal). Made (Reuse file r) events) a.1 t.1 in
    record {
      cause = subst (IsStopped events) (sym a.2) (stopped-by events a.0 (made-met (Reuse file (Err a.0)) a.0 events m refl));
      only = made-only (file ∷ []) (Reuse file (Err a.0)) events m (reuse-reusing (file ∷ []) file (Err a.0) (inl refl));
    }

-- ---- waiting

forced-ok : (answer : Result ℕ Refusal) → Ok tt ≡ forced answer → (number : ℕ) × (answer ≡ Ok number)
forced-ok (Ok number) h = (number, refl)
forced-ok (Err e) h = absurd (let never : Ok tt ≡ Err e = h in cc)

forced-err : (answer : Result ℕ Refusal) (e : Refusal) → Err e ≡ forced answer → answer ≡ Err e
forced-err (Ok number) e h = absurd (let never : Err e ≡ Ok tt = h in cc)
forced-err (Err f) e h = let same : e ≡ f = cc in ap Err (sym same)

-- the wait is over, and the volume is to be tried again
wait-over : (file n : ℕ) (h : Holder) (ys : List Event) → Awaits h ys (Ok tt) → Worked (file ∷ []) (file ∷ []) (event n (Reuse file (Err (refused.Busy h))) ∷ ys) 0
wait-over file n (holder.Unforced number) ys w =
    let a = forced-ok w.0 w.1 in
    let one = one-made (Force (Ok a.0)) ys (subst (λ (r : Result ℕ Refusal). Made (Force r) ys) a.1 w.2) (λ m. cc) in
    subst (λ (es : List Event). Worked (file ∷ []) (file ∷ []) (event n (Reuse file (Err (refused.Busy (holder.Unforced number)))) ∷ es) 0) (sym one.1)
    (record { each = inr (inr (holder.Unforced number, (n, refl), ((one.0, a.0, refl), (refl, refl)))); count = refl })
wait-over file n (holder.Ticket number) ys w =
    subst (λ (es : List Event). Worked (file ∷ []) (file ∷ []) (event n (Reuse file (Err (refused.Busy (holder.Ticket number)))) ∷ es) 0) (sym w.0)
    (record { each = inr (inr (holder.Ticket number, (n, refl), (refl, refl))); count = refl })
wait-over file n (holder.Image actor) ys w =
    subst (λ (es : List Event). Worked (file ∷ []) (file ∷ []) (event n (Reuse file (Err (refused.Busy (holder.Image actor)))) ∷ es) 0) (sym w.0)
    (record { each = inr (inr (holder.Image actor, (n, refl), (refl, refl))); count = refl })

abbrev Is : (a b : Result (Unit {0}) Refusal) → Type 0
Is a b = a ≡ b

-- a wait for another than a transaction is refused as the step was, or for want of memory
not-waited : (h : Holder) (e : Refusal) → Is (Err e) (Ok tt) ⊎ (Is (Err e) (Err (refused.Busy h)) ⊎ Is (Err e) (Err refused.Memory)) → (e ≡ refused.Memory) ⊎ (Some (refused.Busy h) ≡ Some e)
not-waited h e (inl s) = absurd (let never : Is (Err e) (Ok tt) = s in cc)
not-waited h e (inr (inl s)) = let same : e ≡ refused.Busy h = cc in inr (ap Some (sym same))
not-waited h e (inr (inr s)) = let same : e ≡ refused.Memory = cc in inl same

met-first : (x : Event) (ys : List Event) (e : Refusal) → (e ≡ refused.Memory) ⊎ (refusal x.deed ≡ Some e) → (e ≡ refused.Memory) ⊎ Met e (x ∷ ys)
met-first x ys e (inl h) = inl h
met-first x ys e (inr h) = inr (inl h)

met-later : (x : Event) (ys : List Event) (e : Refusal) → (e ≡ refused.Memory) ⊎ Met e ys → (e ≡ refused.Memory) ⊎ Met e (x ∷ ys)
met-later x ys e (inl h) = inl h
met-later x ys e (inr h) = inr (inr h)

wait-met : (file n : ℕ) (h : Holder) (ys : List Event) (e : Refusal) → Awaits h ys (Err e) → (e ≡ refused.Memory) ⊎ Met e (event n (Reuse file (Err (refused.Busy h))) ∷ ys)
wait-met file n (holder.Unforced number) ys e w =
    let m : Made (Force (Err e)) ys = subst (λ (r : Result ℕ Refusal). Made (Force r) ys) (forced-err w.0 e w.1) w.2 in
    met-later (event n (Reuse file (Err (refused.Busy (holder.Unforced number))))) ys e (made-met (Force (Err e)) e ys m refl)
wait-met file n (holder.Ticket number) ys e w = met-first (event n (Reuse file (Err (refused.Busy (holder.Ticket number))))) ys e (not-waited (holder.Ticket number) e w.1)
wait-met file n (holder.Image actor) ys e w = met-first (event n (Reuse file (Err (refused.Busy (holder.Image actor))))) ys e (not-waited (holder.Image actor) e w.1)

wait-only : (files : List ℕ) (h : Holder) (ys : List Event) (e : Refusal) → Awaits h ys (Err e) → AreReusing files ys
wait-only files (holder.Unforced number) ys e w = made-only files (Force w.0) ys w.2 (inl (inr (w.0, refl)))
wait-only files (holder.Ticket number) ys e w = subst (AreReusing files) (sym w.0) tt
wait-only files (holder.Image actor) ys e w = subst (AreReusing files) (sym w.0) tt

wait-broken : (file n : ℕ) (h : Holder) (ys : List Event) (e : Refusal) → Awaits h ys (Err e) → Breaks (file ∷ []) (event n (Reuse file (Err (refused.Busy h))) ∷ ys) (stopping e)
wait-broken file n h ys e w = record {
  cause = stopped-by (event n (Reuse file (Err (refused.Busy h))) ∷ ys) e (wait-met file n h ys e w);
  only = (reuse-reusing (file ∷ []) file (Err (refused.Busy h)) (inl refl), wait-only (file ∷ []) h ys e w);
}

-- ---- one volume

pub works-none : {S : Type 0} (did : S → List Event → S → Type 0) (p : S) (files : List ℕ) → did p [] p → Call did p p (λ events. Worked files files events 0)
works-none did p files stays = ([], stays, record { each = (refl, refl); count = refl })

abbrev Waited : ℕ → List Event → Type 0
Waited file events = Worked (file ∷ []) (file ∷ []) events 0

pub waits-more : {S : Type 0} (did : S → List Event → S → Type 0) → GoesOn did → (o p q r : S) (file : ℕ) (t : Tried) (h : Holder) → t ≡ came.Held h
    → Call did o p (λ events. Worked (file ∷ []) (file ∷ []) events 0) → Call did p q (λ events. Tries file events (Ok t)) → Waits did q r h (Ok tt)
    → Call did o r (λ events. Worked (file ∷ []) (file ∷ []) events 0)
waits-more did goes o p q r file t h is a b w =
    call_then did goes (Waited file) (Waited file) (Waited file) o p r a
    (call_then did goes (λ events. Tries file events (Ok (came.Held h))) (λ events. Awaits h events (Ok tt)) (Waited file) p q r
    (subst (λ (u : Tried). Call did p q (λ events. Tries file events (Ok u))) is b) (awaited did q r h (Ok tt) w)
    (λ xs ys f g. let e = held-event file xs h f in subst (λ (es : List Event). Waited file (es ++ ys)) (sym e.1) (wait-over file e.0 h ys g)))
    (λ xs ys f g. worked-then (file ∷ []) (file ∷ []) (file ∷ []) xs ys 0 0 f g)

pub one-reused : {S : Type 0} (did : S → List Event → S → Type 0) → GoesOn did → (o p q : S) (file : ℕ) (t : Tried) → t ≡ came.Reused
    → Call did o p (λ events. Worked (file ∷ []) (file ∷ []) events 0) → Call did p q (λ events. Tries file events (Ok t)) → Call did o q (λ events. Handles (file ∷ []) events (Ok 1))
one-reused did goes o p q file t is a b =
    call_then did goes (Waited file) (λ events. Tries file events (Ok came.Reused)) (λ events. Handles (file ∷ []) events (Ok 1)) o p q a
    (subst (λ (u : Tried). Call did p q (λ events. Tries file events (Ok u))) is b)
    (λ xs ys f g. worked-then (file ∷ []) (file ∷ []) [] xs ys 0 1 f (tried-reused file ys g))

pub one-passed : {S : Type 0} (did : S → List Event → S → Type 0) → GoesOn did → (o p q : S) (file : ℕ) (t : Tried) → t ≡ came.Passed
    → Call did o p (λ events. Worked (file ∷ []) (file ∷ []) events 0) → Call did p q (λ events. Tries file events (Ok t)) → Call did o q (λ events. Handles (file ∷ []) events (Ok 0))
one-passed did goes o p q file t is a b =
    call_then did goes (Waited file) (λ events. Tries file events (Ok came.Passed)) (λ events. Handles (file ∷ []) events (Ok 0)) o p q a
    (subst (λ (u : Tried). Call did p q (λ events. Tries file events (Ok u))) is b)
    (λ xs ys f g. worked-then (file ∷ []) (file ∷ []) [] xs ys 0 0 f (tried-passed file ys g))

pub one-ended : {S : Type 0} (did : S → List Event → S → Type 0) → GoesOn did → (o p q : S) (file : ℕ) (e : Refusal)
    → Call did o p (λ events. Worked (file ∷ []) (file ∷ []) events 0) → Call did p q (λ events. Tries file events (Err e)) → Call did o q (λ events. Handles (file ∷ []) events (Err e))
one-ended did goes o p q file e a b =
    call_then did goes (Waited file) (λ events. Tries file events (Err e)) (λ events. Handles (file ∷ []) events (Err e)) o p q a b
    (λ xs ys f g. breaks-behind (file ∷ []) xs ys e (worked-only (file ∷ []) (file ∷ []) xs 0 f) (tried-ended file ys e g))

-- the wait was refused
pub one-unwaited : {S : Type 0} (did : S → List Event → S → Type 0) → GoesOn did → (o p q r : S) (file : ℕ) (t : Tried) (h : Holder) (e other : Refusal) → t ≡ came.Held h → other ≡ stopping e
    → Call did o p (λ events. Worked (file ∷ []) (file ∷ []) events 0) → Call did p q (λ events. Tries file events (Ok t)) → Waits did q r h (Err e)
    → Call did o r (λ events. Handles (file ∷ []) events (Err other))
one-unwaited did goes o p q r file t h e other is same a b w =
    subst (λ (x : Refusal). Call did o r (λ events. Handles (file ∷ []) events (Err x))) (sym same)
    (call_then did goes (Waited file) (λ events. Breaks (file ∷ []) events (stopping e)) (λ events. Handles (file ∷ []) events (Err (stopping e))) o p r a
    (call_then did goes (λ events. Tries file events (Ok (came.Held h))) (λ events. Awaits h events (Err e)) (λ events. Breaks (file ∷ []) events (stopping e)) p q r
    (subst (λ (u : Tried). Call did p q (λ events. Tries file events (Ok u))) is b) (awaited did q r h (Err e) w)
    (λ xs ys f g. let x = held-event file xs h f in subst (λ (es : List Event). Breaks (file ∷ []) (es ++ ys) (stopping e)) (sym x.1) (wait-broken file x.0 h ys e g)))
    (λ xs ys f g. breaks-behind (file ∷ []) xs ys (stopping e) (worked-only (file ∷ []) (file ∷ []) xs 0 f) g))

-- it was waited as often as a number counts
pub one-given-up : {S : Type 0} (did : S → List Event → S → Type 0) (o p : S) (file : ℕ)
    → Call did o p (λ events. Worked (file ∷ []) (file ∷ []) events 0) → Call did o p (λ events. Handles (file ∷ []) events (Err refused.Memory))
one-given-up did o p file a =
    so_call did (Waited file) (λ events. Handles (file ∷ []) events (Err refused.Memory)) o p a (λ xs f. record { cause = inl refl; only = worked-only (file ∷ []) (file ∷ []) xs 0 f })

-- ---- several volumes

-- those that come next
next-one : (files : List ℕ) (place file : ℕ) → place < length files → file ≡ get_or files place 0 → drop place files ≡ file ∷ drop (suc place) files
next-one files place file l is = drop-cons files place 0 l ∙ ap (λ (f : ℕ). f ∷ drop (suc place) files) (sym is)

plus-one : (n : ℕ) → suc n ≡ n + 1
plus-one n = omega arith

pub works-next : {S : Type 0} (did : S → List Event → S → Type 0) → GoesOn did → (p q r : S) (files : List ℕ) (place file a b : ℕ) → place < length files → file ≡ get_or files place 0
    → Call did p q (λ events. Worked files (drop place files) events a) → Call did q r (λ events. Handles (file ∷ []) events (Ok b))
    → Call did p r (λ events. Worked files (drop (place + 1) files) events (a + b))
works-next did goes p q r files place file a b l is x y =
    subst (λ (n : ℕ). Call did p r (λ events. Worked files (drop n files) events (a + b))) (plus-one place)
    (call_then did goes (λ events. Worked files (file ∷ drop (suc place) files) events a) (λ events. Handles (file ∷ []) events (Ok b)) (λ events. Worked files (drop (suc place) files) events (a + b)) p q r
    (subst (λ (ls : List ℕ). Call did p q (λ events. Worked files ls events a)) (next-one files place file l is) x) y
    (λ xs ys f g. worked-then files (file ∷ drop (suc place) files) (drop (suc place) files) xs ys a b f (worked-before (file ∷ []) [] (drop (suc place) files) ys b g)))

dropped-in : (file n : ℕ) (files : List ℕ) → IsIn file (drop n files) → IsIn file files
dropped-in file n files m = go n files m where
  go : (k : ℕ) (fs : List ℕ) → IsIn file (drop k fs) → IsIn file fs
  go ℕ.zero fs h = h
  go (suc k) [] h = absurd h
  go (suc k) (f ∷ fs) h = inr (go k fs h)

more-reusing : (files those : List ℕ) (d : Deed) → ((file : ℕ) → IsIn file those → IsIn file files) → IsReusing those d → IsReusing files d
more-reusing files those d within (inl h) = inl h
more-reusing files those d within (inr h) = inr (h.0, h.1, within h.0 h.2, h.3)

more-only : (files those : List ℕ) (events : List Event) → ((file : ℕ) → IsIn file those → IsIn file files) → AreReusing those events → AreReusing files events
more-only files those [] within h = tt
more-only files those (e ∷ events) within h = (more-reusing files those e.deed within h.0, more-only files those events within h.1)

one-in : (files : List ℕ) (place file : ℕ) → place < length files → file ≡ get_or files place 0 → (k : ℕ) → IsIn k (file ∷ []) → IsIn k files
one-in files place file l is k (inl same) = dropped-in k place files (subst (λ (ls : List ℕ). IsIn k ls) (sym (next-one files place file l is)) (inl same))
one-in files place file l is k (inr never) = absurd never

pub works-break : {S : Type 0} (did : S → List Event → S → Type 0) → GoesOn did → (p q r : S) (files : List ℕ) (place file a : ℕ) (e : Refusal) → place < length files → file ≡ get_or files place 0
    → Call did p q (λ events. Worked files (drop place files) events a) → Call did q r (λ events. Handles (file ∷ []) events (Err e)) → Call did p r (λ events. Handles files events (Err e))
works-break did goes p q r files place file a e l is x y =
    call_then did goes (λ events. Worked files (drop place files) events a) (λ events. Breaks (file ∷ []) events e) (λ events. Breaks files events e) p q r x y
    (λ xs ys f g. breaks-behind files xs ys e (worked-only files (drop place files) xs a f)
    (record { cause = g.cause; only = more-only files (file ∷ []) ys (one-in files place file l is) g.only }))

pub works-all : {S : Type 0} (did : S → List Event → S → Type 0) (p q : S) (files : List ℕ) (place a : ℕ) → length files ≤ place → Call did p q (λ events. Worked files (drop place files) events a)
    → Call did p q (λ events. Handles files events (Ok a))
works-all did p q files place a l x = subst (λ (ls : List ℕ). Call did p q (λ events. Worked files ls events a)) (drop_all place files l) x

-- ---- the list

pub lists-answered : {S : Type 0} (did : S → List Event → S → Type 0) (p q : S) (answer : Answer) (result : Result (List ℕ) Refusal)
    → ((files : List ℕ) → result ≡ Ok files → answer.rows ≡ rows.Emptied files) → ((e : Refusal) → result ≡ Err e → e ≡ refused.Memory)
    → Does did p q (Ask query.Emptied (Ok answer)) → Call did p q (λ events. Lists events result)
lists-answered did p q answer (Ok files) good bad d =
    does_alone did (λ events. Lists events (Ok files)) p q (Ask query.Emptied (Ok answer)) d (λ n listed. (n, answer, refl, good files refl)) (λ m. absurd cc)
lists-answered did p q answer (Err e) good bad d = ask-nothing did p q query.Emptied answer e (bad e refl) d

-- ---- the whole

-- a step that asks, forces or reuses is acknowledged where it was made
receipt-is : (files : List ℕ) (d : Deed) (later : List Event) → IsReusing files d → is_receipt d later ≡ is_made d
receipt-is files d later (inl (inl h)) = subst (λ (x : Deed). is_receipt x later ≡ is_made x) (sym h.2) refl
receipt-is files d later (inl (inr h)) = subst (λ (x : Deed). is_receipt x later ≡ is_made x) (sym h.1) refl
receipt-is files d later (inr h) = subst (λ (x : Deed). is_receipt x later ≡ is_made x) (sym h.3) (of h.1) where
  of : (answer : Result ℕ Refusal) → is_receipt (Reuse h.0 answer) later ≡ is_made (Reuse h.0 answer)
  of (Ok number) = refl
  of (Err e) = refl

kept-or : (b : Bool) (e : Event) (events : List Event) → (if b then e ∷ [] else []) ++ events ≡ (if b then e ∷ events else events)
kept-or true e events = refl
kept-or false e events = refl

receipts-made : (files : List ℕ) (events : List Event) → AreReusing files events → receipts events ≡ made events
receipts-made files [] h = refl
receipts-made files (e ∷ events) h =
    ap (λ (b : Bool). (if b then e ∷ [] else []) ++ receipts events) (receipt-is files e.deed events h.0)
    ∙ ap (λ (es : List Event). (if is_made e.deed then e ∷ [] else []) ++ es) (receipts-made files events h.1)
    ∙ kept-or (is_made e.deed) e (made events)

asking-reusing : (files : List ℕ) (events : List Event) → AreAsking events → AreReusing files events
asking-reusing files [] h = tt
asking-reusing files (e ∷ events) h = (inl (inl h.0), asking-reusing files events h.1)

asked-none : (events : List Event) → AreAsking events → reused (made events) ≡ 0
asked-none [] h = refl
asked-none (e ∷ events) h = ap (λ (d : Deed). reused (if is_made d then e ∷ made events else made events)) h.0.2 ∙ asked-none events h.1

today-asks : (events : List Event) (result : Result (Unit {0}) Refusal) → AsksToday events result → AreAsking events
today-asks events (Ok done) h = subst AreAsking (sym h.2) (asking-one h.0 query.Today (Ok h.1))
today-asks events (Err e) h = h.1

listed-asks : (files : List ℕ) (events : List Event) → Listed events files → AreAsking events
listed-asks files events h = subst AreAsking (sym h.2) (asking-one h.0 query.Emptied (Ok h.1))

told-by : (files : List ℕ) (xs ys : List Event) → Listed xs files → IsTold files (xs ++ ys)
told-by files xs ys h = inr (xs, ys, refl, h, tt)

broken : (files : List ℕ) (xs ys : List Event) (e : Refusal) → Listed xs files → Breaks files ys e → VolumeReuse (xs ++ ys) (Err e)
broken files xs ys e f g = record {
  files = files;
  told = told-by files xs ys f;
  came = stopped-behind xs ys e g.cause;
  only = only-append files xs ys (asking-reusing files xs (listed-asks files xs f)) g.only;
}

-- listed, and all tried
abbrev Half : List ℕ → ℕ → List Event → Type 0
Half files count events = Then (λ xs. Listed xs files) (λ ys. Worked files [] ys count) events

half-only : (files : List ℕ) (count : ℕ) (events : List Event) → Half files count events → AreReusing files events
half-only files count events h =
    subst (AreReusing files) (sym h.2) (only-append files h.0 h.1 (asking-reusing files h.0 (listed-asks files h.0 h.3)) (worked-only files [] h.1 count h.4))

half-count : (files : List ℕ) (count : ℕ) (events : List Event) → Half files count events → reused (made events) ≡ count
half-count files count events h =
    ap (λ (es : List Event). reused (made es)) h.2 ∙ reused-append h.0 h.1 ∙ ap (λ n. n + reused (made h.1)) (asked-none h.0 (listed-asks files h.0 h.3)) ∙ zero-plus (reused (made h.1)) ∙ h.4.count where
      zero-plus : (n : ℕ) → 0 + n ≡ n
      zero-plus n = omega arith

half-told : (files : List ℕ) (count : ℕ) (xs ys : List Event) → Half files count xs → IsTold files (xs ++ ys)
half-told files count xs ys h = subst (λ (es : List Event). IsTold files es) (sym (ap (λ (es : List Event). es ++ ys) h.2 ∙ append_assoc h.0 h.1 ys)) (told-by files h.0 (h.1 ++ ys) h.3)

-- a count, or the refusal that came after it
abbrev ended_by : ℕ → Result (Unit {0}) Refusal → Result ℕ Refusal
ended_by count (Ok done) = Ok count
ended_by count (Err e) = Err e

plus-zero : (n : ℕ) → n + 0 ≡ n
plus-zero n = omega arith

finished : (files : List ℕ) (count : ℕ) (xs ys : List Event) (result : Result (Unit {0}) Refusal) → Half files count xs → AsksToday ys result → VolumeReuse (xs ++ ys) (ended_by count result)
finished files count xs ys (Ok done) f g =
    let only : AreReusing files (xs ++ ys) = only-append files xs ys (half-only files count xs f) (asking-reusing files ys (today-asks ys (Ok done) g)) in
    record {
      files = files;
      told = half-told files count xs ys f;
      came = record {
        count = sym (ap reused (receipts-made files (xs ++ ys) only) ∙ reused-append xs ys ∙ ap (λ n. reused (made xs) + n) (asked-none ys (today-asks ys (Ok done) g)) ∙ plus-zero (reused (made xs)) ∙ half-count files count xs f);
        order = (xs, ys, refl, (f.0, f.1, f.2, f.3, f.4.each), g);
        row = all-reused files xs ys (f.0, f.1, f.2, f.3, f.4.each) g;
      };
      only = only;
    }
finished files count xs ys (Err e) f g = record {
  files = files;
  told = half-told files count xs ys f;
  came = stopped-behind xs ys e g.0;
  only = only-append files xs ys (half-only files count xs f) (asking-reusing files ys (today-asks ys (Err e) g));
}

pub list-broke : {S : Type 0} (did : S → List Event → S → Type 0) (p q : S) (e : Refusal) → Call did p q (λ events. Lists events (Err e)) → Call did p q (λ events. VolumeReuse events (Err e))
list-broke did p q e a =
    so_call did (λ events. Lists events (Err e)) (λ events. VolumeReuse events (Err e)) p q a
    (λ xs f. record { files = []; told = inl refl; came = f.0; only = asking-reusing [] xs f.1 })

pub reuse-broke : {S : Type 0} (did : S → List Event → S → Type 0) → GoesOn did → (p q r : S) (files those : List ℕ) (e : Refusal) → those ≡ files
    → Call did p q (λ events. Lists events (Ok files)) → Call did q r (λ events. Handles those events (Err e)) → Call did p r (λ events. VolumeReuse events (Err e))
reuse-broke did goes p q r files those e same a b =
    call_then did goes (λ events. Lists events (Ok files)) (λ events. Breaks files events e) (λ events. VolumeReuse events (Err e)) p q r a
    (subst (λ (fs : List ℕ). Call did q r (λ events. Handles fs events (Err e))) same b)
    (λ xs ys f g. broken files xs ys e f g)

pub all-done : {S : Type 0} (did : S → List Event → S → Type 0) → GoesOn did → (p q r s : S) (files those : List ℕ) (count : ℕ) (result : Result (Unit {0}) Refusal) → those ≡ files
    → Call did p q (λ events. Lists events (Ok files)) → Call did q r (λ events. Handles those events (Ok count)) → Call did r s (λ events. AsksToday events result)
    → Call did p s (λ events. VolumeReuse events (ended_by count result))
all-done did goes p q r s files those count result same a b c =
    call_then did goes (Half files count) (λ events. AsksToday events result) (λ events. VolumeReuse events (ended_by count result)) p r s
    (call_then did goes (λ events. Lists events (Ok files)) (λ events. Worked files [] events count) (Half files count) p q r a
    (subst (λ (fs : List ℕ). Call did q r (λ events. Handles fs events (Ok count))) same b) (λ xs ys f g. (xs, ys, refl, f, g)))
    c (λ xs ys f g. finished files count xs ys result f g)

-- ---- counts

pub few-more : (more count place : ℕ) → count ≤ place → more ≤ 1 → count + more ≤ place + 1
few-more more count place few h = omega arith
