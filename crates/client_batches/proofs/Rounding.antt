-- Rounds, one after the other.
use Rattle.std.proofs.Common.{◌≡◌, inl, inr, ℕ, suc, ◌+◌, ◌-◌, ◌≤◌, false, List, [], ◌++◌, length, take, drop, Option, None, Some, Result, Ok, Err, refl, sym, ap, subst, ◌∙◌, append-nil, length-append, add-one, arith}
use Rattle.std.proofs.lemmas.List.{drop-drop, drop_all, length-drop, take-append-drop, take_all}
use Rattle.kinds.specs.declared.refusal.Holder.{Holder}
use Rattle.kinds.specs.declared.refusal.Holder.TheVariants as holder
use Rattle.kinds.specs.declared.refusal.Refusal.{Refusal}
use Rattle.kinds.specs.declared.refusal.Refusal.TheVariants as refused
use Rattle.client_plan.specs.declared.lines.SendLine.{SendLine}
use Rattle.client_trees.specs.Files.{Files}
use Rattle.inventory_work.specs.declared.lines.Rules.{Rules}
use Rattle.steps.proofs.Joining.{GoesOn, call_then, does_made, so_call, then_call}
use Rattle.steps.specs.declared.asked.Asked.{Asked}
use Rattle.steps.specs.Calls.{Call, Made, Then, Waits}
use Rattle.steps.specs.Events.{Event}
use Rattle.steps.specs.Events.Deed.{Force}
use Rattle.client_batches.specs.declared.batch.Batch.{Batch}
use Rattle.client_batches.specs.Batches.{Batches}
use Rattle.client_batches.specs.Commits.{Commits}
use Rattle.client_batches.specs.Rounds.{Awaits, AwaitsOne, CommitsSome, InRuns, Rounds, SendsAll, SendsOn, SendsSome, unwaited}
use Rattle.client_batches.specs.Verdicts.{verdicts, waiting}

-- ---- waits

awaited : {S : Type 0} (did : S → List Event → S → Type 0) (p q : S) (h : Holder) (answer : Result (Unit {0}) Refusal) → Waits did p q h answer → Call did p q (λ events. Awaits h events answer)
awaited did p q (holder.Unforced number) answer w =
    so_call did (λ events. Made (Force w.0) events) (λ events. Awaits (holder.Unforced number) events answer) p q (does_made did p q (Force w.0) w.2) (λ xs f. (w.0, w.1, f))
awaited did p q (holder.Ticket number) answer w = ([], w.0, (refl, w.1))
awaited did p q (holder.Image actor) answer w = ([], w.0, (refl, w.1))

pub awaits-none : {S : Type 0} (did : S → List Event → S → Type 0) (p : S) → did p [] p → Call did p p (λ events. AwaitsOne None events (Ok tt))
awaits-none did p stays = ([], stays, (refl, refl))

pub awaits-over : {S : Type 0} (did : S → List Event → S → Type 0) (p q : S) (h : Holder) → Waits did p q h (Ok tt) → Call did p q (λ events. AwaitsOne (Some h) events (Ok tt))
awaits-over did p q h w = awaited did p q h (Ok tt) w

pub awaits-refused : {S : Type 0} (did : S → List Event → S → Type 0) (p q : S) (h : Holder) (why e : Refusal) → Waits did p q h (Err why) → e ≡ unwaited why → Call did p q (λ events. AwaitsOne (Some h) events (Err e))
awaits-refused did p q h why e w is = so_call did (λ events. Awaits h events (Err why)) (λ events. AwaitsOne (Some h) events (Err e)) p q (awaited did p q h (Err why) w) (λ xs f. (why, is, f))

-- ---- a round of files

pub on-ended : {S : Type 0} (did : S → List Event → S → Type 0) (p q : S) (rules : Rules) (told : Option Files) (filespace : ℕ) (lines : List SendLine) (old new : List (Option Refusal)) (before after : ℕ) (e : Refusal)
    → Call did p q (λ events. Batches rules told filespace lines before after events (Err e)) → Call did p q (λ events. SendsOn rules told filespace lines old new before after events (Err e))
on-ended did p q rules told filespace lines old new before after e a =
    so_call did (λ events. Batches rules told filespace lines before after events (Err e)) (λ events. SendsOn rules told filespace lines old new before after events (Err e)) p q a (λ xs f. inl f)

pub on-wanting : {S : Type 0} (did : S → List Event → S → Type 0) (p q : S) (rules : Rules) (told : Option Files) (filespace : ℕ) (lines : List SendLine) (old new : List (Option Refusal)) (before after : ℕ) (b : Batch) (e : Refusal)
    → e ≡ refused.Memory → Call did p q (λ events. Batches rules told filespace lines before after events (Ok b))
    → Call did p q (λ events. SendsOn rules told filespace lines old new before after events (Err e))
on-wanting did p q rules told filespace lines old new before after b e is a =
    so_call did (λ events. Batches rules told filespace lines before after events (Ok b)) (λ events. SendsOn rules told filespace lines old new before after events (Err e)) p q a (λ xs f. inr (inl (b, f, is)))

pub on-waited : {S : Type 0} (did : S → List Event → S → Type 0) → GoesOn did → (p q r : S) (rules : Rules) (told : Option Files) (filespace : ℕ) (lines : List SendLine) (old new : List (Option Refusal)) (before after : ℕ) (b : Batch)
    (h : Option Holder) (result : Result (Unit {0}) Refusal) → new ≡ old ++ verdicts false b.came b.sealed b.outs → h ≡ waiting false b.came
    → Call did p q (λ events. Batches rules told filespace lines before after events (Ok b)) → Call did q r (λ events. AwaitsOne h events result)
    → Call did p r (λ events. SendsOn rules told filespace lines old new before after events result)
on-waited did goes p q r rules told filespace lines old new before after b h (Ok done) put is a w =
    so_call did (λ events. Then (λ xs. Batches rules told filespace lines before after xs (Ok b)) (λ ys. AwaitsOne (waiting false b.came) ys (Ok tt)) events)
    (λ events. SendsOn rules told filespace lines old new before after events (Ok tt)) p r
    (then_call did goes (λ events. Batches rules told filespace lines before after events (Ok b)) (λ events. AwaitsOne (waiting false b.came) events (Ok tt)) p q r a
    (subst (λ (o : Option Holder). Call did q r (λ events. AwaitsOne o events (Ok tt))) is w)) (λ xs f. (verdicts false b.came b.sealed b.outs, put, (b, refl, refl, f)))
on-waited did goes p q r rules told filespace lines old new before after b h (Err e) put is a w =
    so_call did (λ events. Then (λ xs. Batches rules told filespace lines before after xs (Ok b)) (λ ys. AwaitsOne (waiting false b.came) ys (Err e)) events)
    (λ events. SendsOn rules told filespace lines old new before after events (Err e)) p r
    (then_call did goes (λ events. Batches rules told filespace lines before after events (Ok b)) (λ events. AwaitsOne (waiting false b.came) events (Err e)) p q r a
    (subst (λ (o : Option Holder). Call did q r (λ events. AwaitsOne o events (Err e))) is w)) (λ xs f. inr (inr (b, f)))

-- ---- rounds of files

-- what is left behind some lines and others
left_of : {A B : Type 0} (lines : List A) (old outs new : List B) → new ≡ old ++ outs → drop (length outs) (drop (length old) lines) ≡ drop (length new) lines
left_of lines old outs new put =
    let long : length new ≡ length old + length outs = ap length put ∙ length-append old outs in
    drop-drop (length outs) (length old) lines ∙ ap (λ k. drop k lines) (sym long)

-- what is left from a place on, as a slice
slice_at : {A B : Type 0} (lines : List A) (old : List B) (done : ℕ) → done ≡ length old → take (length lines - done) (drop done lines) ≡ drop (length old) lines
slice_at lines old done is =
    let all : length (drop done lines) ≤ length lines - done = omega (arith, length-drop done lines) in
    take_all (length lines - done) (drop done lines) all ∙ ap (λ k. drop k lines) is

pub rounds-none : {S : Type 0} (did : S → List Event → S → Type 0) (p : S) (rules : Rules) (told : Option Files) (filespace : ℕ) (lines : List SendLine) (count : ℕ) → did p [] p
    → Call did p p (λ events. Rounds (SendsSome rules told filespace) 0 lines lines [] count count events)
rounds-none did p rules told filespace lines count stays = ([], stays, (refl, refl, refl, refl))

next_of : {S : Type 0} (did : S → List Event → S → Type 0) → GoesOn did → (p q r : S) (rules : Rules) (told now : Option Files) (filespace : ℕ) (lines : List SendLine) (number : ℕ) (old new : List (Option Refusal))
    (first before after : ℕ) → now ≡ told → Call did p q (λ events. Rounds (SendsSome rules told filespace) number lines (drop (length old) lines) old first before events)
    → Call did q r (λ events. SendsOn rules now filespace (drop (length old) lines) old new before after events (Ok tt))
    → Call did p r (λ events. Rounds (SendsSome rules told filespace) (number + 1) lines (drop (length new) lines) new first after events)
next_of did goes p q r rules told now filespace lines number old new first before after same a b =
    call_then did goes (λ events. Rounds (SendsSome rules told filespace) number lines (drop (length old) lines) old first before events)
    (λ events. SendsOn rules now filespace (drop (length old) lines) old new before after events (Ok tt))
    (λ events. Rounds (SendsSome rules told filespace) (number + 1) lines (drop (length new) lines) new first after events) p q r a b
    (λ xs ys f h. subst (λ k. Rounds (SendsSome rules told filespace) k lines (drop (length new) lines) new first after (xs ++ ys)) (sym (add-one number)) (
      drop (length old) lines,
      old,
      h.0,
      before,
      h.1,
      (
        xs,
        ys,
        refl,
        f,
        subst (λ (ls : List SendLine). SendsSome rules told filespace (drop (length old) lines) ls h.0 before after ys) (left_of lines old h.0 new h.1)
            (subst (λ (o : Option Files). SendsSome rules o filespace (drop (length old) lines) (drop (length h.0) (drop (length old) lines)) h.0 before after ys) same h.2),
      ),
    ))

pub rounds-next : {S : Type 0} (did : S → List Event → S → Type 0) → GoesOn did → (p q r : S) (rules : Rules) (told now : Option Files) (filespace : ℕ) (lines : List SendLine) (done number : ℕ) (old new : List (Option Refusal))
    (first before after : ℕ) → now ≡ told → done ≡ length old → Call did p q (λ events. Rounds (SendsSome rules told filespace) number lines (drop (length old) lines) old first before events)
    → Call did q r (λ events. SendsOn rules now filespace (take (length lines - done) (drop done lines)) old new before after events (Ok tt))
    → Call did p r (λ events. Rounds (SendsSome rules told filespace) (number + 1) lines (drop (length new) lines) new first after events)
rounds-next did goes p q r rules told now filespace lines done number old new first before after same is a b =
    next_of did goes p q r rules told now filespace lines number old new first before after same a
    (subst (λ (ls : List SendLine). Call did q r (λ events. SendsOn rules now filespace ls old new before after events (Ok tt))) (slice_at lines old done is) b)

pub rounds-all : {S : Type 0} (did : S → List Event → S → Type 0) (p q : S) (rules : Rules) (told : Option Files) (filespace : ℕ) (lines : List SendLine) (done number : ℕ) (outs : List (Option Refusal)) (before after : ℕ)
    → length lines ≤ done → done ≡ length outs → Call did p q (λ events. Rounds (SendsSome rules told filespace) number lines (drop (length outs) lines) outs before after events)
    → Call did p q (λ events. SendsAll rules told filespace lines before after events (Ok outs))
rounds-all did p q rules told filespace lines done number outs before after long is a =
    let all : length lines ≤ length outs = omega (arith, long, is) in
    so_call did (λ events. Rounds (SendsSome rules told filespace) number lines (drop (length outs) lines) outs before after events) (λ events. SendsAll rules told filespace lines before after events (Ok outs)) p q a
    (λ xs f. (number, subst (λ (ls : List SendLine). Rounds (SendsSome rules told filespace) number lines ls outs before after xs) (drop_all (length outs) lines all) f))

pub rounds-used : {S : Type 0} (did : S → List Event → S → Type 0) (p q : S) (rules : Rules) (told : Option Files) (filespace : ℕ) (lines rest : List SendLine) (number : ℕ) (outs : List (Option Refusal)) (before after : ℕ)
    → Call did p q (λ events. Rounds (SendsSome rules told filespace) number lines rest outs before after events) → Call did p q (λ events. SendsAll rules told filespace lines before after events (Err refused.Memory))
rounds-used did p q rules told filespace lines rest number outs before after a =
    so_call did (λ events. Rounds (SendsSome rules told filespace) number lines rest outs before after events) (λ events. SendsAll rules told filespace lines before after events (Err refused.Memory)) p q a
    (λ xs f. (number, rest, outs, after, (xs, [], sym (append-nil xs), f, inl (refl, refl, refl))))

stopped_of : {S : Type 0} (did : S → List Event → S → Type 0) → GoesOn did → (p q r : S) (rules : Rules) (told now : Option Files) (filespace : ℕ) (lines : List SendLine) (number : ℕ) (old new : List (Option Refusal))
    (first before after : ℕ) (e : Refusal) → now ≡ told → Call did p q (λ events. Rounds (SendsSome rules told filespace) number lines (drop (length old) lines) old first before events)
    → Call did q r (λ events. SendsOn rules now filespace (drop (length old) lines) old new before after events (Err e))
    → Call did p r (λ events. SendsAll rules told filespace lines first after events (Err e))
stopped_of did goes p q r rules told now filespace lines number old new first before after e same a b =
    call_then did goes (λ events. Rounds (SendsSome rules told filespace) number lines (drop (length old) lines) old first before events)
    (λ events. SendsOn rules now filespace (drop (length old) lines) old new before after events (Err e))
    (λ events. SendsAll rules told filespace lines first after events (Err e)) p q r a b
    (λ xs ys f h. (
      number,
      drop (length old) lines,
      old,
      before,
      (
        xs,
        ys,
        refl,
        f,
        inr
            (subst (λ (o : Option Files). SendsOn rules o filespace (drop (length old) lines) old new before after ys (Err e)) same h),
      ),
    ))

pub rounds-stopped : {S : Type 0} (did : S → List Event → S → Type 0) → GoesOn did → (p q r : S) (rules : Rules) (told now : Option Files) (filespace : ℕ) (lines : List SendLine) (done number : ℕ) (old new : List (Option Refusal))
    (first before after : ℕ) (e : Refusal) → now ≡ told → done ≡ length old → Call did p q (λ events. Rounds (SendsSome rules told filespace) number lines (drop (length old) lines) old first before events)
    → Call did q r (λ events. SendsOn rules now filespace (take (length lines - done) (drop done lines)) old new before after events (Err e))
    → Call did p r (λ events. SendsAll rules told filespace lines first after events (Err e))
rounds-stopped did goes p q r rules told now filespace lines done number old new first before after e same is a b =
    stopped_of did goes p q r rules told now filespace lines number old new first before after e same a
    (subst (λ (ls : List SendLine). Call did q r (λ events. SendsOn rules now filespace ls old new before after events (Err e))) (slice_at lines old done is) b)

-- ---- rounds of lines without tickets

-- so many lines from a place on, and those behind them
run_of : {L : Type 0} (lines slice : List L) (at run : ℕ) → slice ≡ take (at + run - at) (drop at lines) → drop at lines ≡ slice ++ drop (at + run) lines
run_of {L} lines slice at run is =
    let many : at + run - at ≡ run = omega arith in
    sym (take-append-drop run (drop at lines)) ∙ ap (λ (ls : List L). take run (drop at lines) ++ ls) (drop-drop run at lines)
    ∙ ap (λ (ls : List L). ls ++ drop (at + run) lines) (ap (λ k. take k (drop at lines)) (sym many) ∙ sym is)

pub runs-none : {L S : Type 0} (did : S → List Event → S → Type 0) (p : S) (asking : List L → Asked) (lines : List L) → did p [] p
    → Call did p p (λ events. (number : ℕ) × Rounds (CommitsSome asking) number lines lines [] 0 0 events)
runs-none did p asking lines stays = ([], stays, (0, (refl, refl, refl, refl)))

pub runs-next : {L S : Type 0} (did : S → List Event → S → Type 0) → GoesOn did → (p q r : S) (asking : List L → Asked) (lines slice : List L) (at run : ℕ) (old some new : List (Option Refusal))
    → slice ≡ take (at + run - at) (drop at lines) → length slice ≤ 256 → new ≡ old ++ some
    → Call did p q (λ events. (number : ℕ) × Rounds (CommitsSome asking) number lines (drop at lines) old 0 0 events)
    → Call did q r (λ events. Commits asking slice [] events (Ok some))
    → Call did p r (λ events. (number : ℕ) × Rounds (CommitsSome asking) number lines (drop (at + run) lines) new 0 0 events)
runs-next did goes p q r asking lines slice at run old some new is few put a b =
    call_then did goes (λ events. (number : ℕ) × Rounds (CommitsSome asking) number lines (drop at lines) old 0 0 events) (λ events. Commits asking slice [] events (Ok some))
    (λ events. (number : ℕ) × Rounds (CommitsSome asking) number lines (drop (at + run) lines) new 0 0 events) p q r a b
    (λ xs ys f h. (suc f.0, (drop at lines, old, some, 0, put, (xs, ys, refl, f.1, (slice, run_of lines slice at run is, few, refl, h)))))

pub runs-all : {L S : Type 0} (did : S → List Event → S → Type 0) (p q : S) (asking : List L → Asked) (lines rest : List L) (outs : List (Option Refusal)) → rest ≡ []
    → Call did p q (λ events. (number : ℕ) × Rounds (CommitsSome asking) number lines rest outs 0 0 events) → Call did p q (λ events. InRuns asking lines events (Ok outs))
runs-all {L} did p q asking lines rest outs none a =
    so_call did (λ events. (number : ℕ) × Rounds (CommitsSome asking) number lines rest outs 0 0 events) (λ events. InRuns asking lines events (Ok outs)) p q a
    (λ xs f. (f.0, subst (λ (ls : List L). Rounds (CommitsSome asking) f.0 lines ls outs 0 0 xs) none f.1))

pub runs-wanting : {L S : Type 0} (did : S → List Event → S → Type 0) (p q : S) (asking : List L → Asked) (lines rest : List L) (outs : List (Option Refusal)) (e : Refusal) → e ≡ refused.Memory
    → Call did p q (λ events. (number : ℕ) × Rounds (CommitsSome asking) number lines rest outs 0 0 events) → Call did p q (λ events. InRuns asking lines events (Err e))
runs-wanting did p q asking lines rest outs e is a =
    so_call did (λ events. (number : ℕ) × Rounds (CommitsSome asking) number lines rest outs 0 0 events) (λ events. InRuns asking lines events (Err e)) p q a
    (λ xs f. (f.0, rest, outs, (xs, [], sym (append-nil xs), f.1, inl (is, refl))))

pub runs-stopped : {L S : Type 0} (did : S → List Event → S → Type 0) → GoesOn did → (p q r : S) (asking : List L → Asked) (lines slice : List L) (at run : ℕ) (old : List (Option Refusal)) (e : Refusal)
    → slice ≡ take (at + run - at) (drop at lines) → length slice ≤ 256
    → Call did p q (λ events. (number : ℕ) × Rounds (CommitsSome asking) number lines (drop at lines) old 0 0 events)
    → Call did q r (λ events. Commits asking slice [] events (Err e)) → Call did p r (λ events. InRuns asking lines events (Err e))
runs-stopped did goes p q r asking lines slice at run old e is few a b =
    call_then did goes (λ events. (number : ℕ) × Rounds (CommitsSome asking) number lines (drop at lines) old 0 0 events) (λ events. Commits asking slice [] events (Err e))
    (λ events. InRuns asking lines events (Err e)) p q r a b
    (λ xs ys f h. (f.0, drop at lines, old, (xs, ys, refl, f.1, inr (slice, drop (at + run) lines, run_of lines slice at run is, few, h))))
