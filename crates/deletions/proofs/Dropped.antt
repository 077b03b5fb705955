-- What the parts of a list of copies that are dropped did, one after the other.
use Rattle.std.proofs.Common.{◌≡◌, inl, inr, ℕ, ◌+◌, ◌-◌, ◌≤◌, ◌<◌, Bool, true, false, ◌||◌, List, [], ◌∷◌, ◌++◌, append_assoc, map, length, take, drop, Result, Ok, Err, refl, sym, ap, subst, ◌∙◌, arith}
use Rattle.std.proofs.Math.Seq.{take-add}
use Rattle.std.proofs.lemmas.Grind.{flat_map-append}
use Rattle.std.proofs.lemmas.List.{append-nil, length-append, length-drop, length-map, length-take, take_all, take_rest}
use Rattle.std.proofs.lemmas.List.Elements.{filter-append}
use Rattle.kinds.specs.declared.refusal.Refusal.{Refusal}
use Rattle.kinds.specs.declared.refusal.Refusal.TheVariants as refused
use Rattle.inventory_work.specs.declared.lines.CopyLine.{CopyLine}
use Rattle.steps.specs.declared.asked.Asked.{Asked}
use Rattle.steps.proofs.Joining.{GoesOn, call_then, so_call}
use Rattle.steps.specs.Calls.{Call}
use Rattle.steps.specs.Events.{Event, event}
use Rattle.steps.specs.Events.Deed.{Commit}
use Rattle.steps.specs.Receipts.{is_made, made}
use Rattle.copy_attempts.proofs.Facts.{all-append}
use Rattle.copy_attempts.specs.Attempts.{is_passed}
use Rattle.copy_runs.proofs.Ending.{stopped-behind}
use Rattle.deletions.specs.declared.copies.Removed.{Removed}
use Rattle.deletions.specs.declared.objects.Doomed.{Doomed}
use Rattle.deletions.specs.declared.objects.Tried.{Tried}
use Rattle.deletions.specs.declared.objects.Tried.TheVariants as came
use Rattle.deletions.specs.Discarding.{Tries, TriesAsked, discarding, discards, is_long}
use Rattle.deletions.specs.Dropping.{AreTaking, Counts, DiscardingLast, DiscardsLast, Drops, Emptied, Empties, IsTaking, TakingBreaks, doomed, dropped, dropping, drops, drops_by, drops_in, for_volume, sum}
use Rattle.deletions.proofs.Trying.{tried, was-ended, was-long, was-made, was-refused}
use Rattle.deletions.proofs.Working.{discards-append, stopped-by}

-- ---- events one after the other

pub taking-append : (file : ℕ) (xs ys : List Event) → AreTaking file xs → AreTaking file ys → AreTaking file (xs ++ ys)
taking-append file xs ys a b = all-append (λ e. IsTaking file e.deed) xs ys a b

pub drops-append : (xs ys : List Event) → drops (made (xs ++ ys)) ≡ drops (made xs) + drops (made ys)
drops-append xs ys =
    ap drops (filter-append (λ e. is_made e.deed) xs ys) ∙ ap length (flat_map-append (λ e. drops_by e.deed) (made xs) (made ys)) ∙ length-append (drops_in (made xs)) (drops_in (made ys))

pub counts-append : (xs ys : List Event) (a b : Removed) → Counts xs a → Counts ys b → Counts (xs ++ ys) (sum a b)
counts-append xs ys a b f g = record {
  discarded = discards-append xs ys ∙ ap (λ n. n + discards (made ys)) f.discarded ∙ ap (λ n. a.discarded + n) g.discarded;
  dropped = drops-append xs ys ∙ ap (λ n. n + drops (made ys)) f.dropped ∙ ap (λ n. a.dropped + n) g.dropped;
}

taking-behind : (file : ℕ) (xs ys : List Event) (e : Refusal) → AreTaking file xs → TakingBreaks file ys e → TakingBreaks file (xs ++ ys) e
taking-behind file xs ys e only h = record { cause = stopped-behind xs ys e h.cause; only = taking-append file xs ys only h.only }

-- ---- copies that are handled

drop-taking : (file n : ℕ) (lines : List CopyLine) (answer : Result ℕ Refusal) (e : Event) → e ≡ event n (Commit (dropping file lines) [] answer) → IsTaking file e.deed
drop-taking file n lines answer e same = subst (λ (x : Event). IsTaking file x.deed) (sym same) (inl (lines, answer, refl))

discard-taking : (file n : ℕ) (objects : List Doomed) (answer : Result ℕ Refusal) (e : Event) → e ≡ event n (Commit (discarding (for_volume file) objects) [] answer) → IsTaking file e.deed
discard-taking file n objects answer e same = subst (λ (x : Event). IsTaking file x.deed) (sym same) (inr (objects, answer, refl))

last-taking : (file : ℕ) (line : CopyLine) (e : Event) → DiscardingLast file line e → IsTaking file e.deed
last-taking file line e (inl (n, number, few, same)) = discard-taking file n (doomed line ∷ []) (Ok number) e same
last-taking file line e (inr (n, why, passed, same)) = discard-taking file n (doomed line ∷ []) (Err why) e same

pub empties-only : (due : Bool) (file : ℕ) (lines : List CopyLine) (events : List Event) → Empties due file lines events → AreTaking file events
empties-only due file lines [] h = tt
empties-only true file [] (e ∷ events) h = absurd h
empties-only true file (line ∷ lines) (e ∷ events) h = (last-taking file line e h.0, empties-only false file lines events h.1)
empties-only false file lines (e ∷ events) (inl (run, rest, is, (n, number, few, same), h)) = (drop-taking file n run (Ok number) e same, empties-only false file rest events h)
empties-only false file lines (e ∷ events) (inr (inl (line, rest, is, (n, why, passed, same), h))) = (drop-taking file n (line ∷ []) (Err why) e same, empties-only true file lines events h)
empties-only false file lines (e ∷ events) (inr (inr ((n, why, those, refused, same), h))) = (drop-taking file n those (Err why) e same, empties-only false file lines events h)

joined-runs : (lines more run rest : List CopyLine) → lines ≡ run ++ rest → lines ++ more ≡ run ++ (rest ++ more)
joined-runs lines more run rest is = ap (λ (ls : List CopyLine). ls ++ more) is ∙ append_assoc run rest more

-- some copies, and then others
empties-append : (due : Bool) (file : ℕ) (lines more : List CopyLine) (xs ys : List Event) → Empties due file lines xs → Empties false file more ys → Empties due file (lines ++ more) (xs ++ ys)
empties-append due file lines more [] ys f g =
    subst (λ (b : Bool). Empties b file (lines ++ more) ys) (sym f.0) (subst (λ (ls : List CopyLine). Empties false file (ls ++ more) ys) (sym f.1) g)
empties-append true file [] more (x ∷ xs) ys f g = absurd f
empties-append true file (line ∷ lines) more (x ∷ xs) ys f g = (f.0, empties-append false file lines more xs ys f.1 g)
empties-append false file lines more (x ∷ xs) ys (inl (run, rest, is, r, h)) g =
    inl (run, rest ++ more, joined-runs lines more run rest is, r, empties-append false file rest more xs ys h g)
empties-append false file lines more (x ∷ xs) ys (inr (inl (line, rest, is, r, h))) g =
    inr (inl (line, rest ++ more, ap (λ (ls : List CopyLine). ls ++ more) is, r, empties-append true file lines more xs ys h g))
empties-append false file lines more (x ∷ xs) ys (inr (inr (r, h))) g = inr (inr (r, empties-append false file lines more xs ys h g))

emptied-append : (due : Bool) (file : ℕ) (lines more : List CopyLine) (xs ys : List Event) (a b : Removed) → Emptied due file lines xs a → Emptied false file more ys b
    → Emptied due file (lines ++ more) (xs ++ ys) (sum a b)
emptied-append due file lines more xs ys a b f g = record { each = empties-append due file lines more xs ys f.each g.each; counts = counts-append xs ys a b f.counts g.counts }

-- ---- one transaction

spelled : (lines : List CopyLine) → length (map dropped lines ++ []) ≡ length lines
spelled lines = ap length (append-nil (map dropped lines)) ∙ length-map lines dropped

abbrev pub all_of : List CopyLine → Removed
all_of lines = record { discarded = 0; dropped = length lines }

dropped-run : (n number file : ℕ) (lines : List CopyLine) → length lines ≤ 256 → Emptied false file lines (tried n (dropping file lines) (Ok number)) (all_of lines)
dropped-run n number file lines few = record {
  each = inl (lines, [], sym (append-nil lines), (n, number, few, refl), (refl, refl));
  counts = record { discarded = refl; dropped = spelled lines };
}

-- a transaction made all of it
pub drops-made : {S : Type 0} (did : S → List Event → S → Type 0) (p q : S) (file : ℕ) (lines : List CopyLine) (t : Tried) → t ≡ came.Made → length lines ≤ 256
    → Call did p q (λ events. TriesAsked (dropping file lines) events (Ok t)) → Call did p q (λ events. Drops file lines events (Ok (all_of lines)))
drops-made did p q file lines t is few c =
    so_call did (λ events. TriesAsked (dropping file lines) events (Ok t)) (λ events. Drops file lines events (Ok (all_of lines))) p q c
    (λ xs f. let r = was-made (dropping file lines) xs t is f in subst (λ (es : List Event). Emptied false file lines es (all_of lines)) (sym r.2) (dropped-run r.0 r.1 file lines few))

-- it ended with a refusal
taking-ended : (file : ℕ) (asked : Asked) (events : List Event) (f : Refusal) → ((n : ℕ) (e : Refusal) → AreTaking file (tried n asked (Err e))) → TriesAsked asked events (Err f) → TakingBreaks file events f
taking-ended file asked events f only h = elim (was-ended asked events f h) as (λ _. TakingBreaks file events f) [
  | inl none ↦ record { cause = inl none.0; only = subst (AreTaking file) (sym none.1) tt }
  | inr r ↦ subst (λ (es : List Event). TakingBreaks file es f) (sym r.3)
      (subst (λ (x : Refusal). TakingBreaks file (tried r.0 asked (Err r.1)) x) (sym r.2)
      (record { cause = stopped-by (tried r.0 asked (Err r.1)) r.1 (inl refl); only = only r.0 r.1 }))
]

pub drops-ended : {S : Type 0} (did : S → List Event → S → Type 0) (p q : S) (file : ℕ) (lines : List CopyLine) (e : Refusal)
    → Call did p q (λ events. TriesAsked (dropping file lines) events (Err e)) → Call did p q (λ events. Drops file lines events (Err e))
drops-ended did p q file lines e c =
    so_call did (λ events. TriesAsked (dropping file lines) events (Err e)) (λ events. Drops file lines events (Err e)) p q c
    (λ xs f. taking-ended file (dropping file lines) xs e (λ n x. (inl (lines, Err x, refl), tt)) f)

wanting : (file n : ℕ) (lines : List CopyLine) (why : Refusal) (events : List Event) → events ≡ tried n (dropping file lines) (Err why) → TakingBreaks file events refused.Memory
wanting file n lines why events is = subst (λ (es : List Event). TakingBreaks file es refused.Memory) (sym is) (record { cause = inl refl; only = (inl (lines, Err why, refl), tt) })

-- the transaction of one copy is never too long
pub drops-long : {S : Type 0} (did : S → List Event → S → Type 0) (p q : S) (file : ℕ) (lines : List CopyLine) (t : Tried) → t ≡ came.TooLong
    → Call did p q (λ events. TriesAsked (dropping file lines) events (Ok t)) → Call did p q (λ events. Drops file lines events (Err refused.Memory))
drops-long did p q file lines t is c =
    so_call did (λ events. TriesAsked (dropping file lines) events (Ok t)) (λ events. Drops file lines events (Err refused.Memory)) p q c
    (λ xs f. let r = was-long (dropping file lines) xs t is f in wanting file r.0 lines r.1 xs r.3)

-- a refused transaction, and what came behind it
behind-refused : (file n : ℕ) (those lines : List CopyLine) (why : Refusal) (xs ys : List Event) (result : Result Removed Refusal) → (is_passed why || is_long why) ≡ true
    → xs ≡ tried n (dropping file those) (Err why) → Drops file lines ys result → Drops file lines (xs ++ ys) result
behind-refused file n those lines why xs ys (Ok m) refused is h =
    subst (λ (es : List Event). Emptied false file lines (es ++ ys) m) (sym is) (record { each = inr (inr ((n, why, those, refused, refl), h.each)); counts = record { discarded = h.counts.discarded; dropped = h.counts.dropped } })
behind-refused file n those lines why xs ys (Err e) refused is h =
    subst (λ (es : List Event). TakingBreaks file (es ++ ys) e) (sym is) (taking-behind file (tried n (dropping file those) (Err why)) ys e (inl (those, Err why, refl), tt) h)

pub drops-refused : {S : Type 0} (did : S → List Event → S → Type 0) → GoesOn did → (p q r : S) (file : ℕ) (lines : List CopyLine) (t : Tried) (result : Result Removed Refusal) → t ≡ came.Refused
    → Call did p q (λ events. TriesAsked (dropping file lines) events (Ok t)) → Call did q r (λ events. Drops file lines events result) → Call did p r (λ events. Drops file lines events result)
drops-refused did goes p q r file lines t result is a b =
    call_then did goes (λ events. TriesAsked (dropping file lines) events (Ok t)) (λ events. Drops file lines events result) (λ events. Drops file lines events result) p q r a b
    (λ xs ys f g. let k = was-refused (dropping file lines) xs t is f in behind-refused file k.0 lines lines k.1 xs ys result (ap (λ b. b || is_long k.1) k.2) k.3 g)

pub drops-too-long : {S : Type 0} (did : S → List Event → S → Type 0) → GoesOn did → (p q r : S) (file : ℕ) (lines : List CopyLine) (t : Tried) (result : Result Removed Refusal) → t ≡ came.TooLong
    → Call did p q (λ events. TriesAsked (dropping file lines) events (Ok t)) → Call did q r (λ events. Drops file lines events result) → Call did p r (λ events. Drops file lines events result)
drops-too-long did goes p q r file lines t result is a b =
    call_then did goes (λ events. TriesAsked (dropping file lines) events (Ok t)) (λ events. Drops file lines events result) (λ events. Drops file lines events result) p q r a b
    (λ xs ys f g. let k = was-long (dropping file lines) xs t is f in behind-refused file k.0 lines lines k.1 xs ys result k.2 k.3 g)

-- ---- one copy

-- the copy couldn't be dropped, and then its object was to be discarded
last-behind : (file n : ℕ) (lines : List CopyLine) (why : Refusal) (xs ys : List Event) (result : Result Removed Refusal) → length lines ≡ 1 → is_passed why ≡ true
    → xs ≡ tried n (dropping file lines) (Err why) → DiscardsLast file lines ys result → Drops file lines (xs ++ ys) result
last-behind file n [] why xs ys result one passed is h = absurd (omega (arith, one))
last-behind file n (line ∷ []) why xs ys (Ok m) one passed is h =
    subst (λ (es : List Event). Emptied false file (line ∷ []) (es ++ ys) m) (sym is)
    (record { each = inr (inl (line, [], refl, (n, why, passed, refl), h.each)); counts = record { discarded = h.counts.discarded; dropped = h.counts.dropped } })
last-behind file n (line ∷ []) why xs ys (Err e) one passed is h =
    subst (λ (es : List Event). TakingBreaks file (es ++ ys) e) (sym is) (taking-behind file (tried n (dropping file (line ∷ [])) (Err why)) ys e (inl (line ∷ [], Err why, refl), tt) h)
last-behind file n (line ∷ other ∷ lines) why xs ys result one passed is h = absurd (omega (arith, one))

pub drops-last : {S : Type 0} (did : S → List Event → S → Type 0) → GoesOn did → (p q r : S) (file : ℕ) (lines : List CopyLine) (t : Tried) (result : Result Removed Refusal) → t ≡ came.Refused → length lines ≡ 1
    → Call did p q (λ events. TriesAsked (dropping file lines) events (Ok t)) → Call did q r (λ events. DiscardsLast file lines events result) → Call did p r (λ events. Drops file lines events result)
drops-last did goes p q r file lines t result is one a b =
    call_then did goes (λ events. TriesAsked (dropping file lines) events (Ok t)) (λ events. DiscardsLast file lines events result) (λ events. Drops file lines events result) p q r a b
    (λ xs ys f g. let k = was-refused (dropping file lines) xs t is f in last-behind file k.0 lines k.1 xs ys result one k.2 k.3 g)

abbrev pub one_gone : Removed
one_gone = record { discarded = 1; dropped = 0 }

abbrev pub none_gone : Removed
none_gone = record { discarded = 0; dropped = 0 }

last-made-one : (file n number : ℕ) (lines : List CopyLine) → length lines ≡ 1 → Emptied true file lines (tried n (discarding (for_volume file) (map doomed lines)) (Ok number)) one_gone
last-made-one file n number [] one = absurd (omega (arith, one))
last-made-one file n number (line ∷ []) one = record { each = (inl (n, number, omega arith, refl), (refl, refl)); counts = record { discarded = refl; dropped = refl } }
last-made-one file n number (line ∷ other ∷ lines) one = absurd (omega (arith, one))

last-passed-one : (file n : ℕ) (why : Refusal) (lines : List CopyLine) → length lines ≡ 1 → is_passed why ≡ true → Emptied true file lines (tried n (discarding (for_volume file) (map doomed lines)) (Err why)) none_gone
last-passed-one file n why [] one passed = absurd (omega (arith, one))
last-passed-one file n why (line ∷ []) one passed = record { each = (inr (n, why, passed, refl), (refl, refl)); counts = record { discarded = refl; dropped = refl } }
last-passed-one file n why (line ∷ other ∷ lines) one passed = absurd (omega (arith, one))

-- the objects of a transaction are those of the copies
of-lines : {S : Type 0} (did : S → List Event → S → Type 0) (p q : S) (file : ℕ) (lines : List CopyLine) (objects : List Doomed) (result : Result Tried Refusal) → objects ≡ map doomed lines
    → Call did p q (λ events. Tries (for_volume file) objects events result) → Call did p q (λ events. TriesAsked (discarding (for_volume file) (map doomed lines)) events result)
of-lines did p q file lines objects result is c = subst (λ (os : List Doomed). Call did p q (λ events. TriesAsked (discarding (for_volume file) os) events result)) is c

pub last-made : {S : Type 0} (did : S → List Event → S → Type 0) (p q : S) (file : ℕ) (lines : List CopyLine) (objects : List Doomed) (t : Tried) → t ≡ came.Made → length lines ≡ 1 → objects ≡ map doomed lines
    → Call did p q (λ events. Tries (for_volume file) objects events (Ok t)) → Call did p q (λ events. DiscardsLast file lines events (Ok one_gone))
last-made did p q file lines objects t is one same c =
    so_call did (λ events. TriesAsked (discarding (for_volume file) (map doomed lines)) events (Ok t)) (λ events. DiscardsLast file lines events (Ok one_gone)) p q (of-lines did p q file lines objects (Ok t) same c)
    (λ xs f. let r = was-made (discarding (for_volume file) (map doomed lines)) xs t is f in subst (λ (es : List Event). Emptied true file lines es one_gone) (sym r.2) (last-made-one file r.0 r.1 lines one))

pub last-passed : {S : Type 0} (did : S → List Event → S → Type 0) (p q : S) (file : ℕ) (lines : List CopyLine) (objects : List Doomed) (t : Tried) → t ≡ came.Refused → length lines ≡ 1 → objects ≡ map doomed lines
    → Call did p q (λ events. Tries (for_volume file) objects events (Ok t)) → Call did p q (λ events. DiscardsLast file lines events (Ok none_gone))
last-passed did p q file lines objects t is one same c =
    so_call did (λ events. TriesAsked (discarding (for_volume file) (map doomed lines)) events (Ok t)) (λ events. DiscardsLast file lines events (Ok none_gone)) p q (of-lines did p q file lines objects (Ok t) same c)
    (λ xs f. let r = was-refused (discarding (for_volume file) (map doomed lines)) xs t is f in
    subst (λ (es : List Event). Emptied true file lines es none_gone) (sym r.3) (last-passed-one file r.0 r.1 lines one r.2))

pub last-long : {S : Type 0} (did : S → List Event → S → Type 0) (p q : S) (file : ℕ) (lines : List CopyLine) (objects : List Doomed) (t : Tried) → t ≡ came.TooLong
    → Call did p q (λ events. Tries (for_volume file) objects events (Ok t)) → Call did p q (λ events. DiscardsLast file lines events (Err refused.Memory))
last-long did p q file lines objects t is c =
    so_call did (λ events. Tries (for_volume file) objects events (Ok t)) (λ events. DiscardsLast file lines events (Err refused.Memory)) p q c
    (λ xs f. let r = was-long (discarding (for_volume file) objects) xs t is f in
    subst (λ (es : List Event). TakingBreaks file es refused.Memory) (sym r.3) (record { cause = inl refl; only = (inr (objects, Err r.1, refl), tt) }))

pub last-ended : {S : Type 0} (did : S → List Event → S → Type 0) (p q : S) (file : ℕ) (lines : List CopyLine) (objects : List Doomed) (e : Refusal)
    → Call did p q (λ events. Tries (for_volume file) objects events (Err e)) → Call did p q (λ events. DiscardsLast file lines events (Err e))
last-ended did p q file lines objects e c =
    so_call did (λ events. Tries (for_volume file) objects events (Err e)) (λ events. DiscardsLast file lines events (Err e)) p q c
    (λ xs f. taking-ended file (discarding (for_volume file) objects) xs e (λ n x. (inr (objects, Err x, refl), tt)) f)

pub last-unlisted : {S : Type 0} (did : S → List Event → S → Type 0) (p : S) (file : ℕ) (lines : List CopyLine) (e : Refusal) → did p [] p → e ≡ refused.Memory
    → Call did p p (λ events. DiscardsLast file lines events (Err e))
last-unlisted did p file lines e stays is = ([], stays, record { cause = inl is; only = tt })

-- ---- several copies

pub drops-none : {S : Type 0} (did : S → List Event → S → Type 0) (p : S) (file : ℕ) → did p [] p → Call did p p (λ events. Emptied false file [] events none_gone)
drops-none did p file stays = ([], stays, record { each = (refl, refl); counts = record { discarded = refl; dropped = refl } })

pub drops-next : {S : Type 0} (did : S → List Event → S → Type 0) → GoesOn did → (p q r : S) (file : ℕ) (lines more : List CopyLine) (at run : ℕ) (a b c : Removed) → more ≡ take run (drop at lines) → c ≡ sum a b
    → Call did p q (λ events. Emptied false file (take at lines) events a) → Call did q r (λ events. Drops file more events (Ok b))
    → Call did p r (λ events. Emptied false file (take (at + run) lines) events c)
drops-next did goes p q r file lines more at run a b c is same x y =
    subst (λ (m : Removed). Call did p r (λ events. Emptied false file (take (at + run) lines) events m)) (sym same)
    (subst (λ (ls : List CopyLine). Call did p r (λ events. Emptied false file ls events (sum a b))) (ap (λ (ls : List CopyLine). take at lines ++ ls) is ∙ sym (take-add at run lines))
    (call_then did goes (λ events. Emptied false file (take at lines) events a) (λ events. Drops file more events (Ok b)) (λ events. Emptied false file (take at lines ++ more) events (sum a b)) p q r x y
    (λ xs ys f g. emptied-append false file (take at lines) more xs ys a b f g)))

pub drops-all : {S : Type 0} (did : S → List Event → S → Type 0) (p q : S) (file : ℕ) (lines : List CopyLine) (at : ℕ) (a : Removed) → length lines ≤ at
    → Call did p q (λ events. Emptied false file (take at lines) events a) → Call did p q (λ events. Drops file lines events (Ok a))
drops-all did p q file lines at a l x = subst (λ (ls : List CopyLine). Call did p q (λ events. Emptied false file ls events a)) (take_all at lines l) x

pub drops-break : {S : Type 0} (did : S → List Event → S → Type 0) → GoesOn did → (p q r : S) (file : ℕ) (those : List CopyLine) (a : Removed) (e : Refusal)
    → Call did p q (λ events. Emptied false file those events a) → Call did q r (λ events. TakingBreaks file events e) → Call did p r (λ events. TakingBreaks file events e)
drops-break did goes p q r file those a e x y =
    call_then did goes (λ events. Emptied false file those events a) (λ events. TakingBreaks file events e) (λ events. TakingBreaks file events e) p q r x y
    (λ xs ys f g. taking-behind file xs ys e (empties-only false file those xs f.each) g)

-- ---- lengths

pub few-sum : (a b c : Removed) (at run : ℕ) (rest : List CopyLine) → c ≡ sum a b → a.discarded + a.dropped ≤ at → b.discarded + b.dropped ≤ length (take run rest) → c.discarded + c.dropped ≤ at + run
few-sum a b c at run rest is few h =
    let d : c.discarded ≡ a.discarded + b.discarded = ap (λ (m : Removed). m.discarded) is in
    let o : c.dropped ≡ a.dropped + b.dropped = ap (λ (m : Removed). m.dropped) is in
    omega (arith, length-take run rest)

pub next-lines : (at run : ℕ) (lines : List CopyLine) → take run (take (length lines - at) (drop at lines)) ≡ take run (drop at lines)
next-lines at run lines = ap (take run) (take_rest lines at)

pub within-lines : (at run : ℕ) (lines : List CopyLine) → at ≤ length lines → run ≤ length (take (length lines - at) (drop at lines)) → at + run ≤ length lines
within-lines at run lines l h = omega (arith, length-take (length lines - at) (drop at lines), length-drop at lines)

one-more : (n : ℕ) → n + 1 - n ≡ 1
one-more n = omega arith

pub step-line : (place : ℕ) (lines : List CopyLine) → take (place + 1 - place) (drop place lines) ≡ take 1 (drop place lines)
step-line place lines = ap (λ n. take n (drop place lines)) (one-more place)

pub one-line : (place : ℕ) (lines : List CopyLine) → place < length lines → length (take (place + 1 - place) (drop place lines)) ≡ 1
one-line place lines l = omega (arith, l, length-take (place + 1 - place) (drop place lines), length-drop place lines)

pub few-line : (a b c : Removed) (place : ℕ) (lines : List CopyLine) → c ≡ sum a b → a.discarded + a.dropped ≤ place → b.discarded + b.dropped ≤ length (take (place + 1 - place) (drop place lines))
    → c.discarded + c.dropped ≤ place + 1
few-line a b c place lines is few h =
    let d : c.discarded ≡ a.discarded + b.discarded = ap (λ (m : Removed). m.discarded) is in
    let o : c.dropped ≡ a.dropped + b.dropped = ap (λ (m : Removed). m.dropped) is in
    omega (arith, length-take (place + 1 - place) (drop place lines))
