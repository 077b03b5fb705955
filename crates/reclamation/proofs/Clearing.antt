-- The parts of a reclamation: one volume after the other is emptied.
use Rattle.std.proofs.Common.{◌≡◌, ◌⊎◌, inl, inr, ℕ, ◌+◌, ◌<◌, not, true, false, List, [], ◌∷◌, ◌++◌, append_assoc, length, map, take, drop, get_or, Result, Ok, Err, refl, sym, ap, ap₂, subst, ◌∙◌, arith}
use Rattle.std.proofs.lemmas.List.{append-nil, take-append-drop, take_all, take_more}
use Rattle.std.specs.List.{AllByRecursion}
use Rattle.kinds.specs.declared.refusal.Refusal.{Refusal}
use Rattle.kinds.specs.declared.refusal.Refusal.TheVariants as refused
use Rattle.inventory_answers.specs.declared.query.Query.TheVariants as query
use Rattle.inventory_work.specs.Lists.{only}
use Rattle.inventory_work.specs.declared.lines.CopyLine.{CopyLine}
use Rattle.steps.proofs.Joining.{GoesOn, call_then, so_call}
use Rattle.steps.specs.Calls.{Call}
use Rattle.steps.specs.Events.{Event}
use Rattle.steps.specs.Receipts.{made}
use Rattle.machine.proofs.Runs.{fits-cut}
use Rattle.copy_attempts.proofs.Facts.{all-append, caused-behind, made-append}
use Rattle.steps.proofs.Spending.{settled-append}
use Rattle.steps.specs.Spent.{AreSettled}
use Rattle.copy_runs.specs.declared.wanted.Moved.{Moved}
use Rattle.copy_runs.specs.declared.wanted.Wanted.{Wanted}
use Rattle.copy_runs.specs.Ends.{AreAsking, AreEnding, Finished, Finishes, IsStopped, IsUnheld, Unanswered}
use Rattle.copy_runs.specs.Runs.{AreOfThese, LeavesNone, Run}
use Rattle.copy_runs.specs.Wanting.{IsIn}
use Rattle.copy_runs.proofs.Ending.{stopped-behind}
use Rattle.copy_runs.proofs.Outcomes.{in-before, in-behind, then-none}
use Rattle.copy_runs.proofs.Tickets.{AreListed, lists-all, ticket-behind}
use Rattle.copy_runs.proofs.Unheld.{asking-unheld, ending-unheld, other-unheld, run-unheld, unheld-behind}
use Rattle.copy_runs.proofs.Whole.{asks-begun, asks-unmade, ends-none, ends-settled, ends-unmade}
use Rattle.reclamation.specs.Moving.{EntersOff, IsEnteredOff, into, moving}
use Rattle.reclamation.specs.Reclaiming.{AreReclaiming, Breaks, Clears, ClearsAll, Emptied, IsReclaiming, IsUnopened, ListedThere, ListsThere, Turn, Turned, Turns, Works, both_moved, files_of, sum_of, tried_behind}
use Rattle.reclamation.specs.Tried.{Key, fresh, is_tried, seen, with_tried}
use Rattle.reclamation.proofs.Moves.{AreMoves, all-moves, caused, entries-off, one-moving}

-- ---- steps

asks-reclaim : (files : List ℕ) (pool : ℕ) (xs : List Event) → AreAsking xs → AreReclaiming files pool xs
asks-reclaim files pool [] h = tt
asks-reclaim files pool (x ∷ xs) h = (inl (inl h.0), asks-reclaim files pool xs h.1)

ends-reclaim : (files : List ℕ) (pool : ℕ) (xs : List Event) → AreEnding xs → AreReclaiming files pool xs
ends-reclaim files pool [] h = tt
ends-reclaim files pool (x ∷ xs) h = (inl h.0, ends-reclaim files pool xs h.1)

run-reclaims : (files : List ℕ) (pool file : ℕ) (wanted : List Wanted) (xs : List Event) → IsIn file files → AreMoves pool wanted → AreOfThese wanted file xs → AreReclaiming files pool xs
run-reclaims files pool file wanted [] m all h = tt
run-reclaims files pool file wanted (x ∷ xs) m all h = (inr (file, m, one-moving file pool wanted x.deed all h.0.0 h.0.1 h.0.2), run-reclaims files pool file wanted xs m all h.1)

abbrev pub Within : List ℕ → List ℕ → Type 0
Within some all = (file : ℕ) → IsIn file some → IsIn file all

wider : (some files : List ℕ) (pool : ℕ) (xs : List Event) → Within some files → AreReclaiming some pool xs → AreReclaiming files pool xs
wider some files pool [] within h = tt
wider some files pool (x ∷ xs) within h = (
  elim h.0 as (λ _. IsReclaiming files pool x.deed) [
    | inl ending ↦ inl ending
    | inr one ↦ inr (one.0, within one.0 one.1, one.2)
  ],
  wider some files pool xs within h.1,
)

off-append : (pool : ℕ) (xs ys : List Event) → EntersOff pool xs → LeavesNone xs → EntersOff pool ys → EntersOff pool (xs ++ ys)
off-append pool xs ys p leaves q w actor a b none f =
    let r = fits-cut w actor a b xs ys f in
    subst (λ (es : List Event). AllByRecursion (IsEnteredOff pool w actor) es) (sym (made-append xs ys))
    (all-append (IsEnteredOff pool w actor) (made xs) (made ys) (p w actor a r.0 none r.1) (q w actor r.0 b (leaves w actor a r.0 none r.1) r.2))

off-unmade : (pool : ℕ) (xs : List Event) → made xs ≡ [] → EntersOff pool xs
off-unmade pool xs h w actor a b none f = subst (λ (es : List Event). AllByRecursion (IsEnteredOff pool w actor) es) (sym h) tt

-- ---- what was done leaves no ticket

pub record Clean (files : List ℕ) (pool : ℕ) (events : List Event) : Type 0 where
  pub only : AreReclaiming files pool events
  pub entries : EntersOff pool events
  pub settled : AreSettled events
  pub none_left : LeavesNone events

pub clean-append : (files : List ℕ) (pool : ℕ) (xs ys : List Event) → Clean files pool xs → Clean files pool ys → Clean files pool (xs ++ ys)
clean-append files pool xs ys a b = record {
  only = all-append (λ e. IsReclaiming files pool e.deed) xs ys a.only b.only;
  entries = off-append pool xs ys a.entries a.none_left b.entries;
  settled = settled-append xs ys a.settled b.settled;
  none_left = then-none xs ys a.none_left b.none_left;
}

pub clean-asks : (files : List ℕ) (pool : ℕ) (xs : List Event) → AreAsking xs → Clean files pool xs
clean-asks files pool xs h = record {
  only = asks-reclaim files pool xs h;
  entries = off-unmade pool xs (asks-unmade xs h);
  settled = (asks-begun xs h).settled;
  none_left = (asks-begun xs h).none_left;
}

pub clean-ends : (files : List ℕ) (pool : ℕ) (xs : List Event) → AreEnding xs → Clean files pool xs
clean-ends files pool xs h = record {
  only = ends-reclaim files pool xs h;
  entries = off-unmade pool xs (ends-unmade xs h);
  settled = ends-settled xs h;
  none_left = ends-none xs h;
}

clean-run : (files : List ℕ) (pool file : ℕ) (wanted : List Wanted) (xs : List Event) (m : Moved) → IsIn file files → AreMoves pool wanted → Run wanted file xs (Ok m) → Clean files pool xs
clean-run files pool file wanted xs m among all run = record {
  only = run-reclaims files pool file wanted xs among all run.only;
  entries = entries-off pool wanted xs all run.entries;
  settled = run.outcome.settled;
  none_left = run.outcome.none_left;
}

-- ---- it ends with a refusal

unopened-behind : (pool : ℕ) (xs ys : List Event) (e : Refusal) → IsUnopened pool ys e → IsUnopened pool (xs ++ ys) e
unopened-behind pool xs ys e (ten, (file, object, from, placed, met)) =
    (ten, (file, object, from, placed, ticket-behind object from placed (into pool from) false file xs ys e met))

pub cause-behind : (pool : ℕ) (xs ys : List Event) (e : Refusal) → IsStopped ys e ⊎ IsUnopened pool ys e → IsStopped (xs ++ ys) e ⊎ IsUnopened pool (xs ++ ys) e
cause-behind pool xs ys e (inl h) = inl (stopped-behind xs ys e h)
cause-behind pool xs ys e (inr h) = inr (unopened-behind pool xs ys e h)

pub breaks-behind : (files : List ℕ) (pool : ℕ) (xs ys : List Event) (e : Refusal) → Clean files pool xs → Breaks files pool ys e → Breaks files pool (xs ++ ys) e
breaks-behind files pool xs ys e a b = record {
  cause = cause-behind pool xs ys e b.cause;
  unheld = unheld-behind xs ys e b.unheld;
  only = all-append (λ x. IsReclaiming files pool x.deed) xs ys a.only b.only;
  entries = off-append pool xs ys a.entries a.none_left b.entries;
  settled = λ leave. settled-append xs ys a.settled (b.settled leave);
  none_left = λ leave. then-none xs ys a.none_left (b.none_left leave);
}

memory-unheld : (xs : List Event) (e : Refusal) → e ≡ refused.Memory → IsUnheld xs e
memory-unheld xs e is = other-unheld xs e (λ h busy. (let odd : refused.Memory ≡ refused.Busy h = sym is ∙ busy in cc))

breaks-clean : (files : List ℕ) (pool : ℕ) (xs : List Event) (e : Refusal) → IsStopped xs e → IsUnheld xs e → Clean files pool xs → Breaks files pool xs e
breaks-clean files pool xs e h unheld a = record { cause = inl h; unheld = unheld; only = a.only; entries = a.entries; settled = λ leave. a.settled; none_left = λ leave. a.none_left }

breaks-wider : (some files : List ℕ) (pool : ℕ) (xs : List Event) (e : Refusal) → Within some files → Breaks some pool xs e → Breaks files pool xs e
breaks-wider some files pool xs e within b = record { cause = b.cause; unheld = b.unheld; only = wider some files pool xs within b.only; entries = b.entries; settled = b.settled; none_left = b.none_left }

-- ---- one volume

pub there-asks : (file : ℕ) (xs : List Event) (lines : List CopyLine) → ListedThere file xs lines → AreAsking xs
there-asks file xs lines (inl h) = subst AreAsking (sym h.2) ((query.OnVolume file, Ok h.1, refl), tt)
there-asks file xs lines (inr (none, n, e, ten, same)) = subst AreAsking (sym same) ((query.OnVolume file, Err e, refl), tt)

there-listed : (file : ℕ) (xs : List Event) (lines : List CopyLine) → ListedThere file xs lines → AreListed lines xs
there-listed file xs lines (inl h) = lists-all file xs lines h
there-listed file xs lines (inr h) = λ l among. absurd (subst (λ (ls : List CopyLine). IsIn l ls) h.0 among)

fresh-in : (tried : List Key) (lines : List CopyLine) (l : CopyLine) → IsIn l (fresh tried lines) → IsIn l lines
fresh-in tried [] l h = absurd h
fresh-in tried (y ∷ lines) l h =
    elim (not (is_tried tried y)) as (λ b. IsIn l (only b y ++ fresh (with_tried tried y) lines) → IsIn l (y ∷ lines)) [
      | true ↦ λ m. elim m as (λ _. IsIn l (y ∷ lines)) [
        | inl same ↦ inl same
        | inr later ↦ inr (fresh-in (with_tried tried y) lines l later)
      ]
      | false ↦ λ m. inr (fresh-in (with_tried tried y) lines l m)
    ] h

-- the run over the copies that were listed ended with a refusal
breaks-run : (files : List ℕ) (pool file : ℕ) (lines : List CopyLine) (xs ys : List Event) (e : Refusal) → IsIn file files → AreAsking xs → AreListed lines xs → Run (map (moving pool) lines) file ys (Err e)
    → Breaks files pool (xs ++ ys) e
breaks-run files pool file lines xs ys e among asks listed run =
    let wanted : List Wanted = map (moving pool) lines in
    let all : AreMoves pool wanted = all-moves pool lines in
    let a : Clean files pool xs = clean-asks files pool xs asks in
    let one = run.outcome.0 in
    record {
      cause = elim (caused file pool lines xs ys e asks listed (one.0, one.1, caused-behind one.0.object one.0.aim file xs ys e one.2)) as (λ _. IsStopped (xs ++ ys) e ⊎ IsUnopened pool (xs ++ ys) e) [
        | inl stopped ↦ inl stopped
        | inr gone ↦ inr (gone.0, (file, gone.1.0, gone.1.1, gone.1.2, gone.1.3))
      ];
      unheld = unheld-behind xs ys e (run-unheld wanted file ys e run);
      only = all-append (λ x. IsReclaiming files pool x.deed) xs ys a.only (run-reclaims files pool file wanted ys among all run.only);
      entries = off-append pool xs ys a.entries a.none_left (entries-off pool wanted ys all run.entries);
      settled = λ leave. settled-append xs ys a.settled (run.outcome.1 leave);
      none_left = λ leave. then-none xs ys a.none_left (run.outcome.2 leave);
    }

-- it had its turn
turned-by : (pool : ℕ) (old new : List Key) (file : ℕ) (lines : List CopyLine) (wanted : List Wanted) (xs ys : List Event) (result : Result Moved Refusal) → new ≡ seen old lines
    → wanted ≡ map (moving pool) (fresh old lines) → ListedThere file xs lines → Run wanted file ys result → Clears pool old new file (xs ++ ys) result
turned-by pool old new file lines wanted xs ys (Ok m) tried is a run = (lines, tried, (xs, ys, refl, a, subst (λ (ws : List Wanted). Run ws file ys (Ok m)) is run))
turned-by pool old new file lines wanted xs ys (Err e) tried is a run =
    breaks-run (file ∷ []) pool file (fresh old lines) xs ys e (inl refl) (there-asks file xs lines a) (λ l i. there-listed file xs lines a l (fresh-in old lines l i))
    (subst (λ (ws : List Wanted). Run ws file ys (Err e)) is run)

pub clears : {S : Type 0} (did : S → List Event → S → Type 0) → GoesOn did → (p q r : S) (pool : ℕ) (old new : List Key) (file : ℕ) (lines those : List CopyLine) (wanted these : List Wanted)
    (result : Result Moved Refusal) → those ≡ lines → new ≡ seen old those → wanted ≡ map (moving pool) (fresh old those) → these ≡ wanted
    → Call did p q (λ events. ListsThere file events (Ok lines)) → Call did q r (λ events. Run these file events result) → Call did p r (λ events. Clears pool old new file events result)
clears did on p q r pool old new file lines those wanted these result same tried is whole a b =
    call_then did on (λ events. ListedThere file events lines) (λ events. Run these file events result) (λ events. Clears pool old new file events result) p q r a b
    (λ xs ys f g. turned-by pool old new file lines these xs ys result (tried ∙ ap (seen old) same) (whole ∙ is ∙ ap (λ (ls : List CopyLine). map (moving pool) (fresh old ls)) same) f g)

pub clears-memory : {S : Type 0} (did : S → List Event → S → Type 0) (p q : S) (pool : ℕ) (old new : List Key) (file : ℕ) (lines : List CopyLine) (e : Refusal) → e ≡ refused.Memory
    → Call did p q (λ events. ListsThere file events (Ok lines)) → Call did p q (λ events. Clears pool old new file events (Err e))
clears-memory did p q pool old new file lines e is a =
    so_call did (λ events. ListedThere file events lines) (λ events. Breaks (file ∷ []) pool events e) p q a
    (λ xs h. breaks-clean (file ∷ []) pool xs e (inl is) (memory-unheld xs e is) (clean-asks (file ∷ []) pool xs (there-asks file xs lines h)))

pub clears-unlisted : {S : Type 0} (did : S → List Event → S → Type 0) (p q : S) (pool : ℕ) (old new : List Key) (file : ℕ) (e : Refusal) → Call did p q (λ events. ListsThere file events (Err e))
    → Call did p q (λ events. Clears pool old new file events (Err e))
clears-unlisted did p q pool old new file e a =
    so_call did (λ events. Unanswered events e) (λ events. Breaks (file ∷ []) pool events e) p q a (λ xs h. breaks-clean (file ∷ []) pool xs e h.0 (asking-unheld xs e h.1 h.0) (clean-asks (file ∷ []) pool xs h.1))

-- ---- several

turns-more : (pool : ℕ) (tried : List Key) (turns : List Turn) (t : Turn) (xs ys : List Event) → Turns pool tried turns xs → Turned pool (tried_behind tried turns) t ys → Turns pool tried (turns ++ t ∷ []) (xs ++ ys)
turns-more pool tried [] t xs ys h g = (ys, [], ap (λ (es : List Event). es ++ ys) h ∙ sym (append-nil ys), g, refl)
turns-more pool tried (u ∷ turns) t xs ys (us, vs, same, one, others) g =
    (us, vs ++ ys, ap (λ (es : List Event). es ++ ys) same ∙ append_assoc us vs ys, one, turns-more pool (seen tried u.lines) turns t vs ys others g)

tried-more : (tried : List Key) (turns : List Turn) (t : Turn) → tried_behind tried (turns ++ t ∷ []) ≡ seen (tried_behind tried turns) t.lines
tried-more tried [] t = refl
tried-more tried (u ∷ turns) t = tried-more (seen tried u.lines) turns t

files-more : (turns : List Turn) (t : Turn) → files_of (turns ++ t ∷ []) ≡ files_of turns ++ t.file ∷ []
files-more [] t = refl
files-more (u ∷ turns) t = ap (λ (fs : List ℕ). u.file ∷ fs) (files-more turns t)

abbrev moved_with : ℕ → ℕ → Moved
moved_with moved failed = record { moved = moved; failed = failed }

around-none : (n : ℕ) → n + 0 ≡ 0 + n
around-none n = omega arith

plus-over : (a b c : ℕ) → a + (b + c) ≡ (a + b) + c
plus-over a b c = omega arith

sum-more : (turns : List Turn) (t : Turn) → sum_of (turns ++ t ∷ []) ≡ both_moved (sum_of turns) t.came
sum-more [] t = ap₂ moved_with (around-none t.came.moved) (around-none t.came.failed)
sum-more (u ∷ turns) t =
    ap (both_moved u.came) (sum-more turns t)
    ∙ ap₂ moved_with (plus-over u.came.moved (sum_of turns).moved t.came.moved) (plus-over u.came.failed (sum_of turns).failed t.came.failed)

pub emptied-none : (pool : ℕ) (tried : List Key) → Emptied pool [] tried tried [] (record { moved = 0; failed = 0 })
emptied-none pool tried = record { turns = []; all = refl; done = refl; tried = refl; count = refl }

emptied-more : (pool : ℕ) (files : List ℕ) (old mid new : List Key) (file : ℕ) (m k : Moved) (xs ys : List Event) → Emptied pool files old mid xs m → Clears pool mid new file ys (Ok k)
    → Emptied pool (files ++ file ∷ []) old new (xs ++ ys) (both_moved m k)
emptied-more pool files old mid new file m k xs ys h (lines, tried, turned) =
    let t : Turn = record { file = file; lines = lines; came = k } in
    record {
      turns = h.turns ++ t ∷ [];
      all = files-more h.turns t ∙ ap (λ (fs : List ℕ). fs ++ file ∷ []) h.all;
      done = turns-more pool old h.turns t xs ys h.done (subst (λ (ks : List Key). Turned pool ks t ys) h.tried turned);
      tried = tried ∙ ap (λ (ks : List Key). seen ks lines) h.tried ∙ sym (tried-more old h.turns t);
      count = ap (λ (n : Moved). both_moved n k) h.count ∙ sym (sum-more h.turns t);
    }

taken-more : (files : List ℕ) (place file : ℕ) → place < length files → file ≡ get_or files place 0 → take (place + 1) files ≡ take place files ++ file ∷ []
taken-more files place file l is = take_more files place 0 l ∙ ap (λ (y : ℕ). take place files ++ y ∷ []) (sym is)

pub emptied-next : {S : Type 0} (did : S → List Event → S → Type 0) → GoesOn did → (p q r : S) (pool : ℕ) (files : List ℕ) (place file : ℕ) (old mid new : List Key) (m k both : Moved)
    → both ≡ both_moved m k → place < length files → file ≡ get_or files place 0
    → Call did p q (λ events. Emptied pool (take place files) old mid events m) → Call did q r (λ events. Clears pool mid new file events (Ok k))
    → Call did p r (λ events. Emptied pool (take (place + 1) files) old new events both)
emptied-next did on p q r pool files place file old mid new m k both same l is a b =
    subst (λ (n : Moved). Call did p r (λ events. Emptied pool (take (place + 1) files) old new events n)) (sym same)
    (call_then did on (λ events. Emptied pool (take place files) old mid events m) (λ events. Clears pool mid new file events (Ok k)) (λ events. Emptied pool (take
    (place + 1) files) old new events (both_moved m k)) p q r a b
    (λ xs ys f g. subst (λ (fs : List ℕ). Emptied pool fs old new (xs ++ ys) (both_moved m k)) (sym (taken-more files place file l is)) (emptied-more pool (take place files) old mid new file m k xs ys f g)))

pub emptied-all : {S : Type 0} (did : S → List Event → S → Type 0) (p q : S) (pool : ℕ) (files : List ℕ) (old new : List Key) (m : Moved)
    → Call did p q (λ events. Emptied pool (take (length files) files) old new events m) → Call did p q (λ events. ClearsAll pool files old events (Ok m))
emptied-all did p q pool files old new m a = (a.0, a.1, (new, subst (λ (fs : List ℕ). Emptied pool fs old new a.0 m) (take_all (length files) files (omega arith)) a.2))

-- ---- what they leave

pub turned-clean : (files : List ℕ) (pool : ℕ) (tried : List Key) (t : Turn) (events : List Event) → IsIn t.file files → Turned pool tried t events → Clean files pool events
turned-clean files pool tried t events among (us, vs, same, listed, run) =
    subst (λ (es : List Event). Clean files pool es) (sym same)
    (clean-append files pool us vs (clean-asks files pool us (there-asks t.file us t.lines listed))
    (clean-run files pool t.file (map (moving pool) (fresh tried t.lines)) vs t.came among (all-moves pool (fresh tried t.lines)) run))

pub turns-clean : (files : List ℕ) (pool : ℕ) (tried : List Key) (turns : List Turn) (events : List Event) → Within (files_of turns) files → Turns pool tried turns events → Clean files pool events
turns-clean files pool tried [] events within h = subst (λ (es : List Event). Clean files pool es) (sym h) (clean-asks files pool [] tt)
turns-clean files pool tried (t ∷ turns) events within (us, vs, same, one, others) =
    subst (λ (es : List Event). Clean files pool es) (sym same)
    (clean-append files pool us vs (turned-clean files pool tried t us (within t.file (inl refl)) one) (turns-clean files pool (seen tried t.lines) turns vs (λ file m. within file (inr m)) others))

in-taken : (files : List ℕ) (n file : ℕ) → IsIn file (take n files) → IsIn file files
in-taken files n file m = subst (λ (fs : List ℕ). IsIn file fs) (take-append-drop n files) (in-before file (take n files) (drop n files) m)

in-place : (files : List ℕ) (place file : ℕ) → place < length files → file ≡ get_or files place 0 → IsIn file files
in-place files place file l is =
    in-taken files (place + 1) file (subst (λ (fs : List ℕ). IsIn file fs) (sym (taken-more files place file l is)) (in-behind file (take place files) (file ∷ []) (inl refl)))

pub emptied-clean : (pool : ℕ) (all files : List ℕ) (old new : List Key) (events : List Event) (m : Moved) → Within files all → Emptied pool files old new events m → Clean all pool events
emptied-clean pool all files old new events m within h = turns-clean all pool old h.turns events (λ file i. within file (subst (λ (fs : List ℕ). IsIn file fs) h.all i)) h.done

pub clear-breaks : {S : Type 0} (did : S → List Event → S → Type 0) → GoesOn did → (p q r : S) (pool : ℕ) (files : List ℕ) (place file : ℕ) (old mid new : List Key) (m : Moved) (e : Refusal)
    → place < length files → file ≡ get_or files place 0
    → Call did p q (λ events. Emptied pool (take place files) old mid events m) → Call did q r (λ events. Clears pool mid new file events (Err e))
    → Call did p r (λ events. ClearsAll pool files old events (Err e))
clear-breaks did on p q r pool files place file old mid new m e l is a b =
    call_then did on (λ events. Emptied pool (take place files) old mid events m) (λ events. Clears pool mid new file events (Err e)) (λ events. Breaks files pool events e) p q r a b
    (λ xs ys f g. breaks-behind files pool xs ys e (emptied-clean pool files (take place files) old mid xs m (λ n i. in-taken files place n i) f)
    (breaks-wider (file ∷ []) files pool ys e (λ n i. only-one n i) g))
  where
    only-one : (n : ℕ) → IsIn n (file ∷ []) → IsIn n files
    only-one n (inl same) = subst (λ (k : ℕ). IsIn k files) same (in-place files place file l is)
    only-one n (inr none) = absurd none

-- the counts are too great for numbers of 64 bits
pub clear-counted : {S : Type 0} (did : S → List Event → S → Type 0) → GoesOn did → (p q r : S) (pool : ℕ) (files : List ℕ) (place file : ℕ) (old mid new : List Key) (m k : Moved) (e : Refusal)
    → e ≡ refused.Memory → place < length files → file ≡ get_or files place 0
    → Call did p q (λ events. Emptied pool (take place files) old mid events m) → Call did q r (λ events. Clears pool mid new file events (Ok k))
    → Call did p r (λ events. ClearsAll pool files old events (Err e))
clear-counted did on p q r pool files place file old mid new m k e memory l is a b =
    so_call did (λ events. Emptied pool (take (place + 1) files) old new events (both_moved m k)) (λ events. Breaks files pool events e) p r
    (emptied-next did on p q r pool files place file old mid new m k (both_moved m k) refl l is a b)
    (λ xs f. breaks-clean files pool xs e (inl memory) (memory-unheld xs e memory) (emptied-clean pool files (take (place + 1) files) old new xs (both_moved m k) (λ n i. in-taken files (place + 1) n i) f))

-- ---- and the end

pub works : {S : Type 0} (did : S → List Event → S → Type 0) → GoesOn did → (p q r : S) (pool : ℕ) (files : List ℕ) (m : Moved) → Call did p q (λ events. ClearsAll pool files [] events (Ok m))
    → Call did q r (λ events. Finishes events (Ok tt)) → Call did p r (λ events. Works pool files events (Ok m))
works did on p q r pool files m a b =
    call_then did on (λ events. ClearsAll pool files [] events (Ok m)) Finished (λ events. Works pool files events (Ok m)) p q r a b (λ xs ys f g. (xs, ys, refl, f, g))

pub works-unfinished : {S : Type 0} (did : S → List Event → S → Type 0) → GoesOn did → (p q r : S) (pool : ℕ) (files : List ℕ) (m : Moved) (e : Refusal)
    → Call did p q (λ events. ClearsAll pool files [] events (Ok m)) → Call did q r (λ events. Finishes events (Err e)) → Call did p r (λ events. Works pool files events (Err e))
works-unfinished did on p q r pool files m e a b =
    call_then did on (λ events. ClearsAll pool files [] events (Ok m)) (λ events. Finishes events (Err e)) (λ events. Breaks files pool events e) p q r a b
    (λ xs ys f g. breaks-behind files pool xs ys e (emptied-clean pool files files [] f.0 xs m (λ n i. i) f.1) (breaks-clean files pool ys e g.0 (ending-unheld ys e g.1 g.0) (clean-ends files pool ys g.1)))

pub works-broken : {S : Type 0} (did : S → List Event → S → Type 0) (p q : S) (pool : ℕ) (files : List ℕ) (e : Refusal) → Call did p q (λ events. ClearsAll pool files [] events (Err e))
    → Call did p q (λ events. Works pool files events (Err e))
works-broken did p q pool files e a = a
