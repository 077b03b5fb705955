-- What the turns of volumes came to: their counts, and the copies that were on them.
use Rattle.std.proofs.Common.{◌≡◌, ◌⊎◌, inl, inr, ℕ, ◌+◌, ◌≤◌, ◌==◌, ◌&&◌, ◌||◌, Bool, true, false, is_some, List, [], ◌∷◌, ◌++◌, append_assoc, length, map, Option, Some, None, Result, Ok, Err, if◌then◌else◌, refl, sym, ap, subst, ◌∙◌, arith}
use Rattle.std.proofs.lemmas.Bool.{eqb-true, false≢true}
use Rattle.std.proofs.lemmas.List.{length-append}
use Rattle.std.specs.List.{AllByRecursion, list_all, list_any}
use Rattle.kinds.specs.Refusals.{foremost, number_of, refusal_of}
use Rattle.kinds.specs.declared.refusal.Refusal.{Refusal}
use Rattle.kinds.specs.declared.refusal.Refusal.TheVariants as refused
use Rattle.kinds.specs.declared.segment.Segment.{Segment}
use Rattle.inventory_answers.specs.declared.query.Query.TheVariants as query
use Rattle.inventory_answers.specs.declared.reply.Answer.{Answer}
use Rattle.inventory_answers.specs.declared.reply.Rows.{Rows}
use Rattle.inventory_answers.specs.declared.reply.Rows.TheVariants as rows
use Rattle.inventory_rows.specs.version_groups.declared.copies.CopyRow.{CopyRow}
use Rattle.inventory_rows.specs.version_groups.declared.versions.Version.{Version}
use Rattle.inventory_rows.specs.version_groups.Entries.{on_ok}
use Rattle.inventory_rows.specs.volume_rows.declared.volume.Volume.{Volume}
use Rattle.inventory_rows.specs.pool_tables.Rows.{row_at}
use Rattle.inventory_rows.specs.Search.{copies, lies_on, pool, versions}
use Rattle.inventory_rows.specs.State.{Inv}
use Rattle.inventory_rules.specs.Valid.{is_of_pool, is_valid}
use Rattle.inventory_laws.proofs.Facts.{facts_of, first, rest}
use Rattle.inventory_laws.proofs.Lists.{all_of, each_within}
use Rattle.inventory_laws.proofs.Origins.{each_found}
use Rattle.inventory_work.specs.declared.lines.CopyLine.{CopyLine}
use Rattle.inventory_work.specs.Copies.{has_volume}
use Rattle.space.specs.declared.aim.Aim.TheVariants as aim
use Rattle.steps.specs.Events.{Event, event}
use Rattle.steps.specs.Events.Deed.{Ask}
use Rattle.steps.specs.Receipts.{made}
use Rattle.machine.specs.Fits.{Fits, History, Own, Step, inv}
use Rattle.machine.specs.Says.{Says, is_elsewhere}
use Rattle.machine.proofs.Runs.{fits-cut, fits-one, fits-rises}
use Rattle.copy_attempts.proofs.Facts.{made-append}
use Rattle.copy_runs.specs.declared.wanted.Moved.{Moved}
use Rattle.copy_runs.specs.declared.wanted.Wanted.{Wanted}
use Rattle.copy_runs.specs.Ends.{AreAsking}
use Rattle.copy_runs.specs.Returning.{AreValid, Holds}
use Rattle.copy_runs.specs.Runs.{Run, copies_in, failing_in, is_among}
use Rattle.copy_runs.specs.Wanting.{IsIn, is_wanted}
use Rattle.copy_runs.proofs.Listing.{HasLine, copy-listed}
use Rattle.copy_runs.proofs.Outcomes.{copies-append, failing-append}
use Rattle.copy_runs.proofs.Returning.{held-wanted}
use Rattle.copy_runs.proofs.Told.{reaches}
use Rattle.copy_runs.proofs.Whole.{asks-begun, asks-unmade}
use Rattle.reclamation.specs.Moving.{HasFailedOff, into, moving}
use Rattle.reclamation.specs.Reclaiming.{HasFailedOn, ListedThere, Turn, Turned, Turns, both_moved, files_of, sum_of}
use Rattle.reclamation.specs.Tried.{Key, fresh, seen}
use Rattle.reclamation.proofs.Clearing.{Within, there-asks, turned-clean}
use Rattle.reclamation.proofs.Listing.{asked-copies}
use Rattle.reclamation.proofs.Moves.{AreMoves, all-moves, each-failed, moving-in}
use Rattle.reclamation.proofs.Seen.{HasFresh, has_key, listed-tried, seen-tried}

-- ---- failed objects, among more events

off-behind : (file to : ℕ) (xs ys : List Event) (object : ℕ) → HasFailedOff file to ys object → HasFailedOff file to (xs ++ ys) object
off-behind file to xs ys object (x, is, (it, before, those, after, among, same, all, attempt)) =
    (x, is, (it, xs ++ before, those, after, among, same, ap (λ (es : List Event). xs ++ es) all ∙ sym (append_assoc xs before (those ++ after)), attempt))

off-before : (file to : ℕ) (xs ys : List Event) (object : ℕ) → HasFailedOff file to xs object → HasFailedOff file to (xs ++ ys) object
off-before file to xs ys object (x, is, (it, before, those, after, among, same, all, attempt)) = (
  x,
  is,
  (
    it,
    before,
    those,
    after ++ ys,
    among,
    same,
    ap (λ (es : List Event). es ++ ys) all ∙ append_assoc before (those ++ after) ys ∙ ap (λ (es : List Event). before ++ es) (append_assoc those after ys),
    attempt,
  ),
)

pub on-behind : (files : List ℕ) (pool : ℕ) (xs ys : List Event) (objects : List ℕ) → AllByRecursion (HasFailedOn files pool ys) objects → AllByRecursion (HasFailedOn files pool (xs ++ ys)) objects
on-behind files pool xs ys [] h = tt
on-behind files pool xs ys (o ∷ objects) h = ((h.0.0, h.0.1, off-behind h.0.0 pool xs ys o h.0.2), on-behind files pool xs ys objects h.1)

pub on-before : (files : List ℕ) (pool : ℕ) (xs ys : List Event) (objects : List ℕ) → AllByRecursion (HasFailedOn files pool xs) objects → AllByRecursion (HasFailedOn files pool (xs ++ ys)) objects
on-before files pool xs ys [] h = tt
on-before files pool xs ys (o ∷ objects) h = ((h.0.0, h.0.1, off-before h.0.0 pool xs ys o h.0.2), on-before files pool xs ys objects h.1)

off-on : (files : List ℕ) (pool file : ℕ) (events : List Event) (objects : List ℕ) → IsIn file files → AllByRecursion (HasFailedOff file pool events) objects → AllByRecursion (HasFailedOn files pool events) objects
off-on files pool file events [] among h = tt
off-on files pool file events (o ∷ objects) among h = ((file, among, h.0), off-on files pool file events objects among h.1)

each-append : (P : ℕ → Type 0) (xs ys : List ℕ) → AllByRecursion P xs → AllByRecursion P ys → AllByRecursion P (xs ++ ys)
each-append P [] ys a b = b
each-append P (x ∷ xs) ys a b = (a.0, each-append P xs ys a.1 b)

-- ---- counts

pub record Share (files : List ℕ) (pool : ℕ) (events : List Event) (m : Moved) (failed : List ℕ) : Type 0 where
  pub moved : m.moved ≡ copies_in (made events)
  pub number : length failed ≡ m.failed
  pub risen : m.failed ≤ failing_in events
  pub each : AllByRecursion (HasFailedOn files pool events) failed

share-none : (files : List ℕ) (pool : ℕ) → Share files pool [] (record { moved = 0; failed = 0 }) []
share-none files pool = record { moved = refl; number = refl; risen = omega arith; each = tt }

share-append : (files : List ℕ) (pool : ℕ) (xs ys : List Event) (m k : Moved) (f g : List ℕ) → Share files pool xs m f → Share files pool ys k g → Share files pool (xs ++ ys) (both_moved m k) (f ++ g)
share-append files pool xs ys m k f g a b =
    let one : m.moved ≡ copies_in (made xs) = a.moved in
    let two : k.moved ≡ copies_in (made ys) = b.moved in
    let copies_are : copies_in (made (xs ++ ys)) ≡ copies_in (made xs) + copies_in (made ys) = ap copies_in (made-append xs ys) ∙ copies-append (made xs) (made ys) in
    let first_number : length f ≡ m.failed = a.number in
    let next_number : length g ≡ k.failed = b.number in
    let lengths : length (f ++ g) ≡ length f + length g = length-append f g in
    let first_risen : m.failed ≤ failing_in xs = a.risen in
    let next_risen : k.failed ≤ failing_in ys = b.risen in
    let failing : failing_in (xs ++ ys) ≡ failing_in xs + failing_in ys = failing-append xs ys in
    record {
      moved = omega arith;
      number = omega arith;
      risen = omega arith;
      each = each-append (HasFailedOn files pool (xs ++ ys)) f g (on-before files pool xs ys f a.each) (on-behind files pool xs ys g b.each);
    }

-- behind questions
share-behind : (files : List ℕ) (pool : ℕ) (xs ys : List Event) (m : Moved) (f : List ℕ) → AreAsking xs → Share files pool ys m f → Share files pool (xs ++ ys) m f
share-behind files pool xs ys m f asks a =
    let one : m.moved ≡ copies_in (made ys) = a.moved in
    let copies_are : copies_in (made (xs ++ ys)) ≡ copies_in (made ys) = ap copies_in (made-append xs ys ∙ ap (λ (es : List Event). es ++ made ys) (asks-unmade xs asks)) in
    let few : m.failed ≤ failing_in ys = a.risen in
    let failing : failing_in (xs ++ ys) ≡ failing_in xs + failing_in ys = failing-append xs ys in
    record { moved = one ∙ sym copies_are; number = a.number; risen = omega arith; each = on-behind files pool xs ys f a.each }

share-run : (files : List ℕ) (pool file : ℕ) (wanted : List Wanted) (events : List Event) (m : Moved) → IsIn file files → AreMoves pool wanted → (run : Run wanted file events (Ok m)) → Share files pool events m run.outcome.failed
share-run files pool file wanted events m among all run = record {
  moved = run.outcome.moved;
  number = run.outcome.number;
  risen = run.outcome.risen;
  each = off-on files pool file events run.outcome.failed among (each-failed file pool wanted events run.outcome.failed all run.outcome.each);
}

-- the objects that failed in a turn
abbrev pub failed_then : (pool : ℕ) (tried : List Key) (t : Turn) (events : List Event) → Turned pool tried t events → List ℕ
failed_then pool tried t events h = h.4.outcome.failed

-- in all of these
abbrev pub failed_in : (pool : ℕ) (tried : List Key) (turns : List Turn) (events : List Event) → Turns pool tried turns events → List ℕ
failed_in pool tried [] events h = []
failed_in pool tried (t ∷ turns) events h = failed_then pool tried t h.0 h.3 ++ failed_in pool (seen tried t.lines) turns h.1 h.4

share-turned : (files : List ℕ) (pool : ℕ) (tried : List Key) (t : Turn) (events : List Event) → IsIn t.file files → (h : Turned pool tried t events) → Share files pool events t.came (failed_then pool tried t events h)
share-turned files pool tried t events among (us, vs, same, listed, run) =
    subst (λ (es : List Event). Share files pool es t.came run.outcome.failed) (sym same)
    (share-behind files pool us vs t.came run.outcome.failed (there-asks t.file us t.lines listed)
    (share-run files pool t.file (map (moving pool) (fresh tried t.lines)) vs t.came among (all-moves pool (fresh tried t.lines)) run))

pub share-turns : (files : List ℕ) (pool : ℕ) (tried : List Key) (turns : List Turn) (events : List Event) → Within (files_of turns) files → (h : Turns pool tried turns events)
    → Share files pool events (sum_of turns) (failed_in pool tried turns events h)
share-turns files pool tried [] events within h = subst (λ (es : List Event). Share files pool es (record { moved = 0; failed = 0 }) []) (sym h) (share-none files pool)
share-turns files pool tried (t ∷ turns) events within (us, vs, same, one, others) =
    subst (λ (es : List Event). Share files pool es (sum_of (t ∷ turns)) (failed_then pool tried t us one ++ failed_in pool (seen tried t.lines) turns vs others)) (sym same)
    (share-append files pool us vs t.came (sum_of turns) (failed_then pool tried t us one) (failed_in pool (seen tried t.lines) turns vs others)
    (share-turned files pool tried t us (within t.file (inl refl)) one)
    (share-turns files pool (seen tried t.lines) turns vs (λ file m. within file (inr m)) others))

-- ---- a volume on which a copy lies is there

of-none : (o : Option Volume) (p : ℕ) → is_some o ≡ false → is_of_pool p o ≡ true → ⊥
of-none None p none h = false≢true h
of-none (Some volume) p none h = false≢true (sym none)

cited-there : (file p : ℕ) (volumes : List (ℕ × Volume)) (segments : List Segment) → list_all (λ s. is_of_pool p (row_at s.file volumes)) segments ≡ true → list_any (λ s. s.file == file) segments ≡ true
    → is_some (row_at file volumes) ≡ true
cited-there file p volumes [] cites lies = absurd (false≢true lies)
cited-there file p volumes (s ∷ segments) cites lies =
    let here = first (is_of_pool p (row_at s.file volumes)) (list_all (λ (x : Segment). is_of_pool p (row_at x.file volumes)) segments) cites in
    let others = rest (is_of_pool p (row_at s.file volumes)) (list_all (λ (x : Segment). is_of_pool p (row_at x.file volumes)) segments) cites in
    elim (s.file == file) as (λ b. (s.file == file) ≡ b → (b || list_any (λ (x : Segment). x.file == file) segments) ≡ true → is_some (row_at file volumes) ≡ true) [
      | true ↦ λ same any. there (row_at file volumes) (subst (λ (n : ℕ). is_of_pool p (row_at n volumes) ≡ true) (eqb-true s.file file same) here)
      | false ↦ λ same any. cited-there file p volumes segments others any
    ] refl lies
  where
    there : (o : Option Volume) → is_of_pool p o ≡ true → is_some o ≡ true
    there None h = absurd (false≢true h)
    there (Some volume) h = refl

abbrev cited : Inv → ℕ × CopyRow → Bool
cited v e = is_some (pool e.1.pool v) && list_all (λ s. is_of_pool e.1.pool (row_at s.file v.stores.volumes)) e.1.segments

pub volume-there : (file object : ℕ) (copy : CopyRow) (v : Inv) → is_valid v ≡ true → Holds object copy v → lies_on file copy ≡ true → has_volume file v ≡ true
volume-there file object copy v valid h lies =
    let all = all_of (cited v) (copies v) (facts_of v valid).copies_cite in
    let of_versions = each_within (λ (e : ℕ × CopyRow). cited v e ≡ true) (λ (x : Version) (c : CopyRow). (x.object, c)) (λ (x : Version). x.copies) (versions v) all in
    let one = each_found (λ (y : Version). AllByRecursion (λ (c : CopyRow). cited v (y.object, c) ≡ true) y.copies) (λ (y : Version). y.object == object) (versions v) h.0 of_versions h.1 in
    let c = each_found (λ (y : CopyRow). cited v (h.0.object, y) ≡ true) (λ (y : CopyRow). y.pool == copy.pool) h.0.copies copy one.0 h.2 in
    cited-there file copy.pool v.stores.volumes copy.segments
    (rest (is_some (pool copy.pool v)) (list_all (λ s. is_of_pool copy.pool (row_at s.file v.stores.volumes)) copy.segments) c.0) lies

-- a question for its copies that is answered so is one for a volume that isn't there
own-ten : (e : Refusal) → (number_of e == 10) ≡ true → is_elsewhere e ≡ true → ⊥
own-ten e ten away =
    false≢true (subst (λ (k : ℕ). list_any (λ n. n == k) (20 ∷ 21 ∷ 24 ∷ 25 ∷ 31 ∷ 40 ∷ 41 ∷ 50 ∷ []) ≡ true) (eqb-true (number_of e) 10 ten) away)

abbrev answer_of : Inv → Result (List CopyLine) Refusal → Result Answer Refusal
answer_of v r = on_ok (λ (x : Rows). record { n = v.number; today = v.today; rows = x }) (on_ok rows.OnVolume r)

absent-by : (v : Inv) (lines : List CopyLine) (b : Bool) (e : Refusal) → foremost (refusal_of (answer_of v (if b then Ok lines else Err refused.NotFound))) ≡ Some e → b ≡ false
absent-by v lines true e h = absurd cc
absent-by v lines false e h = refl

is-absent : (w : History) (actor : ℕ) (a b : Own) (n file : ℕ) (e : Refusal) → (number_of e == 10) ≡ true → Step w actor a (event n (Ask (query.OnVolume file) (Err e))) b → has_volume file (inv w n) ≡ false
unfolding Says
is-absent w actor a b n file e ten s = elim s.says as (λ _. has_volume file (inv w n) ≡ false) [
  | inl held ↦ absent-by (inv w n) _ (has_volume file (inv w n)) e held
  | inr away ↦ absurd (own-ten e ten away)
]

-- ---- a copy that stays is counted as failed

abbrev key_for : (object : ℕ) → CopyRow → Key
key_for object copy = (object, copy.pool, copy.placed)

-- The copy is there at each number from the one to the other, and was placed before.
pub record Stays (w : History) (object : ℕ) (copy : CopyRow) (from to : ℕ) : Type 0 where
  pub there : (n : ℕ) → from ≤ n → n ≤ to → Holds object copy (inv w n)
  pub past : copy.placed ≤ from

stays-within : (w : History) (object : ℕ) (copy : CopyRow) (from to low high : ℕ) → from ≤ low → high ≤ to → Stays w object copy from to → Stays w object copy low high
stays-within w object copy from to low high up down s =
    let past_then : copy.placed ≤ from = s.past in
    record { there = λ n l h. s.there n (omega arith) (omega arith); past = omega arith }

run-among : (w : History) (actor : ℕ) (a b : Own) (pool file object : ℕ) (copy : CopyRow) (lines : List CopyLine) (events : List Event) (m : Moved) → a.tickets ≡ [] → Fits w actor a events b
    → (run : Run (map (moving pool) lines) file events (Ok m)) → Stays w object copy a.reached b.reached → HasFresh lines (key_for object copy) → is_among object run.outcome.failed ≡ true
run-among w actor a b pool file object copy lines events m none f run stays (l, among, same) =
    subst (λ (k : ℕ). is_among k run.outcome.failed ≡ true) same.0
    (run.outcome.done w actor a b none f (moving pool l) (moving-in pool lines l among) (subst (λ (n : ℕ). n ≤ a.reached) (sym same.2) stays.past)
    (λ n low up.
    ap (λ (k : ℕ). is_wanted (aim.Move l.pool l.placed (into pool l.pool) false) k (inv w n)) same.0
    ∙ ap (λ (k : ℕ). is_wanted (aim.Move k l.placed (into pool l.pool) false) object (inv w n)) same.1
    ∙ ap (λ (k : ℕ). is_wanted (aim.Move copy.pool k (into pool l.pool) false) object (inv w n)) same.2
    ∙ held-wanted object copy (inv w n) (into pool l.pool) false (stays.there n low up)))

-- it is listed with its volume
turn-lists : (w : History) (actor : ℕ) (a b : Own) (file object : ℕ) (copy : CopyRow) (lines : List CopyLine) (events : List Event) → AreValid w → Fits w actor a events b
    → ListedThere file events lines → Stays w object copy a.reached b.reached → lies_on file copy ≡ true → HasLine object copy lines
turn-lists w actor a b file object copy lines events valid f (inl (n, answer, same, is)) stays lies =
    let s : Step w actor a (event n (Ask (query.OnVolume file) (Ok answer))) b = fits-one w actor a b (event n (Ask (query.OnVolume file) (Ok answer))) (subst (λ (es : List Event). Fits w actor a es b) same f) in
    let low : a.reached ≤ n = s.since in
    let up : n ≤ b.reached = reaches w actor a b (event n (Ask (query.OnVolume file) (Ok answer))) s in
    subst (λ (ls : List CopyLine). HasLine object copy ls) (sym (asked-copies w actor a b n file answer lines s is))
    (copy-listed (lies_on file) object copy (inv w n) (stays.there n low up) lies)
turn-lists w actor a b file object copy lines events valid f (inr (none, n, e, ten, same)) stays lies =
    let s : Step w actor a (event n (Ask (query.OnVolume file) (Err e))) b = fits-one w actor a b (event n (Ask (query.OnVolume file) (Err e))) (subst (λ (es : List Event). Fits w actor a es b) same f) in
    let low : a.reached ≤ n = s.since in
    let up : n ≤ b.reached = reaches w actor a b (event n (Ask (query.OnVolume file) (Err e))) s in
    let there : has_volume file (inv w n) ≡ true = volume-there file object copy (inv w n) (valid n s.begun s.within) (stays.there n low up) lies in
    absurd (false≢true (sym (is-absent w actor a b n file e ten s) ∙ there))

abbrev Was : List Key → List ℕ → (object : ℕ) → CopyRow → Type 0
Was tried failed object copy = (has_key tried (key_for object copy) ≡ true) ⊎ (is_among object failed ≡ true)

-- in the turn of its volume it fails, or was tried before
turn-done : (w : History) (actor : ℕ) (a b : Own) (pool object : ℕ) (copy : CopyRow) (tried : List Key) (t : Turn) (events : List Event) → AreValid w → a.tickets ≡ [] → Fits w actor a events b
    → (h : Turned pool tried t events) → Stays w object copy a.reached b.reached → lies_on t.file copy ≡ true → Was tried (failed_then pool tried t events h) object copy
turn-done w actor a b pool object copy tried t events valid none f (us, vs, same, listed, run) stays lies =
    let r = fits-cut w actor a b us vs (subst (λ (es : List Event). Fits w actor a es b) same f) in
    let up : a.reached ≤ r.0.reached = fits-rises w actor a r.0 us r.1 in
    let down : r.0.reached ≤ b.reached = fits-rises w actor r.0 b vs r.2 in
    let same_low : a.reached ≤ a.reached = omega arith in
    let same_high : b.reached ≤ b.reached = omega arith in
    let line = turn-lists w actor a r.0 t.file object copy t.lines us valid r.1 listed (stays-within w object copy a.reached b.reached a.reached r.0.reached same_low down stays) lies in
    elim (listed-tried tried t.lines line.0 (key_for object copy) line.2 line.1) as (λ _. Was tried run.outcome.failed object copy) [
      | inl was ↦ inl was
      | inr now ↦ inr (run-among w actor r.0 b pool t.file object copy (fresh tried t.lines) vs t.came ((asks-begun us (there-asks t.file us t.lines listed)).none_left w actor a r.0 none r.1) r.2 run
          (stays-within w object copy a.reached b.reached r.0.reached b.reached up same_high stays) now)
    ]

-- a copy that was tried behind a turn fails in it, or was tried before
turn-tried : (w : History) (actor : ℕ) (a b : Own) (pool object : ℕ) (copy : CopyRow) (tried : List Key) (t : Turn) (events : List Event) → a.tickets ≡ [] → Fits w actor a events b
    → (h : Turned pool tried t events) → Stays w object copy a.reached b.reached → has_key (seen tried t.lines) (key_for object copy) ≡ true → Was tried (failed_then pool tried t events h) object copy
turn-tried w actor a b pool object copy tried t events none f (us, vs, same, listed, run) stays behind =
    let r = fits-cut w actor a b us vs (subst (λ (es : List Event). Fits w actor a es b) same f) in
    let up : a.reached ≤ r.0.reached = fits-rises w actor a r.0 us r.1 in
    let same_high : b.reached ≤ b.reached = omega arith in
    elim (seen-tried tried t.lines (key_for object copy) behind) as (λ _. Was tried run.outcome.failed object copy) [
      | inl was ↦ inl was
      | inr now ↦ inr (run-among w actor r.0 b pool t.file object copy (fresh tried t.lines) vs t.came ((asks-begun us (there-asks t.file us t.lines listed)).none_left w actor a r.0 none r.1) r.2 run
          (stays-within w object copy a.reached b.reached r.0.reached b.reached up same_high stays) now)
    ]

among-before : (object : ℕ) (xs ys : List ℕ) → is_among object xs ≡ true → is_among object (xs ++ ys) ≡ true
among-before object [] ys h = absurd (false≢true h)
among-before object (x ∷ xs) ys h =
    elim (x == object) as (λ b. (b || list_any (λ n. n == object) xs) ≡ true → (b || list_any (λ n. n == object) (xs ++ ys)) ≡ true) [ true ↦ λ t. refl | false ↦ λ t. among-before object xs ys t ] h

among-behind : (object : ℕ) (xs ys : List ℕ) → is_among object ys ≡ true → is_among object (xs ++ ys) ≡ true
among-behind object [] ys h = h
among-behind object (x ∷ xs) ys h =
    elim (x == object) as (λ b. (b || list_any (λ n. n == object) (xs ++ ys)) ≡ true) [ true ↦ refl | false ↦ among-behind object xs ys h ]

was-before : (tried : List Key) (f g : List ℕ) (object : ℕ) (copy : CopyRow) → Was tried f object copy → Was tried (f ++ g) object copy
was-before tried f g object copy (inl h) = inl h
was-before tried f g object copy (inr h) = inr (among-before object f g h)

-- A copy that stays, on one of the volumes, was tried before, or is counted as failed.
pub turns-done : (w : History) (actor : ℕ) (a b : Own) (pool file object : ℕ) (copy : CopyRow) (files : List ℕ) (tried : List Key) (turns : List Turn) (events : List Event) → AreValid w → a.tickets ≡ []
    → Fits w actor a events b → Within (files_of turns) files → (h : Turns pool tried turns events) → Stays w object copy a.reached b.reached → lies_on file copy ≡ true → IsIn file (files_of turns)
    → (has_key tried (key_for object copy) ≡ true) ⊎ (is_among object (failed_in pool tried turns events h) ≡ true)
turns-done w actor a b pool file object copy files tried [] events valid none f within h stays lies among = absurd among
turns-done w actor a b pool file object copy files tried (t ∷ turns) events valid none f within (us, vs, same, one, others) stays lies among =
    let r = fits-cut w actor a b us vs (subst (λ (es : List Event). Fits w actor a es b) same f) in
    let up : a.reached ≤ r.0.reached = fits-rises w actor a r.0 us r.1 in
    let down : r.0.reached ≤ b.reached = fits-rises w actor r.0 b vs r.2 in
    let same_low : a.reached ≤ a.reached = omega arith in
    let same_high : b.reached ≤ b.reached = omega arith in
    let first_stays : Stays w object copy a.reached r.0.reached = stays-within w object copy a.reached b.reached a.reached r.0.reached same_low down stays in
    let next_stays : Stays w object copy r.0.reached b.reached = stays-within w object copy a.reached b.reached r.0.reached b.reached up same_high stays in
    let now : List ℕ = failed_then pool tried t us one in
    let later : List ℕ = failed_in pool (seen tried t.lines) turns vs others in
    let empty : r.0.tickets ≡ [] = (turned-clean files pool tried t us (within t.file (inl refl)) one).none_left w actor a r.0 none r.1 in
    elim among as (λ _. Was tried (now ++ later) object copy) [
      | inl here ↦ was-before tried now later object copy
          (turn-done w actor a r.0 pool object copy tried t us valid none r.1 one first_stays (subst (λ (n : ℕ). lies_on n copy ≡ true) (sym here) lies))
      | inr there ↦ elim (turns-done w actor r.0 b pool file object copy files (seen tried t.lines) turns vs valid empty r.2 (λ n m. within n (inr m)) others next_stays lies there) as (λ _. Was tried (now ++ later) object copy) [
        | inl behind ↦ was-before tried now later object copy (turn-tried w actor a r.0 pool object copy tried t us none r.1 one first_stays behind)
        | inr failed ↦ inr (among-behind object now later failed)
      ]
    ]
