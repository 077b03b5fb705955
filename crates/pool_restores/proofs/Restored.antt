-- What a restore came to.
use Rattle.std.proofs.Common.{◌≡◌, ◌⊎◌, inl, inr, ℕ, ◌+◌, ◌-◌, ◌^◌, ◌≤◌, ◌==◌, ◌&&◌, ◌||◌, not, Bool, true, false, List, [], ◌∷◌, ◌++◌, Option, Some, None, Result, Ok, Err, IfOk, refl, sym, ap, ap₂, subst, ◌∙◌, arith, append_assoc, if◌then◌else◌}
use Rattle.std.proofs.lemmas.Bool.{and_parts, eq-eqb, eqb-true, false≢true}
use Rattle.std.proofs.lemmas.List.{append-nil}
use Rattle.std.specs.List.{AllByRecursion, list_any}
use Rattle.kinds.specs.Refusals.{number_of}
use Rattle.kinds.specs.declared.refusal.Holder.{Holder}
use Rattle.kinds.specs.declared.refusal.Refusal.{Refusal}
use Rattle.kinds.specs.declared.refusal.Refusal.TheVariants as refused
use Rattle.inventory_answers.specs.declared.lines.VolumeLine.{VolumeLine}
use Rattle.inventory_answers.specs.Stores.{volume_lines}
use Rattle.inventory_answers.specs.declared.query.Query.TheVariants as query
use Rattle.inventory_answers.specs.declared.reply.Answer.{Answer}
use Rattle.inventory_answers.specs.declared.reply.Rows.{Rows}
use Rattle.inventory_answers.specs.declared.reply.Rows.TheVariants as rows
use Rattle.inventory_work.specs.declared.lines.CopyLine.{CopyLine}
use Rattle.inventory_work.specs.Copies.{has_volume}
use Rattle.inventory_work.specs.Lists.{only}
use Rattle.inventory_rows.specs.version_groups.declared.copies.CopyRow.{CopyRow}
use Rattle.inventory_rows.specs.version_groups.Entries.{on_ok}
use Rattle.inventory_rows.specs.Search.{lies_on}
use Rattle.inventory_rows.specs.State.{Inv}
use Rattle.space.specs.declared.aim.Aim.{Aim}
use Rattle.space.specs.declared.aim.Aim.TheVariants as aim
use Rattle.steps.proofs.Joining.{GoesOn, call_then}
use Rattle.steps.specs.Calls.{Call, risen}
use Rattle.steps.specs.Events.{Event, event}
use Rattle.steps.specs.Events.Deed.{Ask, Force, OpenCopy}
use Rattle.steps.specs.Receipts.{made}
use Rattle.machine.specs.Fits.{Fits, History, Own, Step, inv, last}
use Rattle.machine.specs.Machine.{IsAnswer}
use Rattle.machine.specs.Says.{Says}
use Rattle.machine.proofs.Runs.{fits-cut, fits-first, fits-one, fits-rises}
use Rattle.copy_attempts.proofs.Facts.{all-append, met-before, met-behind}
use Rattle.copy_attempts.specs.Outcomes.{IsOf, MetBy}
use Rattle.copy_runs.specs.declared.wanted.Moved.{Moved}
use Rattle.copy_runs.specs.declared.wanted.Wanted.{Wanted}
use Rattle.copy_runs.specs.Ends.{AreAsking, IsAsking, IsStopped, IsUnheld, IsUnlisted, first_of, last_of}
use Rattle.copy_runs.specs.Processes.{AreMoving, Completes, Ended, IsDoneAllAlong, Process}
use Rattle.copy_runs.specs.Returning.{AreValid, Holds, is_kept}
use Rattle.copy_runs.specs.Runs.{EntersOnly, HasFailed, IsCausedByOne, IsEntered, IsEntryFor, is_among}
use Rattle.copy_runs.specs.Tickets.{ListsCopy}
use Rattle.copy_runs.specs.Wanting.{IsIn, IsPast, is_wanted}
use Rattle.copy_runs.proofs.Ending.{stopped-behind}
use Rattle.copy_runs.proofs.Entries.{enters-append, unmade-enters}
use Rattle.copy_runs.proofs.Listing.{HasLine, copy-listed, lines_of_copies}
use Rattle.copy_runs.proofs.Outcomes.{in-before, in-behind}
use Rattle.copy_runs.proofs.Parts.{in-either}
use Rattle.copy_runs.proofs.Returning.{held-all-along, held-wanted, placed-past}
use Rattle.copy_runs.proofs.Risen.{call-rises}
use Rattle.copy_runs.proofs.Tickets.{AreListed, lists-all}
use Rattle.copy_runs.proofs.Told.{reaches}
use Rattle.copy_runs.proofs.Unheld.{asking-unheld, ending-unheld, other-unheld, run-unheld, unheld-behind}
use Rattle.copy_runs.proofs.Whole.{IsBegun, Told, asks-begun, asks-unmade, last-behind, process-told, reached-last}
use Rattle.pool_restores.specs.Listing.{AskedVolumes, Collected, Listed, aim_of, destroyed_of, is_of, is_that, is_wanted_of, restoring, with_all, with_one}
use Rattle.pool_restores.specs.Restoring.{BegunPool, BeginsPool, Counted, HasFailedSo, IsAimless, IsEnteredSo, IsPoolBarred, IsPoolRestored, IsRestore, IsRestoring, IsThereSo, PoolRestore, PoolStopped, ToldThere, is_lost}
use Rattle.pool_restores.proofs.Beginning.{collected-asks, there-before, there-behind, there-so, volumes-ask}

-- ---- which copies are wanted

abbrev pub AreRestoring : List Wanted → Type 0
AreRestoring wanted = (x : Wanted) → IsIn x wanted → IsRestoring x

only-restoring : (b : Bool) (line : CopyLine) → AreRestoring (only b (restoring line))
only-restoring true line x (inl is) = (line.pool, line.placed, ap (λ (y : Wanted). y.aim) (sym is))
only-restoring true line x (inr i) = absurd i
only-restoring false line x i = absurd i

all-restoring : (pool : Option ℕ) (lines : List CopyLine) (wanted : List Wanted) → AreRestoring wanted → AreRestoring (with_all pool lines wanted)
all-restoring pool [] wanted h = h
all-restoring pool (line ∷ lines) wanted h =
    all-restoring pool lines (with_one pool line wanted) (λ x i. elim (in-either x wanted (only (is_of pool line && not (is_wanted_of line wanted)) (restoring line)) i) as (λ _. IsRestoring x) [
      | inl a ↦ h x a
      | inr b ↦ only-restoring (is_of pool line && not (is_wanted_of line wanted)) line x b
    ])

pub collected-restoring : (pool : Option ℕ) (files : List ℕ) (from to : List Wanted) (xs : List Event) → Collected pool files from to xs → AreRestoring from → AreRestoring to
collected-restoring pool [] from to xs h all = subst AreRestoring (sym h.1) all
collected-restoring pool (file ∷ files) from to xs h all = collected-restoring pool files (with_all pool h.0 from) to h.1.1 h.1.4 (all-restoring pool h.0 from all)

-- what is wanted was listed by one of these steps
abbrev pub IsFound : List Event → Wanted → Type 0
IsFound events x = (pool : ℕ) × (placed : ℕ) × (x.aim ≡ aim_of pool placed) × MetBy (ListsCopy x.object pool) events

abbrev pub AreFound : List Wanted → List Event → Type 0
AreFound wanted events = (x : Wanted) → IsIn x wanted → IsFound events x

only-found : (b : Bool) (line : CopyLine) (events : List Event) → MetBy (ListsCopy line.object line.pool) events → AreFound (only b (restoring line)) events
only-found true line events met x (inl is) = subst (λ (y : Wanted). IsFound events y) is (line.pool, line.placed, refl, met)
only-found true line events met x (inr i) = absurd i
only-found false line events met x i = absurd i

all-found : (pool : Option ℕ) (lines : List CopyLine) (wanted : List Wanted) (events : List Event) → AreListed lines events → AreFound wanted events → AreFound (with_all pool lines wanted) events
all-found pool [] wanted events listed h = h
all-found pool (line ∷ lines) wanted events listed h =
    all-found pool lines (with_one pool line wanted) events (λ l i. listed l (inr i))
    (λ x i. elim (in-either x wanted (only (is_of pool line && not (is_wanted_of line wanted)) (restoring line)) i) as (λ _. IsFound events x) [
      | inl a ↦ h x a
      | inr b ↦ only-found (is_of pool line && not (is_wanted_of line wanted)) line events (listed line (inl refl)) x b
    ])

found-before : (wanted : List Wanted) (xs ys : List Event) → AreFound wanted xs → AreFound wanted (xs ++ ys)
found-before wanted xs ys h x i = (let k = h x i in (k.0, k.1, k.2, met-before (ListsCopy x.object k.0) xs ys k.3))

pub found-behind : (wanted : List Wanted) (xs ys : List Event) → AreFound wanted ys → AreFound wanted (xs ++ ys)
found-behind wanted xs ys h x i = (let k = h x i in (k.0, k.1, k.2, met-behind (ListsCopy x.object k.0) xs ys k.3))

pub collected-found : (pool : Option ℕ) (files : List ℕ) (from to : List Wanted) (xs first : List Event) → Collected pool files from to xs → AreFound from first → AreFound to (first ++ xs)
collected-found pool [] from to xs first h all = subst (λ (ws : List Wanted). AreFound ws (first ++ xs)) (sym h.1) (found-before from first xs all)
collected-found pool (file ∷ files) from to xs first (lines, (us, vs, is, listed, more)) all =
    subst (λ (es : List Event). AreFound to es) (append_assoc first us vs ∙ ap (λ (es : List Event). first ++ es) (sym is))
    (collected-found pool files (with_all pool lines from) to vs (first ++ us) more
    (all-found pool lines from (first ++ us) (λ l i. met-behind (ListsCopy l.object l.pool) first us (lists-all file us lines listed l i)) (found-before from first us all)))

-- one of them is of this copy of the object
abbrev HasMove : (object pool placed : ℕ) → List Wanted → Type 0
HasMove object pool placed wanted = (x : Wanted) × IsIn x wanted × (x.object ≡ object) × (is_that pool placed x.aim ≡ true)

any-in : {A : Type 0} (test : A → Bool) (xs : List A) → list_any test xs ≡ true → (x : A) × IsIn x xs × (test x ≡ true)
any-in test [] h = absurd (false≢true h)
any-in {A} test (x ∷ xs) h =
    elim (test x) as (λ b. test x ≡ b → (y : A) × IsIn y (x ∷ xs) × (test y ≡ true)) [
      | true ↦ λ e. (x, inl refl, e)
      | false ↦ λ e. (let r = any-in test xs (behind e) in (r.0, inr r.1, r.2))
    ] refl where
      behind : test x ≡ false → list_any test xs ≡ true
      behind e = ap (λ b. b || list_any test xs) (sym e) ∙ h

move-later : (object pool placed : ℕ) (xs ys : List Wanted) → HasMove object pool placed xs → HasMove object pool placed (xs ++ ys)
move-later object pool placed xs ys h = (h.0, in-before h.0 xs ys h.1, h.2, h.3)

stays-all : (pool : Option ℕ) (object in_pool placed : ℕ) (lines : List CopyLine) (wanted : List Wanted) → HasMove object in_pool placed wanted → HasMove object in_pool placed (with_all pool lines wanted)
stays-all pool object in_pool placed [] wanted h = h
stays-all pool object in_pool placed (line ∷ lines) wanted h =
    stays-all pool object in_pool placed lines (with_one pool line wanted) (move-later object in_pool placed wanted (only (is_of pool line && not (is_wanted_of line wanted)) (restoring line)) h)

both-true : (a b : Bool) → a ≡ true → b ≡ true → (a && b) ≡ true
both-true true b h g = g
both-true false b h g = absurd (false≢true h)

one-moved : (pool : Option ℕ) (line : CopyLine) (wanted : List Wanted) → is_of pool line ≡ true → HasMove line.object line.pool line.placed (with_one pool line wanted)
one-moved pool line wanted of_pool =
    elim (is_wanted_of line wanted) as (λ b. is_wanted_of line wanted ≡ b → HasMove line.object line.pool line.placed (wanted ++ only (is_of pool line && not b) (restoring line))) [
      | true ↦ λ e. (let r = any-in (λ (x : Wanted). x.object == line.object && is_that line.pool line.placed x.aim) wanted e in
          let parts = and_parts (r.0.object == line.object) (is_that line.pool line.placed r.0.aim) r.2 in
          move-later line.object line.pool line.placed wanted (only (is_of pool line && not true) (restoring line)) (r.0, r.1, eqb-true r.0.object line.object parts.0, parts.1))
      | false ↦ λ e. (
        restoring line,
        in-behind (restoring line) wanted (only (is_of pool line && not false) (restoring line)) (is-there (is_of pool line) of_pool),
        refl,
        both-true (line.pool == line.pool) (line.placed == line.placed) (eq-eqb line.pool line.pool refl) (eq-eqb line.placed line.placed refl),
      )
    ] refl where
      is-there : (b : Bool) → b ≡ true → IsIn (restoring line) (only (b && true) (restoring line))
      is-there true h = inl refl
      is-there false h = absurd (false≢true h)

line-moved : (pool : Option ℕ) (lines : List CopyLine) (line : CopyLine) (wanted : List Wanted) → IsIn line lines → is_of pool line ≡ true → HasMove line.object line.pool line.placed (with_all pool lines wanted)
line-moved pool [] line wanted i of_pool = absurd i
line-moved pool (l ∷ lines) line wanted (inl is) of_pool =
    stays-all pool line.object line.pool line.placed lines (with_one pool l wanted)
    (subst (λ (k : CopyLine). HasMove line.object line.pool line.placed (with_one pool k wanted)) (sym is) (one-moved pool line wanted of_pool))
line-moved pool (l ∷ lines) line wanted (inr i) of_pool = line-moved pool lines line (with_one pool l wanted) i of_pool

collected-stays : (pool : Option ℕ) (object in_pool placed : ℕ) (files : List ℕ) (from to : List Wanted) (xs : List Event) → Collected pool files from to xs → HasMove object in_pool placed from
    → HasMove object in_pool placed to
collected-stays pool object in_pool placed [] from to xs h m = subst (HasMove object in_pool placed) (sym h.1) m
collected-stays pool object in_pool placed (file ∷ files) from to xs h m =
    collected-stays pool object in_pool placed files (with_all pool h.0 from) to h.1.1 h.1.4 (stays-all pool object in_pool placed h.0 from m)

-- ---- what was answered

abbrev rows_told : Result Answer Refusal → Rows
rows_told (Ok a) = a.rows
rows_told (Err e) = rows.Today

abbrev answer_of : Inv → Result (List CopyLine) Refusal → Result Answer Refusal
answer_of v r = on_ok (λ (x : Rows). record { n = v.number; today = v.today; rows = x }) (on_ok rows.OnVolume r)

told-copies : (v : Inv) (b : Bool) (xs : List CopyLine) (told : Answer) → answer_of v (if b then Ok xs else Err refused.NotFound) ≡ Ok told → told.rows ≡ rows.OnVolume xs
told-copies v true xs told h = sym (ap rows_told h)
told-copies v false xs told h = absurd cc

told-on : (log_length file : ℕ) (v : Inv) (answer : Answer) (lines : List CopyLine) → IsAnswer log_length (query.OnVolume file) v answer → answer.rows ≡ rows.OnVolume lines
    → lines ≡ lines_of_copies (lies_on file) v
told-on log_length file v answer lines h is =
    let told : h.0.rows ≡ rows.OnVolume (lines_of_copies (lies_on file) v) = told-copies v (has_volume file v) (lines_of_copies (lies_on file) v) h.0 h.1 in
    let both : rows.OnVolume lines ≡ rows.OnVolume (lines_of_copies (lies_on file) v) = sym is ∙ ap (λ (x : Answer). x.rows) h.2 ∙ told in
    cc

asked-copies : (w : History) (actor : ℕ) (a b : Own) (n file : ℕ) (answer : Answer) (lines : List CopyLine) → Step w actor a (event n (Ask (query.OnVolume file) (Ok answer))) b
    → answer.rows ≡ rows.OnVolume lines → lines ≡ lines_of_copies (lies_on file) (inv w n)
unfolding Says
asked-copies w actor a b n file answer lines s is = told-on s.says.1.0 file (inv w n) answer lines s.says.1.1 is

told-volumes : (log_length : ℕ) (v : Inv) (answer : Answer) (lines : List VolumeLine) → IsAnswer log_length (query.Volumes None None) v answer → answer.rows ≡ rows.Volumes lines
    → lines ≡ volume_lines None None v.stores
told-volumes log_length v answer lines h is =
    let told : rows.Volumes (volume_lines None None v.stores) ≡ h.0.rows = ap rows_told h.1 in
    let both : rows.Volumes lines ≡ rows.Volumes (volume_lines None None v.stores) = sym is ∙ ap (λ (x : Answer). x.rows) h.2 ∙ sym told in
    cc

asked-volumes : (w : History) (actor : ℕ) (a b : Own) (n : ℕ) (answer : Answer) (lines : List VolumeLine) → Step w actor a (event n (Ask (query.Volumes None None) (Ok answer))) b
    → answer.rows ≡ rows.Volumes lines → lines ≡ volume_lines None None (inv w n).stores
unfolding Says
asked-volumes w actor a b n answer lines s is = told-volumes s.says.1.0 (inv w n) answer lines s.says.1.1 is

-- ---- a copy that is there all along is wanted

abbrev HeldFor : History → (object : ℕ) → CopyRow → (first upto : ℕ) → Type 0
HeldFor w object copy first upto = (n : ℕ) → first ≤ n → n ≤ upto → Holds object copy (inv w n)

listed-moved : (w : History) (actor : ℕ) (a b : Own) (pool : Option ℕ) (file object : ℕ) (copy : CopyRow) (lines : List CopyLine) (from : List Wanted) (xs : List Event) → Listed file xs lines
    → Fits w actor a xs b → lies_on file copy ≡ true → ((l : CopyLine) → l.pool ≡ copy.pool → is_of pool l ≡ true) → HeldFor w object copy a.reached b.reached
    → HasMove object copy.pool copy.placed (with_all pool lines from)
listed-moved w actor a b pool file object copy lines from xs h f on_it of_pool held =
    let n : ℕ = h.0 in
    let s : Step w actor a (event n (Ask (query.OnVolume file) (Ok h.1))) b =
    fits-one w actor a b (event n (Ask (query.OnVolume file) (Ok h.1))) (subst (λ (es : List Event). Fits w actor a es b) h.2 f) in
    let told : lines ≡ lines_of_copies (lies_on file) (inv w n) = asked-copies w actor a b n file h.1 lines s h.3 in
    let there : Holds object copy (inv w n) = held n s.since (reaches w actor a b (event n (Ask (query.OnVolume file) (Ok h.1))) s) in
    let l : HasLine object copy lines = subst (λ (ls : List CopyLine). HasLine object copy ls) (sym told) (copy-listed (lies_on file) object copy (inv w n) there on_it) in
    let m : HasMove l.0.object l.0.pool l.0.placed (with_all pool lines from) = line-moved pool lines l.0 from l.2 (of_pool l.0 l.1.1) in
    (m.0, m.1, m.2 ∙ l.1.0, ap₂ (λ (p q : ℕ). is_that p q m.0.aim) (sym l.1.1) (sym l.1.2) ∙ m.3)

pub collected-moved : (w : History) (actor : ℕ) (a b : Own) (pool : Option ℕ) (file object : ℕ) (copy : CopyRow) (files : List ℕ) (from to : List Wanted) (xs : List Event) → Collected pool files from to xs
    → Fits w actor a xs b → IsIn file files → lies_on file copy ≡ true → ((l : CopyLine) → l.pool ≡ copy.pool → is_of pool l ≡ true) → HeldFor w object copy a.reached b.reached
    → HasMove object copy.pool copy.placed to
collected-moved w actor a b pool file object copy [] from to xs h f i on_it of_pool held = absurd i
collected-moved w actor a b pool file object copy (k ∷ files) from to xs h f i on_it of_pool held =
    let r = fits-cut w actor a b h.1.0 h.1.1 (subst (λ (es : List Event). Fits w actor a es b) h.1.2 f) in
    let rise : a.reached ≤ r.0.reached = fits-rises w actor a r.0 h.1.0 r.1 in
    let later : r.0.reached ≤ b.reached = fits-rises w actor r.0 b h.1.1 r.2 in
    elim i as (λ _. HasMove object copy.pool copy.placed to) [
      | inl is ↦ collected-stays pool object copy.pool copy.placed files (with_all pool h.0 from) to h.1.1 h.1.4
          (listed-moved w actor a r.0 pool file object copy h.0 from h.1.0 (subst (λ (g : ℕ). Listed g h.1.0 h.0) is h.1.3) r.1 on_it of_pool (λ n low high. held n low (omega arith)))
      | inr there ↦ collected-moved w actor r.0 b pool file object copy files (with_all pool h.0 from) to h.1.1 h.1.4 r.2 there on_it of_pool (λ n low high. held n (omega arith) high)
    ]

-- ---- the row

first-later : (w : History) (actor : ℕ) (a b : Own) (x y : Event) (events : List Event) → Fits w actor a (x ∷ y ∷ events) b → x.n ≤ last_of (x ∷ y ∷ events)
first-later w actor a b x y events f =
    let r = fits-first w actor a b x (y ∷ events) f in
    let i : x.n ≤ r.0.reached = reaches w actor a r.0 x r.1 in
    let j : r.0.reached ≤ last_of (y ∷ events) = reached-last w actor r.0 b y events r.2 in
    omega arith

last-within : (w : History) (actor : ℕ) (a b : Own) (x : Event) (events : List Event) → Fits w actor a (x ∷ events) b → last_of (x ∷ events) ≤ last w
last-within w actor a b x [] f = (fits-first w actor a b x [] f).1.within
last-within w actor a b x (y ∷ events) f = let r = fits-first w actor a b x (y ∷ events) f in last-within w actor r.0 b y events r.2

aimed : (p q pool placed : ℕ) → is_that pool placed (aim_of p q) ≡ true → aim_of p q ≡ aim_of pool placed
aimed p q pool placed h = let parts = and_parts (p == pool) (q == placed) h in ap₂ aim_of (eqb-true p pool parts.0) (eqb-true q placed parts.1)

-- the object of a copy that is there all along, and of which a move was wanted, is counted as failed
pub failed-of : (w : History) (actor : ℕ) (a b : Own) (object : ℕ) (copy : CopyRow) (wanted : List Wanted) (failed : List ℕ) (events : List Event) → a.tickets ≡ [] → Fits w actor a events b
    → IsDoneAllAlong wanted failed events → AreRestoring wanted → HasMove object copy.pool copy.placed wanted → copy.placed ≤ first_of events → HeldFor w object copy (first_of events) (last_of events)
    → is_among object failed ≡ true
failed-of w actor a b object copy wanted failed events none f done all m past held =
    let r = all m.0 m.1 in
    let is : m.0.aim ≡ aim_of copy.pool copy.placed = r.2 ∙ aimed r.0 r.1 copy.pool copy.placed (ap (is_that copy.pool copy.placed) (sym r.2) ∙ m.3) in
    subst (λ (n : ℕ). is_among n failed ≡ true) m.2
    (done w actor a b none f m.0 m.1 (subst (IsPast (first_of events)) (sym is) past)
    (λ n low high. ap₂ (λ (to : Aim) (k : ℕ). is_wanted to k (inv w n)) is m.2 ∙ held-wanted object copy (inv w n) copy.pool true (held n low high)))

-- A copy that lies where it begins on a volume that was asked, and that is still there at the end, was wanted all along, so its object is counted as failed.
pub lost-row : (w : History) (actor : ℕ) (a b : Own) (pool : Option ℕ) (files : List ℕ) (file object : ℕ) (copy : CopyRow) (wanted : List Wanted) (failed : List ℕ) (x y : Event) (us vs ys : List Event)
    → AreValid w → a.tickets ≡ [] → Fits w actor a ((x ∷ (us ++ vs)) ++ (y ∷ ys)) b → Collected pool files [] wanted vs → IsDoneAllAlong wanted failed ((x ∷ (us ++ vs)) ++ (y ∷ ys)) → AreRestoring wanted
    → Holds object copy (inv w x.n) → IsIn file files → lies_on file copy ≡ true → ((l : CopyLine) → l.pool ≡ copy.pool → is_of pool l ≡ true)
    → (is_among object failed ≡ true) ⊎ (is_kept object copy (inv w (last_of ((x ∷ (us ++ vs)) ++ (y ∷ ys)))) ≡ false)
lost-row w actor a b pool files file object copy wanted failed x y us vs ys valid none f got done all there inside on_it of_pool =
    let events : List Event = (x ∷ (us ++ vs)) ++ (y ∷ ys) in
    let s = fits-first w actor a b x ((us ++ vs) ++ (y ∷ ys)) f in
    let r = fits-cut w actor s.0 b (us ++ vs) (y ∷ ys) s.2 in
    let k = fits-cut w actor s.0 r.0 us vs r.1 in
    let low_x : x.n ≤ s.0.reached = reaches w actor a s.0 x s.1 in
    let to_k : s.0.reached ≤ k.0.reached = fits-rises w actor s.0 k.0 us k.1 in
    let to_r : k.0.reached ≤ r.0.reached = fits-rises w actor k.0 r.0 vs k.2 in
    let to_last : r.0.reached ≤ last_of (y ∷ ys) = reached-last w actor r.0 b y ys r.2 in
    let ending : last_of events ≡ last_of (y ∷ ys) = last-behind (x ∷ (us ++ vs)) y ys in
    let upto : x.n ≤ last_of events = omega arith in
    let high : last_of events ≤ last w = last-within w actor a b x ((us ++ vs) ++ (y ∷ ys)) f in
    let begun : w.base.number ≤ x.n = s.1.begun in
    let within : x.n ≤ last w = s.1.within in
    elim (is_kept object copy (inv w (last_of events))) as (λ c. is_kept object copy (inv w (last_of events)) ≡ c → (is_among object failed ≡ true) ⊎ (c ≡ false)) [
      | false ↦ λ gone. inr refl
      | true ↦ λ still. (let held : HeldFor w object copy x.n (last_of events) = λ n low_n high_n. held-all-along w object copy x.n (last_of events) valid begun upto high there still n low_n high_n in
          let m = collected-moved w actor k.0 r.0 pool file object copy files [] wanted vs got k.2 inside on_it of_pool
          (λ n low_n high_n. held n (omega arith) (subst (λ (z : ℕ). n ≤ z) (sym ending) (omega arith))) in
          inl (failed-of w actor a b object copy wanted failed events none f done all m (placed-past w x.n object copy valid begun within there) held))
    ] refl

first-is : (e k : Event) → e ∷ [] ≡ k ∷ [] → e ≡ k
first-is e k h = cc

pool-row : (pool : ℕ) (volumes : List VolumeLine) (wanted : List Wanted) (failed : List ℕ) (x y : Event) (us vs ys : List Event) → AskedVolumes (x ∷ []) volumes → Collected (Some pool) (destroyed_of volumes) [] wanted vs
    → IsDoneAllAlong wanted failed ((x ∷ (us ++ vs)) ++ (y ∷ ys)) → AreRestoring wanted → IsPoolRestored pool failed ((x ∷ (us ++ vs)) ++ (y ∷ ys))
pool-row pool volumes wanted failed x y us vs ys asked got done all w actor a b valid none f object copy there in_it lost =
    let s = fits-first w actor a b x ((us ++ vs) ++ (y ∷ ys)) f in
    let is_x : x ≡ event asked.0 (Ask (query.Volumes None None) (Ok asked.1)) = first-is x (event asked.0 (Ask (query.Volumes None None) (Ok asked.1))) asked.2 in
    let at : asked.0 ≡ x.n = ap (λ (e : Event). e.n) (sym is_x) in
    let lines : volumes ≡ volume_lines None None (inv w asked.0).stores =
    asked-volumes w actor a s.0 asked.0 asked.1 volumes (subst (λ (e : Event). Step w actor a e s.0) is_x s.1) asked.3 in
    let file = any-in (λ (file : ℕ). lies_on file copy) (destroyed_of volumes)
    (ap (λ (ls : List VolumeLine). list_any (λ (file : ℕ). lies_on file copy) (destroyed_of ls)) (lines ∙ ap (λ (n : ℕ). volume_lines None None (inv w n).stores) at) ∙ lost) in
    lost-row w actor a b (Some pool) (destroyed_of volumes) file.0 object copy wanted failed x y us vs ys valid none f got done all there file.1 file.2 (λ l same. eq-eqb l.pool pool (same ∙ in_it))

-- ---- the whole

pub only-restore : (wanted : List Wanted) (events : List Event) → AreRestoring wanted → AreMoving wanted 0 events → AllByRecursion (λ e. IsRestore e.deed) events
only-restore wanted [] all h = tt
only-restore wanted (e ∷ events) all h = (
  elim h.0 as (λ _. IsRestore e.deed) [
    | inl ending ↦ inl ending
    | inr one ↦ (let m = all one.0 one.1 in inr (one.0.object, m.0, m.1, subst (λ (to : Aim). IsOf one.0.object to 0 e.deed) m.2 one.2))
  ],
  only-restore wanted events all h.1,
)

pub asking-restore : (events : List Event) → AreAsking events → AllByRecursion (λ e. IsRestore e.deed) events
asking-restore [] h = tt
asking-restore (e ∷ events) h = (inl (inl h.0), asking-restore events h.1)

pub each-so : (wanted : List Wanted) (events : List Event) (objects : List ℕ) → AreRestoring wanted → AllByRecursion (HasFailed wanted 0 events) objects → AllByRecursion (HasFailedSo events) objects
each-so wanted events [] all h = tt
each-so wanted events (o ∷ objects) all h = ((h.0.0, all h.0.0 h.0.4, (h.0.0, h.0.1, h.0.2, h.0.3, inl refl, h.0.5, h.0.6, h.0.7)), each-so wanted events objects all h.1)

pub entered-so : (wanted : List Wanted) (w : History) (actor : ℕ) (events : List Event) → AreRestoring wanted → AllByRecursion (IsEntered w actor wanted) events → AllByRecursion (IsEnteredSo w actor) events
entered-so wanted w actor [] all h = tt
entered-so wanted w actor (e ∷ events) all h =
    let m = all h.0.0 h.0.2 in
    ((h.0.0.object, m.0, m.1, h.0.1, subst (λ (to : Aim). IsEntryFor h.0.0.object to h.0.1) m.2 h.0.3, h.0.4), entered-so wanted w actor events all h.1)

-- what ended the run over them, behind the steps by which they were listed
caused : (wanted : List Wanted) (xs ys : List Event) (e : Refusal) → AreFound wanted xs → IsCausedByOne wanted 0 ys e → IsStopped (xs ++ ys) e ⊎ IsAimless (xs ++ ys) e
caused wanted xs ys e found h = elim h.2 as (λ _. IsStopped (xs ++ ys) e ⊎ IsAimless (xs ++ ys) e) [
  | inl memory ↦ inl (inl memory)
  | inr more ↦ elim more as (λ _. IsStopped (xs ++ ys) e ⊎ IsAimless (xs ++ ys) e) [
    | inl met ↦ inl (stopped-behind xs ys e (inr met))
    | inr gone ↦ (let m = found h.0 h.1 in
        inr (gone.0, (h.0.object, m.0, m.1, (xs, ys, refl, m.3, subst (λ (to : Aim). MetBy (λ d. d ≡ OpenCopy h.0.object to 0 (Err e)) ys) m.2 gone.1))))
  ]
]

-- ---- a refusal waits for no force

ten-fine : (e : Refusal) → (number_of e == 10) ≡ true → (h : Holder) → e ≡ refused.Busy h → ⊥
ten-fine e ten h busy = (let odd : (number_of (refused.Busy h) == 10) ≡ true = subst (λ (x : Refusal). (number_of x == 10) ≡ true) busy ten in cc)

pub unlisted-unheld : (file : ℕ) (events : List Event) (e : Refusal) → AreAsking events → IsUnlisted (query.OnVolume file) events e → IsUnheld events e
unlisted-unheld file events e asks (inl stopped) = asking-unheld events e asks stopped
unlisted-unheld file events e asks (inr missing) = other-unheld events e (ten-fine e missing.0)

begin-unheld : (pool : ℕ) (events : List Event) (e : Refusal) → AreAsking events → IsStopped events e ⊎ IsPoolBarred pool events e → IsUnheld events e
begin-unheld pool events e asks (inl stopped) = asking-unheld events e asks stopped
begin-unheld pool events e asks (inr (inl gone)) = other-unheld events e (λ holder busy. (let odd : refused.NotFound ≡ refused.Busy holder = sym gone.0 ∙ busy in cc))
begin-unheld pool events e asks (inr (inr (inl lost))) = unlisted-unheld lost.1.0 events e asks lost.1.2
begin-unheld pool events e asks (inr (inr (inr aimless))) = other-unheld events e (ten-fine e aimless.0)

-- what ended the making of the copies that were listed
pub completes-caused : (wanted : List Wanted) (xs ys : List Event) (e : Refusal) → AreFound wanted xs → Completes wanted 0 ys (Err e) → (IsStopped (xs ++ ys) e ⊎ IsAimless (xs ++ ys) e) × IsUnheld ys e
completes-caused wanted xs ys e found (inl run) = (caused wanted xs ys e found run.outcome.0, run-unheld wanted 0 ys e run)
completes-caused wanted xs ys e found (inr (m, (us, vs, is, run, ends))) =
    subst (λ (es : List Event). (IsStopped (xs ++ es) e ⊎ IsAimless (xs ++ es) e) × IsUnheld es e) (sym is)
    (inl (stopped-behind xs (us ++ vs) e (stopped-behind us vs e ends.0)), unheld-behind us vs e (ending-unheld vs e ends.1 ends.0))

pub counted-of : (wanted : List Wanted) (events : List Event) (m : Moved) → AreRestoring wanted → (p : Process wanted 0 events m) → Counted p.failed events m
counted-of wanted events m all p = record {
  moved = p.moved;
  number = p.number;
  risen = p.risen;
  each = each-so wanted events p.failed all p.each;
  settled = p.settled;
  none_left = p.none_left;
}

pub completes-some : (wanted : List Wanted) (ys : List Event) (m : Moved) → Completes wanted 0 ys (Ok m) → (y : Event) × (zs : List Event) × (ys ≡ y ∷ zs)
completes-some wanted ys m h = go h.0 (event h.4.0 (Force (Ok h.4.2))) (event h.4.1 (Ask query.Today (Ok h.4.3))) (h.2 ∙ ap (λ (es : List Event). h.0 ++ es) h.4.4) where
  go : (es : List Event) (c d : Event) → ys ≡ es ++ (c ∷ d ∷ []) → (y : Event) × (zs : List Event) × (ys ≡ y ∷ zs)
  go [] c d is = (c, d ∷ [], is)
  go (e ∷ es) c d is = (e, es ++ (c ∷ d ∷ []), is)

restored-of : (pool : ℕ) (volumes : List VolumeLine) (wanted : List Wanted) (x : Event) (us vs ys : List Event) (result : Result Moved Refusal) → AskedVolumes (x ∷ []) volumes → ToldThere pool us true
    → Collected (Some pool) (destroyed_of volumes) [] wanted vs → AreAsking (x ∷ (us ++ vs)) → Completes wanted 0 ys result → PoolRestore pool ((x ∷ (us ++ vs)) ++ ys) result
restored-of pool volumes wanted x us vs ys (Ok m) asked there got asks h =
    let first : List Event = x ∷ (us ++ vs) in
    let all : AreRestoring wanted = collected-restoring (Some pool) (destroyed_of volumes) [] wanted vs got (λ y i. absurd i) in
    let t : Told wanted 0 first ys (Ok m) = process-told wanted 0 x (us ++ vs) ys (Ok m) (asks-begun first asks) h in
    let p : Process wanted 0 (first ++ ys) m = t.answers in
    let some = completes-some wanted ys m h in
    record {
      came = record {
        failed = p.failed;
        wanted = wanted;
        order = (first, ys, refl, (volumes, (x ∷ [], us ++ vs, refl, asked, (us, vs, refl, there, got))), h);
        counts = counted-of wanted (first ++ ys) m all p;
        row = subst (λ (es : List Event). IsPoolRestored pool p.failed (first ++ es)) (sym some.2)
            (pool-row pool volumes wanted p.failed x some.0 us vs some.1 asked got (subst (λ (es : List Event). IsDoneAllAlong wanted p.failed (first ++ es)) some.2 p.done) all);
        there = there-before pool first ys true (there-behind pool (x ∷ []) (us ++ vs) true (there-before pool us vs true (there-so pool us true there)));
      };
      only = all-append (λ e. IsRestore e.deed) first ys (asking-restore first asks) (only-restore wanted ys all t.only);
      entries = λ w actor a b none f.
          entered-so wanted w actor (made (first ++ ys)) all
          (enters-append wanted first ys (unmade-enters wanted first (asks-unmade first asks)) (asks-begun first asks).none_left t.entries w actor a b none f);
    }
restored-of pool volumes wanted x us vs ys (Err e) asked there got asks h =
    let first : List Event = x ∷ (us ++ vs) in
    let all : AreRestoring wanted = collected-restoring (Some pool) (destroyed_of volumes) [] wanted vs got (λ y i. absurd i) in
    let found : AreFound wanted vs = collected-found (Some pool) (destroyed_of volumes) [] wanted vs [] got (λ y i. absurd i) in
    let t : Told wanted 0 first ys (Err e) = process-told wanted 0 x (us ++ vs) ys (Err e) (asks-begun first asks) h in
    let p : Ended wanted 0 (first ++ ys) e = t.answers in
    record {
      came = record {
        cause = elim (completes-caused wanted first ys e (found-behind wanted (x ∷ us) vs found) h).0 as (λ _. IsStopped (first ++ ys) e ⊎ IsPoolBarred pool (first ++ ys) e) [
          | inl stopped ↦ inl stopped
          | inr aimless ↦ inr (inr (inr aimless))
        ];
        unheld = p.unheld;
        settled = p.settled;
        none_left = p.none_left;
      };
      only = all-append (λ e0. IsRestore e0.deed) first ys (asking-restore first asks) (only-restore wanted ys all t.only);
      entries = λ w actor a b none f.
          entered-so wanted w actor (made (first ++ ys)) all
          (enters-append wanted first ys (unmade-enters wanted first (asks-unmade first asks)) (asks-begun first asks).none_left t.entries w actor a b none f);
    }

began : (pool : ℕ) (wanted : List Wanted) (xs ys : List Event) (result : Result Moved Refusal) → BegunPool pool wanted xs → Completes wanted 0 ys result → PoolRestore pool (xs ++ ys) result
began pool wanted xs ys result h g =
    let q = h.1.3 in
    let t = h.1.4 in
    let x : Event = event q.0 (Ask (query.Volumes None None) (Ok q.1)) in
    let those : xs ≡ x ∷ (t.0 ++ t.1) = h.1.2 ∙ ap₂ (λ (es fs : List Event). es ++ fs) q.2 t.2 in
    let asks : AreAsking (x ∷ (t.0 ++ t.1)) = ((query.Volumes None None, Ok q.1, refl), all-append (λ e. IsAsking e.deed) t.0 t.1 (told-asks t.0 t.3) (collected-asks (Some pool) (destroyed_of h.0) [] wanted t.1 t.4)) in
    subst (λ (es : List Event). PoolRestore pool (es ++ ys) result) (sym those)
    (restored-of pool h.0 wanted x t.0 t.1 ys result (q.0, q.1, refl, q.3) t.3 t.4 asks g)
  where
    told-asks : (us : List Event) → ToldThere pool us true → AreAsking us
    told-asks us k = subst AreAsking (sym k.1.2) ((query.Pools None, Ok k.1.1, refl), tt)

refused-restore : (pool : ℕ) (events : List Event) (e : Refusal) → BeginsPool pool events (Err e) → PoolRestore pool events (Err e)
refused-restore pool events e h =
    let b : IsBegun events = asks-begun events h.1 in
    record {
      came = record { cause = h.0; unheld = begin-unheld pool events e h.1 h.0; settled = λ leave. b.settled; none_left = λ leave. b.none_left };
      only = asking-restore events h.1;
      entries = λ w actor a c none f. entered-so [] w actor (made events) (λ x i. absurd i) (unmade-enters [] events (asks-unmade events h.1) w actor a c none f);
    }

pub restores : {S : Type 0} (did : S → List Event → S → Type 0) → GoesOn did → (p q r : S) (pool : ℕ) (wanted those : List Wanted) (result : Result Moved Refusal) → those ≡ wanted
    → Call did p q (λ events. BeginsPool pool events (Ok wanted)) → Call did q r (λ events. Completes those 0 events result) → Call did p r (λ events. PoolRestore pool events result)
restores did goes p q r pool wanted those result same a b =
    call_then did goes (λ events. BeginsPool pool events (Ok wanted)) (λ events. Completes wanted 0 events result) (λ events. PoolRestore pool events result) p q r a
    (subst (λ (ws : List Wanted). Call did q r (λ events. Completes ws 0 events result)) same b) (λ xs ys f g. began pool wanted xs ys result f g)

pub restore-refused : {S : Type 0} (did : S → List Event → S → Type 0) (p q : S) (pool : ℕ) (e : Refusal) → Call did p q (λ events. BeginsPool pool events (Err e))
    → Call did p q (λ events. PoolRestore pool events (Err e))
restore-refused did p q pool e a = (a.0, a.1, refused-restore pool a.0 e a.2)

-- its failed objects are no more than the count of refused steps rose by, unless that is at its last value
pub restore-rises : {S : Type 0} (did : S → List Event → S → Type 0) (refused_of : S → ℕ) → ((p q : S) (xs : List Event) → did p xs q → refused_of q ≡ risen (refused_of p) xs)
    → (p q : S) (pool : ℕ) (result : Result Moved Refusal)
    → Call did p q (λ events. PoolRestore pool events result) → IfOk result (λ m. (refused_of p + m.failed ≤ refused_of q) ⊎ (2 ^ 64 - 1 ≤ refused_of q))
restore-rises did refused_of counts p q pool (Ok m) a = call-rises did refused_of counts (λ events. PoolRestore pool events (Ok m)) p q m.failed a (λ events h. h.came.counts.risen)
restore-rises did refused_of counts p q pool (Err e) a = tt
