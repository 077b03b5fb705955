-- Where a volume may be deleted with its data, its deletion isn't refused since something isn't there, or is used still.
use Rattle.std.proofs.Common.{◌≡◌, inl, inr, ℕ, zero, suc, ◌==◌, true, false, cond, if◌then◌else◌, List, [], ◌∷◌, ◌++◌, map, Bool, Option, None, Some, Result, Ok, Err, refl, sym, ap, subst, ◌∙◌}
use Rattle.std.proofs.lemmas.Bool.{false≢true, or_left}
use Rattle.std.proofs.lemmas.Option.{same_Some}
use Rattle.std.specs.Prelude.{is_some}
use Rattle.std.specs.List.{AllByRecursion, find, flat_map}
use Rattle.kinds.specs.Refusals.{refusal_of}
use Rattle.kinds.specs.declared.change.PoolChange.TheVariants as store
use Rattle.kinds.specs.declared.change.Verb.TheVariants as verb
use Rattle.kinds.specs.declared.refusal.Refusal.{Refusal}
use Rattle.kinds.specs.declared.refusal.Refusal.TheVariants as refused
use Rattle.entries.specs.declared.change.Change.{Change}
use Rattle.entries.specs.declared.change.Change.TheVariants as change
use Rattle.inventory_rows.specs.State.{Inv}
use Rattle.inventory_rows.specs.object_rows.Filespaces.{at_number}
use Rattle.inventory_rows.specs.pool_rows.Changes.{delete_filed, object_on, unless_held}
use Rattle.inventory_rows.specs.pool_rows.PoolRows.{PoolRows, volume_named}
use Rattle.inventory_rows.specs.pool_tables.Rows.{row_at}
use Rattle.inventory_rows.specs.version_groups.Entries.{on_ok}
use Rattle.inventory_rows.specs.volume_rows.Holdings.{least_object}
use Rattle.inventory_rows.specs.volume_rows.declared.volume.Volume.{Volume}
use Rattle.inventory_rows.specs.Search.{is_primary, version}
use Rattle.inventory_rows.proofs.of_object_rows.Stands.{at-eqb}
use Rattle.inventory_rules.specs.Journal.{Journal}
use Rattle.inventory_rules.specs.Transactions.{causes}
use Rattle.inventory_rules.specs.Valid.{is_valid}
use Rattle.inventory_rules.specs.Versions.{all_lie_on, primary_lies_on}
use Rattle.inventory_answers.specs.Answered.{answered, rows_of}
use Rattle.inventory_answers.specs.Stores.{pool_lines, volume_line, volume_lines, volume_lines_of}
use Rattle.inventory_answers.specs.declared.lines.PoolLine.{PoolLine}
use Rattle.inventory_answers.specs.declared.lines.VolumeLine.{VolumeLine}
use Rattle.inventory_answers.specs.declared.query.Query.TheVariants as query
use Rattle.inventory_answers.specs.declared.reply.Rows.{Rows}
use Rattle.inventory_answers.specs.declared.reply.Rows.TheVariants as rows
use Rattle.inventory_work.specs.declared.lines.CopyLine.{CopyLine}
use Rattle.inventory_work.specs.Copies.{has_volume, on_volume}
use Rattle.steps.specs.Events.{Deed, Event}
use Rattle.steps.specs.Events.Deed.{Ask, Commit}
use Rattle.command_steps.specs.copy_runs.Ends.{IsAsking}
use Rattle.command_steps.specs.deletions.declared.copies.Removed.{Removed}
use Rattle.command_steps.specs.deletions.Dropping.{doomed}
use Rattle.command_steps.specs.deletions.Filespaces.{is_kept_by}
use Rattle.command_steps.specs.deletions.Volumes.{Cleared, Found, HasNotFound, HasNotGone, HasNotListed, IsInPlace, IsRefusedLast, IsUnfound, Taken, TakenFrom, TakenOf, Waited, deleting, is_copy_pool, pool_of, row_found, row_in}
use Rattle.machine.specs.Alone.{Alone}
use Rattle.machine.specs.Machine.{Case, Commits, Places}
use Rattle.machine.specs.State.{Core, Machine, inventory, sight}
use Rattle.line_results.specs.Removing.{IsAbsent, IsVolume}
use Rattle.line_results.specs.Resting.{database}
use Rattle.line_results.proofs.Bounds.{commit-all, commit-unheld, volume-takes}
use Rattle.line_results.proofs.Cited.{IsOf, are-listed, in-its-pool, line-pool, primary-there}
use Rattle.line_results.proofs.Clearing.{IsSound, Leaving, cleared, is-copy-pool, none-left, not-copy-pool}
use Rattle.line_results.proofs.Emptying.{IsBare, IsUnremoved, ask-rows, ask-told, asked-rows, asking-same, bare-common, bare-sizes, kept-of, no-both, not-there, ok-same, same-ok, shape, ten-is, unstopped}
use Rattle.line_results.proofs.Handling.{IsFree}
use Rattle.line_results.proofs.Lying.{on-list}
use Rattle.line_results.proofs.Meeting.{met-at}
use Rattle.line_results.proofs.Runs.{alone-none, alone-parts, stepped}
use Rattle.line_results.proofs.Shown.{volume-shown}
use Rattle.line_results.proofs.Types.{Row}
use Rattle.line_results.proofs.Unloading.{unloaded}

-- ---- its row

abbrev row-told : Volume → Result Row Refusal
row-told x = Ok (record { name = x.name; capacity = x.capacity; access = x.access })

row-shown : (file : ℕ) (s : PoolRows) (es : List (ℕ × Volume)) (x : Volume) → row_at file es ≡ Some x
    → row_found (find (λ l. l.file == file) (flat_map (volume_lines_of s None) es)) ≡ row-told x
row-shown file s [] x at = absurd (let odd : None ≡ Some x = at in cc)
row-shown file s (e ∷ es) x at =
    let rest : Option VolumeLine = find (λ l. l.file == file) (flat_map (volume_lines_of s None) es) in
    elim (at_number file e.0) as (λ b. at_number file e.0 ≡ b → cond b (Some e.1) (row_at file es) ≡ Some x
    → row_found (if e.0 == file then Some (volume_line s e) else rest) ≡ row-told x) [
      | true ↦ λ here is.
          ap (λ (b : Bool). row_found (if b then Some (volume_line s e) else rest)) (sym (at-eqb file e.0) ∙ here)
          ∙ ap row-told (same_Some e.1 x is)
      | false ↦ λ other is. ap (λ (b : Bool). row_found (if b then Some (volume_line s e) else rest)) (sym (at-eqb file e.0) ∙ other) ∙ row-shown file s es x is
    ] refl at

-- one that they tell is there
row-there : (file : ℕ) (s : PoolRows) (es : List (ℕ × Volume)) (row : Row) → row_found (find (λ l. l.file == file) (flat_map (volume_lines_of s None) es)) ≡ Ok row → is_some (row_at file es) ≡ true
row-there file s [] row is = absurd cc
row-there file s (e ∷ es) row is =
    let rest : Option VolumeLine = find (λ l. l.file == file) (flat_map (volume_lines_of s None) es) in
    elim (at_number file e.0) as (λ b. at_number file e.0 ≡ b → is_some (cond b (Some e.1) (row_at file es)) ≡ true) [
      | true ↦ λ here. refl
      | false ↦ λ other. row-there file s es row (ap (λ (b : Bool). row_found (if b then Some (volume_line s e) else rest)) (sym (sym (at-eqb file e.0) ∙ other)) ∙ is)
    ] refl

abbrev volumes-in : Rows → List VolumeLine
volumes-in (rows.Volumes lines) = lines
volumes-in _ = []

abbrev copies-in : Rows → List CopyLine
copies-in (rows.OnVolume lines) = lines
copies-in _ = []

abbrev pools-in : Rows → List PoolLine
pools-in (rows.Pools lines) = lines
pools-in _ = []

ap-ok : {A : Type 0} {x y : A} → x ≡ y → ◌≡◌ {A = Result A Refusal} (Ok x) (Ok y)
ap-ok h = ap Ok h

abbrev told-if : {A : Type 0} → Bool → A → Result A Refusal
told-if c x = if c then Ok x else Err refused.NotFound

there-lines : {A : Type 0} (b : Bool) (x : A) → b ≡ true → (y : A) × ((if b then Ok x else Err refused.NotFound) ≡ Ok y)
there-lines b x h = (x, ap (λ (c : Bool). told-if c x) h)

module _ (file : ℕ) (v : Inv) (there : IsVolume file v) where
  abbrev pub its-row : Row
  its-row = record { name = there.0.name; capacity = there.0.capacity; access = there.0.access }

  pub named-row : (lines : List VolumeLine) → rows_of (query.Volumes None None) v ≡ Ok (rows.Volumes lines) → row_in file lines ≡ Ok its-row
  named-row lines is =
      ap (row_in file) (same-ok volumes-in (rows.Volumes lines) (rows.Volumes (volume_lines None None v.stores)) (rows_of (query.Volumes None None) v) is refl)
      ∙ row-shown file v.stores v.stores.volumes there.0 there.1

  its-lines : (lines : List CopyLine) × (on_volume file v ≡ Ok lines)
  its-lines = there-lines (has_volume file v) _ (ap is_some there.1)

  copies-are : rows_of (query.OnVolume file) v ≡ Ok (rows.OnVolume its-lines.0)
  copies-are = ap (on_ok rows.OnVolume) its-lines.1

-- The volume is there, without a segment; names are those of the first database; and nothing is held.
pub record Ready (file : ℕ) (v : Inv) (c : Core) : Type 0 where
  pub row : (y : Volume) × (row_at file (inventory c).stores.volumes ≡ Some y)
  pub none : least_object row.0.segments ≡ None
  pub named : (name : List ℕ) → volume_named name (inventory c).stores ≡ volume_named name v.stores
  pub free : IsFree c

-- the database has no cause against its row's transaction
row-free : (file : ℕ) (v : Inv) (c : Core) (there : IsVolume file v) (j : Journal) (row : Row) → row ≡ its-row file v there → Ready file v c
    → causes j (change.Pool (store.Volume verb.Delete row.name 0 file row.capacity row.access)) (inventory c) ≡ []
row-free file v c there j row is ready =
    let u : Inv = inventory c in
    let found : volume_named row.name u.stores ≡ Some file = ready.named row.name ∙ ap (λ (r : Row). volume_named r.name v.stores) is ∙ there.2 in
    ap (λ (o : Option ℕ). refusal_of (delete_filed u.stores o) ++ []) found
    ∙ ap (λ (o : Option Volume). refusal_of (unless_held file u.stores (object_on o)) ++ []) ready.row.1
    ∙ ap (λ (o : Option ℕ). refusal_of (unless_held file u.stores o) ++ []) ready.none

-- ---- waits

-- where nothing is held there is none
no-wait : (trusted : Type 0) (places : Places) (row : Row) (file number : ℕ) (events : List Event) (m new : Machine) → IsFree m.core → Waited (deleting row file) (suc number) events → Alone trusted places 0 events m new → ⊥
no-wait trusted places row file zero events m new free (xs, ys, cut, none, (h, (us, vs, apart, (n, one), awaits))) f =
    let parts = alone-parts trusted places 0 events xs ys m new cut f in
    let same : parts.0 ≡ m = alone-none trusted places 0 xs m parts.0 none parts.1 in
    let more = alone-parts trusted places 0 ys us vs parts.0 new apart parts.2 in
    let step = (stepped trusted places n (Commit (deleting row file) [] (Err (refused.Busy h))) us parts.0 more.0 (λ contents seen k. k) (λ contents x. refl) one more.1).1 in
    commit-unheld (change.Pool (store.Volume verb.Delete row.name 0 file row.capacity row.access)) parts.0 more.0 (refused.Busy h) (volume-takes row.name file row.capacity row.access)
    (ap (λ (x : Machine). x.core.image) same ∙ free.1) (ap (λ (x : Machine). x.core.tickets) same ∙ free.0) step h refl
no-wait trusted places row file (suc number) events m new free (xs, ys, cut, waited, rest) f =
    let parts = alone-parts trusted places 0 events xs ys m new cut f in
    no-wait trusted places row file number xs m parts.0 free waited parts.1

-- ---- the whole

module _ (trusted : Type 0) (places : Places) (file : ℕ) (e : Refusal) (un : is_kept_by e ≡ true) (v : Inv) (there : IsVolume file v) (can : IsSound v) where
  abbrev its : Row
  its = its-row file v there

  -- it is found
  unfound : (events : List Event) (m new : Machine) → inventory m.core ≡ v → HasNotFound file e events → Alone trusted places 0 events m new → ⊥
  unfound events m new is (ten, asks, met) f =
      let at = met-at trusted places IsAsking (λ c. inventory c ≡ v) (λ d x next so step h. asking-same places v d x next so step h) (IsUnfound file e) events m new asks is f met in
      by at.before at.after at.deed at.holds at.step at.is
    where
      by : (m next : Machine) (d : Deed) → inventory m.core ≡ v → Case places 0 d m next → IsUnfound file e d → ⊥
      by m next d same step (inl asked) =
          ask-told (query.Volumes None None) m next e (shape (inventory m.core) (rows.Volumes (volume_lines None None (inventory m.core).stores))) refl un (subst (λ (x : Deed). Case places 0 x m next) asked step)
      by m next d same step (inr (answer, lines, asked, shown, none)) =
          let told = ask-rows (query.Volumes None None) (rows.Volumes lines) answer m next (λ n a. refl) shown (subst (λ (x : Deed). Case places 0 x m next) asked step) in
          no-both its e (row_in file lines) (named-row file v there lines (ap (rows_of (query.Volumes None None)) (sym same) ∙ told.1)) none

  -- what lies on it is listed
  unlisted : (events : List Event) (m new : Machine) → inventory m.core ≡ v → HasNotListed file e events → Alone trusted places 0 events m new → ⊥
  unlisted events m new is (ten, asks, met) f =
      let at = met-at trusted places IsAsking (λ c. inventory c ≡ v) (λ d x next so step h. asking-same places v d x next so step h) (λ d. d ≡ Ask (query.OnVolume file) (Err e)) events m new asks is f met in
      ask-told (query.OnVolume file) at.before at.after e (shape v (rows.OnVolume (its-lines file v there).0)) (ap (answered (query.OnVolume file)) at.holds ∙ ap (on_ok (shape v)) (copies-are file v there)) un
      (subst (λ (x : Deed). Case places 0 x at.before at.after) at.is at.step)

  -- the lines of a volume are of its pool
  of-pool : (x : Volume) (lines : List CopyLine) (P : ℕ → Type 0) → is_valid v ≡ true → row_at file v.stores.volumes ≡ Some x → P x.pool → AllByRecursion (IsOf file v) lines → AllByRecursion (λ (l : CopyLine). P l.pool) lines
  of-pool x [] P valid at h are = tt
  of-pool x (l ∷ lines) P valid at h are = (subst P (sym (line-pool file v l x valid at are.0).0) h, of-pool x lines P valid at h are.1)

  -- what was listed, of a primary pool
  taken-primary : (l : CopyLine) (lines : List CopyLine) (pools : List PoolLine) (events : List Event) (removed : Removed) (m new : Machine) → pools ≡ pool_lines None v.stores → is_valid v ≡ true → is_primary there.0.pool v ≡ true → AllByRecursion (IsOf file v) (l ∷ lines)
      → Leaving file v (map doomed (l ∷ lines)) m.core → Taken (is_copy_pool l.pool pools) file (l ∷ lines) events removed → Alone trusted places 0 events m new → Leaving file v [] new.core
  taken-primary l lines pools events removed m new all valid primary are g taken f =
      let at : row_at file v.stores.volumes ≡ Some there.0 = there.1 in
      let its : is_primary l.pool v ≡ true = (of-pool there.0 (l ∷ lines) (λ (n : ℕ). is_primary n v ≡ true) valid at primary are).0 in
      let handled = subst (λ (b : Bool). Taken b file (l ∷ lines) events removed) (ap (is_copy_pool l.pool) all ∙ not-copy-pool l.pool v its) taken in
      cleared file v (λ object w found lying. or_left (primary_lies_on file w v) (all_lie_on file w) (primary-there file there.0.pool v w.copies primary (in-its-pool file object v there.0 w valid at found) lying)) trusted places events
      (map doomed (l ∷ lines)) m new handled.0.each g f

  -- and of a copy pool
  taken-copies : (l : CopyLine) (lines : List CopyLine) (pools : List PoolLine) (events : List Event) (removed : Removed) (m new : Machine) → pools ≡ pool_lines None v.stores → is_valid v ≡ true → is_primary there.0.pool v ≡ false → AllByRecursion (IsOf file v) (l ∷ lines)
      → Leaving file v (map doomed (l ∷ lines)) m.core → Taken (is_copy_pool l.pool pools) file (l ∷ lines) events removed → Alone trusted places 0 events m new → Leaving file v [] new.core
  taken-copies l lines pools events removed m new all valid other are g taken f =
      let at : row_at file v.stores.volumes ≡ Some there.0 = there.1 in
      let others : AllByRecursion (λ (x : CopyLine). is_primary x.pool v ≡ false) (l ∷ lines) = of-pool there.0 (l ∷ lines) (λ (n : ℕ). is_primary n v ≡ false) valid at other are in
      let emptied = subst (λ (b : Bool). Taken b file (l ∷ lines) events removed) (ap (is_copy_pool l.pool) all ∙ is-copy-pool l.pool v (line-pool file v l there.0 valid at are.0).1 others.0) taken in
      unloaded file v trusted places events (l ∷ lines) m new emptied.each are others g f

  taken-pool : (l : CopyLine) (lines : List CopyLine) (events : List Event) (removed : Removed) (m new : Machine) → inventory m.core ≡ v → is_valid v ≡ true → AllByRecursion (IsOf file v) (l ∷ lines) → Leaving file v (map doomed (l ∷ lines)) m.core
      → TakenFrom l.pool file (l ∷ lines) events removed → Alone trusted places 0 events m new → Leaving file v [] new.core
  taken-pool l lines events removed m new is valid are g (pools, (us, vs, cut, (n, answer, one, shown), taken)) f =
      let parts = alone-parts trusted places 0 events us vs m new cut f in
      let a = asked-rows trusted places (query.Pools None) (rows.Pools pools) answer us m parts.0 (λ k b. refl) shown (n, one) parts.1 in
      let all : pools ≡ pool_lines None v.stores =
      same-ok pools-in (rows.Pools pools) (rows.Pools (pool_lines None v.stores)) (rows_of (query.Pools None) v) (ap (rows_of (query.Pools None)) (sym is) ∙ a.1) refl in
      let first : Leaving file v (map doomed (l ∷ lines)) parts.0.core = subst (Leaving file v (map doomed (l ∷ lines))) (sym a.0) g in
      elim (is_primary there.0.pool v) as (λ b. is_primary there.0.pool v ≡ b → Leaving file v [] new.core) [
        | true ↦ λ primary. taken-primary l lines pools vs removed parts.0 new all valid primary are first taken parts.2
        | false ↦ λ other. taken-copies l lines pools vs removed parts.0 new all valid other are first taken parts.2
      ] refl

  taken-away : (lines : List CopyLine) (events : List Event) (removed : Removed) (m new : Machine) → inventory m.core ≡ v → is_valid v ≡ true → AllByRecursion (IsOf file v) lines → Leaving file v (map doomed lines) m.core
      → TakenOf (pool_of lines) file lines events removed → Alone trusted places 0 events m new → Leaving file v [] new.core
  taken-away [] events removed m new is valid are g taken f = subst (Leaving file v []) (sym (ap (λ (x : Machine). x.core) (alone-none trusted places 0 events m new taken.0 f))) g
  taken-away (l ∷ lines) events removed m new is valid are g taken f = taken-pool l lines events removed m new is valid are g taken f

  -- all of it goes
  untaken : (events : List Event) (removed : Removed) (m new : Machine) → inventory m.core ≡ v → IsFree m.core → Cleared true file events removed → Alone trusted places 0 events m new → Ready file v new.core
  untaken events removed m new is free (lines, (xs, ys, cut, (answer, asked, shown), taken)) f =
      let parts = alone-parts trusted places 0 events xs ys m new cut f in
      let a = asked-rows trusted places (query.OnVolume file) (rows.OnVolume lines) answer xs m parts.0 (λ n b. refl) shown asked parts.1 in
      let same : lines ≡ (its-lines file v there).0 =
      same-ok copies-in (rows.OnVolume lines) (rows.OnVolume (its-lines file v there).0) (rows_of (query.OnVolume file) v) (ap (rows_of (query.OnVolume file)) (sym is) ∙ a.1) (copies-are file v there) in
      by parts.0 ((its-lines file v there).1 ∙ sym (ap-ok same)) (ap inventory a.0 ∙ is) (subst IsFree (sym a.0) free) taken parts.2 can
    where
      by : (mid : Machine) → on_volume file v ≡ Ok lines → inventory mid.core ≡ v → IsFree mid.core → TakenOf (pool_of lines) file lines ys removed → Alone trusted places 0 ys mid new → IsSound v → Ready file v new.core
      by mid all here free_there taken_there f_there (valid, ordered, tied) =
          let first : Leaving file v (map doomed lines) mid.core = record {
            sound = subst IsSound (sym here) (valid, ordered, tied);
            row = (there.0, ap (λ (x : Inv). row_at file x.stores.volumes) here ∙ there.1);
            named = λ name. ap (λ (x : Inv). volume_named name x.stores) here;
            pools = ap (λ (x : Inv). x.stores.pools) here;
            same = λ k w found lying. sym (ap (version k) here) ∙ found;
            left = λ k w found lying. on-list file k w v lines lying all (sym (ap (version k) here) ∙ found);
            free = free_there;
          } in
          let last = taken-away lines ys removed mid new here valid (are-listed file v lines valid all) first taken_there f_there in
          record { row = last.row; none = ap least_object (none-left file v new.core last); named = last.named; free = last.free }

  -- its row goes
  row-goes : (row : Row) (m next : Machine) → row ≡ its → Ready file v m.core → Commits 0 (deleting row file) [] m next (Err e) → is_kept_by e ≡ false
  row-goes row m next named ready step =
      let w : Change = change.Pool (store.Volume verb.Delete row.name 0 file row.capacity row.access) in
      let t = volume-takes row.name file row.capacity row.access in
      let none : causes (sight 0 m.core).journal w (inventory m.core) ≡ [] = row-free file v m.core there (sight 0 m.core).journal row named ready in
      commit-all IsBare bare-common m next e w (t.fills m.core.next_file (inventory m.core)) (subst (λ (l : List Refusal). AllByRecursion IsBare l) (sym none) tt) (bare-sizes w (inventory m.core))
      (subst (λ (l : List Refusal). AllByRecursion IsBare l) (sym (t.free m.core ready.free.1 ready.free.0)) tt) step

  unrefused : (row : Row) (events : List Event) (m new : Machine) → row ≡ its → Ready file v m.core → IsRefusedLast (deleting row file) e events → Alone trusted places 0 events m new → ⊥
  unrefused row events m new named ready (zero, (xs, ys, cut, none, (n, one))) f =
      let parts = alone-parts trusted places 0 events xs ys m new cut f in
      let same : parts.0.core ≡ m.core = ap (λ (x : Machine). x.core) (alone-none trusted places 0 xs m parts.0 none parts.1) in
      let step = (stepped trusted places n (Commit (deleting row file) [] (Err e)) ys parts.0 new (λ contents seen k. k) (λ contents x. refl) one parts.2).1 in
      false≢true (sym (row-goes row parts.0 new named (subst (Ready file v) (sym same) ready) step) ∙ un)
  unrefused row events m new named ready (suc number, (xs, ys, cut, waited, last)) f =
      let parts = alone-parts trusted places 0 events xs ys m new cut f in
      no-wait trusted places row file number xs m parts.0 ready.free waited parts.1

  behind-found : (row : Row) (events : List Event) (m new : Machine) → row ≡ its → inventory m.core ≡ v → IsFree m.core → HasNotGone true row file e events → Alone trusted places 0 events m new → ⊥
  behind-found row events m new named is free (inl missing) f = unlisted events m new is missing f
  behind-found row events m new named is free (inr (removed, (xs, ys, cut, cleared_there, last))) f =
      let parts = alone-parts trusted places 0 events xs ys m new cut f in
      unrefused row ys parts.0 new named (untaken xs removed m parts.0 is free cleared_there parts.1) last parts.2

  placed : (events : List Event) (m new : Machine) → inventory m.core ≡ v → IsFree m.core → IsUnremoved e → IsInPlace true file events e → Alone trusted places 0 events m new → ⊥
  placed events m new is free one (inl stopped) f = unstopped e events one stopped
  placed events m new is free one (inr (inl missing)) f = unfound events m new is missing f
  placed events m new is free one (inr (inr (row, (xs, ys, cut, (answer, lines, asked, shown, told), rest)))) f =
      let parts = alone-parts trusted places 0 events xs ys m new cut f in
      let a = asked-rows trusted places (query.Volumes None None) (rows.Volumes lines) answer xs m parts.0 (λ n b. refl) shown asked parts.1 in
      let named : row ≡ its = ok-same row its (sym told ∙ named-row file v there lines (ap (rows_of (query.Volumes None None)) (sym is) ∙ a.1)) in
      behind-found row ys parts.0 new named (ap inventory a.0 ∙ is) (ap (λ (c : Core). c.tickets) a.0 ∙ free.0, ap (λ (c : Core). c.image) a.0 ∙ free.1) rest parts.2

-- where the volume is there none is refused so
pub unbarred-volume : (trusted : Type 0) (places : Places) (file : ℕ) (events : List Event) (e : Refusal) (old new : Machine) → IsFree old.core → IsUnremoved e → IsInPlace true file events e → Alone trusted places 0 events old new
    → IsSound (database old) → has_volume file (database old) ≡ true → ⊥
unbarred-volume trusted places file events e old new free one place f sound there =
    placed trusted places file e (kept-of e one) (database old) (volume-shown file (database old) sound.0 there) sound events old new refl free one place f

module _ (trusted : Type 0) (places : Places) (file : ℕ) (events : List Event) (e : Refusal) (old new : Machine) (free : IsFree old.core) (one : IsUnremoved e) (f : Alone trusted places 0 events old new) (sound : IsSound (database old)) where
  found-there : (row : Row) (xs ys : List Event) → events ≡ xs ++ ys → Found file xs row → has_volume file (database old) ≡ true
  found-there row xs ys cut (answer, lines, asked, shown, told) =
      let parts = alone-parts trusted places 0 events xs ys old new cut f in
      let a = asked-rows trusted places (query.Volumes None None) (rows.Volumes lines) answer xs old parts.0 (λ n b. refl) shown asked parts.1 in
      let all : lines ≡ volume_lines None None (database old).stores =
      same-ok volumes-in (rows.Volumes lines) (rows.Volumes (volume_lines None None (database old).stores)) (rows_of (query.Volumes None None) (database old)) a.1 refl in
      row-there file (database old).stores (database old).stores.volumes row (ap (row_in file) (sym all) ∙ told)

  -- one that is refused so isn't there, and no other refusal says so
  pub absent-volume : IsInPlace true file events e → IsAbsent (has_volume file (database old)) e
  absent-volume (inl stopped) = absurd (unstopped e events one stopped)
  absent-volume (inr (inl missing)) = (
    ten-is e missing.0,
    not-there (has_volume file (database old)) (unbarred-volume trusted places file events e old new free one (inr (inl missing)) f sound),
  )
  absent-volume (inr (inr (row, (xs, ys, cut, found, rest)))) =
      absurd (unbarred-volume trusted places file events e old new free one (inr (inr (row, (xs, ys, cut, found, rest)))) f sound (found-there row xs ys cut found))
