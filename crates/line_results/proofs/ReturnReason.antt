-- Why RESTORE STGPOOL and RESTORE VOLUME are refused where one actor has the machine alone, if no run ends.
use Rattle.std.proofs.Common.{◌≡◌, ◌⊎◌, inl, inr, ℕ, ◌==◌, ◌||◌, is_some, if◌then◌else◌, Bool, true, false, List, [], ◌∷◌, ◌++◌, map, Option, None, Some, Result, Ok, Err, refl, sym, ap, ap₂, subst, ◌∙◌, append_assoc, true≢false}
use Rattle.std.proofs.lemmas.Bool.{eq-eqb, eqb-true, false≢true}
use Rattle.std.specs.BTreeMap.{is_at}
use Rattle.std.specs.List.{AllByRecursion, flat_map}
use Rattle.std.specs.Ordering.{nat_cmp}
use Rattle.kinds.specs.Refusals.{number_of}
use Rattle.kinds.specs.declared.change.PoolChange.TheVariants as store
use Rattle.kinds.specs.declared.change.Verb.TheVariants as verb
use Rattle.kinds.specs.declared.pool.Access.{Access}
use Rattle.kinds.specs.declared.pool.Access.TheVariants.{Destroyed}
use Rattle.kinds.specs.declared.refusal.Holder.{Holder}
use Rattle.kinds.specs.declared.refusal.Refusal.{Refusal}
use Rattle.kinds.specs.declared.refusal.Refusal.TheVariants as refused
use Rattle.entries.specs.declared.change.Change.{Change}
use Rattle.entries.specs.declared.change.Change.TheVariants as change
use Rattle.entries.specs.declared.entry.Entry.{Entry}
use Rattle.inventory_answers.specs.Stores.{pool_line, pool_lines, volume_line, volume_lines, volume_lines_of}
use Rattle.inventory_answers.specs.declared.lines.PoolLine.{PoolLine}
use Rattle.inventory_answers.specs.declared.lines.VolumeLine.{VolumeLine}
use Rattle.inventory_answers.specs.declared.query.Query.TheVariants as query
use Rattle.inventory_answers.specs.declared.reply.Answer.{Answer}
use Rattle.inventory_answers.specs.declared.reply.Rows.TheVariants as rows
use Rattle.inventory_laws.proofs.RowsKept.{found-set_value}
use Rattle.inventory_rows.proofs.of_object_rows.Stands.{at-eqb}
use Rattle.inventory_rows.specs.pool_rows.Changes.{update_filed}
use Rattle.inventory_rows.specs.pool_rows.PoolRows.{PoolRows, volume_named}
use Rattle.inventory_rows.specs.pool_tables.RowChanges.{with_access}
use Rattle.inventory_rows.specs.pool_tables.Rows.{edited, row_at}
use Rattle.inventory_rows.specs.pool_tables.declared.pool.Pool.{Pool}
use Rattle.inventory_rows.specs.volume_rows.declared.volume.Volume.{Volume}
use Rattle.inventory_rows.specs.State.{Inv}
use Rattle.inventory_rules.specs.Common.{or_same}
use Rattle.inventory_rules.specs.Transactions.{effect, refused as refused_by}
use Rattle.inventory_rules.specs.Valid.{is_valid}
use Rattle.inventory_work.specs.Copies.{has_pool, has_volume}
use Rattle.inventory_work.specs.Lists.{only}
use Rattle.command_steps.specs.copy_attempts.Outcomes.{MetBy}
use Rattle.command_steps.specs.copy_runs.Ends.{AreAsking, IsStopped}
use Rattle.command_steps.specs.copy_runs.Wanting.{IsIn}
use Rattle.command_steps.proofs.of_copy_runs.Parts.{in-either}
use Rattle.command_steps.proofs.of_copy_runs.Unheld.{asking-unheld}
use Rattle.command_steps.specs.pool_restores.Listing.{AskedVolumes, aim_of, destroyed_file, destroyed_of, destroying, destroying_found, destroying_of, is_destroyed, is_there, volume_with}
use Rattle.command_steps.specs.pool_restores.Restoring.{IsAimless, IsPoolBarred, IsRestore, PoolRestore, TellsGone}
use Rattle.command_steps.specs.pool_restores.Volumes.{Destroyed as MadeLost, EndsBehind, IsNoVolume, IsUndestroyed, VolumeRestore, is_unmade}
use Rattle.command_steps.proofs.of_pool_restores.Beginning.{volumes-ask}
use Rattle.command_steps.proofs.of_reclamation.Listing.{told-volumes}
use Rattle.command_steps.specs.sessions.Changing.{Changing}
use Rattle.steps.specs.Events.{Deed, Event, event}
use Rattle.steps.specs.Events.Deed.{Ask}
use Rattle.machine.specs.Alone.{Alone}
use Rattle.machine.specs.Causes.{change_illegal, is_plain}
use Rattle.machine.specs.Laws.{RefusesElsewhere}
use Rattle.machine.specs.Machine.{Asks, Case, Places}
use Rattle.machine.specs.State.{Core, Machine, after, inventory, sight}
use Rattle.machine.proofs.Elsewhere.{append-none, none-held}
use Rattle.machine.proofs.Histories.{after-append}
use Rattle.command_steps.specs.Answers.{halt_by}
use Rattle.line_results.specs.Commands.{drawn}
use Rattle.line_results.specs.Moving.{ComesBy, IsStuck}
use Rattle.line_results.specs.Resting.{IsAtRest, Makes, NobodyHolds, database, entry, why_not}
use Rattle.line_results.specs.Returning.{CannotBeLost, HasNoPool, RestoresPool, RestoresVolume, loss_in}
use Rattle.line_results.proofs.Bounds.{legal-valid}
use Rattle.line_results.proofs.Changed.{changes, makes}
use Rattle.line_results.proofs.CopyReason.{told-pools}
use Rattle.line_results.proofs.Cutting.{CutAt, loose-moved}
use Rattle.line_results.proofs.Growing.{listed-none}
use Rattle.line_results.proofs.MoveReason.{asks-core, at-start, stuck-by, volume-not}
use Rattle.line_results.proofs.PutHeld.{no-end}
use Rattle.line_results.proofs.Reasons.{stopping-mild}
use Rattle.line_results.proofs.Runs.{alone-append, alone-parts, onward-none}
use Rattle.line_results.proofs.Spent.{ticket-step}
use Rattle.line_results.proofs.Stopping.{Ends, ends-halt}
use Rattle.line_results.proofs.Ticketed.{no-target}
use Rattle.line_results.proofs.Trying.{AreTrying, IsTrying, Refuses, cut-of, full-at-step, never-held}

-- ---- rows and lines

-- a pool without a line isn't there
pub no-row : (pool : ℕ) (s : PoolRows) (pools : List (ℕ × Pool)) → is_there pool (map (pool_line s) pools) ≡ false → is_some (row_at pool pools) ≡ false
no-row pool s [] h = refl
no-row pool s (p ∷ pools) h =
    subst (λ b. is_some (if b then Some p.1 else row_at pool pools) ≡ false) (sym (at-eqb pool p.0))
    (elim (p.0 == pool) as (λ b. (b || is_there pool (map (pool_line s) pools)) ≡ false → is_some (if b then Some p.1 else row_at pool pools) ≡ false) [
      | true ↦ λ some. absurd (true≢false some)
      | false ↦ λ none. no-row pool s pools none
    ] h)

-- a volume is there that is the first one, or another
row-there : (file : ℕ) (e : ℕ × Volume) (volumes : List (ℕ × Volume)) → (e.0 ≡ file) ⊎ (is_some (row_at file volumes) ≡ true) → is_some (row_at file (e ∷ volumes)) ≡ true
row-there file e volumes h =
    subst (λ b. is_some (if b then Some e.1 else row_at file volumes) ≡ true) (sym (at-eqb file e.0))
    (elim (e.0 == file) as (λ b. (e.0 == file) ≡ b → is_some (if b then Some e.1 else row_at file volumes) ≡ true) [
      | true ↦ λ same. refl
      | false ↦ λ other. elim h as (λ _. is_some (row_at file volumes) ≡ true) [
        | inl is ↦ absurd (false≢true (sym other ∙ eq-eqb e.0 file is))
        | inr there ↦ there
      ]
    ] refl)

only-file : (b : Bool) (n file : ℕ) → IsIn file (only b n) → n ≡ file
only-file true n file (inl is) = is
only-file true n file (inr i) = absurd i
only-file false n file i = absurd i

-- one on which what it held is lost is there
lost-there : (file : ℕ) (s : PoolRows) (volumes : List (ℕ × Volume)) → IsIn file (destroyed_of (flat_map (volume_lines_of s None) volumes)) → is_some (row_at file volumes) ≡ true
lost-there file s [] i = absurd i
lost-there file s (e ∷ volumes) i =
    row-there file e volumes
    (elim (in-either file (destroyed_file (volume_line s e)) (destroyed_of (flat_map (volume_lines_of s None) volumes)) i) as (λ _. (e.0 ≡ file) ⊎ (is_some (row_at file volumes) ≡ true)) [
      | inl one ↦ inl (only-file (is_destroyed e.1.access) e.0 file one)
      | inr more ↦ inr (lost-there file s volumes more)
    ])

-- and one that has a line
found-there : (file : ℕ) (s : PoolRows) (volumes : List (ℕ × Volume)) (c : Change) → destroying_of file (flat_map (volume_lines_of s None) volumes) ≡ Ok c → is_some (row_at file volumes) ≡ true
found-there file s [] c is = absurd (let odd : ◌≡◌ {A = Result Change Refusal} (Err refused.NotFound) (Ok c) = is in cc)
found-there file s (e ∷ volumes) c is =
    elim (e.0 == file) as (λ b. (e.0 == file) ≡ b → destroying_found (if b then Some (volume_line s e) else volume_with file (flat_map (volume_lines_of s None) volumes)) ≡ Ok c → is_some (row_at file (e ∷ volumes)) ≡ true) [
      | true ↦ λ same found. row-there file e volumes (inl (eqb-true e.0 file same))
      | false ↦ λ other found. row-there file e volumes (inr (found-there file s volumes c found))
    ] refl is

-- ---- the volume's transaction

-- volumes stay where one's access is changed
update-stays : (file : ℕ) (access : Access) (s : PoolRows) (o : Option ℕ) → is_some (row_at file (or_same s (update_filed access s o)).volumes) ≡ is_some (row_at file s.volumes)
update-stays file access s None = refl
update-stays file access s (Some k) = there (row_at k s.volumes) where
  there : (o : Option Volume) → is_some (row_at file (edited k (with_access access) s.volumes o)) ≡ is_some (row_at file s.volumes)
  there None = refl
  there (Some x) = found-set_value (is_at (nat_cmp file)) (is_at (nat_cmp k)) s.volumes (with_access access x)

updated-stays : (file : ℕ) (name : List ℕ) (number k capacity : ℕ) (access : Access) (v : Inv) → has_volume file (effect (change.Pool (store.Volume verb.Update name number k capacity access)) v) ≡ has_volume file v
unfolding effect
updated-stays file name number k capacity access v = update-stays file access v.stores (volume_named name v.stores)

module _ (file : ℕ) (c : Change) where
  -- what holds of it
  of-loss : (P : Change → Type 0) → ((l : VolumeLine) → P (destroying l)) → (found : Option VolumeLine) → destroying_found found ≡ Ok c → P c
  of-loss P h None is = absurd (let odd : ◌≡◌ {A = Result Change Refusal} (Err refused.NotFound) (Ok c) = is in cc)
  of-loss P h (Some l) is = (let same : destroying l ≡ c = cc in subst P same (h l))

  loss-plain : (lines : List VolumeLine) → destroying_of file lines ≡ Ok c → is_plain c ≡ true
  loss-plain lines is = of-loss (λ x. is_plain x ≡ true) (λ l. refl) (volume_with file lines) is

  loss-drawn : (m : Machine) (lines : List VolumeLine) → destroying_of file lines ≡ Ok c → drawn c m ≡ c
  loss-drawn m lines is = of-loss (λ x. drawn x m ≡ x) (λ l. refl) (volume_with file lines) is

  loss-stays : (v : Inv) (lines : List VolumeLine) → destroying_of file lines ≡ Ok c → has_volume file (effect c v) ≡ has_volume file v
  loss-stays v lines is = of-loss (λ x. has_volume file (effect x v) ≡ has_volume file v) (λ l. updated-stays file l.name 0 l.file l.capacity Destroyed v) (volume_with file lines) is

-- the database behind a transaction that was made
made-database : (c : Change) (old new : Machine) → Makes c old new → database new ≡ effect c (database old)
made-database c old new (moment, core, contents, onward) =
    ap (λ (v : Inv). after v new.core.journal) (ap (λ (k : Core). k.base) core) ∙ ap (λ (l : List Entry). after old.core.base l) (ap (λ (k : Core). k.journal) core)
    ∙ after-append old.core.base old.core.journal (entry c ∷ [])

unmade-is : (why e : Refusal) → e ≡ (if is_unmade why then why else refused.Memory) → halt_by e ≡ None → e ≡ why
unmade-is why e is mild = elim (is_unmade why) as (λ b. e ≡ (if b then why else refused.Memory) → e ≡ why) [
  | true ↦ λ same. same
  | false ↦ λ memory. absurd (ends-halt e (subst Ends (sym memory) refl) mild)
] is

-- ---- less is trusted

loose : (trusted : Type 0) (places : Places) (events : List Event) (old new : Machine) → Alone trusted places 0 events old new → Alone ⊥ places 0 events old new
loose trusted places [] old new f = f
loose trusted places (e ∷ events) old new (next, moved, rest) = (next, loose-moved trusted places e old next moved, loose trusted places events next new rest)

-- ---- the steps

restore-tries : (d : Deed) → IsRestore d → IsTrying true d
restore-tries d (inl h) = inl h
restore-tries d (inr (object, pool, placed, h)) = inr (object, aim_of pool placed, 0, refl, h)

pub restores-try : (events : List Event) → AllByRecursion (λ e. IsRestore e.deed) events → AreTrying true events
restores-try [] h = tt
restores-try (e ∷ events) h = (restore-tries e.deed h.0, restores-try events h.1)

asks-try : (events : List Event) → AreAsking events → AreTrying true events
asks-try [] h = tt
asks-try (e ∷ events) h = (inl (inl h.0), asks-try events h.1)

-- ---- RESTORE STGPOOL

module _ (trusted : Type 0) (places : Places) (nobody : NobodyHolds places) (lawful : RefusesElsewhere places) (events : List Event) (e : Refusal) (old new : Machine) (mild : halt_by e ≡ None) (rest : IsAtRest old.core)
    (tries : AreTrying true events) (f : Alone trusted places 0 events old new) where
  cut : (Is : Deed → Type 0) → MetBy Is events → CutAt places Is events old
  cut Is met = cut-of trusted places nobody true events old new rest tries f Is met

  pool-gone : (pool : ℕ) → TellsGone pool events → has_pool pool (database old) ≡ false
  pool-gone pool (asks, met) =
      let P : Deed → Type 0 = (λ d. (answer : Answer) × (lines : List PoolLine) × (d ≡ Ask (query.Pools None) (Ok answer)) × (answer.rows ≡ rows.Pools lines) × (is_there pool lines ≡ false)) in
      let c = cut P met in
      let w = c.is in
      let ps : w.1 ≡ pool_lines None (database old).stores =
      told-pools c.m c.next w.0 w.1 w.3 (subst (λ (x : Deed). Case places 0 x c.m c.next) w.2 c.step) ∙ ap (λ (v : Inv). pool_lines None v.stores) (at-start places P events old asks c) in
      no-row pool (database old).stores (database old).stores.pools (sym (ap (is_there pool) ps) ∙ w.4)

  -- the copies on a volume are listed, where it is one of these
  never-unlisted : (volumes : List VolumeLine) (file : ℕ) → (number_of e == 10) ≡ true → IsIn file (destroyed_of volumes)
      → MetBy (λ d. (answer : Answer) × (d ≡ Ask (query.Volumes None None) (Ok answer)) × (answer.rows ≡ rows.Volumes volumes)) events
      → MetBy (λ d. d ≡ Ask (query.OnVolume file) (Err e)) events → AreAsking events → ⊥
  never-unlisted volumes file ten among told met asks =
      let V : Deed → Type 0 = (λ d. (answer : Answer) × (d ≡ Ask (query.Volumes None None) (Ok answer)) × (answer.rows ≡ rows.Volumes volumes)) in
      let c = cut V told in
      let asked : Asks 0 (query.Volumes None None) c.m c.next (Ok c.is.0) = subst (λ (x : Deed). Case places 0 x c.m c.next) c.is.1 c.step in
      let vs : volumes ≡ volume_lines None None (database old).stores =
      told-volumes c.m.core.log_length (database c.m) c.is.0 volumes asked.1.0 c.is.2 ∙ ap (λ (v : Inv). volume_lines None None v.stores) (at-start places V events old asks c) in
      let there : has_volume file (database old) ≡ true =
      lost-there file (database old).stores (database old).stores.volumes (subst (λ (ls : List VolumeLine). IsIn file (destroyed_of ls)) vs among) in
      true≢false (sym there ∙ volume-not trusted places nobody lawful events e old new mild rest tries f file ten met asks)

  barred : is_valid (database old) ≡ true → (pool : ℕ) → PoolRestore pool events (Err e) → IsPoolBarred pool events e → HasNoPool pool old e ⊎ IsStuck places (RestoresPool pool) old e
  barred valid pool did (inl (is, history, gone)) = inl (is, pool-gone pool gone)
  barred valid pool did (inr (inl (volumes, (file, among, inl stopped), asks, told))) =
      inr (stuck-by trusted places nobody lawful events e old new mild rest tries f (RestoresPool pool) (Err e, did) did.came.unheld stopped)
  barred valid pool did (inr (inl (volumes, (file, among, inr (ten, met)), asks, told))) = absurd (never-unlisted volumes file ten among told met asks)
  barred valid pool did (inr (inr (ten, (object, in_pool, placed, none)))) =
      (let t = no-target trusted places lawful events e old new rest tries f ten object in_pool placed in_pool true 0 valid none in absurd (true≢false (sym t.1 ∙ t.0)))

  pub restore-pool-reason : is_valid (database old) ≡ true → (pool : ℕ) → PoolRestore pool events (Err e) → HasNoPool pool old e ⊎ IsStuck places (RestoresPool pool) old e
  restore-pool-reason valid pool did = elim did.came.cause as (λ _. HasNoPool pool old e ⊎ IsStuck places (RestoresPool pool) old e) [
    | inl stopped ↦ inr (stuck-by trusted places nobody lawful events e old new mild rest tries f (RestoresPool pool) (Err e, did) did.came.unheld stopped)
    | inr h ↦ barred valid pool did h
  ]

  -- ---- RESTORE VOLUME, in front of its transaction

  no-volume : (file : ℕ) → MetBy (IsNoVolume file e) events → AreAsking events → loss_in file (database old) ≡ Err e
  no-volume file met asks =
      let c = cut (IsNoVolume file e) met in
      let w = c.is in
      let asked : Asks 0 (query.Volumes None None) c.m c.next (Ok w.0) = subst (λ (x : Deed). Case places 0 x c.m c.next) w.2 c.step in
      let vs : w.1 ≡ volume_lines None None (database old).stores =
      told-volumes c.m.core.log_length (database c.m) w.0 w.1 asked.1.0 w.3 ∙ ap (λ (v : Inv). volume_lines None None v.stores) (at-start places (IsNoVolume file e) events old asks c) in
      sym (ap (destroying_of file) vs) ∙ w.4

  in-front : (file : ℕ) → VolumeRestore file events (Err e) → AreAsking events → IsStopped events e ⊎ MetBy (IsNoVolume file e) events → CannotBeLost file old e ⊎ IsStuck places (RestoresVolume file) old e
  in-front file did asks (inl (inl memory)) = absurd (ends-halt e (subst Ends (sym memory) refl) mild)
  in-front file did asks (inl (inr stops)) =
      inr (stuck-by trusted places nobody lawful events e old new mild rest tries f (RestoresVolume file) (Err e, did) (asking-unheld events e asks (inr stops)) (inr stops))
  in-front file did asks (inr none) = inl (inl (no-volume file none asks))

-- ---- its transaction, and behind that

-- what nothing is against is legal
none-legal : (c : Change) (core : Core) → why_not c core ≡ None → refused_by (sight 0 core).journal c (inventory core) ≡ None
none-legal c core h =
    listed-none (refused_by (sight 0 core).journal c (inventory core)) (append-none (change_illegal c (sight 0 core)) _ (none-held (change_illegal c (sight 0 core) ++ _) h)).0

module _ (trusted : Type 0) (places : Places) (file : ℕ) (volumes : List VolumeLine) (c : Change) (old : Machine) (rest : IsAtRest old.core) (is : destroying_of file volumes ≡ Ok c) where
  -- the question in front of it
  asked-at : (xs : List Event) (mid : Machine) → AskedVolumes xs volumes → Alone trusted places 0 xs old mid → volumes ≡ volume_lines None None (database old).stores
  asked-at xs mid (n, answer, one, told) f =
      let x : Event = event n (Ask (query.Volumes None None) (Ok answer)) in
      let g : Alone trusted places 0 (x ∷ []) old mid = subst (λ (es : List Event). Alone trusted places 0 es old mid) one f in
      let asked : Asks 0 (query.Volumes None None) old g.0 (Ok answer) = (ticket-step trusted places x old g.0 tt g.1).1 in
      told-volumes old.core.log_length (database old) answer volumes asked.1.0 told

  core-at : (xs : List Event) (mid : Machine) → AskedVolumes xs volumes → Alone trusted places 0 xs old mid → mid.core ≡ old.core
  core-at xs mid asked f = asks-core places xs old mid (volumes-ask xs volumes asked) (loose trusted places xs old mid f)

  loss-is : (xs : List Event) (mid : Machine) → AskedVolumes xs volumes → Alone trusted places 0 xs old mid → loss_in file (database old) ≡ Ok c
  loss-is xs mid asked f = sym (ap (destroying_of file) (asked-at xs mid asked f)) ∙ is

  -- it was refused
  loss-refused : (xs us : List Event) (why e : Refusal) (mid new : Machine) → e ≡ why → halt_by e ≡ None → AskedVolumes xs volumes → Changing c us (Err why) → Alone trusted places 0 xs old mid → Alone trusted places 0 us mid new
      → why_not c old.core ≡ Some e
  loss-refused xs us why e mid new same mild asked changing f g =
      let at : mid.core ≡ old.core = core-at xs mid asked f in
      let changed = changes trusted places c us (Err why) mid new (loss-plain file c volumes is) (subst IsAtRest (sym at) rest) changing.order g in
      elim changed.commits as (λ _. why_not c old.core ≡ Some e) [
        | inl h ↦ sym (ap₂ (λ (x : Change) (k : Core). why_not x k) (loss-drawn file c mid volumes is) at) ∙ h.0 ∙ ap (λ (x : Refusal). Some x) (sym same)
        | inr h ↦ absurd (no-end why mid new h.0 (subst (λ (x : Refusal). halt_by x ≡ None) same mild))
      ]

  -- it was made: the machine is at rest again, the volume is there, and a valid database stays so
  loss-made : (xs us : List Event) (number : ℕ) (mid new : Machine) → AskedVolumes xs volumes → Changing c us (Ok number) → Alone trusted places 0 xs old mid → Alone trusted places 0 us mid new
      → IsAtRest new.core × (has_volume file (database new) ≡ true) × (is_valid (database old) ≡ true → is_valid (database new) ≡ true)
  loss-made xs us number mid new asked changing f g =
      let at : mid.core ≡ old.core = core-at xs mid asked f in
      let plain : is_plain c ≡ true = loss-plain file c volumes is in
      let resting : IsAtRest mid.core = subst IsAtRest (sym at) rest in
      let changed = changes trusted places c us (Ok number) mid new plain resting changing.order g in
      let made = makes trusted places c us number mid new plain resting changing.order g in
      let now : database new ≡ effect c (database old) =
      made-database (drawn c mid) mid new made.1 ∙ ap₂ (λ (x : Change) (k : Core). effect x (inventory k)) (loss-drawn file c mid volumes is) at in
      let there : has_volume file (database old) ≡ true = found-there file (database old).stores (database old).stores.volumes c (loss-is xs mid asked f) in
      let why : why_not c old.core ≡ None = sym (ap₂ (λ (x : Change) (k : Core). why_not x k) (loss-drawn file c mid volumes is) at) ∙ made.0 in
      (changed.leaves.rests refl, ap (has_volume file) now ∙ loss-stays file c (database old) volumes is ∙ there, λ valid. ap is_valid now ∙ legal-valid (sight 0 old.core).journal c (database old) (none-legal c old.core why))

module _ (trusted : Type 0) (places : Places) (nobody : NobodyHolds places) (lawful : RefusesElsewhere places) (file : ℕ) (xs ys : List Event) (e : Refusal) (old mid new : Machine) (mild : halt_by e ≡ None) (rest : IsAtRest mid.core)
    (there : has_volume file (database mid) ≡ true) (valid : is_valid (database mid) ≡ true) (f : Alone trusted places 0 xs old mid) (g : Alone trusted places 0 ys mid new) (h : EndsBehind file ys e) (Did : List Event → Type 0) (did : Did (xs ++ ys)) where
  tries-behind : AreTrying true ys
  tries-behind = restores-try ys h.only

  cut-behind : (Is : Deed → Type 0) → MetBy Is ys → CutAt places Is ys mid
  cut-behind Is met = cut-of trusted places nobody true ys mid new rest tries-behind g Is met

  comes-behind : (Is : Deed → Type 0) → (c : CutAt places Is ys mid) → ComesBy places Did c.at old c.m
  comes-behind Is c = record {
    start = old;
    first = xs ++ c.first;
    later = c.later;
    did = subst Did (ap (λ (es : List Event). xs ++ es) c.cut ∙ sym (append_assoc xs c.first (c.at ∷ c.later))) did;
    core = refl;
    onward = onward-none old;
    made = alone-append ⊥ places 0 xs c.first old mid c.m (loose trusted places xs old mid f) c.made;
  }

  stopped-so : (e ≡ refused.InventoryFull) ⊎ ((k : Holder) × (e ≡ refused.Busy k)) → MetBy (Refuses e) ys → IsStuck places Did old e
  stopped-so (inl full) met =
      (let c = cut-behind (Refuses e) met in (full, (c.at, c.m, comes-behind (Refuses e) c, full-at-step trusted places nobody true ys mid new rest tries-behind g e full c)))
  stopped-so (inr busy) met = absurd (never-held trusted places nobody true ys mid new rest tries-behind g e h.unheld met busy.0 busy.1)

  stopped-behind : IsStopped ys e → IsStuck places Did old e
  stopped-behind (inl memory) = absurd (ends-halt e (subst Ends (sym memory) refl) mild)
  stopped-behind (inr (stops, met)) = stopped-so (stopping-mild e stops mild) met

  aimless-behind : IsAimless ys e → IsStuck places Did old e
  aimless-behind (ten, (object, pool, placed, none)) =
      (let t = no-target trusted places lawful ys e mid new rest tries-behind g ten object pool placed pool true 0 valid none in absurd (true≢false (sym t.1 ∙ t.0)))

  never-missing : (n : ℕ) → IsIn n (file ∷ []) → (number_of e == 10) ≡ true → MetBy (λ d. d ≡ Ask (query.OnVolume n) (Err e)) ys → AreAsking ys → ⊥
  never-missing n (inl same) ten met asks =
      true≢false (sym there ∙ ap (λ (k : ℕ). has_volume k (database mid)) same ∙ volume-not trusted places nobody lawful ys e mid new mild rest tries-behind g n ten met asks)
  never-missing n (inr none) ten met asks = absurd none

  stuck-behind : IsStuck places Did old e
  stuck-behind = elim h.cause as (λ _. IsStuck places Did old e) [
    | inl stopped ↦ stopped-behind stopped
    | inr more ↦ elim more as (λ _. IsStuck places Did old e) [
      | inl unlisted ↦ elim unlisted.0.2 as (λ _. IsStuck places Did old e) [
        | inl stopped ↦ stopped-behind stopped
        | inr missing ↦ absurd (never-missing unlisted.0.0 unlisted.0.1 missing.0 missing.1 unlisted.1)
      ]
      | inr aimless ↦ aimless-behind aimless
    ]
  ]

module _ (trusted : Type 0) (places : Places) (nobody : NobodyHolds places) (lawful : RefusesElsewhere places) (file : ℕ) (events : List Event) (e : Refusal) (old new : Machine) (mild : halt_by e ≡ None) (rest : IsAtRest old.core)
    (valid : is_valid (database old) ≡ true) (f : Alone trusted places 0 events old new) (did : VolumeRestore file events (Err e)) where
  undestroyed : IsUndestroyed file events e → CannotBeLost file old e
  undestroyed (volumes, c, why, is, same, (xs, us, cut, asked, changing)) =
      let p = alone-parts trusted places 0 events xs us old new cut f in
      inr (
        c,
        loss-is trusted places file volumes c old rest is xs p.0 asked p.1,
        loss-refused trusted places file volumes c old rest is xs us why e p.0 new (unmade-is why e same mild) mild asked changing p.1 p.2,
      )

  behind-loss : (c : Change) (xs ys : List Event) → events ≡ xs ++ ys → MadeLost file c xs → EndsBehind file ys e → IsStuck places (RestoresVolume file) old e
  behind-loss c xs ys is (volumes, number, found, (zs, us, cut, asked, changing)) h =
      let p = alone-parts trusted places 0 events xs ys old new is f in
      let q = alone-parts trusted places 0 xs zs us old p.0 cut p.1 in
      let made = loss-made trusted places file volumes c old rest found zs us number q.0 p.0 asked changing q.1 q.2 in
      stuck-behind trusted places nobody lawful file xs ys e old p.0 new mild made.0 made.1 (made.2 valid) p.1 p.2 h (RestoresVolume file) (subst (RestoresVolume file) is (Err e, did))

  pub restore-volume-reason : CannotBeLost file old e ⊎ IsStuck places (RestoresVolume file) old e
  restore-volume-reason = elim did.came.place as (λ _. CannotBeLost file old e ⊎ IsStuck places (RestoresVolume file) old e) [
    | inl front ↦ in-front trusted places nobody lawful events e old new mild rest (asks-try events front.1) f file did front.1 front.0
    | inr more ↦ elim more as (λ _. CannotBeLost file old e ⊎ IsStuck places (RestoresVolume file) old e) [
      | inl refused_so ↦ inl (undestroyed refused_so)
      | inr ended ↦ inr (behind-loss ended.0 ended.1.0 ended.1.1 ended.1.2 ended.1.3 ended.1.4)
    ]
  ]
