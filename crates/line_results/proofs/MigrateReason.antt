-- Why MIGRATE STGPOOL and MIGRATE ALL are refused where one actor has the machine alone, if no run ends.
use Rattle.std.proofs.Common.{◌≡◌, ◌⊎◌, inl, inr, ℕ, ◌==◌, ◌&&◌, cond, is_some, if◌then◌else◌, Bool, true, false, true≢false, List, [], ◌∷◌, ◌++◌, map, Option, None, Some, Result, Ok, Err, refl, sym, ap, subst, ◌∙◌}
use Rattle.std.proofs.lemmas.Bool.{and_parts}
use Rattle.std.proofs.lemmas.Option.{same_Some}
use Rattle.std.specs.List.{AllByRecursion, find}
use Rattle.std.specs.List.Sorted.{IsStrictlySortedBy}
use Rattle.std.specs.Map.{keys_of}
use Rattle.std.specs.Option.{option_map, option_map_or}
use Rattle.std.specs.Ordering.{nat_cmp}
use Rattle.std.specs.BTreeMap.{is_at}
use Rattle.kinds.specs.Refusals.{foremost, number_of, refusal_of}
use Rattle.kinds.specs.declared.refusal.Refusal.{Refusal}
use Rattle.kinds.specs.declared.refusal.Refusal.TheVariants as refused
use Rattle.inventory_answers.specs.Stores.{pool_line, pool_lines}
use Rattle.inventory_answers.specs.declared.lines.PoolLine.{PoolLine}
use Rattle.inventory_answers.specs.declared.query.Query.TheVariants as query
use Rattle.inventory_answers.specs.declared.reply.Answer.{Answer}
use Rattle.inventory_answers.specs.declared.reply.Rows.TheVariants as rows
use Rattle.inventory_rows.proofs.of_object_rows.Stands.{at-eqb, at_itself, lookup-behind}
use Rattle.inventory_rows.proofs.of_pool_tables.Ascending.{row_absent}
use Rattle.inventory_rows.specs.pool_rows.PoolRows.{PoolRows}
use Rattle.inventory_rows.specs.pool_tables.Rows.{named, row_at}
use Rattle.inventory_rows.specs.pool_tables.declared.pool.Pool.{Pool}
use Rattle.inventory_rows.specs.Search.{is_primary_kind, pool}
use Rattle.inventory_rows.specs.State.{Inv}
use Rattle.inventory_rows.specs.version_groups.Entries.{on_ok}
use Rattle.inventory_rules.specs.Valid.{is_valid, next_is_there}
use Rattle.inventory_laws.proofs.Facts.{facts_of}
use Rattle.inventory_laws.proofs.Lists.{all_of}
use Rattle.inventory_work.specs.declared.lines.CopyLine.{CopyLine}
use Rattle.inventory_work.specs.Copies.{copies_where, has_pool}
use Rattle.command_steps.specs.copy_attempts.Outcomes.{MetBy}
use Rattle.command_steps.specs.copy_runs.Tickets.{GotNoTicket}
use Rattle.command_steps.specs.migration.Marks.{has_reached, is_within, onward, target, target_of}
use Rattle.command_steps.specs.migration.Migrating.{IsBarred, IsMigration, Migration, TellsNext, TellsWhy}
use Rattle.command_steps.specs.migration.Sweeping.{AllMigration, IsBarredIn, IsSweep, TellsDue, due_at, due_of, is_behind, is_due}
use Rattle.space.specs.declared.aim.Aim.TheVariants as aim
use Rattle.steps.specs.Events.{Deed, Event}
use Rattle.steps.specs.Events.Deed.{Ask}
use Rattle.machine.specs.Alone.{Alone}
use Rattle.machine.specs.Laws.{RefusesElsewhere}
use Rattle.machine.specs.Machine.{Asks, Case, Places, ended}
use Rattle.machine.specs.State.{Machine}
use Rattle.machine.proofs.Elsewhere.{append-all, foremost-all}
use Rattle.command_steps.specs.Answers.{halt_by}
use Rattle.command_steps.specs.Doing.{first_picks}
use Rattle.line_results.specs.Migrating.{IsAllMigration, IsPoolMigration, IsWithoutNext, StandByNumber, has_next}
use Rattle.line_results.specs.Moving.{IsStuck}
use Rattle.line_results.specs.Resting.{IsAtRest, NobodyHolds, database}
use Rattle.line_results.proofs.Emptying.{ten-is}
use Rattle.line_results.proofs.Types.{Due}
use Rattle.line_results.proofs.CopiesStay.{grew-pools}
use Rattle.line_results.proofs.CopyReason.{NotTen, answer_in, ended-not, told-pools}
use Rattle.line_results.proofs.Cutting.{CutAt}
use Rattle.line_results.proofs.MoveReason.{stuck-by}
use Rattle.line_results.proofs.Ticketed.{no-target}
use Rattle.line_results.proofs.Trying.{AreTrying, IsTrying, cut-of, grew-at}

-- ---- a pool that isn't there, or has no next one

-- what its row says
abbrev IsWhy : Refusal → Option Pool → Type 0
IsWhy why row = ((why ≡ refused.NotFound) × (is_some row ≡ false)) ⊎ ((why ≡ refused.BadHierarchy) × (is_some row ≡ true) × (option_map_or (λ p. is_some p.settings.next) row false ≡ false))

onward-why : (within : Bool) (p : Pool) (next : Option ℕ) (e : Refusal) → p.settings.next ≡ next → onward within next ≡ Err e → IsWhy e (Some p)
onward-why within p None e is h =
    (let odd : ◌≡◌ {A = Result (Option ℕ) Refusal} (Err refused.BadHierarchy) (Err e) = h in
    let same : e ≡ refused.BadHierarchy = cc in
    inr (same, refl, ap (λ (o : Option ℕ). is_some o) is))
onward-why true p (Some next) e is h = absurd cc
onward-why false p (Some next) e is h = absurd cc

target-why : (number low : ℕ) (s : PoolRows) (pools : List (ℕ × Pool)) (e : Refusal) → target_of low (find (λ l. l.number == number) (map (pool_line s) pools)) ≡ Err e → IsWhy e (row_at number pools)
target-why number low s [] e h =
    (let odd : ◌≡◌ {A = Result (Option ℕ) Refusal} (Err refused.NotFound) (Err e) = h in
    let same : e ≡ refused.NotFound = cc in
    inl (same, refl))
target-why number low s (p ∷ pools) e h =
    subst (λ (b : Bool). IsWhy e (cond b (Some p.1) (row_at number pools))) (sym (at-eqb number p.0))
    (elim (p.0 == number) as (λ b. target_of low (if b then Some (pool_line s p) else find (λ (l : PoolLine). l.number == number) (map (pool_line s) pools)) ≡ Err e → IsWhy e (cond b (Some p.1) (row_at number pools))) [
      | true ↦ λ one. onward-why (is_within low (pool_line s p)) p.1 p.1.settings.next e refl one
      | false ↦ λ more. target-why number low s pools e more
    ] h)

-- where copies are to go from a pool is there, where each names a next one that is
onward-is : (within : Bool) (next : Option ℕ) (to : ℕ) → onward within next ≡ Ok (Some to) → next ≡ Some to
onward-is within None to h = absurd cc
onward-is true (Some n) to h = (let odd : ◌≡◌ {A = Result (Option ℕ) Refusal} (Ok None) (Ok (Some to)) = h in cc)
onward-is false (Some n) to h = (let same : ◌≡◌ {A = Result (Option ℕ) Refusal} (Ok (Some n)) (Ok (Some to)) = h in cc)

next-there : (number low : ℕ) (s : PoolRows) (v : Inv) (pools : List (ℕ × Pool)) (to : ℕ) → AllByRecursion (λ (p : ℕ × Pool). (is_some (named p.1.class v.stores.classes) && next_is_there p.1.settings.next v) ≡ true) pools
    → target_of low (find (λ (l : PoolLine). l.number == number) (map (pool_line s) pools)) ≡ Ok (Some to) → has_pool to v ≡ true
next-there number low s v [] to cites h = (let odd : ◌≡◌ {A = Result (Option ℕ) Refusal} (Err refused.NotFound) (Ok (Some to)) = h in cc)
next-there number low s v (p ∷ pools) to cites h =
    elim (p.0 == number) as (λ b. target_of low (if b then Some (pool_line s p) else find (λ (l : PoolLine). l.number == number) (map (pool_line s) pools)) ≡ Ok (Some to) → has_pool to v ≡ true) [
      | true ↦ λ one. subst (λ (o : Option ℕ). next_is_there o v ≡ true) (onward-is (is_within low (pool_line s p)) p.1.settings.next to one)
          (and_parts (is_some (named p.1.class v.stores.classes)) (next_is_there p.1.settings.next v) cites.0).1
      | false ↦ λ more. next-there number low s v pools to cites.1 more
    ] h

listed-not : (v : Inv) (b : Bool) (xs : List CopyLine) (m : Machine) (e : Refusal) → (number_of e == 10) ≡ true
    → foremost (ended m ++ refusal_of {S = Answer} (on_ok (answer_in v) (on_ok rows.OnPool (if b then Ok xs else Err refused.NotFound)))) ≡ Some e → b ≡ false
listed-not v true xs m e ten why = absurd (foremost-all NotTen (ended m ++ []) (append-all NotTen (ended m) [] (ended-not m) tt) e why ten)
listed-not v false xs m e ten why = refl

not-listed : (number : ℕ) (m next : Machine) (e : Refusal) → (number_of e == 10) ≡ true → Asks 0 (query.OnPool number) m next (Err e) → has_pool number (database m) ≡ false
not-listed number m next e ten (inl (inl why, stays)) = (let v : Inv = database m in listed-not v (has_pool number v) _ m e ten why)
not-listed number m next e ten (inl (inr memory, stays)) = absurd (let odd : (number_of refused.Memory == 10) ≡ true = subst (λ (x : Refusal). (number_of x == 10) ≡ true) memory ten in cc)
not-listed number m next e ten (inr h) = absurd h.1

no-next : (row : Option Pool) → is_some row ≡ false → option_map_or (λ p. is_some p.settings.next) row false ≡ false
no-next None none = refl
no-next (Some p) none = absurd (true≢false none)

-- of one that has a next one it isn't so
pub next-not : (number : ℕ) (v : Inv) (e : Refusal) → has_next number v ≡ true → IsWithoutNext number v e → ⊥
next-not number v e next (inl (is, none)) = true≢false (sym next ∙ no-next (pool number v) none)
next-not number v e next (inr (is, there, none)) = true≢false (sym next ∙ none)

-- ---- a pool that is due

-- it is among these, and has a next one
record IsDue (number : ℕ) (pools : List (ℕ × Pool)) : Type 0 where
  first : List (ℕ × Pool)
  row : ℕ × Pool
  later : List (ℕ × Pool)
  whole : first ++ row ∷ later ≡ pools
  number_is : row.0 ≡ number
  next : is_some row.1.settings.next ≡ true

due-next : (before : Option ℕ) (l : PoolLine) → is_due before l ≡ true → is_some l.settings.next ≡ true
due-next before l h =
    let a = and_parts (is_behind before l.number) (is_primary_kind l.kind && (is_some l.settings.next && has_reached l.settings.high l)) h in
    let b = and_parts (is_primary_kind l.kind) (is_some l.settings.next && has_reached l.settings.high l) a.1 in
    (and_parts (is_some l.settings.next) (has_reached l.settings.high l) b.1).0

is-due : (before : Option ℕ) (s : PoolRows) (pools : List (ℕ × Pool)) (t : Due) → option_map due_at (find (is_due before) (map (pool_line s) pools)) ≡ Some t → IsDue t.pool pools
is-due before s [] t h = absurd cc
is-due before s (p ∷ pools) t h =
    elim (is_due before (pool_line s p)) as (λ b. is_due before (pool_line s p) ≡ b → option_map due_at (if b then Some (pool_line s p) else find (is_due before) (map (pool_line s) pools)) ≡ Some t → IsDue t.pool (p ∷ pools)) [
      | true ↦ λ due one. record { first = []; row = p; later = pools; whole = refl; number_is = ap (λ (d : Due). d.pool) (same_Some (due_at (pool_line s p)) t one); next = due-next before (pool_line s p) due }
      | false ↦ λ other more. (let r = is-due before s pools t more in
          record { first = p ∷ r.first; row = r.row; later = r.later; whole = ap (λ (ps : List (ℕ × Pool)). p ∷ ps) r.whole; number_is = r.number_is; next = r.next })
    ] refl h

row-of : (number : ℕ) (pools : List (ℕ × Pool)) → IsStrictlySortedBy nat_cmp (keys_of pools) → (d : IsDue number pools) → row_at number pools ≡ Some d.row.1
row-of number pools sorted d =
    subst (λ (k : ℕ). row_at k pools ≡ Some d.row.1) d.number_is
    (ap (λ (ps : List (ℕ × Pool)). row_at d.row.0 ps) (sym d.whole)
    ∙ lookup-behind (is_at (nat_cmp d.row.0)) d.first (d.row ∷ d.later) (row_absent d.first d.row.0 d.row.1 d.later (d.row ∷ d.later) pools refl d.whole sorted)
    ∙ ap (λ (b : Bool). cond b (Some d.row.1) (row_at d.row.0 d.later)) (at_itself d.row.0))

-- so it isn't one without a next one
has-one : (number : ℕ) (v : Inv) (e : Refusal) → StandByNumber v → IsDue number v.stores.pools → IsWithoutNext number v e → ⊥
has-one number v e sorted d (inl (is, none)) = true≢false (ap (λ (o : Option Pool). is_some o) (sym (row-of number v.stores.pools sorted d)) ∙ none)
has-one number v e sorted d (inr (is, there, none)) =
    true≢false (sym d.next ∙ ap (λ (o : Option Pool). option_map_or (λ p. is_some p.settings.next) o false) (sym (row-of number v.stores.pools sorted d)) ∙ none)

-- ---- the reasons

module _ (trusted : Type 0) (places : Places) (nobody : NobodyHolds places) (lawful : RefusesElsewhere places) (events : List Event) (e : Refusal) (old new : Machine) (mild : halt_by e ≡ None) (rest : IsAtRest old.core)
    (tries : AreTrying true events) (f : Alone trusted places 0 events old new) where
  cut : (Is : Deed → Type 0) → MetBy Is events → CutAt places Is events old
  cut Is met = cut-of trusted places nobody true events old new rest tries f Is met

  -- the pools are what they were
  pools-at : (Is : Deed → Type 0) → (c : CutAt places Is events old) → (database c.m).stores.pools ≡ (database old).stores.pools
  pools-at Is c = (let g = grew-at trusted places nobody true events old new rest tries f Is c in grew-pools true g.0 old c.m g.1)

  why-at : (number low : ℕ) → MetBy (TellsWhy number low e) events → IsWithoutNext number (database old) e
  why-at number low met =
      let c = cut (TellsWhy number low e) met in
      let w = c.is in
      let v : Inv = database c.m in
      let lines : w.1 ≡ pool_lines None v.stores = told-pools c.m c.next w.0 w.1 w.3 (subst (λ (x : Deed). Case places 0 x c.m c.next) w.2 c.step) in
      subst (λ (ps : List (ℕ × Pool)). IsWhy e (row_at number ps)) (pools-at (TellsWhy number low e) c)
      (target-why number low v.stores v.stores.pools e (sym (ap (λ (ls : List PoolLine). target number low ls) lines) ∙ w.4))

  there-not : (number : ℕ) → (number_of e == 10) ≡ true → MetBy (λ d. d ≡ Ask (query.OnPool number) (Err e)) events → has_pool number (database old) ≡ false
  there-not number ten met =
      let Is : Deed → Type 0 = (λ d. d ≡ Ask (query.OnPool number) (Err e)) in
      let c = cut Is met in
      subst (λ (ps : List (ℕ × Pool)). is_some (row_at number ps) ≡ false) (pools-at Is c)
      (not-listed number c.m c.next e ten (subst (λ (x : Deed). Case places 0 x c.m c.next) c.is c.step))

  -- the pool is there to which copies are to go
  never-gone : (number low object placed to : ℕ) → (number_of e == 10) ≡ true → MetBy (TellsNext number low to) events → GotNoTicket object number placed to true 0 events e → is_valid (database old) ≡ true → ⊥
  never-gone number low object placed to ten next none valid =
      let t = no-target trusted places lawful events e old new rest tries f ten object number placed to true 0 valid none in
      let c = cut (TellsNext number low to) next in
      let w = c.is in
      let s : PoolRows = (database c.m).stores in
      let lines : w.1 ≡ pool_lines None s = told-pools c.m c.next w.0 w.1 w.3 (subst (λ (x : Deed). Case places 0 x c.m c.next) w.2 c.step) in
      let so : target_of low (find (λ (l : PoolLine). l.number == number) (map (pool_line s) s.pools)) ≡ Ok (Some to) = sym (ap (λ (ls : List PoolLine). target number low ls) lines) ∙ w.4 in
      let cites : AllByRecursion (λ (p : ℕ × Pool). (is_some (named p.1.class (database old).stores.classes) && next_is_there p.1.settings.next (database old)) ≡ true) s.pools =
      subst (λ (ps : List (ℕ × Pool)). AllByRecursion (λ (p : ℕ × Pool). (is_some (named p.1.class (database old).stores.classes) && next_is_there p.1.settings.next (database old)) ≡ true) ps) (sym (pools-at (TellsNext number low to) c))
      (all_of (λ (p : ℕ × Pool). is_some (named p.1.class (database old).stores.classes) && next_is_there p.1.settings.next (database old)) (database old).stores.pools (facts_of (database old) valid).pools_cite) in
      true≢false (sym (next-there number low s (database old) s.pools to cites so) ∙ t.0)

  -- ---- MIGRATE STGPOOL

  barred : is_valid (database old) ≡ true → (number low : ℕ) → Migration first_picks number low events (Err e) → IsBarred number low events e → IsWithoutNext number (database old) e ⊎ IsStuck places (IsPoolMigration number low) old e
  barred valid number low did (inl (so, told)) = inl (why-at number low told)
  barred valid number low did (inr (inl (ten, met))) = inl (inl (ten-is e ten, there-not number ten met))
  barred valid number low did (inr (inr (ten, (object, placed, to, next, none)))) = absurd (never-gone number low object placed to ten next none valid)

  pub migrate-reason : is_valid (database old) ≡ true → (number low : ℕ) → Migration first_picks number low events (Err e) → IsWithoutNext number (database old) e ⊎ IsStuck places (IsPoolMigration number low) old e
  migrate-reason valid number low did = elim did.came.cause as (λ _. IsWithoutNext number (database old) e ⊎ IsStuck places (IsPoolMigration number low) old e) [
    | inl stopped ↦ inr (stuck-by trusted places nobody lawful events e old new mild rest tries f (IsPoolMigration number low) (Err e, did) did.came.unheld stopped)
    | inr h ↦ barred valid number low did h
  ]

  -- ---- MIGRATE ALL

  due-at : (t : Due) → MetBy (TellsDue t) events → IsDue t.pool (database old).stores.pools
  due-at t met =
      let c = cut (TellsDue t) met in
      let w = c.is in
      let v : Inv = database c.m in
      let lines : w.2 ≡ pool_lines None v.stores = told-pools c.m c.next w.1 w.2 w.4 (subst (λ (x : Deed). Case places 0 x c.m c.next) w.3 c.step) in
      subst (λ (ps : List (ℕ × Pool)). IsDue t.pool ps) (pools-at (TellsDue t) c) (is-due w.0 v.stores v.stores.pools t (sym (ap (λ (ls : List PoolLine). due_of w.0 ls) lines) ∙ w.5))

  all-barred : is_valid (database old) ≡ true → AllMigration first_picks events (Err e) → StandByNumber (database old) → IsBarredIn events e → IsStuck places IsAllMigration old e
  all-barred valid did sorted (t, due, inl (so, told)) = absurd (has-one t.pool (database old) e sorted (due-at t due) (why-at t.pool t.low told))
  all-barred valid did sorted (t, due, inr (inl (ten, met))) = absurd (has-one t.pool (database old) e sorted (due-at t due) (inl (ten-is e ten, there-not t.pool ten met)))
  all-barred valid did sorted (t, due, inr (inr (ten, (object, placed, to, next, none)))) = absurd (never-gone t.pool t.low object placed to ten next none valid)

  pub all-reason : is_valid (database old) ≡ true → AllMigration first_picks events (Err e) → StandByNumber (database old) → IsStuck places IsAllMigration old e
  all-reason valid did sorted = elim did.came.cause as (λ _. IsStuck places IsAllMigration old e) [
    | inl stopped ↦ stuck-by trusted places nobody lawful events e old new mild rest tries f IsAllMigration (Err e, did) did.came.unheld stopped
    | inr h ↦ all-barred valid did sorted h
  ]

-- ---- the steps

migration-tries : (number : ℕ) (d : Deed) → IsMigration number d → IsTrying true d
migration-tries number d (inl h) = inl h
migration-tries number d (inr (object, placed, to, h)) = inr (object, aim.Move number placed to true, 0, refl, h)

pub migrations-try : (number : ℕ) (events : List Event) → AllByRecursion (λ e. IsMigration number e.deed) events → AreTrying true events
migrations-try number [] h = tt
migrations-try number (e ∷ events) h = (migration-tries number e.deed h.0, migrations-try number events h.1)

sweep-tries : (d : Deed) → IsSweep d → IsTrying true d
sweep-tries d (inl h) = inl h
sweep-tries d (inr (object, number, placed, to, h)) = inr (object, aim.Move number placed to true, 0, refl, h)

pub sweeps-try : (events : List Event) → AllByRecursion (λ e. IsSweep e.deed) events → AreTrying true events
sweeps-try [] h = tt
sweeps-try (e ∷ events) h = (sweep-tries e.deed h.0, sweeps-try events h.1)
