-- Why MOVE DATA and RECLAIM STGPOOL are refused where one actor has the machine alone, if no run ends.
use Rattle.std.proofs.Common.{◌≡◌, ◌⊎◌, inl, inr, ℕ, ◌==◌, is_some, if◌then◌else◌, Bool, true, false, true≢false, List, [], ◌∷◌, ◌++◌, map, Option, None, Some, Result, Ok, Err, refl, sym, ap, ap₂, subst, ◌∙◌}
use Rattle.std.proofs.lemmas.Bool.{eq-eqb, eqb-true, false≢true}
use Rattle.std.proofs.lemmas.Option.{same_Some}
use Rattle.std.specs.List.{AllByRecursion, find}
use Rattle.std.specs.Option.{option_map}
use Rattle.kinds.specs.Names.{is_same_name}
use Rattle.kinds.specs.Refusals.{foremost, number_of, refusal_of}
use Rattle.kinds.specs.declared.pool.PoolKind.{PoolKind}
use Rattle.kinds.specs.declared.refusal.Holder.{Holder}
use Rattle.kinds.specs.declared.refusal.Refusal.{Refusal}
use Rattle.kinds.specs.declared.refusal.Refusal.TheVariants as refused
use Rattle.inventory_answers.specs.Stores.{pool_line, pool_lines, volume_lines}
use Rattle.inventory_answers.specs.declared.lines.PoolLine.{PoolLine}
use Rattle.inventory_answers.specs.declared.lines.VolumeLine.{VolumeLine}
use Rattle.inventory_answers.specs.declared.query.Query.{Query}
use Rattle.inventory_answers.specs.declared.query.Query.TheVariants as query
use Rattle.inventory_answers.specs.declared.reply.Answer.{Answer}
use Rattle.inventory_answers.specs.declared.reply.Rows.TheVariants as rows
use Rattle.inventory_rows.proofs.of_object_rows.Stands.{at-eqb}
use Rattle.inventory_rows.specs.pool_rows.PoolRows.{PoolRows}
use Rattle.inventory_rows.specs.pool_tables.Rows.{row_at}
use Rattle.inventory_rows.specs.pool_tables.declared.pool.Pool.{Pool}
use Rattle.inventory_rows.specs.Search.{pool}
use Rattle.inventory_rows.specs.State.{Inv}
use Rattle.inventory_rows.specs.version_groups.Entries.{on_ok}
use Rattle.inventory_rules.specs.Valid.{is_valid}
use Rattle.inventory_work.specs.Copies.{has_pool, has_volume}
use Rattle.inventory_work.specs.Volumes.{eligible_in}
use Rattle.command_steps.specs.copy_attempts.Outcomes.{Met, MetBy}
use Rattle.command_steps.specs.copy_pools.Backups.{kind_of}
use Rattle.command_steps.specs.copy_runs.Ends.{AreAsking, IsStopped, IsUnheld}
use Rattle.command_steps.specs.reclamation.Moving.{DataMove, IsBarred, IsMoving, TellsSo, both_primary, goes, goes_from, home_if, home_of, into, pool_called, pool_if, volume_with}
use Rattle.command_steps.specs.reclamation.Reclaiming.{IsNotThere, IsReclaiming, Reclamation, TellsOtherwise, is_sequential_in, is_sequential_line}
use Rattle.command_steps.proofs.of_copy_pools.Missing.{kind-is}
use Rattle.command_steps.proofs.of_reclamation.Listing.{told-volumes}
use Rattle.space.specs.declared.aim.Aim.TheVariants as aim
use Rattle.steps.specs.Events.{Deed, Event}
use Rattle.steps.specs.Events.Deed.{Ask}
use Rattle.machine.specs.Alone.{Alone}
use Rattle.machine.specs.Laws.{RefusesElsewhere}
use Rattle.machine.specs.Machine.{Asks, Case, Places, ended}
use Rattle.machine.specs.State.{Machine, inventory}
use Rattle.machine.proofs.Elsewhere.{append-all, foremost-all}
use Rattle.command_steps.specs.Answers.{halt_by}
use Rattle.line_results.specs.Moving.{ComesBy, IsDataMove, IsReclamation, IsStuck, IsUnmoved, IsUnreclaimed, goes_in, is_sequential_there}
use Rattle.line_results.specs.Resting.{IsAtRest, NobodyHolds, database}
use Rattle.line_results.proofs.CopyReason.{NotTen, answer_in, ended-not, told-pools}
use Rattle.line_results.proofs.Cutting.{CutAt, all-first}
use Rattle.line_results.proofs.Emptying.{ten-is}
use Rattle.line_results.proofs.Reasons.{stopping-mild, volume-missing}
use Rattle.line_results.proofs.Runs.{onward-none}
use Rattle.line_results.proofs.Spent.{HasTickets, ticket-step}
use Rattle.line_results.proofs.Stopping.{Ends, ends-halt}
use Rattle.line_results.proofs.Ticketed.{no-target}
use Rattle.line_results.proofs.Trying.{AreTrying, IsTrying, Refuses, cut-of, full-at-step, never-held}

-- ---- questions change nothing

ask-core : (q : Query) (answer : Result Answer Refusal) (m next : Machine) → Asks 0 q m next answer → next.core ≡ m.core
ask-core q (Ok a) m next h = h.1.1.core
ask-core q (Err e) m next (inl h) = h.1.core
ask-core q (Err e) m next (inr h) = absurd h.1

pub asks-core : (places : Places) (events : List Event) (m new : Machine) → AreAsking events → Alone ⊥ places 0 events m new → new.core ≡ m.core
asks-core places [] m new all same = ap (λ (x : Machine). x.core) same
asks-core places (e ∷ events) m new all (next, moved, rest) =
    let a = all.0 in
    let has : HasTickets e.deed = subst HasTickets (sym a.2) tt in
    let s = ticket-step ⊥ places e m next has moved in
    asks-core places events next new all.1 rest ∙ ask-core a.0 a.1 m next (subst (λ (d : Deed). Case places 0 d m next) a.2 s.1)

pub at-start : (places : Places) (Is : Deed → Type 0) (events : List Event) (old : Machine) → AreAsking events → (c : CutAt places Is events old) → database c.m ≡ database old
at-start places Is events old asks c =
    ap inventory (asks-core places c.first old c.m (all-first _ c.first (c.at ∷ c.later) (subst AreAsking c.cut asks)) c.made)

-- ---- a pool that isn't there

no-line : (pool : ℕ) (s : PoolRows) (pools : List (ℕ × Pool)) → is_some (row_at pool pools) ≡ false → is_sequential_in pool (map (pool_line s) pools) ≡ false
no-line pool s [] none = refl
no-line pool s (p ∷ pools) none =
    elim (p.0 == pool) as (λ b. is_some (if b then Some p.1 else row_at pool pools) ≡ false → is_sequential_line (if b then Some (pool_line s p) else find (λ (l : PoolLine). l.number == pool) (map (pool_line s) pools)) ≡ false) [
      | true ↦ λ some. absurd (let odd : true ≡ false = some in cc)
      | false ↦ λ other. no-line pool s pools other
    ] (subst (λ b. is_some (if b then Some p.1 else row_at pool pools) ≡ false) (at-eqb pool p.0) none)

no-pool : (pool : ℕ) (v : Inv) → has_pool pool v ≡ false → is_sequential_there pool v ≡ false
no-pool pool v none = no-line pool v.stores v.stores.pools none

-- a pool is there that is the first one, or another
pool-there : (k : ℕ) (p : ℕ × Pool) (pools : List (ℕ × Pool)) → (p.0 ≡ k) ⊎ (is_some (row_at k pools) ≡ true) → is_some (row_at k (p ∷ pools)) ≡ true
pool-there k p pools h =
    subst (λ b. is_some (if b then Some p.1 else row_at k pools) ≡ true) (sym (at-eqb k p.0))
    (elim (p.0 == k) as (λ b. (p.0 == k) ≡ b → is_some (if b then Some p.1 else row_at k pools) ≡ true) [
      | true ↦ λ same. refl
      | false ↦ λ other. elim h as (λ _. is_some (row_at k pools) ≡ true) [
        | inl is ↦ absurd (false≢true (sym other ∙ eq-eqb p.0 k is))
        | inr there ↦ there
      ]
    ] refl)

called-there : (name : List ℕ) (s : PoolRows) (pools : List (ℕ × Pool)) (home : ℕ × PoolKind) → pool_called name (map (pool_line s) pools) ≡ Some home → is_some (row_at home.0 pools) ≡ true
called-there name s [] home is = absurd (let odd : ◌≡◌ {A = Option (ℕ × PoolKind)} None (Some home) = is in cc)
called-there name s (p ∷ pools) home is =
    elim (is_same_name p.1.name name) as (λ b. option_map (λ (l : PoolLine). (l.number, l.kind)) (if b then Some (pool_line s p) else find (λ (l : PoolLine). is_same_name l.name name) (map (pool_line s) pools)) ≡ Some home
    → is_some (row_at home.0 (p ∷ pools)) ≡ true) [
      | true ↦ λ one. pool-there home.0 p pools (inl (ap (λ (h : ℕ × PoolKind). h.0) (same_Some (p.0, p.1.kind) home one)))
      | false ↦ λ more. pool-there home.0 p pools (inr (called-there name s pools home more))
    ] is

home-there : (s : PoolRows) (o : Option VolumeLine) (home : ℕ × PoolKind) → home_if (map (pool_line s) s.pools) o ≡ Some home → is_some (row_at home.0 s.pools) ≡ true
home-there s None home is = absurd (let odd : ◌≡◌ {A = Option (ℕ × PoolKind)} None (Some home) = is in cc)
home-there s (Some line) home is = go line.pool is where
  go : (name : Option (List ℕ)) → pool_if (map (pool_line s) s.pools) name ≡ Some home → is_some (row_at home.0 s.pools) ≡ true
  go None none = absurd (let odd : ◌≡◌ {A = Option (ℕ × PoolKind)} None (Some home) = none in cc)
  go (Some name) called = called-there name s s.pools home called

no-kind : (o : Option Pool) → is_some o ≡ false → option_map (λ p. p.kind) o ≡ None
no-kind None none = refl
no-kind (Some p) none = absurd (true≢false none)

-- where the pool isn't there to which what lies on a volume is to move, it may not
goes-missing : (file to : ℕ) (v : Inv) → has_pool to v ≡ false → goes_in file to v ≡ Err refused.NotFound
goes-missing file to v none = from_home (home_of file (volume_lines None None v.stores) pools) refl where
  pools : List PoolLine
  pools = pool_lines None v.stores

  apart : (home : ℕ × PoolKind) → home_of file (volume_lines None None v.stores) pools ≡ Some home → (b : Bool) → (home.0 == to) ≡ b → b ≡ false
  apart home is false other = refl
  apart home is true same =
      absurd (true≢false (sym (home-there v.stores (volume_with file (volume_lines None None v.stores)) home is) ∙ ap (λ (k : ℕ). has_pool k v) (eqb-true home.0 to same) ∙ none))

  from_home : (o : Option (ℕ × PoolKind)) → home_of file (volume_lines None None v.stores) pools ≡ o → goes_from to o pools ≡ Err refused.NotFound
  from_home None is = refl
  from_home (Some home) is =
      ap (λ (b : Bool). if b then Ok tt else both_primary home.1 (kind_of to pools)) (apart home is (home.0 == to) refl)
      ∙ ap (both_primary home.1) (kind-is to v pools refl ∙ no-kind (pool to v) none)

-- a copy's pool is there, and where another one is named that one
never-there : (to from : ℕ) (v : Inv) → has_pool (into to from) v ≡ false → has_pool from v ≡ true → ((to == 0) ≡ false → has_pool to v ≡ true) → ⊥
never-there to from v none home named = go (to == 0) refl none where
  go : (own : Bool) → (to == 0) ≡ own → has_pool (if own then from else to) v ≡ false → ⊥
  go true own gone = true≢false (sym home ∙ gone)
  go false other gone = true≢false (sym (named other) ∙ gone)

eligible-not : (v : Inv) (b : Bool) (xs : List ℕ) (m : Machine) (e : Refusal) → (number_of e == 10) ≡ true
    → foremost (ended m ++ refusal_of {S = Answer} (on_ok (answer_in v) (on_ok rows.Eligible (if b then Ok xs else Err refused.NotFound)))) ≡ Some e → b ≡ false
eligible-not v true xs m e ten why = absurd (foremost-all NotTen (ended m ++ []) (append-all NotTen (ended m) [] (ended-not m) tt) e why ten)
eligible-not v false xs m e ten why = refl

not-eligible : (pool threshold : ℕ) (m next : Machine) (e : Refusal) → (number_of e == 10) ≡ true → Asks 0 (query.Eligible pool threshold) m next (Err e) → has_pool pool (database m) ≡ false
not-eligible pool threshold m next e ten (inl (inl why, stays)) = (let v : Inv = database m in eligible-not v (has_pool pool v) (eligible_in pool threshold v.stores) m e ten why)
not-eligible pool threshold m next e ten (inl (inr memory, stays)) = absurd (let odd : (number_of refused.Memory == 10) ≡ true = subst (λ (x : Refusal). (number_of x == 10) ≡ true) memory ten in cc)
not-eligible pool threshold m next e ten (inr h) = absurd h.1

-- ---- on its way

module _ (trusted : Type 0) (places : Places) (nobody : NobodyHolds places) (lawful : RefusesElsewhere places) (events : List Event) (e : Refusal) (old new : Machine) (mild : halt_by e ≡ None) (rest : IsAtRest old.core)
    (tries : AreTrying true events) (f : Alone trusted places 0 events old new) where
  cut : (Is : Deed → Type 0) → MetBy Is events → CutAt places Is events old
  cut Is met = cut-of trusted places nobody true events old new rest tries f Is met

  comes : (Did : List Event → Type 0) → Did events → (Is : Deed → Type 0) → (c : CutAt places Is events old) → ComesBy places Did c.at old c.m
  comes Did did Is c = record { start = old; first = c.first; later = c.later; did = subst Did c.cut did; core = refl; onward = onward-none old; made = c.made }

  by-stop : (Did : List Event → Type 0) → Did events → IsUnheld events e → (e ≡ refused.InventoryFull) ⊎ ((h : Holder) × (e ≡ refused.Busy h)) → Met e events → IsStuck places Did old e
  by-stop Did did unheld (inl full) met =
      (let c = cut (Refuses e) met in (full, (c.at, c.m, comes Did did (Refuses e) c, full-at-step trusted places nobody true events old new rest tries f e full c)))
  by-stop Did did unheld (inr busy) met = absurd (never-held trusted places nobody true events old new rest tries f e unheld met busy.0 busy.1)

  -- what stopped it is a bound
  pub stuck-by : (Did : List Event → Type 0) → Did events → IsUnheld events e → IsStopped events e → IsStuck places Did old e
  stuck-by Did did unheld (inl memory) = absurd (ends-halt e (subst Ends (sym memory) refl) mild)
  stuck-by Did did unheld (inr (stops, met)) = by-stop Did did unheld (stopping-mild e stops mild) met

  -- ---- MOVE DATA

  pub volume-not : (file : ℕ) → (number_of e == 10) ≡ true → MetBy (λ d. d ≡ Ask (query.OnVolume file) (Err e)) events → AreAsking events → has_volume file (database old) ≡ false
  volume-not file ten met asks =
      let Is : Deed → Type 0 = (λ d. d ≡ Ask (query.OnVolume file) (Err e)) in
      let c = cut Is met in
      sym (ap (has_volume file) (at-start places Is events old asks c)) ∙ volume-missing file c.m c.next e ten (subst (λ (d : Deed). Case places 0 d c.m c.next) c.is c.step)

  goes-not : (file to : ℕ) → TellsSo file to events (Err e) → goes_in file to (database old) ≡ Err e
  goes-not file to (asks, volumes, pools, so, one, two) =
      let V : Deed → Type 0 = (λ d. (answer : Answer) × (d ≡ Ask (query.Volumes None None) (Ok answer)) × (answer.rows ≡ rows.Volumes volumes)) in
      let P : Deed → Type 0 = (λ d. (answer : Answer) × (d ≡ Ask (query.Pools None) (Ok answer)) × (answer.rows ≡ rows.Pools pools)) in
      let c = cut V one in
      let d = cut P two in
      let asked : Asks 0 (query.Volumes None None) c.m c.next (Ok c.is.0) = subst (λ (x : Deed). Case places 0 x c.m c.next) c.is.1 c.step in
      let vs : volumes ≡ volume_lines None None (database old).stores =
      told-volumes c.m.core.log_length (database c.m) c.is.0 volumes asked.1.0 c.is.2 ∙ ap (λ (v : Inv). volume_lines None None v.stores) (at-start places V events old asks c) in
      let ps : pools ≡ pool_lines None (database old).stores =
      told-pools d.m d.next d.is.0 pools d.is.2 (subst (λ (x : Deed). Case places 0 x d.m d.next) d.is.1 d.step) ∙ ap (λ (v : Inv). pool_lines None v.stores) (at-start places P events old asks d) in
      sym (ap₂ (λ (x : List VolumeLine) (y : List PoolLine). goes file to x y) vs ps) ∙ so

  barred : is_valid (database old) ≡ true → (file to : ℕ) → DataMove file to events (Err e) → IsBarred file to events e → IsUnmoved places file to old e
  barred valid file to did (inl (ten, met, asks)) = inl (ten-is e ten, volume-not file ten met asks)
  barred valid file to did (inr (inl (named, history, told))) = inr (inl (named, goes-not file to told))
  barred valid file to did (inr (inr (ten, (object, from, placed, none)))) = at_pool (has_pool to (database old)) refl where
    never : ((to == 0) ≡ false → has_pool to (database old) ≡ true) → ⊥
    never named =
        let t = no-target trusted places lawful events e old new rest tries f ten object from placed (into to from) false file valid none in
        never-there to from (database old) t.0 t.1 named

    missing : (own : Bool) → (to == 0) ≡ own → has_pool to (database old) ≡ false → IsUnmoved places file to old e
    missing true own gone = absurd (never (λ other. absurd (true≢false (sym own ∙ other))))
    missing false other gone = inr (inl (other, subst (λ (x : Refusal). goes_in file to (database old) ≡ Err x) (sym (ten-is e ten)) (goes-missing file to (database old) gone)))

    at_pool : (there : Bool) → has_pool to (database old) ≡ there → IsUnmoved places file to old e
    at_pool true there = absurd (never (λ other. there))
    at_pool false gone = missing (to == 0) refl gone

  pub move-reason : is_valid (database old) ≡ true → (file to : ℕ) → DataMove file to events (Err e) → IsUnmoved places file to old e
  move-reason valid file to did = elim did.came.cause as (λ _. IsUnmoved places file to old e) [
    | inl stopped ↦ inr (inr (stuck-by (IsDataMove file to) (Err e, did) did.came.unheld stopped))
    | inr h ↦ barred valid file to did h
  ]

  -- ---- RECLAIM STGPOOL

  pool-not : (pool threshold : ℕ) → (number_of e == 10) ≡ true → MetBy (λ d. d ≡ Ask (query.Eligible pool threshold) (Err e)) events → AreAsking events → is_sequential_there pool (database old) ≡ false
  pool-not pool threshold ten met asks =
      let Is : Deed → Type 0 = (λ d. d ≡ Ask (query.Eligible pool threshold) (Err e)) in
      let c = cut Is met in
      no-pool pool (database old) (sym (ap (has_pool pool) (at-start places Is events old asks c)) ∙ not-eligible pool threshold c.m c.next e ten (subst (λ (d : Deed). Case places 0 d c.m c.next) c.is c.step))

  sequential-not : (pool : ℕ) → TellsOtherwise pool events → is_sequential_there pool (database old) ≡ false
  sequential-not pool (asks, met) =
      let P : Deed → Type 0 = (λ d. (answer : Answer) × (lines : List PoolLine) × (d ≡ Ask (query.Pools None) (Ok answer)) × (answer.rows ≡ rows.Pools lines) × (is_sequential_in pool lines ≡ false)) in
      let c = cut P met in
      let w = c.is in
      let ps : w.1 ≡ pool_lines None (database old).stores =
      told-pools c.m c.next w.0 w.1 w.3 (subst (λ (x : Deed). Case places 0 x c.m c.next) w.2 c.step) ∙ ap (λ (v : Inv). pool_lines None v.stores) (at-start places P events old asks c) in
      sym (ap (is_sequential_in pool) ps) ∙ w.4

  unopened : is_valid (database old) ≡ true → (pool threshold : ℕ) → Reclamation pool threshold events (Err e) → IsNotThere pool threshold events e → IsUnreclaimed places pool threshold old e
  unopened valid pool threshold did (inl (ten, met, asks)) = inl (ten-is e ten, pool-not pool threshold ten met asks)
  unopened valid pool threshold did (inr (inl (is, history, told))) = inl (is, sequential-not pool told)
  unopened valid pool threshold did (inr (inr (ten, (file, object, from, placed, none)))) =
      at_pool (has_pool pool (database old)) refl
    where
      at_pool : (there : Bool) → has_pool pool (database old) ≡ there → IsUnreclaimed places pool threshold old e
      at_pool true there = absurd (
          let t = no-target trusted places lawful events e old new rest tries f ten object from placed (into pool from) false file valid none in
          never-there pool from (database old) t.0 t.1 (λ other. there))
      at_pool false gone = inl (ten-is e ten, no-pool pool (database old) gone)

  pub reclaim-reason : is_valid (database old) ≡ true → (pool threshold : ℕ) → Reclamation pool threshold events (Err e) → IsUnreclaimed places pool threshold old e
  reclaim-reason valid pool threshold did = elim did.came.cause as (λ _. IsUnreclaimed places pool threshold old e) [
    | inl stopped ↦ inr (stuck-by (IsReclamation pool threshold) (Err e, did) did.came.unheld stopped)
    | inr h ↦ unopened valid pool threshold did h
  ]

-- ---- the steps

move-tries : (file to : ℕ) (d : Deed) → IsMoving file to d → IsTrying true d
move-tries file to d (inl h) = inl h
move-tries file to d (inr (object, from, placed, h)) = inr (object, aim.Move from placed (into to from) false, file, refl, h)

pub moves-try : (file to : ℕ) (events : List Event) → AllByRecursion (λ e. IsMoving file to e.deed) events → AreTrying true events
moves-try file to [] h = tt
moves-try file to (e ∷ events) h = (move-tries file to e.deed h.0, moves-try file to events h.1)

reclaim-tries : (files : List ℕ) (pool : ℕ) (d : Deed) → IsReclaiming files pool d → IsTrying true d
reclaim-tries files pool d (inl h) = inl h
reclaim-tries files pool d (inr (file, among, h)) = move-tries file pool d h

pub reclaims-try : (files : List ℕ) (pool : ℕ) (events : List Event) → AllByRecursion (λ e. IsReclaiming files pool e.deed) events → AreTrying true events
reclaims-try files pool [] h = tt
reclaims-try files pool (e ∷ events) h = (reclaim-tries files pool e.deed h.0, reclaims-try files pool events h.1)
