-- Why BACKUP STGPOOL is refused where one actor has the machine alone, if no run ends.
use Rattle.std.proofs.Common.{◌≡◌, ◌⊎◌, inl, inr, ℕ, ◌==◌, ◌&&◌, not, is_some, Bool, true, false, if◌then◌else◌, List, [], ◌∷◌, ◌++◌, Option, None, Some, Result, Ok, Err, refl, sym, ap, ap₂, subst, ◌∙◌}
use Rattle.std.specs.List.{AllByRecursion}
use Rattle.std.specs.Option.{option_map, option_map_or}
use Rattle.kinds.specs.Refusals.{foremost, number_of, refusal_of, unless}
use Rattle.kinds.specs.declared.pool.PoolKind.{PoolKind}
use Rattle.kinds.specs.declared.pool.PoolKind.TheVariants as kind
use Rattle.kinds.specs.declared.refusal.Holder.{Holder}
use Rattle.kinds.specs.declared.refusal.Refusal.{Refusal}
use Rattle.kinds.specs.declared.refusal.Refusal.TheVariants as refused
use Rattle.inventory_answers.specs.Answered.{answered}
use Rattle.inventory_answers.specs.Stores.{pool_lines}
use Rattle.inventory_answers.specs.declared.lines.PoolLine.{PoolLine}
use Rattle.inventory_answers.specs.declared.query.Query.TheVariants as query
use Rattle.inventory_answers.specs.declared.reply.Answer.{Answer}
use Rattle.inventory_answers.specs.declared.reply.Rows.{Rows}
use Rattle.inventory_answers.specs.declared.reply.Rows.TheVariants as rows
use Rattle.inventory_rows.specs.pool_tables.Rows.{row_at}
use Rattle.inventory_rows.specs.pool_tables.declared.pool.Pool.{Pool}
use Rattle.inventory_rows.specs.Search.{copy_in, is_primary_kind, pool, version}
use Rattle.inventory_rows.specs.State.{Inv}
use Rattle.inventory_rows.specs.version_groups.Entries.{on_ok}
use Rattle.inventory_rows.specs.version_groups.declared.copies.CopyRow.{CopyRow}
use Rattle.inventory_rows.specs.version_groups.declared.versions.Version.{Version}
use Rattle.inventory_rules.specs.Journal.{Journal}
use Rattle.inventory_rules.specs.Versions.{of_version}
use Rattle.inventory_work.specs.Copies.{has_pool, missing_in}
use Rattle.inventory_work.specs.declared.lines.MissingLine.{MissingLine}
use Rattle.command_steps.specs.copy_attempts.Outcomes.{Met, MetBy}
use Rattle.command_steps.specs.copy_pools.Backups.{Backup, IsForListed, Lacks, TellsOtherwise, are_kinds, pool_kind}
use Rattle.command_steps.specs.copy_pools.Backups as pools
use Rattle.command_steps.proofs.of_copy_pools.Missing.{kind-is, listed-kept, told-missing}
use Rattle.command_steps.specs.copy_runs.Wanting.{IsIn}
use Rattle.space.specs.declared.aim.Aim.TheVariants as aim
use Rattle.steps.specs.Events.{Deed, Event}
use Rattle.steps.specs.Events.Deed.{Ask, OpenCopy}
use Rattle.machine.specs.Alone.{Alone}
use Rattle.machine.specs.Causes.{copied_already, copy_refused_by, is_copy_pool}
use Rattle.machine.specs.Laws.{RefusesElsewhere}
use Rattle.machine.specs.Machine.{Asks, Case, IsPlaced, OpensCopy, Places, can_place_copy, ended, placing_refused, size_of, space}
use Rattle.machine.specs.Says.{is_elsewhere}
use Rattle.machine.specs.State.{Machine, Place, inventory, sight}
use Rattle.machine.proofs.Elsewhere.{append-all, ended-all, foremost-all, unless-all}
use Rattle.command_steps.specs.Answers.{halt_by}
use Rattle.line_results.specs.Moving.{IsUncopied}
use Rattle.line_results.specs.Resting.{IsAtRest, NobodyHolds, database}
use Rattle.line_results.proofs.CopiesStay.{grew-pools, grew-there}
use Rattle.line_results.proofs.Cutting.{CutAt, at-one}
use Rattle.line_results.proofs.Emptying.{ten-is}
use Rattle.line_results.proofs.Reasons.{stopping-mild}
use Rattle.line_results.proofs.Runs.{onward-none}
use Rattle.line_results.proofs.Stopping.{Ends, ends-halt}
use Rattle.line_results.proofs.Trying.{AreTrying, IsTrying, Refuses, cut-of, full-at-step, grew-at, never-held}

-- ---- refusals

abbrev pub NotTen : Refusal → Type 0
NotTen e = (number_of e == 10) ≡ true → ⊥

pub ended-not : (m : Machine) → AllByRecursion NotTen (ended m)
ended-not m = ended-all NotTen (λ is. absurd cc) (λ file count is. absurd cc) m

-- ---- kinds

pub no-kinds : (a b : Option Pool) → (is_some a && is_some b) ≡ false → are_kinds (option_map (λ p. p.kind) a) (option_map (λ p. p.kind) b) ≡ false
no-kinds None b h = refl
no-kinds (Some x) None h = elim x.kind as (λ k. are_kinds (Some k) None ≡ false) [ kind.Primary ↦ refl | kind.Copy ↦ refl ]
no-kinds (Some x) (Some y) h = absurd (let odd : true ≡ false = h in cc)

pub no-copy-kind : (first : Option PoolKind) (found : Option Pool) → option_map_or (λ p. not (is_primary_kind p.kind)) found false ≡ false → are_kinds first (option_map (λ p. p.kind) found) ≡ false
no-copy-kind first None h = none first where
  none : (first : Option PoolKind) → are_kinds first None ≡ false
  none None = refl
  none (Some kind.Primary) = refl
  none (Some kind.Copy) = refl
no-copy-kind first (Some p) h = by_kind first p.kind h where
  by_kind : (first : Option PoolKind) (k : PoolKind) → not (is_primary_kind k) ≡ false → are_kinds first (Some k) ≡ false
  by_kind None k h = refl
  by_kind (Some kind.Copy) k h = refl
  by_kind (Some kind.Primary) kind.Primary h = refl
  by_kind (Some kind.Primary) kind.Copy h = absurd (let odd : true ≡ false = h in cc)

-- ---- what questions were answered

abbrev rows_told : Result Answer Refusal → Rows
rows_told (Ok a) = a.rows
rows_told (Err e) = rows.Today

abbrev pub answer_in : Inv → Rows → Answer
answer_in v r = record { n = v.number; today = v.today; rows = r }

missing-not : (v : Inv) (b : Bool) (xs : List MissingLine) (m : Machine) (e : Refusal) → (number_of e == 10) ≡ true
    → foremost (ended m ++ refusal_of {S = Answer} (on_ok (answer_in v) (on_ok rows.Missing (if b then Ok xs else Err refused.NotFound)))) ≡ Some e → b ≡ false
missing-not v true xs m e ten why = absurd (foremost-all NotTen (ended m ++ []) (append-all NotTen (ended m) [] (ended-not m) tt) e why ten)
missing-not v false xs m e ten why = refl

not-missing : (primary copy : ℕ) (m next : Machine) (e : Refusal) → (number_of e == 10) ≡ true → Asks 0 (query.Missing primary copy) m next (Err e)
    → are_kinds (pool_kind primary (database m)) (pool_kind copy (database m)) ≡ false
not-missing primary copy m next e ten (inl (inl why, stays)) =
    let v : Inv = database m in
    no-kinds (pool primary v) (pool copy v) (missing-not v (has_pool primary v && has_pool copy v) (missing_in primary copy v) m e ten why)
not-missing primary copy m next e ten (inl (inr memory, stays)) = absurd (let odd : (number_of refused.Memory == 10) ≡ true = subst (λ (x : Refusal). (number_of x == 10) ≡ true) memory ten in cc)
not-missing primary copy m next e ten (inr h) = absurd h.1

told-lines : (primary copy : ℕ) (m next : Machine) (answer : Answer) (lines : List MissingLine) → answer.rows ≡ rows.Missing lines → Asks 0 (query.Missing primary copy) m next (Ok answer) → lines ≡ missing_in primary copy (database m)
told-lines primary copy m next answer lines is h =
    let v : Inv = database m in
    let a = h.1.0 in
    let told : a.0.rows ≡ rows.Missing (missing_in primary copy v) = told-missing v (has_pool primary v && has_pool copy v) (missing_in primary copy v) a.0 a.1 in
    let both : rows.Missing lines ≡ rows.Missing (missing_in primary copy v) = sym is ∙ ap (λ (x : Answer). x.rows) a.2 ∙ told in
    cc

pub told-pools : (m next : Machine) (answer : Answer) (lines : List PoolLine) → answer.rows ≡ rows.Pools lines → Asks 0 (query.Pools None) m next (Ok answer) → lines ≡ pool_lines None (database m).stores
told-pools m next answer lines is h =
    let a = h.1.0 in
    let told : rows.Pools (pool_lines None (database m).stores) ≡ a.0.rows = ap rows_told a.1 in
    let both : rows.Pools lines ≡ rows.Pools (pool_lines None (database m).stores) = sym is ∙ ap (λ (x : Answer). x.rows) a.2 ∙ sym told in
    cc

-- ---- a ticket that isn't given

version-not : (j : Journal) (object : ℕ) (rule : Version → List Refusal) → ((w : Version) → AllByRecursion NotTen (rule w)) → (found : Option Version) → is_some found ≡ true → AllByRecursion NotTen (of_version j object rule found)
version-not j object rule h None there = absurd (let odd : false ≡ true = there in cc)
version-not j object rule h (Some w) there = h w

pub elsewhere-not : (e : Refusal) → is_elsewhere e ≡ true → NotTen e
elsewhere-not e h ten = absurd (let odd : is_elsewhere refused.NotFound ≡ true = subst (λ (x : Refusal). is_elsewhere x ≡ true) (ten-is e ten) h in let is : is_elsewhere refused.NotFound ≡ false = refl in cc)

pub placed-not : (can : Bool) (Is : Result Place Refusal → Type 0) (placed : Result Place Refusal) → IsPlaced can Is placed → ((x : Refusal) → Is (Err x) → NotTen x) → AllByRecursion NotTen (placing_refused can placed)
placed-not true Is (Ok place) at so = tt
placed-not true Is (Err x) at so = (so x at, tt)
placed-not false Is placed at so = tt

module _ (places : Places) (lawful : RefusesElsewhere places) where
  -- of an object that is kept a ticket is refused so only where the pool is no copy pool
  open-not : (object copy : ℕ) (m next : Machine) (e : Refusal) → (number_of e == 10) ≡ true → is_some (version object (database m)) ≡ true → OpensCopy places 0 object (aim.Copy copy) 0 m next (Err e)
      → is_copy_pool copy (sight 0 m.core) ≡ false
  open-not object copy m next e ten there (placed, at, inl (inl why, stays)) = elim (is_copy_pool copy (sight 0 m.core)) as (λ b. is_copy_pool copy (sight 0 m.core) ≡ b → b ≡ false) [
    | true ↦ λ is. absurd (foremost-all NotTen _
        (append-all NotTen (ended m) _ (ended-not m)
        (append-all NotTen (copy_refused_by object (aim.Copy copy) (sight 0 m.core)) _
        (append-all NotTen (unless (is_copy_pool copy (sight 0 m.core)) refused.NotFound) _ (subst (λ (b : Bool). AllByRecursion NotTen (unless b refused.NotFound)) (sym is) tt)
        (version-not (sight 0 m.core).journal object (λ w. copied_already (copy_in copy w)) (λ w. already (copy_in copy w)) (version object (database m)) there))
        (append-all NotTen (placing_refused (can_place_copy object (aim.Copy copy) (inventory m.core)) placed) _
        (placed-not (can_place_copy object (aim.Copy copy) (inventory m.core)) (places (inventory m.core) (space m.core) 0 (size_of object (inventory m.core)) (aim.Copy copy) 0 0) placed at
        (λ x is. elsewhere-not x (lawful (inventory m.core) (space m.core) 0 (size_of object (inventory m.core)) (aim.Copy copy) 0 0 x is)))
        (unless-all NotTen _ refused.InventoryFull (λ is. absurd cc))))) e why ten)
    | false ↦ λ is. refl
  ] refl
    where
      already : (found : Option CopyRow) → AllByRecursion NotTen (copied_already found)
      already None = tt
      already (Some c) = ((λ is. absurd cc), tt)
  open-not object copy m next e ten there (placed, at, inl (inr memory, stays)) = absurd (let odd : (number_of refused.Memory == 10) ≡ true = subst (λ (x : Refusal). (number_of x == 10) ≡ true) memory ten in cc)
  open-not object copy m next e ten there (placed, at, inr h) = absurd h.1

-- ---- the steps

backup-tries : (copy : ℕ) (d : Deed) → pools.IsBackup copy d → IsTrying false d
backup-tries copy d (inl h) = inl h
backup-tries copy d (inr (object, h)) = inr (object, aim.Copy copy, 0, refl, h)

backups-try : (copy : ℕ) (events : List Event) → AllByRecursion (λ e. pools.IsBackup copy e.deed) events → AreTrying false events
backups-try copy [] h = tt
backups-try copy (e ∷ events) h = (backup-tries copy e.deed h.0, backups-try copy events h.1)

-- ---- the reason

module _ (trusted : Type 0) (places : Places) (nobody : NobodyHolds places) (lawful : RefusesElsewhere places) (primary copy : ℕ) (events : List Event) (e : Refusal) (old new : Machine) (mild : halt_by e ≡ None) (rest : IsAtRest old.core)
    (did : Backup primary copy events (Err e)) (f : Alone trusted places 0 events old new) where
  tries : AreTrying false events
  tries = backups-try copy events did.only

  -- kinds are what they were
  kind-stays : (number : ℕ) (Is : Deed → Type 0) (c : CutAt places Is events old) → pool_kind number (database c.m) ≡ pool_kind number (database old)
  kind-stays number Is c =
      let g = grew-at trusted places nobody false events old new rest tries f Is c in
      ap (λ (ps : List (ℕ × Pool)). option_map (λ (p : Pool). p.kind) (row_at number ps)) (grew-pools false g.0 old c.m g.1)

  kinds-stay : (Is : Deed → Type 0) (c : CutAt places Is events old) → are_kinds (pool_kind primary (database c.m)) (pool_kind copy (database c.m)) ≡ false
      → are_kinds (pool_kind primary (database old)) (pool_kind copy (database old)) ≡ false
  kinds-stay Is c h = sym (ap₂ are_kinds (kind-stays primary Is c) (kind-stays copy Is c)) ∙ h

  -- the objects of the list are kept
  there-in : (object : ℕ) (Is : Deed → Type 0) (c : CutAt places Is events old) → MetBy (Lacks primary copy object) events → is_some (version object (database c.m)) ≡ true
  there-in object Is c met =
      let l = cut-of trusted places nobody false events old new rest tries f (Lacks primary copy object) met in
      let g = grew-at trusted places nobody false events old new rest tries f Is c in
      let k = grew-at trusted places nobody false events old new rest tries f (Lacks primary copy object) l in
      let w = l.is in
      let asks : Asks 0 (query.Missing primary copy) l.m l.next (Ok w.0) = subst (λ (d : Deed). Case places 0 d l.m l.next) w.2 l.step in
      let lines : w.1 ≡ missing_in primary copy (database l.m) = told-lines primary copy l.m l.next w.0 w.1 w.3 asks in
      let there : is_some (version w.4.object (database l.m)) ≡ true = listed-kept primary copy (database l.m) w.4 (subst (λ (ls : List MissingLine). IsIn w.4 ls) lines w.5) in
      grew-there false object g.0 old c.m g.1 ∙ sym (grew-there false object k.0 old l.m k.1) ∙ subst (λ (n : ℕ). is_some (version n (database l.m)) ≡ true) w.6 there

  by-missing : (number_of e == 10) ≡ true → MetBy (λ d. d ≡ Ask (query.Missing primary copy) (Err e)) events → are_kinds (pool_kind primary (database old)) (pool_kind copy (database old)) ≡ false
  by-missing ten met =
      let Is : Deed → Type 0 = (λ d. d ≡ Ask (query.Missing primary copy) (Err e)) in
      let c = cut-of trusted places nobody false events old new rest tries f Is met in
      kinds-stay Is c (not-missing primary copy c.m c.next e ten (subst (λ (d : Deed). Case places 0 d c.m c.next) c.is c.step))

  by-kinds : MetBy (TellsOtherwise primary copy) events → are_kinds (pool_kind primary (database old)) (pool_kind copy (database old)) ≡ false
  by-kinds met =
      let c = cut-of trusted places nobody false events old new rest tries f (TellsOtherwise primary copy) met in
      let w = c.is in
      let lines : w.1 ≡ pool_lines None (database c.m).stores = told-pools c.m c.next w.0 w.1 w.3 (subst (λ (d : Deed). Case places 0 d c.m c.next) w.2 c.step) in
      kinds-stay (TellsOtherwise primary copy) c (sym (ap₂ are_kinds (kind-is primary (database c.m) w.1 lines) (kind-is copy (database c.m) w.1 lines)) ∙ w.4)

  by-ticket : (number_of e == 10) ≡ true → (object : ℕ) → MetBy (λ d. d ≡ OpenCopy object (aim.Copy copy) 0 (Err e)) events → are_kinds (pool_kind primary (database old)) (pool_kind copy (database old)) ≡ false
  by-ticket ten object met =
      let Is : Deed → Type 0 = (λ d. d ≡ OpenCopy object (aim.Copy copy) 0 (Err e)) in
      let c = cut-of trusted places nobody false events old new rest tries f Is met in
      let listed : MetBy (Lacks primary copy object) events = subst (λ (d : Deed). IsForListed primary copy events d) c.is
      (at-one (λ (x : Event). IsForListed primary copy events x.deed) c.first c.at c.later (subst (λ (es : List Event). AllByRecursion (λ x. IsForListed primary copy events x.deed) es) c.cut did.listed)) in
      kinds-stay Is c (no-copy-kind (pool_kind primary (database c.m)) (pool copy (database c.m))
      (open-not places lawful object copy c.m c.next e ten (there-in object Is c listed) (subst (λ (d : Deed). Case places 0 d c.m c.next) c.is c.step)))

  by-bound : e ≡ refused.InventoryFull → Met e events → IsUncopied places primary copy old e
  by-bound full met =
      let c = cut-of trusted places nobody false events old new rest tries f (Refuses e) met in
      inr (
        full,
        (
          c.at,
          c.m,
          record {
            start = old;
            first = c.first;
            later = c.later;
            did = (Err e, subst (λ (es : List Event). Backup primary copy es (Err e)) c.cut did);
            core = refl;
            onward = onward-none old;
            made = c.made;
          },
          full-at-step trusted places nobody false events old new rest tries f e full c,
        ),
      )

  by-stop : (e ≡ refused.InventoryFull) ⊎ ((h : Holder) × (e ≡ refused.Busy h)) → Met e events → IsUncopied places primary copy old e
  by-stop (inl full) met = by-bound full met
  by-stop (inr busy) met = absurd (never-held trusted places nobody false events old new rest tries f e did.came.unheld met busy.0 busy.1)

  pub copy-reason : IsUncopied places primary copy old e
  copy-reason = elim did.came.cause as (λ _. IsUncopied places primary copy old e) [
    | inl stopped ↦ elim stopped as (λ _. IsUncopied places primary copy old e) [
      | inl memory ↦ absurd (ends-halt e (subst Ends (sym memory) refl) mild)
      | inr met ↦ by-stop (stopping-mild e met.0 mild) met.1
    ]
    | inr missing ↦ inl (
      ten-is e missing.0,
      elim missing.1 as (λ _. are_kinds (pool_kind primary (database old)) (pool_kind copy (database old)) ≡ false) [
        | inl unlisted ↦ by-missing missing.0 unlisted
        | inr more ↦ elim more as (λ _. are_kinds (pool_kind primary (database old)) (pool_kind copy (database old)) ≡ false) [
          | inl otherwise ↦ by-kinds otherwise.1
          | inr unopened ↦ by-ticket missing.0 unopened.0 unopened.1
        ]
      ],
    )
  ]
