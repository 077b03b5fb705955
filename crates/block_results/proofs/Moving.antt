-- What moves copies isn't refused in a block, but where a wait for room is, or a ticket for a copy, as something isn't there.
use Rattle.std.proofs.Common.{◌≡◌, ◌⊎◌, inl, inr, ℕ, min, true, false, List, [], ◌∷◌, ◌++◌, Bool, Option, None, Some, Result, Ok, Err, refl, sym, ap, subst, ◌∙◌, append_assoc, true≢false}
use Rattle.std.proofs.lemmas.Option.{same_Some}
use Rattle.std.specs.List.{AllByRecursion, find}
use Rattle.std.specs.Option.{option_map}
use Rattle.kinds.specs.Refusals.{foremost, refusal_of}
use Rattle.kinds.specs.declared.refusal.Refusal.{Refusal}
use Rattle.kinds.specs.declared.refusal.Refusal.TheVariants as refused
use Rattle.entries.specs.declared.change.Change.{Change}
use Rattle.inventory_rows.specs.State.{Inv}
use Rattle.inventory_rows.specs.version_groups.Entries.{on_ok}
use Rattle.inventory_work.specs.Copies.{has_pool, has_volume}
use Rattle.inventory_answers.specs.Answered.{answered}
use Rattle.inventory_answers.specs.Stores.{pool_lines, volume_lines}
use Rattle.inventory_answers.specs.declared.lines.PoolLine.{PoolLine}
use Rattle.inventory_answers.specs.declared.lines.VolumeLine.{VolumeLine}
use Rattle.inventory_answers.specs.declared.query.Query.{Query}
use Rattle.inventory_answers.specs.declared.query.Query.TheVariants as query
use Rattle.inventory_answers.specs.declared.reply.Answer.{Answer}
use Rattle.inventory_answers.specs.declared.reply.Rows.{Rows}
use Rattle.inventory_answers.specs.declared.reply.Rows.TheVariants as rows
use Rattle.space.specs.declared.aim.Aim.{Aim}
use Rattle.space.specs.declared.aim.Aim.TheVariants as aim
use Rattle.steps.specs.Events.{Deed, Event, refusal}
use Rattle.steps.specs.Events.Deed.{Ask, OpenCopy}
use Rattle.machine.specs.Causes.{is_plain}
use Rattle.machine.specs.Machine.{Places}
use Rattle.machine.specs.Pieces.{RoseAt}
use Rattle.machine.specs.State.{Machine, inventory}
use Rattle.line_results.specs.command_steps.Answers.{halt_by}
use Rattle.line_results.specs.command_steps.Doing.{MovesSo, the_number, the_second}
use Rattle.line_results.specs.command_steps.Owns.{Mover, all_migrator, data_mover, migrator, pool_restorer, reclaimer}
use Rattle.line_results.specs.copy_attempts.Outcomes.{IsOf, MetBy}
use Rattle.line_results.specs.copy_runs.Ends.{AreAsking, IsAsking, IsEnding, IsStopped}
use Rattle.line_results.specs.copy_runs.Tickets.{GotNoTicket, ListsCopy}
use Rattle.line_results.specs.copy_runs.Wanting.{IsIn}
use Rattle.line_results.specs.migration.Marks.{target}
use Rattle.line_results.specs.migration.Migrating as migrating
use Rattle.line_results.specs.migration.Sweeping as sweeping
use Rattle.line_results.specs.migration.Sweeping.{due_at, is_due}
use Rattle.line_results.specs.pool_restores.Listing.{IsUncollected, aim_of, destroyed_of, destroying, destroying_found, destroying_of, is_there, volume_with}
use Rattle.line_results.specs.pool_restores.Restoring as restoring
use Rattle.line_results.specs.pool_restores.Volumes as volume
use Rattle.line_results.specs.pool_restores.Volumes.{VolumeRestore}
use Rattle.line_results.specs.sessions.Changing.{Changing}
use Rattle.line_results.specs.reclamation.Moving as moving
use Rattle.line_results.specs.reclamation.Moving.{goes, into}
use Rattle.line_results.specs.reclamation.Reclaiming as reclaiming
use Rattle.line_results.specs.reclamation.Reclaiming.{is_sequential_in}
use Rattle.line_results.specs.Resting.{database}
use Rattle.line_results.proofs.Reasons.{stopping-mild}
use Rattle.line_results.proofs.ReturnReason.{no-row}
use Rattle.block_results.specs.Processes.{HaveNumbers, MayMigrate, MayMove, MayMoveData, MayReclaim, MayRestore, MaySweep}
use Rattle.block_results.specs.Refusing.{IsRefusedFor}
use Rattle.block_results.proofs.Attempting.{attempt-full}
use Rattle.block_results.proofs.Fitting.{met-next}
use Rattle.block_results.proofs.Mild.{not-memory}
use Rattle.block_results.proofs.Rows.{limited-same}
use Rattle.block_results.proofs.Processes.{AllStood, IsBusy, ending-never, missing-is, missing-never, stopping-stops, told-there}

-- it asks or forces, or makes an attempt for a copy
abbrev IsTry : Deed → Type 0
IsTry d = IsEnding d ⊎ ((object : ℕ) × (a : Aim) × (avoid : ℕ) × IsOf object a avoid d)

all-so : (K : Deed → Type 0) → ((d : Deed) → K d → IsTry d) → (events : List Event) → AllByRecursion (λ x. K x.deed) events → AllByRecursion (λ x. IsTry x.deed) events
all-so K so [] h = tt
all-so K so (x ∷ events) h = (so x.deed h.0, all-so K so events h.1)

moving-tries : (file to : ℕ) (d : Deed) → moving.IsMoving file to d → IsTry d
moving-tries file to d (inl h) = inl h
moving-tries file to d (inr (object, from, placed, h)) = inr (object, aim.Move from placed (into to from) false, file, h)

reclaiming-tries : (files : List ℕ) (pool : ℕ) (d : Deed) → reclaiming.IsReclaiming files pool d → IsTry d
reclaiming-tries files pool d (inl h) = inl h
reclaiming-tries files pool d (inr (file, among, h)) = moving-tries file pool d h

migrating-tries : (pool : ℕ) (d : Deed) → migrating.IsMigration pool d → IsTry d
migrating-tries pool d (inl h) = inl h
migrating-tries pool d (inr (object, placed, to, h)) = inr (object, aim.Move pool placed to true, 0, h)

sweeping-tries : (d : Deed) → sweeping.IsSweep d → IsTry d
sweeping-tries d (inl h) = inl h
sweeping-tries d (inr (object, pool, placed, to, h)) = inr (object, aim.Move pool placed to true, 0, h)

restoring-tries : (d : Deed) → restoring.IsRestore d → IsTry d
restoring-tries d (inl h) = inl h
restoring-tries d (inr (object, pool, placed, h)) = inr (object, aim_of pool placed, 0, h)

-- what a list's line was told as
mapped-from : {A B : Type 0} (f : A → B) (y : B) (o : Option A) → option_map f o ≡ Some y → (x : A) × (o ≡ Some x) × (f x ≡ y)
mapped-from f y None h = absurd cc
mapped-from f y (Some x) h = (x, refl, same_Some (f x) y h)

-- a copy that was listed got no ticket
pub no-ticket : (object from placed to avoid : ℕ) (along : Bool) (e : Refusal) (events : List Event) → GotNoTicket object from placed to along avoid events e
    → MetBy (λ d. d ≡ OpenCopy object (aim.Move from placed to along) avoid (Err e)) events
no-ticket object from placed to avoid along e events (xs, ys, cut, listed, met) =
    subst (λ (l : List Event). MetBy (λ d. d ≡ OpenCopy object (aim.Move from placed to along) avoid (Err e)) l) (sym cut) (met-next xs ys (λ d. d ≡ OpenCopy object (aim.Move from placed to along) avoid (Err e)) met)

module _ (places : Places) (actor : ℕ) (Is : Machine → Type 0) (events : List Event) (stood : AllStood places actor Is events) (e : Refusal) (mild : halt_by e ≡ None) where
  abbrev Refuses : Deed → Type 0
  Refuses d = refusal d ≡ Some e

  -- a copy that was listed got no ticket, as something isn't there
  abbrev pub IsTicketless : Type 0
  IsTicketless = (e ≡ refused.NotFound) × (object : ℕ) × (from : ℕ) × (placed : ℕ) × (to : ℕ) × (along : Bool) × (avoid : ℕ) × GotNoTicket object from placed to along avoid events e

  -- what stops it is a wait
  module _ (free : HaveNumbers places Is actor) (all : AllByRecursion (λ x. IsTry x.deed) events) where
    stopped-busy : IsStopped events e → IsBusy e
    stopped-busy (inl memory) = absurd (not-memory e mild memory)
    stopped-busy (inr met) = elim (stopping-mild e met.0 mild) as (λ _. IsBusy e) [
      | inl full ↦ (let s = stood IsTry Refuses all met.1 in
          absurd (by-bound s.deed s.before s.after s.passes s.is.1 s.unrisen (subst (λ (x : Refusal). IsRefusedFor places actor s.deed s.before s.after x) full (s.for e s.is.0))))
      | inr busy ↦ busy
    ] where
      by-bound : (d : Deed) (before after : Machine) → Is before → IsTry d → ((file : ℕ) → RoseAt before.counts after.counts file → ⊥) → IsRefusedFor places actor d before after refused.InventoryFull → ⊥
      by-bound d before after at (inl h) unrisen for = ending-never places actor before after refused.InventoryFull (inl refl) unrisen d h for
      by-bound d before after at (inr (object, a, avoid, h)) unrisen for = attempt-full places actor before after object a avoid d h (free before at a avoid) for

    -- a question that is answered at each state isn't refused as something isn't there
    unasked-there : (q : Query) → ((m : Machine) → Is m → foremost (refusal_of (answered q (inventory m.core))) ≡ Some refused.NotFound → ⊥) → e ≡ refused.NotFound → MetBy (λ d. d ≡ Ask q (Err e)) events → ⊥
    unasked-there q there same met =
        let s = stood IsTry (λ d. d ≡ Ask q (Err e)) all met in
        missing-never places actor s.before s.after (Ask q (Err e)) (there s.before s.passes) (λ h. h) (λ h. cc) refl
        (subst (λ (d : Deed). IsRefusedFor places actor d s.before s.after refused.NotFound) s.is.0 (subst (λ (x : Refusal). IsRefusedFor places actor s.deed s.before s.after x) same (s.for e (ap refusal s.is.0))))

    -- the pools that were told, and the volumes
    pools-told : (lines : List PoolLine) → MetBy (λ d. (answer : Answer) × (d ≡ Ask (query.Pools None) (Ok answer)) × (answer.rows ≡ rows.Pools lines)) events → (m : Machine) × Is m × (lines ≡ pool_lines None (database m).stores)
    pools-told lines met =
        let s = stood IsTry (λ d. (answer : Answer) × (d ≡ Ask (query.Pools None) (Ok answer)) × (answer.rows ≡ rows.Pools lines)) all met in
        let w = s.is.0 in
        let both : ◌≡◌ {A = Result Rows Refusal} (Ok (rows.Pools (pool_lines None (database s.before).stores))) (Ok (rows.Pools lines)) = s.answers (query.Pools None) w.0 refl w.1 ∙ ap (λ (r : Rows). Ok r) w.2 in
        (s.before, s.passes, cc)

    volumes-told : (lines : List VolumeLine) → MetBy (λ d. (answer : Answer) × (d ≡ Ask (query.Volumes None None) (Ok answer)) × (answer.rows ≡ rows.Volumes lines)) events
        → (m : Machine) × Is m × (lines ≡ volume_lines None None (database m).stores)
    volumes-told lines met =
        let s = stood IsTry (λ d. (answer : Answer) × (d ≡ Ask (query.Volumes None None) (Ok answer)) × (answer.rows ≡ rows.Volumes lines)) all met in
        let w = s.is.0 in
        let both : ◌≡◌ {A = Result Rows Refusal} (Ok (rows.Volumes (volume_lines None None (database s.before).stores))) (Ok (rows.Volumes lines)) = s.answers (query.Volumes None None) w.0 refl w.1 ∙ ap (λ (r : Rows). Ok r) w.2 in
        (s.before, s.passes, cc)

    told-so : (P : List PoolLine → Type 0) → MetBy (λ d. (answer : Answer) × (lines : List PoolLine) × (d ≡ Ask (query.Pools None) (Ok answer)) × (answer.rows ≡ rows.Pools lines) × P lines) events
        → (m : Machine) × Is m × P (pool_lines None (database m).stores)
    told-so P met =
        let s = stood IsTry (λ d. (answer : Answer) × (lines : List PoolLine) × (d ≡ Ask (query.Pools None) (Ok answer)) × (answer.rows ≡ rows.Pools lines) × P lines) all met in
        let w = s.is.0 in
        let both : ◌≡◌ {A = Result Rows Refusal} (Ok (rows.Pools (pool_lines None (database s.before).stores))) (Ok (rows.Pools w.1)) = s.answers (query.Pools None) w.0 refl w.2 ∙ ap (λ (r : Rows). Ok r) w.3 in
        let same : w.1 ≡ pool_lines None (database s.before).stores = cc in
        (s.before, s.passes, subst P same w.4)

    abbrev shape : Inv → Rows → Answer
    shape v it = record { n = v.number; today = v.today; rows = it }

    on-volume : (file : ℕ) (m : Machine) → has_volume file (database m) ≡ true → foremost (refusal_of (answered (query.OnVolume file) (inventory m.core))) ≡ Some refused.NotFound → ⊥
    on-volume file m there h = told-there places actor m m (has_volume file (database m)) _ (λ r. refusal_of (on_ok (shape (database m)) (on_ok rows.OnVolume r))) refl there h

    -- ---- MOVE DATA

    data-barred : (file to : ℕ) → MayMoveData Is file to → moving.IsBarred file to events e → IsTicketless
    data-barred file to may (inl (ten, met, asks)) = absurd (unasked-there (query.OnVolume file) (λ m at. on-volume file m (may.0 m at)) (missing-is e ten) met)
    data-barred file to may (inr (inl (named, so, (asks, volumes, pools, odd, first, second)))) =
        let a = volumes-told volumes first in
        let b = pools-told pools second in
        let fine : goes file to volumes pools ≡ Ok tt =
        ap (λ (l : List VolumeLine). goes file to l pools) a.2 ∙ ap (goes file to (volume_lines None None (database a.0).stores)) b.2 ∙ may.1 named a.0 b.0 a.1 b.1 in
        let none : ◌≡◌ {A = Result (Unit {0}) Refusal} (Ok tt) (Err e) = sym fine ∙ odd in
        absurd cc
    data-barred file to may (inr (inr (ten, (object, from, placed, met)))) = (missing-is e ten, object, from, placed, into to from, false, file, met)

    -- ---- RECLAIM STGPOOL

    reclaim-barred : (pool threshold : ℕ) → MayReclaim Is pool → reclaiming.IsNotThere pool threshold events e → IsTicketless
    reclaim-barred pool threshold may (inl (ten, met, asks)) =
        absurd
        (unasked-there (query.Eligible pool threshold) (λ m at h. told-there places actor m m (has_pool pool (database m)) _ (λ r. refusal_of (on_ok (shape (database m)) (on_ok rows.Eligible r))) refl (may m at).0 h) (missing-is e ten) met)
    reclaim-barred pool threshold may (inr (inl (same, so, (asks, met)))) = (let t = told-so (λ lines. is_sequential_in pool lines ≡ false) met in absurd (true≢false (sym (may t.0 t.1).1 ∙ t.2)))
    reclaim-barred pool threshold may (inr (inr (ten, (file, object, from, placed, met)))) = (missing-is e ten, object, from, placed, into pool from, false, file, met)

    -- ---- MIGRATE STGPOOL

    migrate-barred : (pool low : ℕ) → MayMigrate Is pool low → migrating.IsBarred pool low events e → IsTicketless
    migrate-barred pool low may (inl (so, met)) =
        let t = told-so (λ lines. target pool low lines ≡ Err e) met in
        let odd : ◌≡◌ {A = Result (Option ℕ) Refusal} (Ok (may t.0 t.1).1) (Err e) = sym (may t.0 t.1).2 ∙ t.2 in
        absurd cc
    migrate-barred pool low may (inr (inl (ten, met))) =
        absurd (unasked-there (query.OnPool pool) (λ m at h. told-there places actor m m (has_pool pool (database m)) _ (λ r. refusal_of (on_ok (shape (database m)) (on_ok rows.OnPool r))) refl (may m at).0 h) (missing-is e ten) met)
    migrate-barred pool low may (inr (inr (ten, (object, placed, to, next, met)))) = (missing-is e ten, object, pool, placed, to, true, 0, met)

    -- ---- MIGRATE ALL

    sweep-barred : MaySweep Is → sweeping.IsBarredIn events e → IsTicketless
    sweep-barred may (t, met, barred) =
        let s = stood IsTry (sweeping.TellsDue t) all met in
        let w = s.is.0 in
        let both : ◌≡◌ {A = Result Rows Refusal} (Ok (rows.Pools (pool_lines None (database s.before).stores))) (Ok (rows.Pools w.2)) = s.answers (query.Pools None) w.1 refl w.3 ∙ ap (λ (r : Rows). Ok r) w.4 in
        let same : w.2 ≡ pool_lines None (database s.before).stores = cc in
        let found = mapped-from due_at t (find (is_due w.0) w.2) w.5 in
        let there : find (is_due w.0) (pool_lines None (database s.before).stores) ≡ Some found.0 = ap (λ (l : List PoolLine). find (is_due w.0) l) (sym same) ∙ found.1 in
        migrate-barred t.pool t.low (subst (λ d. MayMigrate Is d.pool d.low) found.2 (may s.before s.passes w.0 found.0 there)) barred

    -- ---- RESTORE STGPOOL

    restore-barred : (pool : ℕ) → MayRestore Is pool → restoring.IsPoolBarred pool events e → IsBusy e ⊎ IsTicketless
    restore-barred pool may (inl (same, so, (asks, met))) =
        let t = told-so (λ lines. is_there pool lines ≡ false) met in
        absurd (true≢false (sym (may.0 t.0 t.1) ∙ no-row pool (database t.0).stores (database t.0).stores.pools t.2))
    restore-barred pool may (inr (inl (volumes, (file, among, inl stopped), asks, met))) = inl (stopped-busy stopped)
    restore-barred pool may (inr (inl (volumes, (file, among, inr (ten, unlisted)), asks, met))) =
        let a = volumes-told volumes met in
        absurd
        (unasked-there (query.OnVolume file) (λ m at. on-volume file m (may.1 a.0 m a.1 at file (subst (λ (l : List VolumeLine). IsIn file (destroyed_of l)) a.2 among))) (missing-is e ten) unlisted)
    restore-barred pool may (inr (inr (ten, (object, from, placed, met)))) = inr (missing-is e ten, object, from, placed, from, true, 0, met)

  -- no bound stands in their way
  pub numbers-of : (numbers : List ℕ) (mover : Mover) → MayMove places Is actor numbers mover → HaveNumbers places Is actor
  numbers-of numbers data_mover may = may.0
  numbers-of numbers reclaimer may = may.0
  numbers-of numbers migrator may = may.0
  numbers-of numbers all_migrator may = may.0
  numbers-of numbers pool_restorer may = may.0
  numbers-of numbers mover may = absurd may

  pub unmoved : (numbers : List ℕ) (mover : Mover) → MayMove places Is actor numbers mover → MovesSo mover (the_number numbers) (the_second numbers) events (Err e) → IsBusy e ⊎ IsTicketless
  unmoved numbers data_mover may did =
      let file : ℕ = the_number numbers in
      let to : ℕ = the_second numbers in
      let all = all-so (moving.IsMoving file to) (moving-tries file to) events did.only in
      elim did.came.cause as (λ _. IsBusy e ⊎ IsTicketless) [ inl stopped ↦ inl (stopped-busy may.0 all stopped) | inr barred ↦ inr (data-barred may.0 all file to may.1 barred) ]
  unmoved numbers reclaimer may did =
      let pool : ℕ = the_number numbers in
      let all = all-so (reclaiming.IsReclaiming did.files pool) (reclaiming-tries did.files pool) events did.only in
      elim did.came.cause as (λ _. IsBusy e ⊎ IsTicketless) [ inl stopped ↦ inl (stopped-busy may.0 all stopped) | inr barred ↦ inr (reclaim-barred may.0 all pool (min (the_second numbers) 100) may.1 barred) ]
  unmoved numbers migrator may did =
      let pool : ℕ = the_number numbers in
      let all = all-so (migrating.IsMigration pool) (migrating-tries pool) events did.only in
      elim did.came.cause as (λ _. IsBusy e ⊎ IsTicketless) [ inl stopped ↦ inl (stopped-busy may.0 all stopped) | inr barred ↦ inr (migrate-barred may.0 all pool (min (the_second numbers) 100) may.1 barred) ]
  unmoved numbers all_migrator may did =
      let all = all-so sweeping.IsSweep sweeping-tries events did.only in
      elim did.came.cause as (λ _. IsBusy e ⊎ IsTicketless) [ inl stopped ↦ inl (stopped-busy may.0 all stopped) | inr barred ↦ inr (sweep-barred may.0 all may.1 barred) ]
  unmoved numbers pool_restorer may did =
      let all = all-so restoring.IsRestore restoring-tries events did.only in
      elim did.came.cause as (λ _. IsBusy e ⊎ IsTicketless) [ inl stopped ↦ inl (stopped-busy may.0 all stopped) | inr barred ↦ restore-barred may.0 all (the_number numbers) may.1 barred ]
  unmoved numbers mover may did = absurd may

-- ---- RESTORE VOLUME

module _ (places : Places) (actor : ℕ) (Is : Machine → Type 0) (events : List Event) (stood : AllStood places actor Is events) (e : Refusal) (mild : halt_by e ≡ None) (file : ℕ) (later : (xs ys : List Event) → events ≡ xs ++ ys → AllStood places actor Is ys) (free : HaveNumbers places Is actor) (there : (m : Machine) → Is m → has_volume file (database m) ≡ true)
    (known : (m : Machine) → Is m → (c : Change) × (destroying_of file (volume_lines None None (database m).stores) ≡ Ok c))
    (makes : (m : Machine) (at : Is m) (c : Change) (xs ys : List Event) → events ≡ xs ++ ys → is_plain c ≡ true → (known m at).0 ≡ c → (why : Refusal) → halt_by why ≡ None → Changing c ys (Err why) → ⊥) (did : VolumeRestore file events (Err e)) where
  abbrev Unticketed : Type 0
  Unticketed = IsTicketless places actor Is events stood e mild

  lines-there : (answer : Answer) (lines : List VolumeLine) → answer.rows ≡ rows.Volumes lines → MetBy (λ d. d ≡ Ask (query.Volumes None None) (Ok answer)) events → (m : Machine) × Is m × (lines ≡ volume_lines None None (database m).stores)
  lines-there answer lines shown met =
      let s = stood (volume.IsVolumeRestore file) (λ d. d ≡ Ask (query.Volumes None None) (Ok answer)) did.only met in
      let both : ◌≡◌ {A = Result Rows Refusal} (Ok (rows.Volumes (volume_lines None None (database s.before).stores))) (Ok (rows.Volumes lines)) = s.answers (query.Volumes None None) answer refl s.is.0 ∙ ap (λ (r : Rows). Ok r) shown in
      (s.before, s.passes, cc)

  asking-not : IsStopped events e → AreAsking events → ⊥
  asking-not (inl memory) asks = not-memory e mild memory
  asking-not (inr met) asks =
      let s = stood IsAsking (λ d. refusal d ≡ Some e) asks met.1 in
      ending-never places actor s.before s.after e (stopping-stops e met.0 mild) s.unrisen s.deed (inl s.is.1) (s.for e s.is.0)

  found-not : MetBy (volume.IsNoVolume file e) events → ⊥
  found-not met =
      let s = stood (volume.IsVolumeRestore file) (volume.IsNoVolume file e) did.only met in
      let w = s.is.0 in
      let both : ◌≡◌ {A = Result Rows Refusal} (Ok (rows.Volumes (volume_lines None None (database s.before).stores))) (Ok (rows.Volumes w.1)) = s.answers (query.Volumes None None) w.0 refl w.2 ∙ ap (λ (r : Rows). Ok r) w.3 in
      let same : w.1 ≡ volume_lines None None (database s.before).stores = cc in
      let odd : ◌≡◌ {A = Result Change Refusal} (Ok (known s.before s.passes).0) (Err e) = sym (known s.before s.passes).1 ∙ ap (destroying_of file) (sym same) ∙ w.4 in
      cc

  plain-loss : (o : Option VolumeLine) (c : Change) → destroying_found o ≡ Ok c → is_plain c ≡ true
  plain-loss None c h = absurd cc
  plain-loss (Some line) c h = (let same : destroying line ≡ c = cc in subst (λ (x : Change). is_plain x ≡ true) same refl)

  undestroyed-not : volume.IsUndestroyed file events e → ⊥
  undestroyed-not (volumes, c, why, of, is, (xs, us, cut, (n, answer, one, shown), changing)) =
      let same : e ≡ why = limited-same why e (volume.is_unmade why) is mild in
      let met : MetBy (λ d. d ≡ Ask (query.Volumes None None) (Ok answer)) events =
      subst (λ (l : List Event). MetBy (λ d. d ≡ Ask (query.Volumes None None) (Ok answer)) l) (sym (cut ∙ ap (λ (l : List Event). l ++ us) one)) (inl refl) in
      let at = lines-there answer volumes shown met in
      let both : ◌≡◌ {A = Result Change Refusal} (Ok (known at.0 at.1).0) (Ok c) = sym (known at.0 at.1).1 ∙ ap (destroying_of file) (sym at.2) ∙ of in
      let same_change : (known at.0 at.1).0 ≡ c = cc in
      makes at.0 at.1 c xs us cut (plain-loss (volume_with file volumes) c of) same_change why (subst (λ (x : Refusal). halt_by x ≡ None) same mild) changing

  -- behind it
  one-of : (other : ℕ) → IsIn other (file ∷ []) → file ≡ other
  one-of other (inl is) = is
  one-of other (inr none) = absurd none

  behind-it : (xs ys : List Event) → events ≡ xs ++ ys → volume.EndsBehind file ys e → IsBusy e ⊎ Unticketed
  behind-it xs ys cut ends = elim ends.cause as (λ _. IsBusy e ⊎ Unticketed) [
    | inl stopped ↦ inl (stopped-in stopped)
    | inr rest ↦ elim rest as (λ _. IsBusy e ⊎ Unticketed) [
      | inl (uncollected, asks) ↦ inl (collected uncollected)
      | inr (ten, (object, from, placed, (us, vs, apart, listed, met))) ↦ inr (
        missing-is e ten,
        object,
        from,
        placed,
        from,
        true,
        0,
        (xs ++ us, vs, cut ∙ ap (λ (l : List Event). xs ++ l) apart ∙ sym (append_assoc xs us vs), met-next xs us (ListsCopy object from) listed, met),
      )
    ]
  ] where
    stopped-in : IsStopped ys e → IsBusy e
    stopped-in stopped = stopped-busy places actor Is ys (later xs ys cut) e mild free (all-so restoring.IsRestore restoring-tries ys ends.only) stopped

    collected : IsUncollected (file ∷ []) ys e → IsBusy e
    collected (other, among, inl stopped) = stopped-in stopped
    collected (other, among, inr (ten, met)) =
        absurd
        (unasked-there places actor Is ys (later xs ys cut) e mild free (all-so restoring.IsRestore restoring-tries ys ends.only) (query.OnVolume other)
        (λ m at. on-volume places actor Is ys (later xs ys cut) e mild free (all-so restoring.IsRestore restoring-tries ys ends.only) other m
        (subst (λ (n : ℕ). has_volume n (database m) ≡ true) (one-of other among) (there m at))) (missing-is e ten) met)

  pub unrestored-volume : IsBusy e ⊎ Unticketed
  unrestored-volume = elim did.came.place as (λ _. IsBusy e ⊎ Unticketed) [
    | inl (inl stopped, asks) ↦ absurd (asking-not stopped asks)
    | inl (inr none, asks) ↦ absurd (found-not none)
    | inr rest ↦ elim rest as (λ _. IsBusy e ⊎ Unticketed) [
      | inl undestroyed ↦ absurd (undestroyed-not undestroyed)
      | inr (c, (xs, ys, cut, destroyed, ends)) ↦ behind-it xs ys cut ends
    ]
  ]
