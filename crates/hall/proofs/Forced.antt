-- The step that forces every transaction.
use Rattle.std.proofs.Common.{◌≡◌, inl, inr, ℕ, ◌+◌, ◌<◌, ◌≤◌, true, Option, Some, None, Result, Ok, Err, refl, sym, ap, subst, ◌∙◌, arith}
use Rattle.std.specs.Prelude.{IfErr, IfOk, IfSome, OnErr, OnOk}
use Rattle.store_api.specs.Cause.{NoneFell, Rose}
use Rattle.store_api.specs.Disk.{History, now}
use Rattle.store_api.specs.Runs.{GoesOn}
use Rattle.store_api.specs.Told.{Told}
use Rattle.store_api.proofs.Runs.{told_map}
use Rattle.kinds.specs.Refusals.{foremost}
use Rattle.kinds.specs.declared.refusal.Refusal.{Refusal}
use Rattle.kinds.specs.declared.refusal.Refusal.TheVariants as refusal
use Rattle.inventory.specs.Meant.{meaning}
use Rattle.inventory_rows.specs.State.{Inv}
use Rattle.steps.specs.Events.{is_listed}
use Rattle.steps.specs.Events.Deed.{Force}
use Rattle.vault.specs.Files.{IsOurs, log_file}
use Rattle.vault.specs.Vaults.{Forces, RefusesForce, State, all_forced, with_fault}
use Rattle.vault.proofs.Goodness.{log_ours}
use Rattle.machine.specs.Machine.{durable, ended, halting, stamped}
use Rattle.machine.specs.State.{Machine}
use Rattle.hall.specs.Good.{Is}
use Rattle.hall.specs.Held.{Hall, Held}
use Rattle.hall.specs.Seats.{all_stamped, ended_at, with_vault}
use Rattle.machine.specs.Alone.{with_contents}
use Rattle.hall.specs.Steps.{Steps}
use Rattle.hall.proofs.Calling.{kept_by, later_run}
use Rattle.hall.proofs.Dropping.{no_later}
use Rattle.hall.proofs.Ended.{ended_has, ended_is, none_halted}
use Rattle.hall.proofs.Forcing.{forced_kept, halted_kept, ours_alone}
use Rattle.hall.proofs.Stamped.{listed_stamped, core_forced, core_halted, good_halted, good_stamped}

-- ---- the hall behind a force

module _ {S : Type 0} (told : S → Option History) (moment : S → ℕ) (faults : S → ℕ → ℕ) (clock : (s : S) → IfSome (told s) (λ h. now h ≡ moment s)) (hall : Hall S) (store : S)
    (none : hall.held.vault.fault ≡ None) (since : moment hall.store ≤ moment store) where
  pub forced_is : (number : ℕ) → (let result : Result ℕ Refusal = Ok number in Told (told hall.store) (told store) (Forces meaning hall.held.vault result (all_forced hall.held.vault)))
      → (m : Machine) → Is told moment faults hall m → Is told moment faults (record { store = store; held = all_stamped (moment store) (with_vault (all_forced hall.held.vault) hall.held) }) (record m { core = stamped (moment store) m.core; moment = moment store; counts = faults store })
  forced_is number did m is =
      record {
        core = core_forced (moment store) hall.held m.core is.core none is.good.stamped.few;
        clock = refl;
        counts = refl;
        good = good_stamped (told hall.store) (told store) m hall.held (all_forced hall.held.vault) (moment store) (faults store) m.core.image m.core.generation m.core.log_length hall.held.image
            hall.held.job is.good (omega (arith, is.clock, since)) (λ none. listed_stamped (moment store) m.core m.core.image is.good.stamped.few (is.good.listed none))
            (kept_by told moment faults hall store (let result : Result ℕ Refusal = Ok number in Forces meaning hall.held.vault result (all_forced hall.held.vault)) m (record m { core = stamped (moment store) m.core; moment = moment store; counts = faults store }) (all_stamped (moment store) (with_vault (all_forced hall.held.vault) hall.held)) is did clock
            (λ h new r. ours_alone hall.held.vault.generation h new r.goes)
            (λ h new r to k.
            let held = k.sure (is.core.fault ∙ none) in
            forced_kept m hall.held h new (ours_alone hall.held.vault.generation h new r.goes) is.core k is.good.lawful is.good.stamped.few is.good.numbers (r.since (durable m.core) held) (moment store)
            to (r.good (durable m.core) held) r.pends (faults store)));
      }

  pub halted_is : (file count : ℕ) (e : Refusal) (next : State Inv) → (let result : Result ℕ Refusal = Err e in Told (told hall.store) (told store) (Forces meaning hall.held.vault result next))
      → (m : Machine) → Is told moment faults hall m → Is told moment faults (record { store = store; held = with_vault (with_fault hall.held.vault file count) hall.held }) (record m { core = halting file count m.core; moment = moment store; counts = faults store })
  halted_is file count e next did m is =
      record {
        core = core_halted file count hall.held.vault.forced hall.held.vault.sure hall.held m.core is.core;
        clock = refl;
        counts = refl;
        good = good_halted (told hall.store) (told store) m hall.held (with_fault hall.held.vault file count) (moment store) (faults store) file count is.good (omega (arith, is.clock, since))
            (kept_by told moment faults hall store (let result : Result ℕ Refusal = Err e in Forces meaning hall.held.vault result next) m (record m { core = halting file count m.core; moment = moment store; counts = faults store }) (with_vault (with_fault hall.held.vault file count) hall.held) is did clock
            (λ h new r. ours_alone hall.held.vault.generation h new r.goes)
            (λ h new r to k.
            let held = k.sure (is.core.fault ∙ none) in
            halted_kept m hall.held h new (ours_alone hall.held.vault.generation h new r.goes) is.core k is.good.lawful is.good.stamped.few is.good.numbers (r.since (durable m.core) held) file count
            (with_fault hall.held.vault file count) (faults store) (moment store) (r.left (durable m.core) held)));
      }

-- ---- the step

module _ {S : Type 0} (told : S → Option History) (moment : S → ℕ) (faults : S → ℕ → ℕ) (clock : (s : S) → IfSome (told s) (λ h. now h ≡ moment s)) (actor : ℕ) (hall : Hall S) (store : S)
    (free : foremost (ended_at (moment hall.store) hall.held) ≡ None) (counts : NoneFell (faults hall.store) (faults store)) (since : moment hall.store ≤ moment store)
    (soon : moment store ≤ moment hall.store + 3) where
  none : hall.held.vault.fault ≡ None
  none = none_halted (moment hall.store) hall.held free

  open_machine : (m : Machine) → Is told moment faults hall m → foremost (ended (with_contents m.contents m)) ≡ None
  open_machine m is = ap foremost (ended_is (moment hall.store) hall.held m is.core is.clock) ∙ free

  -- ---- all is forced

  abbrev forced_at : Machine → Machine
  forced_at m = record m { core = stamped (moment store) m.core; moment = moment store; counts = faults store }

  abbrev forced_held : Held
  forced_held = all_stamped (moment store) (with_vault (all_forced hall.held.vault) hall.held)

  pub forces : (number : ℕ) → (let result : Result ℕ Refusal = Ok number in Told (told hall.store) (told store) (Forces meaning hall.held.vault result (all_forced hall.held.vault)))
      → number ≡ meaning.number hall.held.vault.database → Steps told moment faults actor (Force (Ok number)) hall (record { store = store; held = forced_held })
  forces number did is_number = λ m is. (
    m.contents,
    forced_at m,
    refl,
    record {
      number = refl;
      later = later_run told moment faults hall store counts since (omega (arith, soon)) m (forced_at m) is refl refl;
      step = (open_machine m is, (is_number ∙ ap (λ v. v.number) is.core.database, record { core = refl; contents = refl }));
    },
    forced_is told moment faults clock hall store none since number did m is,
  )

  -- ---- the log failed

  module _ (file count : ℕ) where
    abbrev failed_at : Machine → Machine
    failed_at m = record m { core = halting file count m.core; moment = moment store; counts = faults store }

    abbrev halted_held : Held
    halted_held = with_vault (with_fault hall.held.vault file count) hall.held

    pub halts : (e : Refusal) (next : State Inv) → (let result : Result ℕ Refusal = Err e in Told (told hall.store) (told store) (Forces meaning hall.held.vault result next))
        → file < 4 → e ≡ refusal.LogFault file count → Rose (faults hall.store file) (faults store file) → count ≡ faults store file
        → Steps told moment faults actor (Force (Err e)) hall (record { store = store; held = halted_held })
    halts e next did own is_fault rose is_count = λ m is. (
      m.contents,
      failed_at m,
      refl,
      record {
        number = refl;
        later = later_run told moment faults hall store counts since (omega (arith, soon)) m (failed_at m) is refl refl;
        step = (let rises : Rose (m.counts file) (faults store file) = subst (λ n. Rose n (faults store file)) (sym (ap (λ (f : ℕ → ℕ). f file) is.counts)) rose in
            inr (open_machine m is, (file, count, is_fault, (own, rises, is_count), record { core = refl; contents = refl })));
      },
      halted_is told moment faults clock hall store none since file count e next did m is,
    )

  no_fault : (a : ℕ × ℕ) → hall.held.vault.fault ≡ Some a → ⊥
  no_fault a s = let both : Some a ≡ None = sym s ∙ none in absurd cc

  -- what the vault refused
  pub fails : (e : Refusal) (next : State Inv) → (let result : Result ℕ Refusal = Err e in Told (told hall.store) (told store) (Forces meaning hall.held.vault result next))
      → RefusesForce hall.held.vault (faults hall.store) (faults store) e next (store ≡ hall.store)
      → Steps told moment faults actor (Force (Err e)) hall (record { store = store; held = with_vault next hall.held })
  fails e next did (inl h) = absurd (no_fault (h.0.0, h.0.1) h.0.2)
  fails e next did (inr h) =
      let file : ℕ = log_file hall.held.vault.generation in
      subst (λ v. Steps told moment faults actor (Force (Err e)) hall (record { store = store; held = with_vault v hall.held })) (sym h.3)
      (halts file (faults store file) e next did (log_ours hall.held.vault.generation) h.1 h.2 refl)

  -- whatever came of it
  pub steps : (result : Result ℕ Refusal) (new : Held) → Told (told hall.store) (told store) (Forces meaning hall.held.vault result new.vault)
      → OnOk result (new ≡ forced_held) → IfOk result (λ number. number ≡ meaning.number hall.held.vault.database) → OnErr result (new ≡ with_vault new.vault hall.held)
      → IfErr result (λ e. RefusesForce hall.held.vault (faults hall.store) (faults store) e new.vault (store ≡ hall.store))
      → Steps told moment faults actor (Force result) hall (record { store = store; held = new })
  steps (Ok number) new did ok is_number same err =
      subst (λ h. Steps told moment faults actor (Force (Ok number)) hall (record { store = store; held = h })) (sym ok)
      (forces number (subst (λ h. let result : Result ℕ Refusal = Ok number in Told (told hall.store) (told store) (Forces meaning hall.held.vault result h.vault)) ok did) is_number)
  steps (Err e) new did ok is_number same err =
      subst (λ h. Steps told moment faults actor (Force (Err e)) hall (record { store = store; held = h })) (sym same) (fails e new.vault did err)

-- ---- a step that may not begin

pub forces_ended : {S : Type 0} (told : S → Option History) (moment : S → ℕ) (faults : S → ℕ → ℕ) (actor : ℕ) (hall : Hall S) (e : Refusal) → foremost (ended_at (moment hall.store) hall.held) ≡ Some e
    → Steps told moment faults actor (Force (Err e)) hall hall
forces_ended told moment faults actor hall e full = λ m is.
    let held : foremost (ended m) ≡ Some e = ap foremost (ended_is (moment hall.store) hall.held m is.core is.clock) ∙ full in
    (m.contents, m, refl, record { number = refl; later = no_later m m.contents m refl refl; step = inl (inl held, record { core = refl; contents = refl }) }, is)

-- ---- its refusals

pub force_listed : (moment : ℕ) (h : Held) (e : Refusal) → foremost (ended_at moment h) ≡ Some e → is_listed (Force (Err e)) ≡ true
unfolding is_listed
force_listed moment h e is = ended_has (λ x. is_listed (Force (Err x)) ≡ true) refl (λ file count. refl) moment h e is

refused_listed : (vault : State Inv) (before after : ℕ → ℕ) (e : Refusal) (next : State Inv) (same : Type 0) → RefusesForce vault before after e next same → is_listed (Force (Err e)) ≡ true
unfolding is_listed
refused_listed vault before after e next same (inl h) = ap (λ x. is_listed (Force (Err x))) h.0.3
refused_listed vault before after e next same (inr h) = ap (λ x. is_listed (Force (Err x))) h.1

number_listed : (number : ℕ) → is_listed (Force (Ok number)) ≡ true
unfolding is_listed
number_listed number = refl

pub forced_listed : (vault : State Inv) (before after : ℕ → ℕ) (result : Result ℕ Refusal) (next : State Inv) (same : Type 0) → IfErr result (λ e. RefusesForce vault before after e next same)
    → is_listed (Force result) ≡ true
forced_listed vault before after (Ok number) next same h = number_listed number
forced_listed vault before after (Err e) next same h = refused_listed vault before after e next same h

-- ---- its files

pub forced_files : (vault next : State Inv) (result : Result ℕ Refusal) (old new : Option History) → Told old new (Forces meaning vault result next) → Told old new (GoesOn IsOurs)
forced_files vault next result old new did = told_map old new (Forces meaning vault result next) (GoesOn IsOurs) (λ h n r. ours_alone vault.generation h n r.goes) did

-- the hall is still the one that was opened
pub parts_stay : (old new : Held) (moment : ℕ) (result : Result ℕ Refusal) → OnOk result (new ≡ all_stamped moment (with_vault (all_forced old.vault) old))
    → OnErr result (new ≡ with_vault new.vault old)
    → (new.base ≡ old.base) × (new.opened ≡ old.opened)
parts_stay old new moment (Ok number) ok same = (ap (λ (h : Held). h.base) ok, ap (λ (h : Held). h.opened) ok)
parts_stay old new moment (Err e) ok same = (ap (λ (h : Held). h.base) same, ap (λ (h : Held). h.opened) same)
