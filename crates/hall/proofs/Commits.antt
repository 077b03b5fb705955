-- The step that makes a transaction.
use Rattle.std.proofs.Common.{◌≡◌, inr, ℕ, ◌+◌, ◌<◌, ◌≤◌, false, List, [], ◌++◌, Option, Some, None, Result, Ok, Err, refl, sym, ap, subst, ◌∙◌, arith, true}
use Rattle.std.specs.Prelude.{IfSome}
use Rattle.std.specs.Option.{option_map_or}
use Rattle.store_api.specs.Cause.{NoneFell, Rose}
use Rattle.store_api.specs.Disk.{History, now}
use Rattle.store_api.specs.Told.{Told}
use Rattle.kinds.specs.Refusals.{foremost}
use Rattle.kinds.specs.declared.refusal.Refusal.{Refusal}
use Rattle.kinds.specs.declared.refusal.Refusal.TheVariants as refusal
use Rattle.entries.specs.declared.change.Change.{Change}
use Rattle.entries.specs.declared.change.Change.TheVariants as change
use Rattle.entries.specs.declared.entry.Entry.{Entry}
use Rattle.inventory.specs.Meant.{meaning}
use Rattle.inventory_rows.specs.State.{Inv}
use Rattle.steps.specs.declared.asked.Asked.{Asked}
use Rattle.steps.specs.Events.Deed.{Commit}
use Rattle.vault.specs.Vaults.{Waits, in_doubt, with_waiting}
use Rattle.machine.specs.Causes.{commit_refused}
use Rattle.machine.specs.Machine.{asked_change, ended, held_refused}
use Rattle.machine.specs.State.{Machine, inventory, sight}
use Rattle.hall.specs.Covered.{is_any_reuse}
use Rattle.hall.specs.Good.{Is, WasSound}
use Rattle.hall.specs.Held.{Hall}
use Rattle.hall.specs.Joined.{joined_held}
use Rattle.hall.specs.Seats.{ended_at}
use Rattle.hall.specs.Steps.{Steps}
use Rattle.hall.proofs.Calling.{later_run}
use Rattle.hall.proofs.Ended.{none_halted}
use Rattle.hall.proofs.JoinedFreed.{TakesAway}
use Rattle.hall.proofs.JoinedIs.{doubted_at, doubted_is, waiting_at, waiting_is}
use Rattle.hall.proofs.Joining.{Joins, last}
use Rattle.hall.proofs.Keeping.{is_ordinary}
use Rattle.hall.proofs.JoinedBackups.{all_joined}
use Rattle.hall.specs.Protected.{HadBackups, KeepsAllBackups}
use Rattle.std.proofs.lemmas.Bool.{false≢true}

-- what is asked of the machine, and that nothing refuses it
pub record MayCommit (actor : ℕ) (asked : Asked) (x : Change) (numbers : List ℕ) (m : Machine) : Type 0 where
  pub is : asked_change actor asked numbers m.core ≡ Some x
  pub none : foremost (ended m ++ (commit_refused actor asked numbers (sight actor m.core) ++ option_map_or (λ change. held_refused change m.core) (asked_change actor asked numbers m.core) [])) ≡ None
  pub joins : Joins actor x numbers m.core
  pub plain : is_any_reuse x ≡ false
  pub ordinary : is_ordinary x ≡ true
  pub takes : TakesAway x (inventory m.core)

module _ {S : Type 0} (told : S → Option History) (moment : S → ℕ) (faults : S → ℕ → ℕ) (clock : (s : S) → IfSome (told s) (λ h. now h ≡ moment s)) (actor : ℕ) (asked : Asked) (x : Change) (numbers : List ℕ) (hall : Hall S) (store : S)
    (free : foremost (ended_at (moment hall.store) hall.held) ≡ None) (counts : NoneFell (faults hall.store) (faults store)) (since : moment hall.store ≤ moment store)
    (soon : moment store ≤ moment hall.store + 3) (may : (m : Machine) → Is told moment faults hall m → MayCommit actor asked x numbers m) where
  abbrev e : Entry
  e = record { actor = actor; change = x }

  none : hall.held.vault.fault ≡ None
  none = none_halted (moment hall.store) hall.held free

  -- it ends no backup
  no_end : (y : Change) → is_ordinary y ≡ true → (file : ℕ) → y ≡ change.DbEnd file → ⊥
  no_end y ordinary file same = false≢true (sym (ap is_ordinary same) ∙ ordinary)

  -- what is kept of backups behind it
  backs : (m : Machine) (is : Is told moment faults hall m) → MayCommit actor asked x numbers m
      → IfSome (told hall.store) (λ h. WasSound hall.held.base hall.held.opened h → HadBackups hall.held.base hall.held.opened h → KeepsAllBackups (last actor x numbers m.core) hall.held.opened h hall.held.job)
  backs m is a = all_joined actor x numbers m hall.held is.core is.good.lawful is.good.stamped.few is.good.numbers a.joins none (no_end x a.ordinary) (told hall.store) is.good.kept

  -- ---- it waits for a force

  pub commits : (number : ℕ) → (let result : Result ℕ Refusal = Ok number in Told (told hall.store) (told store) (Waits meaning hall.held.vault e result (with_waiting meaning hall.held.vault e)))
      → number ≡ hall.held.vault.database.number + 1 → Steps told moment faults actor (Commit asked numbers (Ok number)) hall (record { store = store; held = joined_held x numbers (with_waiting meaning hall.held.vault e) hall.held })
  commits number did is_number = λ m is.
      let a = may m is in
      let next = waiting_at told moment faults clock actor x numbers hall store none since m is a.joins a.takes a.plain in (
        m.contents,
        next,
        refl,
        record {
          number = refl;
          later = later_run told moment faults hall store counts since (omega (arith, soon)) m next is refl refl;
          step = (a.none, (x, a.is, is_number ∙ ap (λ (v : Inv). v.number + 1) is.core.database, (refl, refl)));
        },
        waiting_is told moment faults clock actor x numbers hall store none since m is a.joins a.takes a.plain (backs m is a) number did,
      )

  -- ---- the call on the log failed

  pub doubts : (end file count : ℕ) (why : Refusal) → (let result : Result ℕ Refusal = Err why in Told (told hall.store) (told store) (Waits meaning hall.held.vault e result (in_doubt meaning hall.held.vault e end file count)))
      → file < 4 → why ≡ refusal.LogFault file count → Rose (faults hall.store file) (faults store file) → count ≡ faults store file
      → Steps told moment faults actor (Commit asked numbers (Err why)) hall (record { store = store; held = joined_held x numbers (in_doubt meaning hall.held.vault e end file count) hall.held })
  doubts end file count why did own is_fault rose is_count = λ m is.
      let a = may m is in
      let next = doubted_at told moment faults clock actor x numbers hall store none since m is a.joins a.takes a.plain end file count in (
        m.contents,
        next,
        refl,
        record {
          number = refl;
          later = later_run told moment faults hall store counts since (omega (arith, soon)) m next is refl refl;
          step = (let rises : Rose (m.counts file) (faults store file) = subst (λ n. Rose n (faults store file)) (sym (ap (λ (f : ℕ → ℕ). f file) is.counts)) rose in
              inr (a.none, (x, file, count, a.is, is_fault, (own, rises, is_count), (refl, refl))));
        },
        doubted_is told moment faults clock actor x numbers hall store none since m is a.joins a.takes a.plain end file count (backs m is a) why did,
      )
