-- What is kept of database backups while a script runs over a store that had those of its database.
use Rattle.std.proofs.Common.{◌≡◌, ℕ, ◌≤◌, Option, None, Some, sym, subst, ◌∙◌, refl, arith, Ok}
use Rattle.std.specs.Prelude.{IfSome, List, Result}
use Rattle.store_api.specs.Disk.{History, now, reads}
use Rattle.store_api.specs.Runs.{GoesOn}
use Rattle.store_api.specs.Told.{Told}
use Rattle.kinds.specs.declared.refusal.OpenRefused.{OpenRefused}
use Rattle.entries.specs.declared.entry.Entry.{Entry}
use Rattle.inventory.specs.Meant.{meaning}
use Rattle.inventory_rows.specs.State.{Inv}
use Rattle.vault.specs.Recovery.{Recovers}
use Rattle.vault.specs.Vaults.{State}
use Rattle.machine.specs.State.{Machine}
use Rattle.hall.specs.Good.{Is}
use Rattle.hall.specs.Held.{Hall}
use Rattle.hall.specs.Opening.{OpensFiles}
use Rattle.hall.specs.Protected.{HadBackups}
use Rattle.hall.specs.Steps.{IsTrusted}
use Rattle.hall.proofs.BackupsOpened.{had_since}
use Rattle.hall_turns.proofs.Backups.{told_on}
use Rattle.hall_turns.proofs.Lefts.{left_backups, left_hold}
use Rattle.tsm_top.specs.Serve.{Had, KeepsBacked, run}
use Rattle.tsm_top.proofs.There.{AreKept}

-- ---- a store that goes on

-- what it had when a hall was opened
had_at : (base : Inv) (opened : ℕ) (x : Option History) → IfSome x (λ h. now h ≡ opened) → IfSome x (λ h. HadBackups base (now h) h) → IfSome x (HadBackups base opened)
had_at base opened None at had = tt
had_at base opened (Some a) at had = subst (λ (n : ℕ). HadBackups base n a) at had

before_now : (opened : ℕ) (x : Option History) → IfSome x (λ h. now h ≡ opened) → IfSome x (λ h. opened ≤ now h)
before_now opened None at = tt
before_now opened (Some a) at = omega (arith, at)

-- opening a vault leaves the store what it had
pub had_opened : (base : Inv) (vault : State Inv) (x y : Option History) → base ≡ vault.database → (let result : Result (State Inv) OpenRefused = Ok vault in Told x y (OpensFiles result)) → Had run x → IfSome y (λ h. HadBackups base (now h) h)
had_opened base vault None None is opened has = tt
had_opened base vault None (Some b) is opened has = absurd opened
had_opened base vault (Some a) None is opened has = absurd opened
had_opened base vault (Some a) (Some b) is opened has = had_since base a b opened.vault.spared.goes (has base (subst (λ (v : Inv). Recovers meaning (reads a) v) (sym is) opened.vault.opens.0))

-- ---- a run

module _ {S : Type 0} (told : S → Option History) (moment : S → ℕ) (faults : S → ℕ → ℕ) (clock : (s : S) → IfSome (told s) (λ h. now h ≡ moment s)) (kept : AreKept told moment faults) where
  keeps : (hall : Hall S) (m : Machine) (x : Option History) → told hall.store ≡ x → Is told moment faults hall m → IsTrusted x hall.held → IfSome x (HadBackups hall.held.base hall.held.opened) → IfSome x (KeepsBacked m.core.base m.core.journal hall.held.opened)
  keeps hall m None tells is trusted had = tt
  keeps hall m (Some h) tells is trusted had = record {
    always = ((kept hall m h tells is trusted).backups had).always;
    hold = left_hold told moment faults clock hall m h tells is trusted had;
    left = λ v recovers. left_backups told moment faults clock hall m h tells is trusted had v recovers;
  }

  -- from the hall that was opened to the last one
  pub run_keeps : (first last : Hall S) → first.held.opened ≡ moment first.store → (last.held.base ≡ first.held.base) × (last.held.opened ≡ first.held.opened) × Told (told first.store) (told last.store) (GoesOn (λ file. Unit {0}))
      → (final : Machine) → Is told moment faults last final → IsTrusted (told last.store) last.held → (journal : List Entry) → journal ≡ final.core.journal → IfSome (told first.store) (λ h. HadBackups first.held.base (now h) h)
      → IfSome (told last.store) (KeepsBacked first.held.base journal (moment first.store))
  run_keeps first last fresh on final is trusted journal same had =
      let at : last.held.opened ≡ moment first.store = on.1 ∙ fresh in
      let there : IfSome (told last.store) (HadBackups first.held.base (moment first.store)) =
      told_on first.held.base (moment first.store) (told first.store) (told last.store) (before_now (moment first.store) (told first.store) (clock first.store)) on.2 (had_at first.held.base (moment first.store) (told first.store) (clock first.store) had) in
      let own : IfSome (told last.store) (HadBackups last.held.base last.held.opened) =
      subst (λ (v : Inv). IfSome (told last.store) (HadBackups v last.held.opened)) (sym on.0) (subst (λ (n : ℕ). IfSome (told last.store) (HadBackups first.held.base n)) (sym at) there) in
      let kept_here : IfSome (told last.store) (KeepsBacked final.core.base final.core.journal (moment first.store)) =
      subst (λ (n : ℕ). IfSome (told last.store) (KeepsBacked final.core.base final.core.journal n)) at (keeps last final (told last.store) refl is trusted own) in
      subst (λ (v : Inv). IfSome (told last.store) (KeepsBacked v journal (moment first.store))) (is.core.base ∙ on.0) (subst (λ (l : List Entry). IfSome (told last.store) (KeepsBacked final.core.base l (moment first.store))) (sym same) kept_here)
