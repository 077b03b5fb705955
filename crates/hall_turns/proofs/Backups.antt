-- Turns on a hall whose store had the backups of its database: it has those of each hall that is opened again.
use Rattle.std.proofs.Common.{◌≡◌, ℕ, ◌≤◌, Option, None, Some, Ok, Result, List, [], ◌∷◌, refl, sym, subst, ◌∙◌, arith}
use Rattle.std.specs.Prelude.{IfSome}
use Rattle.store_api.specs.Disk.{History, ImageAt, back, now, reads}
use Rattle.store_api.specs.Runs.{GoesOn}
use Rattle.store_api.specs.Told.{StopsAs, Told}
use Rattle.store_api.proofs.Runs.{back_now, goes_image_before}
use Rattle.kinds.specs.declared.refusal.OpenRefused.{OpenRefused}
use Rattle.inventory.specs.Meant.{meaning}
use Rattle.inventory_rows.specs.declared.backup.Backup.{Backup}
use Rattle.inventory_rows.specs.State.{Inv}
use Rattle.vault.specs.Recovery.{Recovers}
use Rattle.vault.specs.Vaults.{State}
use Rattle.steps.specs.declared.step.Reply.{Reply}
use Rattle.machine.specs.State.{Machine}
use Rattle.hall.specs.declared.turn.Turn.{Turn}
use Rattle.hall.specs.declared.turn.Turn.TheVariants.{Do, Stop}
use Rattle.hall.specs.Good.{Is, IsKept, WasSound}
use Rattle.hall.specs.Held.{Hall}
use Rattle.hall.specs.Opening.{Opens, OpensFiles}
use Rattle.hall.specs.Plays.{Plays, Reopens, RunsTurns, Stopped}
use Rattle.hall.specs.Protected.{HadBackups, WasGiven}
use Rattle.hall.specs.Steps.{IsTrusted}
use Rattle.hall.proofs.BackupsOpened.{had_since}
use Rattle.hall.proofs.BackupsStopped.{had_stopped}
use Rattle.hall.proofs.Stamping.{rise_over}
use Rattle.hall_turns.specs.Runs.{HadOwnBackups, HasOwnBackups}

-- ---- a store that goes on

module _ (base : Inv) (opened : ℕ) (a b : History) (since : opened ≤ now a) (goes : GoesOn (λ file. Unit {0}) a b) where
  past : (image : ℕ → List ℕ) → ImageAt b opened image → ImageAt a opened image
  past image here = goes_image_before (λ file. Unit {0}) a b opened image goes since here

  -- what it had at a moment it had then, too, as it tells it later on
  had_on : HadBackups base opened a → HadBackups base opened b
  had_on had = record { before = had.before; given = λ file row p. on file row (had.given file row p) } where
    on : (file : ℕ) (row : Backup) → WasGiven base opened a file row → WasGiven base opened b file row
    on file row w = record {
      backup = w.backup;
      row = w.row;
      files = w.files;
      smaller = w.smaller;
      provided = w.provided;
      gives = λ image here. w.gives image (past image here);
      copies = λ image here. w.copies image (past image here);
    }

pub told_on : (base : Inv) (opened : ℕ) (x y : Option History) → IfSome x (λ h. opened ≤ now h) → Told x y (GoesOn (λ file. Unit {0})) → IfSome x (HadBackups base opened) → IfSome y (HadBackups base opened)
told_on base opened None None since goes had = tt
told_on base opened None (Some b) since goes had = absurd goes
told_on base opened (Some a) None since goes had = absurd goes
told_on base opened (Some a) (Some b) since goes had = had_on base opened a b since goes had

-- ---- a store that is opened

opened_told : (base : Inv) (vault : State Inv) (opened : ℕ) (x y : Option History) → base ≡ vault.database → IfSome y (λ h. now h ≡ opened) → (let result : Result (State Inv) OpenRefused = Ok vault in Told x y (OpensFiles result)) → IfSome x HasOwnBackups → IfSome y (HadBackups base opened)
opened_told base vault opened None None is at files has = tt
opened_told base vault opened None (Some n) is at files has = absurd files
opened_told base vault opened (Some a) None is at files has = absurd files
opened_told base vault opened (Some a) (Some n) is at files has =
    subst (λ (k : ℕ). HadBackups base k n) at
    (had_since base a n files.vault.spared.goes (has base (subst (λ (v : Inv). Recovers meaning (reads a) v) (sym is) files.vault.opens.0)))

module _ {S : Type 0} (told : S → Option History) (moment : S → ℕ) (faults : S → ℕ → ℕ) (clock : (s : S) → IfSome (told s) (λ h. now h ≡ moment s)) where
  -- a hall that is opened over a store which has its backups
  pub opened_had : (store : S) (hall : Hall S) → Reopens told moment faults store hall → IfSome (told store) HasOwnBackups → HadOwnBackups told hall
  opened_had store hall opened has =
      let new = opened.opens.0 in
      subst (λ (k : ℕ). IfSome (told hall.store) (HadBackups hall.held.base k)) (sym new.opened)
      (opened_told hall.held.base hall.held.vault (moment hall.store) (told store) (told hall.store) new.base (clock hall.store) opened.files has)

  abbrev KeepsSafe : Type 0
  KeepsSafe = (hall : Hall S) (m : Machine) (h : History) → told hall.store ≡ Some h → Is told moment faults hall m → WasSound hall.held.base hall.held.opened h → IsKept m hall.held h

  -- what a stop leaves of such a hall's store has its backups
  stopped_has : KeepsSafe → (hall : Hall S) (m : Machine) (x y : Option History) → told hall.store ≡ x → Is told moment faults hall m → IsTrusted x hall.held → IfSome x (HadBackups hall.held.base hall.held.opened) → Told x y StopsAs → IfSome y HasOwnBackups
  stopped_has keeps hall m None y tells is trusted had stops = absurd trusted
  stopped_has keeps hall m (Some h) None tells is trusted had stops = tt
  stopped_has keeps hall m (Some h) (Some after) tells is trusted had stops =
      let kept = keeps hall m h tells is trusted in
      λ v recovers. had_stopped hall.held.opened h (now h) after v (kept.backups had).always kept.since (omega arith) (subst (λ (g : History). StopsAs g after) (sym (back_now h)) stops) recovers

  -- the hall was opened before now
  since_opened : (hall : Hall S) (m : Machine) (x : Option History) → Is told moment faults hall m → IfSome x (λ h. now h ≡ moment hall.store) → IfSome x (λ h. hall.held.opened ≤ now h)
  since_opened hall m None is at = tt
  since_opened hall m (Some h) is at =
      let from : hall.held.opened ≤ m.moment = rise_over hall.held.opened m.moment m.core.stamps is.good.stamped.rise in
      let same = is.clock in
      omega (arith, from, same, at)

  abbrev RunsExactly : Type 0
  RunsExactly = (turns : List Turn) (replies : List Reply) (old new : Hall S) (m : Machine) → IsTrusted (told old.store) old.held → Is told moment faults old m
      → Plays told moment faults turns replies old new → (last : Machine) × RunsTurns turns replies m last × Is told moment faults new last × IsTrusted (told new.store) new.held

  -- behind each of the turns
  pub had_played : RunsExactly → KeepsSafe → (turns : List Turn) (replies : List Reply) (old new : Hall S) (m : Machine) → IsTrusted (told old.store) old.held → Is told moment faults old m → Plays told moment faults turns replies old new
      → HadOwnBackups told old → HadOwnBackups told new
  had_played runs keeps [] replies old new m trusted is p had = subst (λ (h : Hall S). HadOwnBackups told h) (sym p.1) had
  had_played runs keeps (Do actor step ∷ turns) [] old new m trusted is p had = absurd p
  had_played runs keeps (Do actor step ∷ turns) (reply ∷ replies) old new m trusted is p had =
      let next = p.0 in
      let one = runs (Do actor step ∷ []) (reply ∷ []) old next m trusted is (next, p.1, (refl, refl)) in
      let goes = p.1.4 in
      let on : IfSome (told next.store) (HadBackups old.held.base old.held.opened) =
      told_on old.held.base old.held.opened (told old.store) (told next.store) (since_opened old m (told old.store) is (clock old.store)) goes.files had in
      had_played runs keeps turns replies next new one.0 one.3 one.2 p.2
      (subst (λ (v : Inv). IfSome (told next.store) (HadBackups v next.held.opened)) (sym goes.base) (subst (λ (k : ℕ). IfSome (told next.store) (HadBackups old.held.base k)) (sym goes.opened) on))
  had_played runs keeps (Stop choice ∷ turns) replies old new m trusted is p had =
      let store = p.0 in
      let next = p.1 in
      let one = runs (Stop choice ∷ []) [] old next m trusted is (store, next, p.2, p.3, (refl, refl)) in
      had_played runs keeps turns replies next new one.0 one.3 one.2 p.4
      (opened_had store next p.3 (stopped_has keeps old m (told old.store) (told store) refl is trusted had p.2.files))
