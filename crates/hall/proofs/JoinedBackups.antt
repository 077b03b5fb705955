-- What a hall keeps of backups behind a transaction that joins, as a step of the machine has it.
use Rattle.std.proofs.Common.{◌≡◌, ℕ, ◌+◌, ◌≤◌, zero, suc, true, List, [], ◌∷◌, length, take, Option, None, Some, is_some, ap, subst, ◌∙◌, arith}
use Rattle.std.specs.Prelude.{IfSome}
use Rattle.std.specs.List.{AllByRecursion}
use Rattle.store_api.specs.Disk.{History}
use Rattle.entries.specs.declared.change.Change.{Change}
use Rattle.entries.specs.declared.change.Change.TheVariants as change
use Rattle.db_image.specs.Steps.{Job}
use Rattle.inventory_rows.specs.State.{Inv}
use Rattle.inventory_rules.specs.Backups.{backup_at}
use Rattle.inventory_rules.specs.Valid.{is_valid}
use Rattle.inventory_laws.specs.Rising.{DrawsOn}
use Rattle.inventory_laws.proofs.Lists.{each_both}
use Rattle.vault.specs.Pieces.{Pending}
use Rattle.machine.proofs.Histories.{after-number}
use Rattle.machine.specs.State.{Core, Image, Machine, inventory}
use Rattle.hall.specs.Covered.{NumbersAreDrawn, inv_at, left_open}
use Rattle.hall.specs.Good.{AllInProgress, IsKept, IsLawful, StandsOn, WasSound}
use Rattle.hall.specs.Held.{Held, IsCore, IsImage}
use Rattle.hall.specs.Protected.{HadBackups, KeepsAllBackups}
use Rattle.hall.proofs.Along.{each_draws}
use Rattle.hall.proofs.BackupsJoined.{joined_keeps}
use Rattle.hall.proofs.Databases.{later_databases, left_lawful}
use Rattle.hall.proofs.DrawnNext.{KeepsBackup}
use Rattle.hall.proofs.JoinedKept.{left_indexed}
use Rattle.hall.proofs.Joining.{Joins, last, left_last}
use Rattle.hall.proofs.Pairs.{each_two}

-- ---- what a stop may bring back is no later than what there is

take_few : {A : Type 0} (n : ℕ) (l : List A) → length (take n l) ≤ length l
take_few zero l = omega arith
take_few (suc n) [] = omega arith
take_few (suc n) (x ∷ l) = let rest : length (take n l) ≤ length l = take_few n l in omega (arith, rest)

-- a database that is valid, and of which no number is greater than those of the present one
abbrev pub IsPast : Core → Inv → Type 0
IsPast c v = (v.next_file ≤ (inventory c).next_file) × (is_valid v ≡ true) × (v.number ≤ c.base.number + length c.journal)

pub past_left : (c : Core) → IsLawful c → AllByRecursion (IsPast c) (left_open c)
past_left c l =
    each_both (λ v. DrawsOn v (inventory c)) (λ v. (is_valid v ≡ true) × ((k : ℕ) × (v ≡ inv_at k c))) (IsPast c) (left_open c) (λ v d p. (d.file, p.0, number_of v p.1.0 p.1.1))
    (later_databases (λ v. DrawsOn v (inventory c)) (length c.stamps) c.base c.journal (each_draws c.base c.journal))
    (each_two (λ v. is_valid v ≡ true) (λ v. (k : ℕ) × (v ≡ inv_at k c)) (left_open c) (left_lawful c l) (left_indexed c))
  where
    number_of : (v : Inv) (k : ℕ) → v ≡ inv_at k c → v.number ≤ c.base.number + length c.journal
    number_of v k same =
        let is : v.number ≡ c.base.number + length (take k c.journal) = ap (λ (w : Inv). w.number) same ∙ after-number c.base (take k c.journal) in
        let few : length (take k c.journal) ≤ length c.journal = take_few k c.journal in
        omega (arith, is, few)

-- ---- a transaction that joins

module _ (actor : ℕ) (x : Change) (numbers : List ℕ) (m : Machine) (held : Held) (is : IsCore held m.core) (l : IsLawful m.core) (few : length m.core.stamps ≤ length m.core.journal) (n : NumbersAreDrawn m.core)
    (j : Joins actor x numbers m.core) (running : held.vault.fault ≡ None) (ends : (file : ℕ) → x ≡ change.DbEnd file → ⊥) where
  abbrev c : Core
  c = m.core

  -- it doesn't concern the backup that is written
  keeps_job : (h : History) (job : Option Job) (pending : Option Pending) (i : Option Image) → IsImage c.base.number held.vault.generation pending job i → IfSome i (λ i. KeepsBackup i.file x) → IfSome i (λ i. StandsOn c held.vault job i h)
      → IfSome job (λ b. KeepsBackup b.file x × (is_some (backup_at b.file (inventory c)) ≡ true))
  keeps_job h None pending i is keeps stands = tt
  keeps_job h (Some job) None None is keeps stands = absurd is
  keeps_job h (Some job) (Some p) None is keeps stands = absurd is
  keeps_job h (Some job) (Some p) (Some i) is keeps stands = absurd is
  keeps_job h (Some job) None (Some i) is keeps stands = (subst (λ f. KeepsBackup f x) is.file keeps, stands.1)

  stands_of : (h : History) (i : Option Image) → AllInProgress c held i h → IfSome i (λ i. StandsOn c held.vault held.job i h)
  stands_of h None p = tt
  stands_of h (Some i) p = p.stands

  pub joined_backups : (h : History) → IsKept m held h → HadBackups held.base held.opened h → KeepsAllBackups (last actor x numbers c) held.opened h held.job
  joined_backups h k had =
      joined_keeps actor x numbers c l n few j h held.opened held.job ends
      (keeps_job h held.job held.vault.pending c.image (is.is_image running) j.image (stands_of h c.image (k.image (is.fault ∙ running)))) (past_left c l) (left_last actor x numbers c few) (k.backups had)

  pub all_joined : (o : Option History) → IfSome o (λ h. WasSound held.base held.opened h → IsKept m held h)
      → IfSome o (λ h. WasSound held.base held.opened h → HadBackups held.base held.opened h → KeepsAllBackups (last actor x numbers c) held.opened h held.job)
  all_joined None kept = tt
  all_joined (Some h) kept = λ sound had. joined_backups h (kept sound) had
