-- A chain is read, and the database that it gives restored.
use Rattle.std.proofs.Common.{◌≡◌, ◌⊎◌, inl, inr, ℕ, ◌≤◌, Bool, true, false, List, [], Option, Some, None, Result, Ok, Err, IfOk, refl, sym, ap, subst, ◌∙◌, arith}
use Rattle.std.specs.Prelude.{◌&&◌, ◌^◌, ◌-◌, ◌+◌, ◌<◌, nat_le}
use Rattle.std.proofs.Math.Path.{fun_ext}
use Rattle.std.proofs.lemmas.Bool.{and_from, le-leb}
use Rattle.store_api.specs.Disk.{History, reads, now}
use Rattle.store_api.specs.Runs.{EachImage}
use Rattle.store_api.specs.Told.{Told}
use Rattle.store_api.proofs.Runs.{each_then, goes_then, goes_weaker, goes_later, told_map, told_then}
use Rattle.inventory_rows.specs.State.{Inv}
use Rattle.inventory.specs.Meant.{meaning}
use Rattle.vault.specs.Recovery.{IsInstalledAs}
use Rattle.vault.specs.Openings.{HadOne, IsSound, NotLast}
use Rattle.db_chains.specs.declared.refused.ChainRefused.{ChainRefused}
use Rattle.db_chains.specs.declared.refused.ChainRefused.TheVariants as chain
use Rattle.db_chains.specs.Chains.{IsBackup, IsBackupFile, IsBrokenAt}
use Rattle.db_chains.specs.Looks.{is_backup_file}
use Rattle.db_chains.specs.Reads.{OnlySettles, ReadChain, SaysBroken}
use Rattle.db_chains.proofs.Settling.{settles_none}
use Rattle.db_losses.specs.Losses.{restored}
use Rattle.db_restore.specs.declared.done.RestoreDone.{RestoreDone}
use Rattle.db_restore.specs.declared.refused.NotRestored.{NotRestored}
use Rattle.db_restore.specs.declared.refused.NotRestored.TheVariants as unrestored
use Rattle.db_restore.specs.declared.refused.RestoreRefused.{RestoreRefused}
use Rattle.db_restore.specs.Chained.{RestoresFrom}
use Rattle.db_restore.specs.Missing.{AreJudged}
use Rattle.db_restore.specs.Restoring.{AreAlike, IsInstalled, IsRestored, KeepsOthers, Restores, SaysDay}
use Rattle.db_restore.proofs.Putting.{calm_since, had_before, kept_calm, left_before, same_of, still_sound}

-- ---- what was done behind calls that changed nothing that is read

module _ (p : Inv) (file day : ℕ) (skipped : List ℕ) where
  installed_behind : (done : RestoreDone) (old mid new : History) → OnlySettles old mid → IsInstalled p file day skipped done mid new → IsInstalled p file day skipped done old new
  installed_behind done old mid new s i =
      let same = same_of old mid s in
      record {
        losses = i.losses;
        judged = subst (λ (r : ℕ → List ℕ). AreJudged r skipped i.losses p) same i.judged;
        next = i.next;
        follows = subst (λ (r : ℕ → List ℕ). IsInstalledAs meaning r i.next) same i.follows;
        images = i.images;
        holds = λ contents alike. i.holds contents (subst (λ (r : ℕ → List ℕ). AreAlike contents r (restored i.losses file day p)) (sym same) alike);
        versions = i.versions;
        copies = i.copies;
        lost = i.lost;
      }

  restored_behind : (old mid : History) (files : ℕ → List ℕ) → OnlySettles old mid → IsRestored p file day skipped mid files → IsRestored p file day skipped old files
  restored_behind old mid files s i = record { losses = i.losses; judged = subst (λ (r : ℕ → List ℕ). AreJudged r skipped i.losses p) (same_of old mid s) i.judged; recovers = i.recovers }

  done_behind : (result : Result RestoreDone RestoreRefused) (old mid new : History) → OnlySettles old mid → IfOk result (λ done. IsInstalled p file day skipped done mid new) → IfOk result (λ done. IsInstalled p file day skipped done old new)
  done_behind (Ok done) old mid new s i = installed_behind done old mid new s i
  done_behind (Err why) old mid new s i = tt

  pub behind : (result : Result RestoreDone RestoreRefused) (old mid new : History) → OnlySettles old mid → Restores p file day skipped result mid new → Restores p file day skipped result old new
  behind result old mid new s r = record {
    goes = goes_then (λ other. Unit {0}) old mid new (goes_weaker (λ other. 4 ≤ other) (λ other. Unit {0}) old mid (λ other ours. tt) s.goes) r.goes;
    others = λ other ours. r.others other ours ∙ s.same other;
    kept = each_then (λ other. Unit {0}) old mid new (KeepsOthers old) r.goes (kept_calm old mid s) (λ moment files from to here other ours. left_before old mid s other (files other) (r.kept moment files from to here other ours));
    installed = done_behind result old mid new s r.installed;
    since = λ sound last.
        each_then (λ other. Unit {0}) old mid new (λ files. HadOne meaning old files ⊎ IsRestored p file day skipped old files) r.goes (calm_since p file day skipped old mid s sound)
        (λ moment files from to here. elim (r.since (still_sound old mid s sound) (subst NotLast (sym (same_of old mid s)) last) moment files from to here) [
          | inl had ↦ inl (had_before old mid s files had)
          | inr is ↦ inr (restored_behind old mid files s is)
        ]);
  }

-- ---- what is told

-- a file that may not be a backup's
pub impossible_file : (file : ℕ) → IsBackupFile file → is_backup_file file ≡ true
impossible_file file is = and_from (nat_le 4 file) (nat_le file (2 ^ 32 - 3)) (le-leb 4 file is.0) (le-leb file (2 ^ 32 - 3) (let below = is.1 in omega (arith, below)))

pub from_none : (file day : ℕ) (skipped : List ℕ) (x : Option History) → false ≡ is_backup_file file → (let result : Result RestoreDone NotRestored = Err (unrestored.Chain (chain.NotABackup file)) in Told x x (RestoresFrom file day skipped result))
from_none file day skipped None is = tt
from_none file day skipped (Some h) is = (settles_none h, inl ([], (refl, inl (λ number held backup. absurd (let yes : is_backup_file file ≡ true = impossible_file file backup.possible in let both : false ≡ true = is ∙ yes in cc)))))

pub from_broken : (file day : ℕ) (skipped : List ℕ) (why : ChainRefused) (x y : Option History) → (let result : Result Inv ChainRefused = Err why in Told x y (ReadChain meaning file result))
    → (let result : Result RestoreDone NotRestored = Err (unrestored.Chain why) in Told x y (RestoresFrom file day skipped result))
from_broken file day skipped why x y a = told_map x y _ _ (λ old new r. (r.settles, r.says)) a

pub from_restored : (file day : ℕ) (skipped : List ℕ) (p : Inv) (done : RestoreDone) (x y z : Option History) → p.today ≤ day → (let result : Result Inv ChainRefused = Ok p in Told x y (ReadChain meaning file result))
    → (let result : Result RestoreDone RestoreRefused = Ok done in Told y z (Restores p file day skipped result)) → (let result : Result RestoreDone NotRestored = Ok done in Told x z (RestoresFrom file day skipped result))
from_restored file day skipped p done x y z days a b =
    told_then x y z _ _ _ (λ old mid new r s. (p, r.gives.given, (days, (let result : Result RestoreDone RestoreRefused = Ok done in behind p file day skipped result old mid new r.settles s)))) a b

pub from_unrestored : (file day : ℕ) (skipped : List ℕ) (p : Inv) (why : RestoreRefused) (x y z : Option History) → SaysDay p.today day why → (let result : Result Inv ChainRefused = Ok p in Told x y (ReadChain meaning file result))
    → (let result : Result RestoreDone RestoreRefused = Err why in Told y z (Restores p file day skipped result)) → (let result : Result RestoreDone NotRestored = Err (unrestored.Database why) in Told x z (RestoresFrom file day skipped result))
from_unrestored file day skipped p why x y z days a b =
    told_then x y z _ _ _ (λ old mid new r s. (p, r.gives.given, (days, (let result : Result RestoreDone RestoreRefused = Err why in behind p file day skipped result old mid new r.settles s)))) a b
