-- A backup that an image keeps comes back with its copies in sequential pools where it is restored.
use Rattle.std.proofs.Common.{◌≡◌, inl, inr, ℕ, ◌-◌, ◌<◌, ◌≤◌, zero, suc, true, List, [], ◌∷◌, length, take, Option, Some, Result, Ok, Err, refl, sym, subst, ◌∙◌, arith}
use Rattle.std.specs.BTreeMap.{is_at}
use Rattle.std.specs.List.{AllByRecursion, slice_index_or}
use Rattle.std.specs.Map.{lookup}
use Rattle.std.specs.Ordering.{nat_cmp}
use Rattle.store_api.specs.Disk.{History, ImageAt, now, reads}
use Rattle.store_api.proofs.Pieces.{image_reads}
use Rattle.contents.specs.Contents.{InImage}
use Rattle.entries.specs.declared.entry.Entry.{Entry}
use Rattle.inventory.specs.Meaningful.{is_meaning}
use Rattle.inventory.specs.Meant.{meaning}
use Rattle.inventory_rows.specs.declared.backup.Backup.{Backup}
use Rattle.inventory_rows.specs.State.{Inv}
use Rattle.inventory_rules.specs.Backups.{backup_at}
use Rattle.inventory_rules.specs.Valid.{is_valid}
use Rattle.vault.specs.Openings.{NotLast}
use Rattle.vault.specs.Recovery.{Recovers}
use Rattle.vault.proofs.Sounding.{within_recovers}
use Rattle.vault.proofs.Unique.{one_database}
use Rattle.hall.specs.Opening.{IsSound}
use Rattle.hall.specs.Protected.{AlwaysBacked, Backs, EachSequential, GivesBack, HadBackups, HasCopy, HoldsIn, IsProtected, IsRow, Taken, files_of}
use Rattle.hall.proofs.BackedUp.{also_sequential}
use Rattle.hall.proofs.BackupsOpened.{gives_alike, gives_valid}
use Rattle.hall.proofs.Sound.{vault_sound}
use Rattle.machine.specs.State.{after}
use Rattle.hall_turns.specs.Runs.{HasOwnBackups, IsBacked}
use Rattle.hall_turns.proofs.Openings.{backed_since, copies_alike, one_backed}
use Rattle.backup_payloads.specs.Increments.{Increment}
use Rattle.db_chains.specs.Chains.{Gives, IsGiven}
use Rattle.db_chains.specs.Reads.{OnlySettles}
use Rattle.db_chains.specs.declared.refused.ChainRefused.TheVariants as chain
use Rattle.db_chains.proofs.Unique.{one, whole}
use Rattle.db_losses.specs.Losses.{Losses, restored}
use Rattle.db_restore.specs.Chained.{RestoresFrom}
use Rattle.db_restore.specs.Restoring.{IsInstalled, Restores}
use Rattle.db_restore.specs.Sequential.{KeepsSequential, StandsWith}
use Rattle.db_restore.specs.declared.done.RestoreDone.{RestoreDone}
use Rattle.db_restore.specs.declared.refused.NotRestored.{NotRestored}
use Rattle.db_restore.specs.declared.refused.RestoreRefused.{RestoreRefused}
use Rattle.db_restore.specs.declared.refused.NotRestored.TheVariants.{Chain, Database}
use Rattle.db_restore.proofs.Standing.{found}
use Rattle.db_restore.proofs.Staying.{sequentials_stay}
use Rattle.tsm_top.specs.Restored.{ComesBack, ComesBackAs, FindsKept, FindsSequential, IsLeftOf, IsRestored, ReturnsAs}
use Rattle.tsm_top.specs.Serve.{Command, Had, KeepsBacked, RanSafe, Sure}

-- ---- lists

holds_at : {A : Type 0} (P : A → Type 0) (xs : List A) (k : ℕ) (x : A) → k < length xs → slice_index_or xs k x ≡ x → AllByRecursion P xs → P x
holds_at P [] k x lt is all = absurd (omega (arith, lt))
holds_at P (y ∷ xs) zero x lt is all = subst P is all.0
holds_at P (y ∷ xs) (suc k) x lt is all = holds_at P xs k x (omega (arith, lt)) is all.1

-- ---- files of volumes and backups that read alike

module _ (image other : ℕ → List ℕ) (same : (n : ℕ) → 4 ≤ n → other n ≡ image n) where
  files_from : (file number : ℕ) (increments : List Increment) (v : Inv) → Gives meaning image file number increments v → AllByRecursion (λ (n : ℕ). 4 ≤ n) (files_of file increments)
  files_from file number [] v b = (b.possible.0, tt)
  files_from file number (i ∷ older) v (b, below, (base, gives, makes)) = (b.possible.0, files_from i.after i.number older base gives)

  -- a backup gives the same database
  gives_there : (file number : ℕ) (increments : List Increment) (v : Inv) → Gives meaning image file number increments v → Gives meaning other file number increments v
  gives_there file number increments v gives =
      gives_alike image other file number increments v (λ n one. sym (same n (holds_at (λ (k : ℕ). 4 ≤ k) (files_of file increments) one.0 n one.1 one.2 (files_from file number increments v gives)))) gives

  -- and its copies in sequential pools stand there
  copies_there : (contents : ℕ → List ℕ) (v : Inv) → is_valid v ≡ true → EachSequential (λ w c. HasCopy (InImage image) (contents w.object) w c) v → EachSequential (λ w c. HasCopy (InImage other) (contents w.object) w c) v
  copies_there contents v valid each = copies_alike image other (λ n from. sym (same n from)) contents v valid each

-- copies that stand with their objects' bytes are found
are_found : (image : ℕ → List ℕ) (contents : ℕ → List ℕ) (v : Inv) → EachSequential (λ w c. HasCopy (InImage image) (contents w.object) w c) v → KeepsSequential image v
are_found image contents v each = found image contents v
    (also_sequential (λ w c. HasCopy (InImage image) (contents w.object) w c) (λ w c. StandsWith image (contents w.object) w c) v (λ w c has. record { size = has.size; digest = has.digest; frames = has.frames }) each)

-- ---- what came of a restore

-- a database that lists no backup has none that a store could lack
unlisted : (v : Inv) → v.backups ≡ [] → (file : ℕ) (b : Backup) → backup_at file v ≡ Some b → ⊥
unlisted v none file b at = no_row file b v.backups none at
  where
    no_row : (f : ℕ) (row : Backup) (rows : List (ℕ × Backup)) → rows ≡ [] → lookup (is_at (nat_cmp f)) rows ≡ Some row → ⊥
    no_row f row [] is found_at = absurd (cc)
    no_row f row (r ∷ rows) is found_at = absurd (cc)

had_none : (v : Inv) (h : History) → v.backups ≡ [] → HadBackups v (now h) h
had_none v h none = record { before = λ file b at done. absurd (unlisted v none file b at); given = λ file b p. absurd (unlisted v none file b p.listed) }

-- nor one that an image could
backs_none : (v : Inv) (image : ℕ → List ℕ) → v.backups ≡ [] → Backs image v
backs_none v image none = record { before = λ file b at done. absurd (unlisted v none file b at); each = λ file b p. absurd (unlisted v none file b p.listed) }

no_backups : (losses : Losses) (file day : ℕ) (p : Inv) → (restored losses file day p).backups ≡ []
unfolding restored
no_backups losses file day p = refl

-- what is restored is what the files recover to
read_back : (p : Inv) (file day : ℕ) (skipped : List ℕ) (done : RestoreDone) (old new : History) (is : IsInstalled p file day skipped done old new) → Recovers meaning (reads new) (restored is.losses file day p)
read_back p file day skipped done old new is =
    within_recovers meaning (reads new) (restored is.losses file day p) (is.images (now new) (reads new) (omega arith) (omega arith) (image_reads new)).recovers

-- so the store has its backups, and each image of then backs it
pub has_restored : (p : Inv) (file day : ℕ) (skipped : List ℕ) (done : RestoreDone) (old new : History) → IsInstalled p file day skipped done old new → IsBacked new × HasOwnBackups new
has_restored p file day skipped done old new is =
    one_backed new (restored is.losses file day p) (had_none (restored is.losses file day p) new (no_backups is.losses file day p))
    (λ image here. within_recovers meaning image (restored is.losses file day p) (is.images (now new) image (omega arith) (omega arith) here).recovers)

-- ---- meanwhile

module _ (contents : ℕ → List ℕ) (old new : History) (sound : IsSound contents old) (unspent : NotLast (reads old)) (backed : IsBacked old) where
  since_put : (p : Inv) (file day : ℕ) (skipped : List ℕ) (result : Result RestoreDone RestoreRefused) → Restores p file day skipped result old new → AlwaysBacked (now old) new
  since_put p file day skipped result is moment image from to here v recovers = elim (is.since (vault_sound contents old new sound) unspent moment image from to here) [
    | inl had ↦ backed_since old backed image had (is.kept moment image from to here) v recovers
    | inr put ↦ (let left = restored put.losses file day p in
        subst (Backs image) (one_database meaning is_meaning image left v (within_recovers meaning image left put.recovers) recovers) (backs_none left image (no_backups put.losses file day p)))
  ]

  -- nothing was put where the backup couldn't be read
  since_settled : OnlySettles old new → AlwaysBacked (now old) new
  since_settled is moment image from to here = backed (now old) image (omega arith) (omega arith) (is.images moment image from to here)

  pub since_restored : (file day : ℕ) (skipped : List ℕ) (came : Result RestoreDone NotRestored) → RestoresFrom file day skipped came old new → AlwaysBacked (now old) new
  since_restored file day skipped (Ok done) from = since_put from.0 file day skipped (Ok done) from.2.1
  since_restored file day skipped (Err (Chain why)) from = since_settled from.0
  since_restored file day skipped (Err (Database why)) from = since_put from.0 file day skipped (Err why) from.2.1

-- ---- a backup that was kept

module _ (file day : ℕ) (skipped : List ℕ) (old new : History) (image : ℕ → List ℕ) (b : Backup) (t : Taken) (back : GivesBack image file b t) (same : (other : ℕ) → 4 ≤ other → reads old other ≡ image other) where
  given : IsGiven meaning (reads old) file t.database
  given = record { number = b.number; increments = t.increments; gives = gives_there image (reads old) same file b.number t.increments t.database back.gives }

  valid : is_valid t.database ≡ true
  valid = gives_valid image file b.number t.increments t.database back.gives

  finds : (done : RestoreDone) (p : Inv) → p ≡ t.database → ((other : ℕ) → 4 ≤ other → reads new other ≡ reads old other) → IsInstalled p file day skipped done old new → FindsSequential file day skipped t new
  finds done p is others installed =
      let own : IsInstalled t.database file day skipped done old new = subst (λ (v : Inv). IsInstalled v file day skipped done old new) is installed in
      record {
        losses = own.losses;
        recovers = read_back t.database file day skipped done old new own;
        stay = λ spares. sequentials_stay (reads old) skipped own.losses file day t.database (are_found (reads old) t.contents t.database (copies_there image (reads old) same t.contents t.database valid back.copies)) spares own.judged;
        copies = copies_there image (reads new) (λ n from. others n from ∙ same n from) t.contents t.database valid back.copies;
      }

  comes : (came : Result RestoreDone NotRestored) → RestoresFrom file day skipped came old new → ComesBack file day skipped t came new
  comes (Ok done) from = finds done from.0 (one is_meaning (reads old) file from.0 t.database from.1 given) from.2.1.others from.2.1.installed
  comes (Err (Chain (chain.NotABackup at))) from = absurd (whole is_meaning (reads old) file at t.database given from.1)
  comes (Err (Chain (chain.ReadFault at))) from = tt
  comes (Err (Chain chain.RunFull)) from = tt
  comes (Err (Chain chain.Memory)) from = tt
  comes (Err (Database why)) from = tt

pub returns : (file day : ℕ) (skipped : List ℕ) (came : Result RestoreDone NotRestored) (old new : History) → RestoresFrom file day skipped came old new → FindsKept file day skipped came old new
returns file day skipped came old new from =
    λ image v b keeps p same. (let it = keeps file b p in (it.0, it.1.row, comes file day skipped old new image b it.0 it.1 same came from))

-- so does one of an image that backs its database
pub kept_returns : (image : ℕ → List ℕ) (v : Inv) (file : ℕ) (b : Backup) → Backs image v → IsProtected v file b → (day : ℕ) (skipped : List ℕ) (came : Result RestoreDone NotRestored) (old new : History)
    → ((other : ℕ) → 4 ≤ other → reads old other ≡ image other) → IsRestored file day skipped came old new → (t : Taken) × IsRow b t × ComesBack file day skipped t came new
kept_returns image v file b backs listed day skipped came old new same is = is.kept image v b (λ other row p. (let it = backs.each other row p in (it.0, it.1))) listed same

-- ---- a backup's own database

module _ (file day : ℕ) (skipped : List ℕ) (old new : History) (p : Inv) (given : IsGiven meaning (reads old) file p) where
  leaves : (done : RestoreDone) (q : Inv) → q ≡ p → IsInstalled q file day skipped done old new → IsLeftOf file day skipped p old new
  leaves done q is installed =
      let own : IsInstalled p file day skipped done old new = subst (λ (v : Inv). IsInstalled v file day skipped done old new) is installed in
      record { losses = own.losses; judged = own.judged; recovers = read_back p file day skipped done old new own }

  comes_as : (came : Result RestoreDone NotRestored) → RestoresFrom file day skipped came old new → ComesBackAs file day skipped p came old new
  comes_as (Ok done) from = leaves done from.0 (one is_meaning (reads old) file from.0 p from.1 given) from.2.1.installed
  comes_as (Err (Chain (chain.NotABackup at))) from = absurd (whole is_meaning (reads old) file at p given from.1)
  comes_as (Err (Chain (chain.ReadFault at))) from = tt
  comes_as (Err (Chain chain.RunFull)) from = tt
  comes_as (Err (Chain chain.Memory)) from = tt
  comes_as (Err (Database why)) from = tt

-- a backup whose file holds a database comes back as that one
held_returns : (image : ℕ → List ℕ) (file : ℕ) (b : Backup) (p : Inv) → HoldsIn image file b p → (day : ℕ) (skipped : List ℕ) (came : Result RestoreDone NotRestored) (old new : History)
    → ((other : ℕ) → 4 ≤ other → reads old other ≡ image other) → IsRestored file day skipped came old new → ReturnsAs file day skipped b p came old new
held_returns image file b p holds day skipped came old new same is =
    let given : IsGiven meaning (reads old) file p = record { number = b.number; increments = holds.increments; gives = gives_there image (reads old) same file b.number holds.increments p holds.gives } in
    record { number = holds.number; taken = holds.taken; left = comes_as file day skipped old new p given came is.from }

same_base : (a b : Inv) → (let x : Option Inv = Some a in let y : Option Inv = Some b in x ≡ y) → b ≡ a
same_base a b is = cc

-- what a run keeps, of the base that is told
keeps_base : (command : Command) (contents : ℕ → List ℕ) (told : Option History) (h : History) (opened : ℕ) (journal : List Entry) (stamps : List ℕ) (base : Inv) → RanSafe command told (Some h) opened journal stamps (Some base)
    → Sure command contents told → Had command told → KeepsBacked base journal opened h
keeps_base command contents told h opened journal stamps base ran sure had = subst (λ (v : Inv). KeepsBacked v journal opened h) (same_base base ran.database ran.base_is) (ran.backups contents sure had)

-- one that began in a run comes back as the run's database behind the transaction by which it began
pub own_returns : (command : Command) (contents : ℕ → List ℕ) (told : Option History) (h : History) (opened : ℕ) (journal : List Entry) (stamps : List ℕ) (base : Inv) → RanSafe command told (Some h) opened journal stamps (Some base)
    → Sure command contents told → Had command told → (image : ℕ → List ℕ) → ImageAt h (now h) image → (v : Inv) → Recovers meaning image v → (file : ℕ) (b : Backup) → backup_at file v ≡ Some b → b.is_done ≡ true → base.number ≤ b.number
    → (day : ℕ) (skipped : List ℕ) (came : Result RestoreDone NotRestored) (old new : History) → ((other : ℕ) → 4 ≤ other → reads old other ≡ image other) → IsRestored file day skipped came old new
    → ReturnsAs file day skipped b (after base (take (b.number - base.number) journal)) came old new
own_returns command contents told h opened journal stamps base ran sure had image here v recovers file b listed done from day skipped came old new same is =
    let keeps : KeepsBacked base journal opened h = keeps_base command contents told h opened journal stamps base ran sure had in
    held_returns image file b (after base (take (b.number - base.number) journal)) (keeps.hold image here v recovers file b listed done from) day skipped came old new same is
