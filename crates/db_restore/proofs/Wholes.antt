-- A backup that holds a whole database is read, and the database restored.
use Rattle.std.proofs.Common.{◌≡◌, ◌⊎◌, inl, inr, ℕ, ◌≤◌, Bool, true, false, List, Option, Some, None, Result, Ok, Err, refl, sym, ap, subst, ◌∙◌}
use Rattle.store_api.specs.Cause.{NoneFell}
use Rattle.store_api.specs.Disk.{History, reads}
use Rattle.store_api.specs.Told.{Told}
use Rattle.store_api.proofs.Runs.{told_map, told_then}
use Rattle.inventory_rows.specs.State.{Inv}
use Rattle.inventory.specs.Meant.{meaning}
use Rattle.db_chains.specs.declared.refused.ChainRefused.{ChainRefused}
use Rattle.db_chains.specs.declared.refused.ChainRefused.TheVariants as chain
use Rattle.db_chains.specs.Looks.{is_backup_file}
use Rattle.db_chains.specs.Reads.{MayRefuseChain, NoWhole, OnlySettles, ReadWhole}
use Rattle.db_chains.proofs.Settling.{settles_none}
use Rattle.db_restore.specs.declared.done.RestoreDone.{RestoreDone}
use Rattle.db_restore.specs.declared.refused.RestoreRefused.{RestoreRefused}
use Rattle.db_restore.specs.declared.refused.RestoreRefused.TheVariants as refused
use Rattle.db_restore.specs.Restoring.{MayRefuseRestore, Restores, SaysDay, SaysDays}
use Rattle.db_restore.specs.Whole.{MayRefuseWhole, RestoresHeld, RestoresWhole, unread}
use Rattle.db_restore.proofs.Reaching.{behind, impossible_file}
use Rattle.db_restore.proofs.Refusing.{restore_later}

-- ---- what is told

pub whole_none : (file day : ℕ) (skipped : List ℕ) (x : Option History) → false ≡ is_backup_file file → (let result : Result RestoreDone RestoreRefused = Err refused.NotABackup in Told x x (RestoresWhole file day skipped result))
whole_none file day skipped None is = tt
whole_none file day skipped (Some h) is = (settles_none h, λ number d backup. absurd (let yes : is_backup_file file ≡ true = impossible_file file backup.possible in let both : false ≡ true = is ∙ yes in cc))

unread_so : (file day : ℕ) (skipped : List ℕ) (why : ChainRefused) (old new : History) → (let result : Result Inv ChainRefused = Err why in ReadWhole meaning file result old new) → (let result : Result RestoreDone RestoreRefused = Err (unread why) in RestoresWhole file day skipped result old new)
unread_so file day skipped (chain.ReadFault which) old new r = inl r.settles
unread_so file day skipped (chain.NotABackup at) old new r = (r.settles, r.says.1)
unread_so file day skipped chain.RunFull old new r = inl r.settles
unread_so file day skipped chain.Memory old new r = inl r.settles

pub whole_unread : (file day : ℕ) (skipped : List ℕ) (why : ChainRefused) (said : RestoreRefused) (x y : Option History) → said ≡ unread why → (let result : Result Inv ChainRefused = Err why in Told x y (ReadWhole meaning file result))
    → (let result : Result RestoreDone RestoreRefused = Err said in Told x y (RestoresWhole file day skipped result))
whole_unread file day skipped why said x y is a =
    told_map x y _ _ (λ old new r. subst (λ (s : RestoreRefused). let result : Result RestoreDone RestoreRefused = Err s in RestoresWhole file day skipped result old new) (sym is) (unread_so file day skipped why old new r)) a

module _ (file day : ℕ) (skipped : List ℕ) (p : Inv) where
  held_of : (result : Result RestoreDone RestoreRefused) (old mid new : History) → SaysDays p.today day result → (let read : Result Inv ChainRefused = Ok p in ReadWhole meaning file read old mid) → Restores p file day skipped result mid new → RestoresHeld file day skipped result old new
  held_of result old mid new days r s = (p, (r.gives.number, r.gives.backup), days, behind p file day skipped result old mid new r.settles s)

  pub whole_restored : (done : RestoreDone) (x y z : Option History) → p.today ≤ day → (let result : Result Inv ChainRefused = Ok p in Told x y (ReadWhole meaning file result))
      → (let result : Result RestoreDone RestoreRefused = Ok done in Told y z (Restores p file day skipped result)) → (let result : Result RestoreDone RestoreRefused = Ok done in Told x z (RestoresWhole file day skipped result))
  whole_restored done x y z days a b = told_then x y z _ _ _ (λ old mid new r s. held_of (Ok done) old mid new days r s) a b

  refused_so : (why : RestoreRefused) (before after : ℕ → ℕ) (moment : ℕ) (old new : History) → MayRefuseRestore p.today day before after moment why → (let result : Result RestoreDone RestoreRefused = Err why in RestoresHeld file day skipped result old new) → (let result : Result RestoreDone RestoreRefused = Err why in RestoresWhole file day skipped result old new)
  refused_so (refused.ReadFault which) before after moment old new may held = inr held
  refused_so refused.NotABackup before after moment old new may held = absurd may
  refused_so (refused.DayBack was given) before after moment old new may held = held
  refused_so refused.RunFull before after moment old new may held = inr held
  refused_so refused.Memory before after moment old new may held = inr held

  pub whole_unrestored : (why : RestoreRefused) (before after : ℕ → ℕ) (moment : ℕ) (x y z : Option History) → SaysDay p.today day why → MayRefuseRestore p.today day before after moment why → (let result : Result Inv ChainRefused = Ok p in Told x y (ReadWhole meaning file result))
      → (let result : Result RestoreDone RestoreRefused = Err why in Told y z (Restores p file day skipped result)) → (let result : Result RestoreDone RestoreRefused = Err why in Told x z (RestoresWhole file day skipped result))
  whole_unrestored why before after moment x y z days may a b = told_then x y z _ _ _ (λ old mid new r s. refused_so why before after moment old new may (held_of (Err why) old mid new days r s)) a b

-- ---- why it may be

unread_why : (day : ℕ) (before after : ℕ → ℕ) (moment : ℕ) (why : ChainRefused) → MayRefuseChain before after moment why → MayRefuseWhole day before after moment (unread why)
unread_why day before after moment (chain.ReadFault file) may = (day, may.1)
unread_why day before after moment (chain.NotABackup file) may = tt
unread_why day before after moment chain.RunFull may = (day, may)
unread_why day before after moment chain.Memory may = (day, tt)

pub unread_may : (day : ℕ) (before after : ℕ → ℕ) (moment : ℕ) (why : ChainRefused) (said : RestoreRefused) → said ≡ unread why → MayRefuseChain before after moment why → MayRefuseWhole day before after moment said
unread_may day before after moment why said is may = subst (MayRefuseWhole day before after moment) (sym is) (unread_why day before after moment why may)

pub refused_may : (taken day : ℕ) (before middle after : ℕ → ℕ) (moment : ℕ) (why : RestoreRefused) → NoneFell before middle → MayRefuseRestore taken day middle after moment why → MayRefuseWhole day before after moment why
refused_may taken day before middle after moment (refused.ReadFault file) counts may = (taken, restore_later taken day before middle after moment (refused.ReadFault file) counts may)
refused_may taken day before middle after moment refused.NotABackup counts may = absurd may
refused_may taken day before middle after moment (refused.DayBack was given) counts may = (taken, may)
refused_may taken day before middle after moment refused.RunFull counts may = (taken, may)
refused_may taken day before middle after moment refused.Memory counts may = (taken, tt)
