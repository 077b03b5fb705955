-- Why nothing is restored, seen from before.
use Rattle.std.proofs.Common.{◌≡◌, ℕ, ◌+◌, ◌-◌, ◌^◌, ◌<◌, ◌≤◌, sym, subst, arith}
use Rattle.std.specs.Prelude.{min, max}
use Rattle.store_api.specs.Cause.{NoneFell, Rose}
use Rattle.kinds.specs.declared.refusal.OpenRefused.{OpenRefused}
use Rattle.kinds.specs.declared.refusal.OpenRefused.TheVariants as unread
use Rattle.copy_checks.specs.Looks.{MayStop}
use Rattle.log_file.specs.Cursor.{MayRefuse}
use Rattle.log_file.specs.Windows.{NoDamage, Onward}
use Rattle.vault.specs.Openings.{MayRefuseFormatting}
use Rattle.db_restore.specs.declared.refused.RestoreRefused.{RestoreRefused}
use Rattle.db_restore.specs.declared.refused.RestoreRefused.TheVariants as refused
use Rattle.db_restore.specs.Restoring.{MayRefuseRestore, stopped}

rose_since : (a b c : ℕ) → a ≤ b → Rose b c → Rose a c
rose_since a b c le rose = omega (arith, le, rose)

pub stop_later : (before middle after : ℕ → ℕ) (moment : ℕ) (why : OpenRefused) → NoneFell before middle → MayStop middle after moment why → MayStop before after moment why
stop_later before middle after moment (unread.ReadFault file) counts may = rose_since (before file) (middle file) (after file) (counts file) may
stop_later before middle after moment unread.NotFormatted counts may = may
stop_later before middle after moment (unread.Damaged file at) counts may = may
stop_later before middle after moment unread.RunFull counts may = may
stop_later before middle after moment unread.Memory counts may = tt

-- a look at the volumes was refused
pub unseen : (taken day : ℕ) (before after : ℕ → ℕ) (moment : ℕ) (why : OpenRefused) → MayStop before after moment why → MayRefuseRestore taken day before after moment (stopped why)
unseen taken day before after moment (unread.ReadFault file) may = may
unseen taken day before after moment unread.NotFormatted may = absurd may
unseen taken day before after moment (unread.Damaged file at) may = absurd may
unseen taken day before after moment unread.RunFull may = may
unseen taken day before after moment unread.Memory may = tt

-- what was left wasn't put into the files
unput : (taken day : ℕ) (before middle after : ℕ → ℕ) (moment : ℕ) (why : OpenRefused) → NoneFell before middle → MayRefuseFormatting middle after moment why → MayRefuseRestore taken day before after moment (stopped why)
unput taken day before middle after moment (unread.ReadFault file) counts may = rose_since (before file) (middle file) (after file) (counts file) may.1
unput taken day before middle after moment unread.NotFormatted counts may = absurd may
unput taken day before middle after moment (unread.Damaged file at) counts may = absurd may
unput taken day before middle after moment unread.RunFull counts may = may
unput taken day before middle after moment unread.Memory counts may = tt

pub refused_of : (taken day : ℕ) (before middle after : ℕ → ℕ) (moment : ℕ) (why : OpenRefused) (said : RestoreRefused) → said ≡ stopped why → NoneFell before middle → MayRefuseFormatting middle after moment why → MayRefuseRestore taken day before after moment said
refused_of taken day before middle after moment why said is counts may = subst (MayRefuseRestore taken day before after moment) (sym is) (unput taken day before middle after moment why counts may)

-- the same of a restore behind other calls
pub restore_later : (taken day : ℕ) (before middle after : ℕ → ℕ) (moment : ℕ) (why : RestoreRefused) → NoneFell before middle → MayRefuseRestore taken day middle after moment why → MayRefuseRestore taken day before after moment why
restore_later taken day before middle after moment (refused.ReadFault file) counts may = rose_since (before file) (middle file) (after file) (counts file) may
restore_later taken day before middle after moment refused.NotABackup counts may = may
restore_later taken day before middle after moment (refused.DayBack was given) counts may = may
restore_later taken day before middle after moment refused.RunFull counts may = may
restore_later taken day before middle after moment refused.Memory counts may = tt
