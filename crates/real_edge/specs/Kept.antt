-- A store in a folder, as its callers see it.
use Rattle.std.specs.Prelude.{◌≡◌, ℕ, ◌<◌, ◌≤◌, ◌^◌, [], Bool, Option, None, Some, IfSome}
use mathlib.Core.Path.{refl}
use Rattle.store_api.specs.Disk.{History, standing, now}
use Rattle.files_api.specs.Folder.{Folder, Label}
use Rattle.real_edge.specs.Ledger.{Faults}
use Rattle.real_edge.specs.Past.{Told, history, history_of, bytes_in}
use Rattle.real_edge.specs.Holds.{Desk, Holds}

-- The calls since it was made, its counts of faults, and what it tells of its past, where it tells anything.
pub record Kept : Type 0 where
  pub count : ℕ
  pub faults : Faults
  pub past : Option Told

-- the moment: that of what it tells, and else the number of its calls
abbrev pub moment_in : ℕ → Option Told → ℕ
moment_in count None = count
moment_in count (Some told) = now (history told)

abbrev pub moment_of : Kept → ℕ
moment_of kept = moment_in kept.count kept.past

clock_in : (count : ℕ) (past : Option Told) → IfSome (history_of past) (λ h. now h ≡ moment_in count past)
clock_in count None = tt
clock_in count (Some told) = refl

-- where it tells, its clock is its moment
pub clock_of : (kept : Kept) → IfSome (history_of kept.past) (λ h. now h ≡ moment_of kept)
clock_of kept = clock_in kept.count kept.past

-- A store that tells stands over files that tell.
abbrev pub Tells : Option Folder → Option Told → (Folder → Told → Type 0) → Type 0
Tells None None R = Unit {0}
Tells (Some folder) None R = Unit {0}
Tells None (Some told) R = ⊥
Tells (Some folder) (Some told) R = R folder told

-- What it tells is so. Files whose numbers are no `u32` have nothing.
pub record TellsTrue {H : Type 0} (label_of : H → Label) (is_entered : Bool) (desk : Desk H) (faults : Faults) (count : ℕ) (folder : Folder) (told : Told) : Type 0 where
  pub holds : Holds label_of is_entered desk faults folder (standing (history told))
  pub clock : now (history told) ≡ count
  pub beyond : (file : ℕ) → 2 ^ 32 ≤ file → (standing (history told) file).stable ≡ 0

-- it begins with what the files of the folder have
pub record Begins (folder : Folder) (h : History) : Type 0 where
  pub first : (file : ℕ) → file < 2 ^ 32 → h.first file ≡ bytes_in folder file
  pub began : h.began ≡ 0
  pub no_calls : h.calls ≡ []
