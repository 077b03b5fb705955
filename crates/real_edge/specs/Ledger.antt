-- Counts of faults, and the files on which no more is done.
use Rattle.std.specs.Prelude.{ℕ, ◌+◌, ◌-◌, ◌^◌, ◌||◌, min, List, Bool, IsTrue, unwrap_or}
use Rattle.std.specs.Ordering.{nat_cmp}
use Rattle.std.specs.BTreeMap.{is_at}
use Rattle.std.specs.List.{list_any}
use Rattle.std.specs.Map.{lookup}

-- What is kept of failures: the counts of files, how many failures found no memory to be counted at their file, the files of which a
-- sync failed, and whether no file is to be used any more.
pub record Faults : Type 0 where
  pub counts : List (ℕ × ℕ)
  pub shared : ℕ
  pub lost : List ℕ
  pub all_lost : Bool

-- A file's count of faults: its own, and those of calls that found no memory to count at their file.
abbrev pub faults_of : Faults → ℕ → ℕ
faults_of faults file = min (unwrap_or (lookup (is_at (nat_cmp file)) faults.counts) 0 + faults.shared) (2 ^ 64 - 1)

-- nothing more is done on the file
abbrev pub is_lost : Faults → ℕ → Bool
is_lost faults file = faults.all_lost || list_any (is_at (nat_cmp file)) faults.lost

-- a file that was lost is lost still
abbrev pub StayLost : (ℕ → Bool) → (ℕ → Bool) → Type 0
StayLost before after = (file : ℕ) → IsTrue (before file) → IsTrue (after file)

-- no file that was lost is used again, and where none is used none is used later
pub record Worse (before after : Faults) : Type 0 where
  pub each : StayLost (is_lost before) (is_lost after)
  pub all : IsTrue before.all_lost → IsTrue after.all_lost
