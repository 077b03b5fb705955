-- A place for a client's tree that may be lent out.
use Rattle.std.specs.Prelude.{ℕ, Option, None}
use Rattle.client_trees.specs.Files.{Files}
use Rattle.line_jobs.specs.declared.lent.Lent.{Lent}
use Rattle.line_jobs.specs.declared.lent.Lent.TheVariants.{Away, Here}

-- the files of the tree; none are told where it is lent out
abbrev pub files_of : {T : Type 0} → (T → Option Files) → Lent T → Option Files
files_of files (Here tree) = files tree
files_of files (Away faults) = None

-- how often a call on it failed
abbrev pub faults_of : {T : Type 0} → (T → ℕ) → Lent T → ℕ
faults_of faults (Here tree) = faults tree
faults_of faults (Away count) = count
