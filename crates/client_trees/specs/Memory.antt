-- A tree in memory, as its users see it, and what its calls leave.
use Rattle.std.specs.Prelude.{◌≡◌, ℕ, ◌+◌, ◌-◌, ◌^◌, min, List, Contains, Result, Ok, Err}
use Rattle.client_trees.specs.Files.{Files}
use Rattle.client_trees.specs.declared.tree.ListRefused.{ListRefused}
use Rattle.client_trees.specs.declared.tree.ListRefused.TheVariants.{Failed, Memory}

-- The files in ascending order of their paths, the number of the next call, the calls that are to fail, and the count of faults.
pub record TreeState : Type 0 where
  pub files : Files
  pub call : ℕ
  pub failing : List ℕ
  pub faults : ℕ

-- one more, up to the greatest value that 64 bits hold
abbrev pub one_more : ℕ → ℕ
one_more n = min (n + 1) (2 ^ 64 - 1)

-- the next call is one of those that are to fail
abbrev pub IsListed : TreeState → Type 0
IsListed tree = Contains tree.failing tree.call

-- the tree once one more call was made
abbrev pub counted : TreeState → TreeState
counted tree = record tree { call = one_more tree.call }

-- the tree once one more call failed
abbrev pub failed : TreeState → TreeState
failed tree = record tree { call = one_more tree.call; faults = one_more tree.faults }

-- A call that is to leave these files did, where it answered Ok; where it failed the files stay.
abbrev pub Turns : {A E : Type 0} → Result A E → TreeState → TreeState → Files → Type 0
Turns (Ok answer) old new files = new ≡ record (counted old) { files = files }
Turns (Err e) old new files = new ≡ failed old

-- A listing leaves the files. It failed only where that was asked for.
abbrev pub Lists : {A : Type 0} → Result A ListRefused → TreeState → TreeState → Type 0
Lists (Ok rows) old new = new ≡ counted old
Lists (Err Failed) old new = (new ≡ failed old) × IsListed old
Lists (Err Memory) old new = new ≡ counted old
