-- Types of lower crates that have no name of their own above them, by what gives or takes their values.
use Rattle.std.proofs.Common.{Result}
use Rattle.command_steps.specs.deletions.Filespaces.{of_version, with_node}
use Rattle.command_steps.specs.deletions.Volumes.{row_of}
use Rattle.command_steps.specs.migration.Sweeping.{due_at}

abbrev Gives : {A B : Type 0} → (A → B) → Type 0
Gives {A} {B} f = B

abbrev Answers : {A B C D : Type 0} → (A → B → Result C D) → Type 0
Answers {A} {B} {C} {D} f = C

-- an object that is to go
abbrev pub Doomed : Type 0
Doomed = Gives of_version

-- the names of a filespace
abbrev pub Names : Type 0
Names = Answers with_node

-- what the deletion of a volume names
abbrev pub Row : Type 0
Row = Gives row_of

-- a pool that is due
abbrev pub Due : Type 0
Due = Gives due_at
