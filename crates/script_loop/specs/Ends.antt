-- The last line of a run and its status, by how it ended.
use Rattle.std.specs.Prelude.{◌≡◌, ◌⊎◌, ℕ, ◌≤◌, ◌==◌, ◌&&◌, if◌then◌else◌, List, [], ◌∷◌, ◌++◌, decimal, codes, length, take, Option}
use Rattle.std.specs.Io.KnownBytes.{Appends, IsAtEnd}
use Rattle.tree_api.specs.Cause.{Rose}
use Rattle.script_loop.specs.declared.ends.Halt.{Halt}
use Rattle.script_loop.specs.declared.ends.Halt.TheVariants.{LogFault, RunFull, Memory}
use Rattle.script_loop.specs.declared.ends.End.{End}
use Rattle.script_loop.specs.declared.ends.End.TheVariants.{Done, SourceFault, SinkFault, Halted, TooLong}

-- a number between two texts
abbrev pub told_number : List ℕ → ℕ → List ℕ
told_number text n = text ++ decimal n ++ 10 ∷ []

-- the last line that a halt prints
abbrev pub halt_line : Halt → List ℕ
halt_line (LogFault file) = told_number (codes "LOG FAULT ") file
halt_line RunFull = codes "RUN FULL\n"
halt_line Memory = codes "MEMORY\n"

-- the last line of a run; a sink that failed is told nothing more
abbrev pub last_line : End → List ℕ
last_line (Done tally) = codes "END " ++ decimal tally.commands ++ 32 ∷ decimal tally.refused ++ 32 ∷ decimal tally.failed ++ 10 ∷ []
last_line SourceFault = codes "SCRIPT FAULT\n"
last_line SinkFault = []
last_line (Halted halt) = halt_line halt
last_line (TooLong n) = told_number (codes "SCRIPT TOO LONG ") n

-- the exit status of a halt
abbrev pub halt_status : Halt → ℕ
halt_status (LogFault file) = 6
halt_status RunFull = 9
halt_status Memory = 8

-- The exit status of a run: 0 where it was done with nothing refused and no file failed, 1 where it was done with some.
abbrev pub status_of : End → ℕ
status_of (Done tally) = if tally.refused == 0 && tally.failed == 0 then 0 else 1
status_of SourceFault = 3
status_of SinkFault = 4
status_of (Halted halt) = halt_status halt
status_of (TooLong n) = 9

-- The source's count of faults didn't fall, and rose where the run ended at the source.
abbrev pub SourceCause : End → ℕ → ℕ → Type 0
SourceCause (Done tally) before after = before ≤ after
SourceCause SourceFault before after = (before ≤ after) × Rose before after
SourceCause SinkFault before after = before ≤ after
SourceCause (Halted halt) before after = before ≤ after
SourceCause (TooLong n) before after = before ≤ after

-- The sink's count of faults didn't fall, and rose where the run ended at the sink.
abbrev pub SinkCause : End → ℕ → ℕ → Type 0
SinkCause (Done tally) before after = before ≤ after
SinkCause SourceFault before after = before ≤ after
SinkCause SinkFault before after = (before ≤ after) × Rose before after
SinkCause (Halted halt) before after = before ≤ after
SinkCause (TooLong n) before after = before ≤ after

-- where the run was done, nothing is left of the script
abbrev pub DoneAtEnd : End → Option (List ℕ) → Type 0
DoneAtEnd (Done tally) left = IsAtEnd left
DoneAtEnd SourceFault left = Unit {0}
DoneAtEnd SinkFault left = Unit {0}
DoneAtEnd (Halted halt) left = Unit {0}
DoneAtEnd (TooLong n) left = Unit {0}

-- The last line was put into a sink that contained `before`, and the run ended so; or the sink failed, and a front of that
-- line was put.
abbrev pub PutsLast : End → End → Option (List ℕ) → Option (List ℕ) → Type 0
PutsLast end result before after = ((result ≡ end) × Appends before after (last_line end))
    ⊎ ((result ≡ SinkFault) × (count : ℕ) × (count ≤ length (last_line end)) × Appends before after (take count (last_line end)))

-- The sink's count of faults didn't fall, and where the run's end became the sink's fault it rose.
abbrev pub LastCause : End → End → ℕ → ℕ → Type 0
LastCause end result before after = (before ≤ after) × ((result ≡ end) ⊎ Rose before after)
