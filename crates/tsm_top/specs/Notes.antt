-- What is noted of the lines of a script.
use Rattle.std.specs.Prelude.{ℕ, ◌+◌, ◌-◌, ◌^◌, ◌==◌, min, if◌then◌else◌, Option, List, [], ◌∷◌, ◌++◌}
use Rattle.kinds.specs.declared.refusal.Refusal.{Refusal}
use Rattle.machine.specs.State.{Machine, inventory}
use Rattle.block_results.specs.command_steps.Lines.{Line, asks, comment, refused}
use Rattle.block_results.specs.line_jobs.declared.job.Said.{Said}
use Rattle.tsm_top.specs.declared.note.Note.{Note}

-- the number of the last transaction
abbrev pub number_in : Machine → ℕ
number_in m = (inventory m.core).number

-- the number of the last transaction that this run made, where the first has the number behind `first`; 0 where it made none
abbrev pub last_made : (first now : ℕ) → ℕ
last_made first now = if now == first then 0 else now

-- The note of line n: the number of the last transaction before the line, that of the run's last one after it, and why the line was refused.
abbrev pub note_of : (n first before after : ℕ) → Option Refusal → Note
note_of n first before after why = record { line = n; actor = 0; n = before; last = last_made first after; refused = why }

-- the notes after a line: a comment adds none
abbrev pub with_note : Line → Note → List Note → List Note
with_note comment note notes = notes
with_note (refused why) note notes = notes ++ note ∷ []
with_note (asks command) note notes = notes ++ note ∷ []

-- ---- in a block

-- The note of a line of a block, of which this was said, whose first job's actor has the number `first`: its actor, and the number of the last transaction before the block and of the one behind its jobs.
abbrev pub note_in_block : (first before after : ℕ) → Said → Note
note_in_block first before after s = record { line = s.number; actor = min (first + s.job) (2 ^ 32 - 1); n = before; last = after; refused = s.why }

-- the notes of the lines of a block, of which this was said: a comment, which counts as no command, has none
abbrev pub notes_of : (first before after : ℕ) → List Said → List Note
notes_of first before after [] = []
notes_of first before after (s ∷ said) =
    if s.reply.tally.commands == 0 then notes_of first before after said else note_in_block first before after s ∷ notes_of first before after said
