-- The journal of a run.
use Rattle.std.specs.Prelude.{◌≤◌, ◌^◌, length}
use Rattle.entries.specs.declared.entry.Entry.{Entry}
use Rattle.entries.specs.EntryForm.{entry}

-- an entry has few enough bytes for a record
abbrev pub IsShort : Entry → Type 0
IsShort e = length (entry.spell e) ≤ 2 ^ 24
