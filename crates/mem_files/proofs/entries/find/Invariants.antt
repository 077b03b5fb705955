use Rattle.std.proofs.Common.{◌≡◌, ℕ, ◌<◌, get_or, false}
use Rattle.mem_files.specs.declared.entries.Entry.{Entry}
use Rattle.mem_files.specs.Entries.{has_name}
use Rattle.mem_files.proofs.entries.find.Given as goal

-- No entry that was passed has the name.
abbrev pub invariant-entries : goal.invariant-entries
invariant-entries l = (k : ℕ) (other : Entry) → k < l.at → has_name l.name (get_or l.entries k other) ≡ false
