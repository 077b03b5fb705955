use Rattle.std.proofs.Common.{map, string_bytes}
use Rattle.mem_files.specs.Lists.{Listed}
use Rattle.mem_files.proofs.list.names_of.Given as goal

-- The names of the files that were passed are listed.
abbrev pub invariant-entries : goal.invariant-entries
invariant-entries l = Listed l.at l.entries (map string_bytes l.names.items)
