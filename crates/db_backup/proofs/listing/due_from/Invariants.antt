use Rattle.std.proofs.Common.{◌≡◌, ◌++◌, drop}
use Rattle.std.specs.List.{flat_map}
use Rattle.db_backup.specs.Listing.{due_file, due_from}
use Rattle.db_backup.proofs.listing.due_from.Given as goal

-- those so far, and those that are left
abbrev pub invariant-lines : goal.invariant-lines
invariant-lines l = l.files.items ++ flat_map (due_file l.fn.to l.lines l.from) (drop l.line-index l.lines) ≡ due_from l.fn.to l.lines l.from
