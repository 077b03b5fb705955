use Rattle.std.proofs.Common.{◌≡◌, ℕ, ◌<◌, get_or, true}
use Rattle.files_api.specs.Folder.{LeavesFile}
use Rattle.mem_files.specs.declared.entries.Entry.{Entry}
use Rattle.mem_files.specs.Entries.{is_at_rest}
use Rattle.mem_files.proofs.Lists.{PairsUpTo}
use Rattle.mem_files.proofs.entries.stop_all.Given as goal

-- The entries that were passed have what a stop leaves of what they had, and all of it is on the disk.
abbrev pub invariant-entries : goal.invariant-entries
invariant-entries l =
    record {
      left : PairsUpTo LeavesFile l.at l.fn.entries.items l.entries.items;
      rest : (k : ℕ) (other : Entry) → k < l.at → is_at_rest (get_or l.entries.items k other).body ≡ true;
    }
