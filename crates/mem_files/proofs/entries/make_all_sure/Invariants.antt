use Rattle.std.proofs.Common.{◌≡◌, true}
use Rattle.files_api.specs.Folder.{File}
use Rattle.mem_files.proofs.Lists.{PairsUpTo}
use Rattle.mem_files.proofs.entries.make_all_sure.Given as goal

-- The entries that were passed are sure.
abbrev pub invariant-entries : goal.invariant-entries
invariant-entries l = PairsUpTo (λ (old new : File). new ≡ record old { is_sure = true }) l.at l.fn.entries.items l.entries.items
