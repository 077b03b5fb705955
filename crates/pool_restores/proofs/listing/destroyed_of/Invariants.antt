use Rattle.std.proofs.Common.{◌≡◌, ◌++◌, drop}
use Rattle.std.specs.List.{flat_map}
use Rattle.pool_restores.specs.Listing.{destroyed_file}
use Rattle.pool_restores.proofs.listing.destroyed_of.Given as goal

abbrev pub invariant-lines : goal.invariant-lines
invariant-lines l = l.files.items ++ flat_map destroyed_file (drop l.line-index l.lines) ≡ flat_map destroyed_file l.lines
