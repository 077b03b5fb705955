use Rattle.std.proofs.Common.{◌≡◌, drop}
use Rattle.pool_restores.specs.Listing.{AreWanted, with_all}
use Rattle.pool_restores.proofs.listing.add_all.Given as goal

-- with the copies that are left these are wanted in the end, and what is known is of those that are wanted
abbrev pub invariant-lines : goal.invariant-lines
invariant-lines l = record {
  adds : with_all l.pool (drop l.line-index l.lines) l.wanted.items ≡ with_all l.pool l.lines l.fn.wanted.items;
  known : AreWanted l.known.keys l.wanted.items;
}
