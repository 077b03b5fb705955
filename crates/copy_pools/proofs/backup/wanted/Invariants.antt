use Rattle.std.proofs.Common.{◌≡◌, map, take}
use Rattle.copy_pools.specs.Backups.{further}
use Rattle.copy_pools.proofs.backup.wanted.Given as goal

-- the copies so far are those of the objects so far
abbrev pub invariant-lines : goal.invariant-lines
invariant-lines l = l.wanted.items ≡ map (further l.copy) (take l.line-index l.lines)
