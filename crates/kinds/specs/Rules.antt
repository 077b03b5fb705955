use Rattle.std.specs.Prelude.{ℕ, Bool, true, ◌&&◌, nat_le}
use Rattle.kinds.specs.declared.rule.ArchiveRule.{ArchiveRule}
use Rattle.kinds.specs.declared.rule.BackupRule.{BackupRule}
use Rattle.kinds.specs.declared.rule.Limit.{Limit}
use Rattle.kinds.specs.declared.rule.Limit.TheVariants.{At, NoLimit}

-- a limit of versions or days is at least `least` and at most `most`, or there is none
abbrev pub is_limit : ℕ → ℕ → Limit → Bool
is_limit least most (At n) = nat_le least n && nat_le n most
is_limit least most NoLimit = true

-- each parameter of a backup copy group is in its range
abbrev pub is_rule : BackupRule → Bool
is_rule r = nat_le r.frequency 9999 && is_limit 1 9999 r.ver_exists && is_limit 0 9999 r.ver_deleted && is_limit 0 9999 r.ret_extra && is_limit 0 9999 r.ret_only

-- an archived object is kept for at most 30,000 days, or without a limit
abbrev pub is_archive_rule : ArchiveRule → Bool
is_archive_rule r = is_limit 0 30000 r.ret_ver
