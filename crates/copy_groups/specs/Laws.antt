-- How one rule compares to another in what it retains.
use Rattle.std.specs.Prelude.{ℕ, ◌≤◌, ⊤, ◌≡◌}
use Rattle.kinds.specs.declared.rule.BackupRule.{BackupRule}
use Rattle.kinds.specs.declared.rule.Limit.{Limit}
use Rattle.kinds.specs.declared.rule.Limit.TheVariants.{At, NoLimit}
use Rattle.kinds.specs.declared.rule.RuleFound.{RuleFound}
use Rattle.kinds.specs.declared.rule.RuleFound.TheVariants.{Own, Default, Grace}

-- a limit is not lowered: NOLIMIT is above every number
abbrev pub IsNotLower : Limit → Limit → Type 0
IsNotLower (At m) (At n) = m ≤ n
IsNotLower (At m) NoLimit = ⊤
IsNotLower NoLimit (At n) = ⊥
IsNotLower NoLimit NoLimit = ⊤

-- no number of versions is lower and no retention is shorter in the second copy group
pub record IsNotTighter (r s : BackupRule) : Type 0 where
  pub ver_exists : IsNotLower r.ver_exists s.ver_exists
  pub ver_deleted : IsNotLower r.ver_deleted s.ver_deleted
  pub ret_extra : IsNotLower r.ret_extra s.ret_extra
  pub ret_only : IsNotLower r.ret_only s.ret_only

-- the same of two rules that were found, of which either may be a class's own or the default one; of grace periods the days count
abbrev pub IsNotTighterRule : RuleFound → RuleFound → Type 0
IsNotTighterRule (Own r) (Own s) = IsNotTighter r s
IsNotTighterRule (Own r) (Default s) = IsNotTighter r s
IsNotTighterRule (Default r) (Own s) = IsNotTighter r s
IsNotTighterRule (Default r) (Default s) = IsNotTighter r s
IsNotTighterRule (Grace m) (Grace n) = m ≤ n
IsNotTighterRule (Own r) (Grace n) = ⊥
IsNotTighterRule (Default r) (Grace n) = ⊥
IsNotTighterRule (Grace m) (Own s) = ⊥
IsNotTighterRule (Grace m) (Default s) = ⊥

-- each limit of a copy group is NOLIMIT
pub record HasNoLimit (r : BackupRule) : Type 0 where
  pub ver_exists : r.ver_exists ≡ NoLimit
  pub ver_deleted : r.ver_deleted ≡ NoLimit
  pub ret_extra : r.ret_extra ≡ NoLimit
  pub ret_only : r.ret_only ≡ NoLimit

-- the same of a rule that was found; a grace period has an end
abbrev pub HasNoLimitRule : RuleFound → Type 0
HasNoLimitRule (Own r) = HasNoLimit r
HasNoLimitRule (Default r) = HasNoLimit r
HasNoLimitRule (Grace n) = ⊥
