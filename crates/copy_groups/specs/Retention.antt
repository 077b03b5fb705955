-- Which versions of a file a rule retains, and until when archived objects are kept. A group's versions stand newest first, at places 0, 1 and so on.
use Rattle.std.specs.Prelude.{ℕ, ◌-◌, Bool, true, false, not, ◌==◌, ◌&&◌, ◌||◌, nat_lt, if◌then◌else◌, Option, Some, None, List, length, slice_index, drop, filter, reverse}
use Rattle.std.specs.List.{range_with_len}
use Rattle.kinds.specs.declared.rule.BackupRule.{BackupRule}
use Rattle.kinds.specs.declared.rule.Limit.{Limit}
use Rattle.kinds.specs.declared.rule.Limit.TheVariants.{At, NoLimit}
use Rattle.kinds.specs.declared.rule.RuleFound.{RuleFound}
use Rattle.kinds.specs.declared.rule.RuleFound.TheVariants.{Own, Default, Grace}

-- a number is below the limit; every number is where there is none
abbrev pub is_below : Limit → ℕ → Bool
is_below (At n) k = nat_lt k n
is_below NoLimit k = true

-- a copy group keeps the version at this place that has been inactive for so many days. Where the file is there, VEREXISTS
-- and RETEXTRA rule; where it is gone, VERDELETED rules with RETONLY for the newest version and RETEXTRA for the others
abbrev pub is_kept : BackupRule → Bool → ℕ → ℕ → Bool
is_kept r true days place = is_below r.ver_exists place && is_below r.ret_extra days
is_kept r false days place = is_below r.ver_deleted place && is_below (if place == 0 then r.ret_only else r.ret_extra) days

-- the rule that was found keeps it: under a grace period the days alone count
abbrev pub is_kept_by : RuleFound → Bool → ℕ → ℕ → Bool
is_kept_by (Own r) active days place = is_kept r active days place
is_kept_by (Default r) active days place = is_kept r active days place
is_kept_by (Grace n) active days place = nat_lt days n

-- a version is the active one: the newest of a file that is there
abbrev pub is_active : Bool → ℕ → Bool
is_active active place = active && place == 0

-- a version is retained: the active one always, the others by the rule and the days since they became inactive
abbrev pub retained : RuleFound → Bool → ℕ → ℕ → ℕ → Bool
retained rule active since today place = is_active active place || is_kept_by rule active (today - since) place

-- A version is owed by the rule that was found for it: each one where there is none, an active version, which has no day from which it is inactive,
-- and one that is inactive since a day where the rule retains it today.
abbrev pub is_owed : Option RuleFound → Bool → Option ℕ → ℕ → ℕ → Bool
is_owed None active since today place = true
is_owed (Some rule) active None today place = true
is_owed (Some rule) active (Some since) today place = retained rule active since today place

-- the days of a group's inactive versions
abbrev pub inactive : Bool → List ℕ → List ℕ
inactive active since = if active then drop 1 since else since

-- of a group's versions, with their days newest first, the one at this place isn't retained
abbrev pub is_unretained : RuleFound → Bool → List ℕ → ℕ → ℕ → Bool
is_unretained rule active since today place = not (retained rule active (slice_index since place) today place)

-- the places of a group's versions that aren't retained, in descending order
abbrev pub unretained : RuleFound → Bool → List ℕ → ℕ → List ℕ
unretained rule active since today = reverse (filter (is_unretained rule active since today) (range_with_len 0 (length since)))

-- an archived object that is kept until a day, or without a limit, is owed before that day
abbrev pub is_held_on : ℕ → Option ℕ → Bool
is_held_on today None = true
is_held_on today (Some day) = nat_lt today day
