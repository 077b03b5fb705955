-- A limit that is raised takes no version away.
use Rattle.std.proofs.Common.{◌≡◌, ℕ, ◌≤◌, ◌-◌, Bool, true, false, IsTrue, ◌==◌, ◌&&◌, ◌||◌, if◌then◌else◌, refl, rules, arith}
use Rattle.std.proofs.lemmas.Grind.{common_steps}
use Rattle.std.proofs.lemmas.Bool.Decides.{nat_tests}
use Rattle.kinds.specs.declared.rule.BackupRule.{BackupRule}
use Rattle.kinds.specs.declared.rule.Limit.{Limit}
use Rattle.kinds.specs.declared.rule.Limit.TheVariants.{At, NoLimit}
use Rattle.kinds.specs.declared.rule.RuleFound.{RuleFound}
use Rattle.kinds.specs.declared.rule.RuleFound.TheVariants.{Own, Default, Grace}
use Rattle.copy_groups.specs.Retention.{is_below, is_kept, is_kept_by, is_active, retained}
use Rattle.copy_groups.specs.Laws.{IsNotLower, IsNotTighter, IsNotTighterRule}

both : (p q a b : Bool) → (IsTrue p → IsTrue a) → (IsTrue q → IsTrue b) → IsTrue (p && q) → IsTrue (a && b)
both true true a b f g h = grind (arith, f refl, g refl)
both true false a b f g h = absurd (cc)
both false q a b f g h = absurd (cc)

either : (p a b : Bool) → (IsTrue a → IsTrue b) → IsTrue (p || a) → IsTrue (p || b)
either true a b f h = refl
either false a b f h = f h

is_below-raised : (a b : Limit) (k : ℕ) → IsNotLower a b → IsTrue (is_below a k) → IsTrue (is_below b k)
is_below-raised (At m) (At n) k le h = grind (arith, nat_tests)
is_below-raised (At m) NoLimit k le h = refl
is_below-raised NoLimit (At n) k le h = absurd le
is_below-raised NoLimit NoLimit k le h = refl

is_kept-wider : (r s : BackupRule) → IsNotTighter r s → (active : Bool) (days place : ℕ) → IsTrue (is_kept r active days place) → IsTrue (is_kept s active days place)
is_kept-wider r s w true days place =
    both _ _ _ _ (is_below-raised r.ver_exists s.ver_exists place w.ver_exists) (is_below-raised r.ret_extra s.ret_extra days w.ret_extra)
is_kept-wider r s w false days place =
    both _ _ _ _ (is_below-raised r.ver_deleted s.ver_deleted place w.ver_deleted)
    (elim (place == 0) as (λ b. IsTrue (is_below (if b then r.ret_only else r.ret_extra) days) → IsTrue (is_below (if b then s.ret_only else s.ret_extra) days)) [
      | true ↦ is_below-raised r.ret_only s.ret_only days w.ret_only
      | false ↦ is_below-raised r.ret_extra s.ret_extra days w.ret_extra
    ])

is_kept_by-wider : (r s : RuleFound) → IsNotTighterRule r s → (active : Bool) (days place : ℕ) → IsTrue (is_kept_by r active days place) → IsTrue (is_kept_by s active days place)
is_kept_by-wider (Own r) (Own s) w = is_kept-wider r s w
is_kept_by-wider (Own r) (Default s) w = is_kept-wider r s w
is_kept_by-wider (Default r) (Own s) w = is_kept-wider r s w
is_kept_by-wider (Default r) (Default s) w = is_kept-wider r s w
is_kept_by-wider (Grace m) (Grace n) w = λ active days place h. is_below-raised (At m) (At n) days w h
is_kept_by-wider (Own r) (Grace n) w = absurd w
is_kept_by-wider (Default r) (Grace n) w = absurd w
is_kept_by-wider (Grace m) (Own s) w = absurd w
is_kept_by-wider (Grace m) (Default s) w = absurd w

-- a version that is retained stays so under a rule that is not tighter
pub retained_wider : (rule other : RuleFound) → IsNotTighterRule rule other → (active : Bool) (since today place : ℕ)
    → IsTrue (retained rule active since today place) → IsTrue (retained other active since today place)
retained_wider rule other w active since today place =
    either (is_active active place) _ _ (is_kept_by-wider rule other w active (today - since) place)
