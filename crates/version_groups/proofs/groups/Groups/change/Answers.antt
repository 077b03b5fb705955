use Rattle.std.proofs.Common.{◌≡◌, ◌+◌, List, ℕ, subst}
use Rattle.std.specs.Result.{OnOk}
use Rattle.kinds.specs.Answers.{Makes}
use Rattle.version_groups.specs.declared.group.Group.{Group}
use Rattle.version_groups.specs.Groups.{AreByPath, TakesAway, taken, VersionsBecome, count_of, groups_after, versions_after, versions_at}
use Rattle.version_groups.proofs.Laws.{Makes-ok, Makes-both, after-becomes, counts-taken}
use Rattle.version_groups.proofs.groups.Groups.change.Goals as goal

pub returns-clause-versions : goal.returns-clause-versions
returns-clause-versions c =
    Makes-ok (λ (new : List (List ℕ × Group)). VersionsBecome c.args.path.now (versions_after c.args.change (versions_at c.args.path.now c.args.self.now)) c.args.self.now new) c.change_group.result c.args.self.now c.change_group.new.map.entries
    (groups_after c.args.path.now c.args.change c.args.self.now) (subst (λ (s : List (List ℕ × Group)). Makes c.change_group.result s c.change_group.new.map.entries (groups_after c.args.path.now c.args.change s)) c.self.view_is c.change_group.ensures.value)
    (λ new h. after-becomes c.args.path.now c.args.change c.args.self.now new (subst AreByPath c.self.view_is c.self.invariant) h)

pub returns-clause-count : goal.returns-clause-count
returns-clause-count c =
    Makes-both (λ (new : List (List ℕ × Group)). count_of new + taken c.args.change (versions_at c.args.path.now c.args.self.now) ≡ count_of c.args.self.now) (TakesAway c.args.change (versions_at c.args.path.now c.args.self.now)) c.change_group.result c.args.self.now c.change_group.new.map.entries
    (groups_after c.args.path.now c.args.change c.args.self.now) (subst (λ (s : List (List ℕ × Group)). Makes c.change_group.result s c.change_group.new.map.entries (groups_after c.args.path.now c.args.change s)) c.self.view_is c.change_group.ensures.value)
    (subst (λ (s : List (List ℕ × Group)). OnOk c.change_group.result (TakesAway c.args.change (versions_at c.args.path.now s))) c.self.view_is c.change_group.ensures.taken)
    (λ new t h. counts-taken c.args.path.now c.args.change c.args.self.now new t h)
