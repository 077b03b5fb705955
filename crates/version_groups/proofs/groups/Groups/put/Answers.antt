use Rattle.std.proofs.Common.{◌≡◌, ◌+◌, ◌∷◌, List, ℕ, Ok, subst}
use Rattle.kinds.specs.Answers.{Becomes}
use Rattle.version_groups.specs.declared.group.Group.{Group}
use Rattle.version_groups.specs.Groups.{AreByPath, UndoGivesBack, VersionsBecome, count_of, groups_with, versions_at}
use Rattle.version_groups.specs.Versions.{superseded}
use Rattle.version_groups.proofs.Laws.{Becomes-ok, put-becomes, put-counts, put-undone}
use Rattle.version_groups.proofs.groups.Groups.put.Goals as goal

pub returns-clause-versions : goal.returns-clause-versions
returns-clause-versions c =
    Becomes-ok (λ (new : List (List ℕ × Group)). VersionsBecome c.args.path.now (c.args.version ∷ superseded c.args.version.stored (versions_at c.args.path.now c.args.self.now)) c.args.self.now new) c.put.result c.args.self.now c.put.new.map.entries
    (groups_with c.args.path.now c.args.class c.args.version c.args.self.now) (subst (λ (s : List (List ℕ × Group)). Becomes c.put.result s c.put.new.map.entries (Ok (groups_with c.args.path.now c.args.class c.args.version s))) c.self.view_is c.put.ensures.value)
    (put-becomes c.args.path.now c.args.class c.args.version c.args.self.now (subst AreByPath c.self.view_is c.self.invariant))

pub returns-clause-count : goal.returns-clause-count
returns-clause-count c =
    Becomes-ok (λ (new : List (List ℕ × Group)). count_of new ≡ count_of c.args.self.now + 1) c.put.result c.args.self.now c.put.new.map.entries
    (groups_with c.args.path.now c.args.class c.args.version c.args.self.now) (subst (λ (s : List (List ℕ × Group)). Becomes c.put.result s c.put.new.map.entries (Ok (groups_with c.args.path.now c.args.class c.args.version s))) c.self.view_is c.put.ensures.value)
    (put-counts c.args.path.now c.args.class c.args.version c.args.self.now (subst AreByPath c.self.view_is c.self.invariant))

pub returns-clause-undone : goal.returns-clause-undone
returns-clause-undone c =
    Becomes-ok (λ (new : List (List ℕ × Group)). UndoGivesBack c.args.path.now c.args.self.now new) c.put.result c.args.self.now c.put.new.map.entries
    (groups_with c.args.path.now c.args.class c.args.version c.args.self.now) (subst (λ (s : List (List ℕ × Group)). Becomes c.put.result s c.put.new.map.entries (Ok (groups_with c.args.path.now c.args.class c.args.version s))) c.self.view_is c.put.ensures.value)
    (put-undone c.args.path.now c.args.class c.args.version c.args.self.now (subst AreByPath c.self.view_is c.self.invariant))
