use Rattle.std.proofs.Common.{◌≡◌, List, ℕ, refl, subst}
use Rattle.version_groups.specs.declared.group.Group.{Group}
use Rattle.version_groups.specs.Copies.{Alters}
use Rattle.version_groups.specs.Groups.{ObjectsStay, count_of, groups_altered}
use Rattle.version_groups.proofs.Altered.{Alters-keeps}
use Rattle.version_groups.proofs.Laws.{altered-stays, altered-counts}
use Rattle.version_groups.proofs.groups.Groups.alter.Goals as goal

pub returns-clause-objects : goal.returns-clause-objects
returns-clause-objects c =
    Alters-keeps (λ (new : List (List ℕ × Group)). ObjectsStay c.args.self.now new) c.args.change c.alter_at.result c.args.self.now c.alter_at.new.map.entries
    (groups_altered c.args.path.now c.args.object c.args.change c.args.self.now) (λ q n. refl)
    (λ new h. altered-stays c.args.path.now c.args.object c.args.change c.args.self.now new h) (subst (λ (s : List (List ℕ × Group)). Alters c.args.change c.alter_at.result s c.alter_at.new.map.entries (groups_altered c.args.path.now c.args.object c.args.change s)) c.self.view_is c.alter_at.ensures.value)

pub returns-clause-count : goal.returns-clause-count
returns-clause-count c =
    Alters-keeps (λ (new : List (List ℕ × Group)). count_of new ≡ count_of c.args.self.now) c.args.change c.alter_at.result c.args.self.now c.alter_at.new.map.entries
    (groups_altered c.args.path.now c.args.object c.args.change c.args.self.now) refl
    (λ new h. altered-counts c.args.path.now c.args.object c.args.change c.args.self.now new h) (subst (λ (s : List (List ℕ × Group)). Alters c.args.change c.alter_at.result s c.alter_at.new.map.entries (groups_altered c.args.path.now c.args.object c.args.change s)) c.self.view_is c.alter_at.ensures.value)
