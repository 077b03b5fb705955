use Rattle.std.proofs.Common.{◌≡◌, List, ℕ, subst}
use Rattle.policy_domains.specs.Laws.{IsOfSets}
use Rattle.policy_domains.specs.Rows.{DomainRow}
use Rattle.policy_domains.specs.Rules.{rule_of, archive_of}
use Rattle.policy_domains.proofs.Ascends.{ascends}
use Rattle.policy_domains.proofs.Unbound.{unbound, unarchived}
use Rattle.policy_domains.proofs.table.Domains.change.Goals as goal

pub returns-clause-unbound : goal.returns-clause-unbound
returns-clause-unbound c =
    subst (λ (old : List (List ℕ × DomainRow)). IsOfSets c.args.change.now → (domain class : List ℕ) → rule_of c.change_rows.new.rows.entries domain class ≡ rule_of old domain class) c.self.view_is
    (unbound c.args.change.now c.change_rows.result c.self.inside.rows.entries c.change_rows.new.rows.entries c.requires c.change_rows.ensures)

pub returns-clause-unarchived : goal.returns-clause-unarchived
returns-clause-unarchived c =
    subst (λ (old : List (List ℕ × DomainRow)). IsOfSets c.args.change.now → (domain class : List ℕ) → archive_of c.change_rows.new.rows.entries domain class ≡ archive_of old domain class) c.self.view_is
    (unarchived c.args.change.now c.change_rows.result c.self.inside.rows.entries c.change_rows.new.rows.entries c.requires c.change_rows.ensures)

pub invariant_of-self : goal.invariant_of-self
invariant_of-self c = (c.self.invariant.0, ascends c.args.change.now c.change_rows.result c.self.inside.rows.entries c.change_rows.new.rows.entries c.change_rows.ensures c.self.invariant.1)
