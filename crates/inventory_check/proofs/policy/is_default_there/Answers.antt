use Rattle.std.proofs.Common.{◌≡◌, ℕ, List, Option, Some, is_some, ap, ◌∙◌}
use Rattle.inventory_rows.specs.policy_domains.Rows.{SetRow, row_of}
use Rattle.inventory_rules.specs.Valid.{is_default_there}
use Rattle.inventory_check.proofs.policy.is_default_there.Goals as goal

default_found : (name class : List ℕ) (set : SetRow) → Some class ≡ set.default_class → is_some (row_of class set.classes) ≡ is_default_there name set
default_found name class set e = ap (λ (o : Option (List ℕ)). is_default_there name (record set { default_class = o })) e

pub returns-in-Some : goal.returns-in-Some
returns-in-Some c = c.has_class.ensures ∙ default_found c.args.name.now c.in-Some.class.now c.args.set.now c.in-Some.ensures
