use Rattle.std.proofs.Common.{sym, ◌∙◌}
use Rattle.inventory_rows.specs.State.{inv_of}
use Rattle.inventory_check.proofs.Walking.{all_of_rules}
use Rattle.inventory_check.proofs.policy.rules_cite.Goals as goal

pub returns : goal.returns
returns c = c.domains_cite.ensures ∙ sym (all_of_rules (inv_of c.args.tables.now))
