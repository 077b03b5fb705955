use Rattle.std.proofs.Common.{sym, ap, ◌∙◌}
use Rattle.inventory_rows.specs.State.{inv_of}
use Rattle.inventory_refusals.specs.Users.{domains_go_to}
use Rattle.inventory_refusals.proofs.Users.{destination_found}
use Rattle.inventory_refusals.proofs.rules.is_destination.Goals as goal

pub returns : goal.returns
returns c = c.domains_go_to.ensures ∙ ap (domains_go_to c.args.pool) c.rows.ensures ∙ sym (destination_found c.args.pool (inv_of c.args.tables.now))
