use Rattle.std.proofs.Common.{sym, ◌∙◌}
use Rattle.inventory_check.proofs.Apart.{keys_apart}
use Rattle.inventory_check.proofs.numbers.files_apart.Goals as goal

pub returns : goal.returns
returns c = c.none_is_of.ensures ∙ sym (keys_apart c.args.volumes.now.entries c.args.backups.now.entries c.len-volumes.ensures.ordered c.len-backups.ensures.ordered)
