use Rattle.std.proofs.Common.{◌∙◌}
use Rattle.db_losses.proofs.Building.{insert_last}
use Rattle.db_losses.proofs.left.put_last.Goals as goal

pub returns-clause-put : goal.returns-clause-put
returns-clause-put g c = c.in_ok-insert.ensures.entries ∙ insert_last g.K.Ord.cmp c.args.out.now.entries c.args.key c.args.value c.requires
