use Rattle.std.proofs.Common.{sym}
use Rattle.inventory_rows.specs.State.{inv_of}
use Rattle.inventory_check.proofs.Distinct.{all_named}
use Rattle.inventory_check.proofs.names.are_named.Goals as goal

pub returns : goal.returns
returns c = sym (all_named (inv_of c.args.tables.now) c.filespaces.ensures.sound c.pools.ensures.apart c.volumes.ensures.sound)
