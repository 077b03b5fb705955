use Rattle.std.proofs.Common.{rules}
use Rattle.inventory_bytes.proofs.Tables.{none_there}
use Rattle.inventory_bytes.proofs.parts.Parts.into_tables.Goals as goal

pub returns-in_default-clause-none : goal.returns-in_default-clause-none
returns-in_default-clause-none c = none_there c.args.self (search rules)
