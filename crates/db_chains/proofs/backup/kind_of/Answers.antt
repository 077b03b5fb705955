use Rattle.std.proofs.Common.{rules}
use Rattle.backup_payloads.specs.declared.payload.Payload.TheVariants.{Since}
use Rattle.db_chains.proofs.Looking.{none_of_this}
use Rattle.db_chains.proofs.backup.kind_of.Goals as goal

pub returns-else-last_number-number-clause-none : goal.returns-else-last_number-number-clause-none
returns-else-last_number-number-clause-none g c =
    none_of_this {m = g.D.Database.meaning} g.met.D.Database.is_meaning c.args.payload.now c.args.number (Since c.in-Ok-Some-Since.increment) (search rules) (search rules)
