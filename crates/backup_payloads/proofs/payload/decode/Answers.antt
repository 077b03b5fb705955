use Rattle.backup_payloads.proofs.OnePayload.{only_since}
use Rattle.backup_payloads.proofs.payload.decode.Goals as goal

pub returns-in-Some-clause-only : goal.returns-in-Some-clause-only
returns-in-Some-clause-only g c = only_since g.met.D.Database.is_meaning c.args.bytes.now c.in-Some.increment c.in-Some.ensures.found c.in-Some.ensures.alone
