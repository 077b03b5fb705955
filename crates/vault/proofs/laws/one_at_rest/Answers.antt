use Rattle.vault.proofs.Resting.{one_at_rest}
use Rattle.vault.proofs.laws.one_at_rest.Goals as goal

pub returns : goal.returns
returns g c h d files rests sound recovers here = one_at_rest g.D.Database.meaning g.met.D.Database.is_meaning h rests sound d files recovers here
