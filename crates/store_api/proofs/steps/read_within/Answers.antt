use Rattle.store_api.proofs.Ranges.{told_read}
use Rattle.store_api.proofs.steps.read_within.Goals as goal

pub returns-clause-told : goal.returns-clause-told
returns-clause-told g c =
    told_read (g.S.Store.told c.args.store.now) (g.S.Store.told c.read_at.new.self) c.args.file c.args.offset c.read_at.new.into c.read_at.result c.read_at.ensures.bytes c.read_at.ensures.told
