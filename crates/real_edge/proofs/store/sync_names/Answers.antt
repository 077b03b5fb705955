use Rattle.real_edge.proofs.Keeps.{told_from, not_all}
use Rattle.real_edge.proofs.store.sync_names.Goals as goal

pub returns-in-Ok-clause-told : goal.returns-in-Ok-clause-told
returns-in-Ok-clause-told g c = told_from (g.F.Files.told c.args.folder.now.files) (g.F.Files.told c.sync_names.new.self.files) c.in-Ok.ensures.told (λ old new syncs seen holds.
    syncs c.args.ledger.now seen (not_all c.args.ledger.now c.args.file c.requires.used) holds)

pub returns-in-Err-clause-told : goal.returns-in-Err-clause-told
returns-in-Err-clause-told g c = told_from (g.F.Files.told c.args.folder.now.files) (g.F.Files.told c.sync_names.new.self.files) c.in-Err.ensures.told (λ old new syncs seen holds.
    syncs c.args.ledger.now seen (not_all c.args.ledger.now c.args.file c.requires.used) holds c.lose_all.new.self c.lose_all.ensures.worse c.lose_all.ensures.all)
