use Rattle.std.proofs.Common.{subst, sym, IsTrue}
use Rattle.real_edge.proofs.Keeps.{told_from}
use Rattle.real_edge.proofs.Ends.{is_used, worse_then}
use Rattle.real_edge.proofs.store.close.Goals as goal

pub returns-in-Ok-clause-told : goal.returns-in-Ok-clause-told
returns-in-Ok-clause-told g c = told_from (g.F.Files.told c.args.folder.now.files) (g.F.Files.told c.sync_changed.new.self.files) c.in-Ok.ensures.told (λ old new syncs seen named holds.
    syncs c.args.ledger.now seen (is_used c.args.ledger.now c.args.oldest.file c.is_lost.result c.is_lost.ensures c.if-is_lost.false) named holds)

pub returns-clause-told : goal.returns-clause-told
returns-clause-told g c = told_from (g.F.Files.told c.args.folder.now.files) (g.F.Files.told c.sync_changed.new.self.files) c.in-Err.ensures.told (λ old new syncs seen named holds.
    syncs c.args.ledger.now seen (is_used c.args.ledger.now c.args.oldest.file c.is_lost.result c.is_lost.ensures c.if-is_lost.false) named holds c.raise.new.self (worse_then c.args.ledger.now c.lose.new.self c.raise.new.self c.lose.ensures.worse c.raise.ensures.worse)
    (subst IsTrue (sym (c.raise.ensures.lost c.args.oldest.file)) c.lose.ensures.lost))
