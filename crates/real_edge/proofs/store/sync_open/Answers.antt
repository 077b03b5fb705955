use Rattle.std.proofs.Common.{refl}
use Rattle.real_edge.proofs.Keeps.{told_from}
use Rattle.real_edge.proofs.Ends.{holds_pool}
use Rattle.real_edge.proofs.store.sync_open.Goals as goal

pub returns-in-Ok-clause-told : goal.returns-in-Ok-clause-told
returns-in-Ok-clause-told g c = told_from (g.F.Files.told c.args.folder.now.files) (g.F.Files.told c.sync_changed.new.self.files) c.in-Ok.ensures.told (λ old new syncs faults seen used named holds.
    let synced = syncs faults seen used named holds in
    holds_pool refl refl (c.keep.ensures.named g.F.Files.label_of synced.named named) synced)
