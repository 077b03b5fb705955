use Rattle.std.proofs.Common.{◌∙◌, Some, ap}
use Rattle.hall.proofs.Frames.{told_here}
use Rattle.hall.proofs.Syncs.{once_again}
use Rattle.hall.proofs.frame_calls.sync_once.Goals as goal

pub returns-in-Some-clause-told : goal.returns-in-Some-clause-told
returns-in-Some-clause-told g c = told_here _ (g.S.Store.told c.args.store.now) (λ h. once_again tt c.args.last c.args.file h (c.in-Some.is ∙ ap Some c.if-synced-file.true))
