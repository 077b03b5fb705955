use Rattle.std.proofs.Common.{Ok, subst}
use Rattle.store_api.proofs.Runs.{told_map}
use Rattle.store_api.specs.Told.{Told}
use Rattle.store_api.specs.declared.store.Failed.{Failed}
use Rattle.log_file.specs.Sure.{State}
use Rattle.log_file.specs.Steps.{Sealed}
use Rattle.log_file.proofs.Appending.{sealed}
use Rattle.log_file.proofs.writer.Log.seal.Goals as goal

pub returns-in-Ok-clause-told : goal.returns-in-Ok-clause-told
returns-in-Ok-clause-told g c =
    subst (λ (s : State). Told (g.S.Store.told c.args.store.now) (g.S.Store.told c.sync_within.new.store) (Sealed {E = Failed} s.file s.end (Ok tt))) c.self.view_is
    (told_map _ _ _ _ (sealed {F = Failed} c.self.inside.file c.self.inside.end c.in-Ok.field-0 tt) c.in-Ok.ensures.told)
