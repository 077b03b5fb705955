use Rattle.std.proofs.Common.{refl, ap, replicate, ◌++◌}
use Rattle.store_api.specs.Disk.{idle}
use Rattle.mem_store.proofs.Told.{same_history}
use Rattle.mem_store.proofs.mem.MemStore.keep.Goals as goal

pub returns-in-Err-clause-err : goal.returns-in-Err-clause-err
returns-in-Err-clause-err c =
    let m = c.args.self.now in
    (same_history _ _ m.began _ _ c.in-Err.ensures.first (ap (λ cs. replicate m.idles idle ++ cs) c.in-Err.ensures.err.0), refl)
