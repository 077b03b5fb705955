use Rattle.std.proofs.Common.{Err}
use Rattle.hall.proofs.Fresh.{begun_good, begun_opens, begun_told}
use Rattle.hall.proofs.Sound.{told_memory, told_opened}
use Rattle.hall.proofs.hall.Hall.open.Goals as goal

pub returns-in-Err-clause-files : goal.returns-in-Err-clause-files
returns-in-Err-clause-files g c = told_opened (Err c.in-Err.refused) (g.S.Store.told c.args.store) (g.S.Store.told c.open.new.store) c.in-Err.ensures.told

pub invariant_of-result : goal.invariant_of-result
invariant_of-result g c =
    begun_good g.S.Store.told g.S.Store.moment_of g.S.Store.faults_of g.met.S.Store.clock c.args.store c.open.new.store c.in-Ok-begun.parts c.moment.result c.in-Ok.vault c.moment.ensures c.in-Ok-begun.ensures.fresh
    c.in-Ok-begun.ensures.vault c.in-Ok-begun.ensures.valid c.in-Ok-begun.ensures.tied c.in-Ok.ensures.told

pub returns-in-Ok-begun-clause-opens : goal.returns-in-Ok-begun-clause-opens
returns-in-Ok-begun-clause-opens g c =
    begun_opens g.S.Store.told g.S.Store.moment_of g.S.Store.faults_of g.met.S.Store.clock c.args.store c.open.new.store c.in-Ok-begun.parts c.moment.result c.in-Ok.vault c.moment.ensures c.in-Ok-begun.ensures.fresh
    c.in-Ok-begun.ensures.vault c.in-Ok-begun.ensures.valid c.in-Ok-begun.ensures.tied c.in-Ok.ensures.told

pub returns-in-Ok-begun-clause-files : goal.returns-in-Ok-begun-clause-files
returns-in-Ok-begun-clause-files g c =
    begun_told g.S.Store.told g.S.Store.moment_of g.S.Store.faults_of g.met.S.Store.clock c.args.store c.open.new.store c.in-Ok-begun.parts c.moment.result c.in-Ok.vault c.moment.ensures c.in-Ok-begun.ensures.fresh
    c.in-Ok-begun.ensures.vault c.in-Ok-begun.ensures.valid c.in-Ok-begun.ensures.tied c.in-Ok.ensures.told

pub returns-in-Err-begun-clause-files : goal.returns-in-Err-begun-clause-files
returns-in-Err-begun-clause-files g c = told_memory c.in-Ok.vault (g.S.Store.told c.args.store) (g.S.Store.told c.open.new.store) c.in-Ok.ensures.told
