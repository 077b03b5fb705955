use Rattle.store_api.specs.Told.{Told}
use Rattle.log_file.specs.Windows.{Onward}
use Rattle.db_chains.specs.Walks.{GoesBack}
use Rattle.db_chains.proofs.back.go_back.Given as goal

abbrev pub invariant-files : goal.invariant-files
invariant-files g l =
    record {
      told : Told (g.S.Store.told l.fn.store) (g.S.Store.told l.store) (GoesBack g.D.Database.meaning l.fn.file l.links.items l.at l.asked);
      onward : Onward (g.S.Store.moment_of l.fn.store) (g.S.Store.moment_of l.store) (g.S.Store.faults_of l.fn.store) (g.S.Store.faults_of l.store);
    }

abbrev pub decreases-files : goal.decreases-files
decreases-files g l = l.at
