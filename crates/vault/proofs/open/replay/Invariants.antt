use Rattle.std.proofs.Common.{◌≡◌, ◌-◌, List}
use Rattle.store_api.specs.Told.{Told}
use Rattle.log_file.specs.Starts.{KeepsLeft}
use Rattle.log_file.specs.Windows.{Onward}
use Rattle.log_file.proofs.Starting.{Underway}
use Rattle.entries.specs.declared.entry.Entry.{Entry}
use Rattle.vault.specs.Recovery.{records_in, after_all, AllLegalIn}
use Rattle.vault.specs.Openings.{form_of}
use Rattle.vault.proofs.open.replay.Given as goal

abbrev pub invariant-records : goal.invariant-records
invariant-records g l =
    record {
      entries : List Entry;
      legal : AllLegalIn (form_of l.fn.first) g.D.Database.meaning l.fn.database entries;
      gives : l.database ≡ after_all g.D.Database.meaning l.fn.database entries;
      under : Told (g.S.Store.told l.fn.store) (g.S.Store.told l.store) (Underway l.fn.file l.records (records_in (form_of l.fn.first) entries));
      left : Told (g.S.Store.told l.fn.store) (g.S.Store.told l.store) (KeepsLeft l.fn.file);
      file : l.records.held.file ≡ l.fn.file;
      onward : Onward (g.S.Store.moment_of l.fn.store) (g.S.Store.moment_of l.store) (g.S.Store.faults_of l.fn.store) (g.S.Store.faults_of l.store);
    }

abbrev pub decreases-records : goal.decreases-records
decreases-records g l = l.records.held.len - l.records.at
