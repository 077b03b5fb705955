use Rattle.std.proofs.Common.{◌≡◌, ◌≤◌, ◌-◌, ◌+◌}
use Rattle.store_api.specs.Told.{Told}
use Rattle.log_file.specs.Cursor.{Shows, Looked}
use Rattle.log_file.specs.Windows.{IfReads, Onward, between}
use Rattle.log_file.proofs.window.Window.payload.Given as goal

abbrev pub invariant-pieces : goal.invariant-pieces
invariant-pieces g l =
    record {
      low : l.at + 5 ≤ l.place;
      high : l.place ≤ l.end;
      end : l.end ≡ l.at + (5 + l.len);
      file : l.self.file ≡ l.fn.self.file;
      len : l.self.len ≡ l.fn.self.len;
      looked : Told (g.S.Store.told l.fn.store) (g.S.Store.told l.store) Looked;
      shows : IfReads (g.S.Store.told l.fn.store) l.fn.self.file (λ bytes. Shows bytes l.fn.self → Shows bytes l.self);
      bytes : IfReads (g.S.Store.told l.fn.store) l.fn.self.file (λ bytes. Shows bytes l.fn.self → l.payload.items ≡ between bytes (l.at + 5) l.place);
      onward : Onward (g.S.Store.moment_of l.fn.store) (g.S.Store.moment_of l.store) (g.S.Store.faults_of l.fn.store) (g.S.Store.faults_of l.store);
    }

abbrev pub decreases-pieces : goal.decreases-pieces
decreases-pieces g l = l.end - l.place
