use Rattle.std.proofs.Common.{◌≡◌, ◌≤◌, ◌<◌, ◌-◌, ◌+◌, length, take, drop}
use Rattle.store_api.specs.Told.{Told}
use Rattle.log_file.specs.Cursor.{Looked}
use Rattle.log_file.specs.Windows.{IfReads, Onward}
use Rattle.db_image.proofs.reader.read_payload.Given as goal

abbrev pub invariant-pieces : goal.invariant-pieces
invariant-pieces g l =
    record {
      within : l.done ≤ l.len;
      is : l.done ≡ length l.payload.items;
      room : 0 < length l.buffer.items;
      looked : Told (g.S.Store.told l.fn.store) (g.S.Store.told l.store) Looked;
      bytes : IfReads (g.S.Store.told l.fn.store) l.fn.file (λ bytes. 24 + l.len ≤ length bytes → l.payload.items ≡ take l.done (drop 24 bytes));
      onward : Onward (g.S.Store.moment_of l.fn.store) (g.S.Store.moment_of l.store) (g.S.Store.faults_of l.fn.store) (g.S.Store.faults_of l.store);
    }

abbrev pub decreases-pieces : goal.decreases-pieces
decreases-pieces g l = l.len - l.done
