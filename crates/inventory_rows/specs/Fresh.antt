-- The database of a server that was just formatted.
use Rattle.std.specs.Prelude.{ℕ, List, []}
use Rattle.policy_domains.specs.Fresh as policy
use Rattle.pool_rows.specs.PoolRows as stores
use Rattle.inventory_rows.specs.State.{Inv}

-- no transaction was made; the domain STANDARD; the device class DISK and the pool BACKUPPOOL; no node, filespace, held object, volume or backup
abbrev pub fresh : Inv
fresh = record {
  number = 0;
  today = 0;
  next_node = 1;
  next_filespace = 1;
  next_pool = 2;
  next_file = 4;
  next_object = 1;
  domains = policy.fresh;
  clients = record { nodes = []; filespaces = []; held = [] };
  stores = stores.fresh;
  backups = [];
}
