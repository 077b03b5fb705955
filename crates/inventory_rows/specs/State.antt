-- The server's whole database as one value.
use Rattle.std.specs.Prelude.{ℕ, List}
use Rattle.object_rows.specs.Rows.{Rows}
use Rattle.policy_domains.specs.Rows.{DomainRow}
use Rattle.pool_rows.specs.PoolRows.{PoolRows}
use Rattle.inventory_rows.specs.declared.backup.Backup.{Backup}
use Rattle.inventory_rows.specs.declared.tables.Tables.{Tables}

-- The database: the number of the last transaction, today, the numbers that are drawn next, and the rows. Domains stand by name, nodes,
-- filespaces, pools and volumes by number, database backups by the number of their file.
pub record Inv : Type 0 where
  pub number : ℕ
  pub today : ℕ
  pub next_node : ℕ
  pub next_filespace : ℕ
  pub next_pool : ℕ
  pub next_file : ℕ
  pub next_object : ℕ
  pub domains : List (List ℕ × DomainRow)
  pub clients : Rows
  pub stores : PoolRows
  pub backups : List (ℕ × Backup)

-- the database that the tables hold
abbrev pub inv_of : Tables → Inv
inv_of t = record {
  number = t.number;
  today = t.today;
  next_node = t.next_node;
  next_filespace = t.next_filespace;
  next_pool = t.next_pool;
  next_file = t.next_file;
  next_object = t.next_object;
  domains = t.domains;
  clients = t.objects;
  stores = t.pools;
  backups = t.backups.entries;
}
