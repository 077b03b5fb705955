-- What the rows of each database of a server have.
use Rattle.std.specs.Prelude.{◌≡◌, true}
use Rattle.inventory_rows.specs.State.{Inv}
use Rattle.inventory_rules.specs.Held.{IsTied}
use Rattle.inventory_rules.specs.Ordered.{IsOrdered}
use Rattle.inventory_rules.specs.Valid.{is_valid}
use Rattle.line_results.specs.Migrating.{StandByNumber}

-- The database is valid; pools and filespaces stand by number, and what is kept in a filespace by path, each once; and each volume's row has the segments of the copies that lie on it, and no others.
pub record HasSoundRows (v : Inv) : Type 0 where
  pub valid : is_valid v ≡ true
  pub pools : StandByNumber v
  pub rows : IsOrdered v
  pub tied : IsTied v
