-- What a change of volumes leaves as it was.
use Rattle.std.specs.Prelude.{◌≡◌}
use Rattle.inventory_rules.specs.inventory_rows.State.{Inv}

-- the number of the last transaction, the day, the clients with their versions, the pools, and the numbers of filespaces and objects are as they were
pub record OnlyVolumes (old new : Inv) : Type 0 where
  pub number : new.number ≡ old.number
  pub today : new.today ≡ old.today
  pub next_filespace : new.next_filespace ≡ old.next_filespace
  pub next_object : new.next_object ≡ old.next_object
  pub clients : new.clients ≡ old.clients
  pub pools : new.stores.pools ≡ old.stores.pools
