-- What only rises from one transaction to the next: where volumes end, and the numbers that are drawn next.
use Rattle.std.specs.Prelude.{◌≡◌, ℕ, ◌≤◌, ◌==◌, Bool, false}
use Rattle.inventory_rules.specs.entries.declared.change.Change.{Change}
use Rattle.inventory_rules.specs.entries.declared.change.Change.TheVariants as change
use Rattle.inventory_rules.specs.inventory_rows.volume_rows.declared.volume.Volume.{Volume}
use Rattle.inventory_rules.specs.inventory_rows.State.{Inv}

-- the transaction reuses the volume with this file
abbrev pub is_reuse : ℕ → Change → Bool
is_reuse file (change.Reuse other) = file == other
is_reuse file _ = false

-- the volume lies in the pool in which it lay, and ends no earlier
pub record EndsLater (old new : Volume) : Type 0 where
  pub pool : new.pool ≡ old.pool
  pub end : old.end ≤ new.end

-- no number that is drawn next fell
pub record DrawsOn (old new : Inv) : Type 0 where
  pub node : old.next_node ≤ new.next_node
  pub filespace : old.next_filespace ≤ new.next_filespace
  pub pool : old.next_pool ≤ new.next_pool
  pub file : old.next_file ≤ new.next_file
  pub object : old.next_object ≤ new.next_object
