-- The inventory as a database: what it means to those that keep it, in each of the two forms of its bytes.
use Rattle.std.specs.Prelude.{◌≡◌, true}
use Rattle.entries.specs.Meaning.{Meaning}
use Rattle.fields.specs.Editions.{Edition}
use Rattle.inventory_bytes.specs.Payload.{payload, unheld}
use Rattle.inventory_rows.specs.State.{Inv}
use Rattle.inventory_rules.specs.Transactions.{effect, refused}
use Rattle.inventory_rules.specs.Held.{IsTied}
use Rattle.inventory_rules.specs.Journal.{no_journal}
use Rattle.inventory_rules.specs.Valid.{is_valid}

-- a value is an inventory: it is valid, its volumes hold the segments of its copies, and it has a spelling in the form
pub record IsInventory (e : Edition) (v : Inv) : Type 0 where
  pub valid : is_valid v ≡ true
  pub tied : IsTied v
  pub fits : (payload e).Fits (unheld v)

-- the inventory as a database
abbrev pub meaning : Meaning Inv
meaning = record {
  number = λ v. v.number;
  refused = λ v t. refused no_journal t.change v;
  after = λ v t. effect t.change v;
  spelled = λ form v. (payload form).spell v;
  Valid = IsInventory;
}
