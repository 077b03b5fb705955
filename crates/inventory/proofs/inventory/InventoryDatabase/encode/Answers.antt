use Rattle.std.proofs.Common.{◌≤◌, arith}
use Rattle.std.proofs.lemmas.Bool.{leb-true}
use Rattle.inventory_rules.specs.Facts.{Facts}
use Rattle.inventory_laws.proofs.Facts.{facts_of}
use Rattle.inventory_rows.specs.Items.{count_items, most_items}
use Rattle.inventory_rows.specs.State.{inv_of}
use Rattle.inventory.proofs.inventory.InventoryDatabase.encode.Goals as goal

pub tables_fit-requires-clause-few : goal.tables_fit-requires-clause-few
tables_fit-requires-clause-few c =
    let f : Facts (inv_of c.self.inside.tables) = facts_of (inv_of c.self.inside.tables) c.self.invariant.0 in
    let few : count_items (inv_of c.self.inside.tables) ≤ most_items = leb-true (count_items (inv_of c.self.inside.tables)) most_items f.few_items in
    omega (arith, few)

pub tables_fit-requires-clause-orderly : goal.tables_fit-requires-clause-orderly
tables_fit-requires-clause-orderly c = (facts_of (inv_of c.self.inside.tables) c.self.invariant.0).groups_orderly
