use Rattle.std.proofs.Common.{◌≤◌, arith}
use Rattle.std.proofs.lemmas.Bool.{leb-true}
use Rattle.inventory_rules.specs.Facts.{Facts}
use Rattle.inventory_laws.proofs.Facts.{facts_of}
use Rattle.inventory_rows.specs.Items.{count_items, most_items}
use Rattle.inventory_rows.specs.State.{inv_of}
use Rattle.db_restore.proofs.restoring.spell.Goals as goal

pub tables_fit-requires-clause-few : goal.tables_fit-requires-clause-few
tables_fit-requires-clause-few c =
    let v = inv_of c.args.tables.now in
    let f : Facts v = facts_of v c.requires.valid in
    let few : count_items v ≤ most_items = leb-true (count_items v) most_items f.few_items in
    omega (arith, few)

pub tables_fit-requires-clause-orderly : goal.tables_fit-requires-clause-orderly
tables_fit-requires-clause-orderly c = (facts_of (inv_of c.args.tables.now) c.requires.valid).groups_orderly
