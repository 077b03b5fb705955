use Rattle.inventory_rows.specs.State.{inv_of}
use Rattle.inventory_rules.specs.Journal.{no_journal}
use Rattle.inventory.proofs.Within.{all_within}
use Rattle.inventory.proofs.made.make.Goals as goal

pub or_counted-requires-clause-bound : goal.or_counted-requires-clause-bound
or_counted-requires-clause-bound c =
    all_within no_journal c.args.change.now c.make_rows.result c.in-Ok.field-0 (inv_of c.args.tables.now) (inv_of c.make_rows.new.tables) c.requires.valid c.are_ascending.ensures c.requires.legal
    c.args.most_items.now c.requires.bound c.in-Ok.is c.make_rows.ensures.becomes c.items_after-higher.result c.items_after-higher.ensures
