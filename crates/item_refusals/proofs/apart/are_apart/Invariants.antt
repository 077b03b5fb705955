use Rattle.std.proofs.Common.{◌≡◌, drop}
use Rattle.inventory_rules.specs.inventory_rows.version_groups.Entries.{all_later}
use Rattle.item_refusals.proofs.apart.are_apart.Given as goal

abbrev pub invariant-items : goal.invariant-items
invariant-items g l = all_later g.T.Apart.differs l.items ≡ all_later g.T.Apart.differs (drop l.i l.items)
