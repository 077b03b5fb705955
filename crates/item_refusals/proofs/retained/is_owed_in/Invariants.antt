use Rattle.std.proofs.Common.{◌≡◌, drop}
use Rattle.inventory_rules.specs.Owed.{is_owed_from, is_owed_in}
use Rattle.item_refusals.proofs.retained.is_owed_in.Given as goal

abbrev pub invariant-versions : goal.invariant-versions
invariant-versions l = is_owed_from l.rule l.active l.today l.object l.place (drop l.place l.versions) ≡ is_owed_in l.rule l.today l.object l.versions
