use Rattle.std.proofs.Common.{◌≡◌, drop}
use Rattle.inventory_rules.specs.Versions.{name_once}
use Rattle.hall.proofs.asked.stand_once.Given as goal

abbrev pub invariant-numbers : goal.invariant-numbers
invariant-numbers l = name_once l.numbers ≡ name_once (drop l.i l.numbers)
