use Rattle.std.proofs.Common.{◌≡◌, drop}
use Rattle.inventory_check.specs.Rows.{days_fall}
use Rattle.inventory_check.proofs.clients.days_fall.Given as goal

abbrev pub invariant-older : goal.invariant-older
invariant-older l = days_fall l.bound (drop l.version-index l.older) ≡ days_fall l.fn.since l.older
