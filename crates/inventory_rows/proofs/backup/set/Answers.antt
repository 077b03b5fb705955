use Rattle.std.proofs.Common.{sym}
use Rattle.std.specs.BTreeMap.{is_at}
use Rattle.std.specs.Ordering.{nat_cmp}
use Rattle.pool_rows.proofs.of_volume_rows.Entries.{set_value-absent}
use Rattle.inventory_rows.proofs.backup.set.Goals as goal

pub returns-in_default : goal.returns-in_default
returns-in_default c =
    rw c.get_mut.follows.holds-at-none (sym (set_value-absent (is_at (nat_cmp c.args.pool)) c.args.map.now.entries c.args.delay (sym c.in_default.ensures.value)))
