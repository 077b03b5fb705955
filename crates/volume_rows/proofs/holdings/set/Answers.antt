use Rattle.std.proofs.Common.{sym, ◌∙◌, ap}
use Rattle.std.specs.BTreeMap.{is_at, BTreeMap}
use Rattle.volume_rows.specs.Held.{held_cmp}
use Rattle.volume_rows.proofs.Entries.{set_value-absent}
use Rattle.volume_rows.proofs.holdings.set.Goals as goal

pub returns-in_default : goal.returns-in_default
returns-in_default c =
    rw c.get_mut.follows.holds-at-none (sym (set_value-absent (is_at (held_cmp c.args.segment.now)) c.args.map.now.entries c.args.repeats (sym c.in_default.ensures.value)))
