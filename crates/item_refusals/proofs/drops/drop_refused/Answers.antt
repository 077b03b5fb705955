use Rattle.std.proofs.Common.{not, map, ap, ◌∙◌}
use Rattle.std.specs.Prelude.{◌==◌}
use Rattle.kinds.specs.Refusals.{sooner_of, unless, bad_value}
use Rattle.inventory_rules.specs.change_items.declared.items.DroppedCopy.{DroppedCopy}
use Rattle.inventory_rules.specs.inventory_rows.version_groups.Entries.{all_later}
use Rattle.inventory_rules.specs.inventory_rows.State.{inv_of}
use Rattle.inventory_rules.specs.Copies.{dropped_refused}
use Rattle.inventory_rules.specs.Versions.{name_once}
use Rattle.item_refusals.proofs.Foremost.{foremost_first, foremost_more, foremost_done}
use Rattle.item_refusals.proofs.Lists.{all_later_map}
use Rattle.item_refusals.proofs.drops.drop_refused.Goals as goal

pub items-init : goal.items-init
items-init g c = foremost_first (all_later (λ (a b : DroppedCopy). not (a.object == b.object)) c.args.items.now) (name_once (map (λ (i : DroppedCopy). i.object) c.args.items.now)) c.once-found.result (all_later_map (λ a b. not (a == b)) (λ (i : DroppedCopy). i.object) c.args.items.now) c.once-found.ensures

pub items-preserved : goal.items-preserved
items-preserved g c =
    foremost_more (unless (name_once (map (λ (i : DroppedCopy). i.object) c.args.items.now)) bad_value) (dropped_refused (g.J.Past.journal c.args.past.now) c.args.reason (inv_of c.args.tables.now)) c.args.items.now c.items.item-index _ c.items.found c.sooner_of-found.result c.items-test.true c.items.invariant
    (c.sooner_of-found.ensures ∙ ap (sooner_of c.items.found) c.dropped_refusal.ensures)

pub returns : goal.returns
returns g c = foremost_done (unless (name_once (map (λ (i : DroppedCopy). i.object) c.args.items.now)) bad_value) (dropped_refused (g.J.Past.journal c.args.past.now) c.args.reason (inv_of c.args.tables.now)) c.args.items.now c.items.item-index c.items.found c.items-test.false c.items.invariant
