use Rattle.std.proofs.Common.{not, map, ap, ◌∙◌}
use Rattle.kinds.specs.Names.{is_same_name}
use Rattle.kinds.specs.Refusals.{sooner_of, unless, bad_value}
use Rattle.inventory_rules.specs.change_items.declared.items.Rebinding.{Rebinding}
use Rattle.inventory_rules.specs.inventory_rows.version_groups.Entries.{all_later}
use Rattle.inventory_rules.specs.inventory_rows.State.{inv_of}
use Rattle.inventory_rules.specs.Versions.{paths_once, rebinding_refused}
use Rattle.item_refusals.proofs.Foremost.{foremost_first, foremost_next, foremost_done}
use Rattle.item_refusals.proofs.Lists.{all_later_map}
use Rattle.item_refusals.proofs.versions.rebind_refused.Goals as goal

pub items-init : goal.items-init
items-init g c = foremost_first (all_later (λ (a b : Rebinding). not (is_same_name a.path b.path)) c.args.items.now) (paths_once (map (λ (i : Rebinding). i.path) c.args.items.now)) c.once-found.result (all_later_map (λ a b. not (is_same_name a b)) (λ (i : Rebinding). i.path) c.args.items.now) c.once-found.ensures

pub items-preserved : goal.items-preserved
items-preserved g c =
    foremost_next (unless (paths_once (map (λ (i : Rebinding). i.path) c.args.items.now)) bad_value) (rebinding_refused (g.J.Past.journal c.args.past.now) c.args.filespace (inv_of c.args.tables.now)) c.args.items.now c.items.item-index c.item-item.result c.items.found c.sooner_of-found.result c.items-test.true c.item-item.is c.items.invariant
    (c.sooner_of-found.ensures ∙ ap (sooner_of c.items.found) c.rebinding_refusal.ensures)

pub returns : goal.returns
returns g c = foremost_done (unless (paths_once (map (λ (i : Rebinding). i.path) c.args.items.now)) bad_value) (rebinding_refused (g.J.Past.journal c.args.past.now) c.args.filespace (inv_of c.args.tables.now)) c.args.items.now c.items.item-index c.items.found c.items-test.false c.items.invariant
