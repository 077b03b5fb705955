use Rattle.std.proofs.Common.{[], ap, sym, ◌∙◌}
use Rattle.kinds.specs.Refusals.{foremost, sooner_of}
use Rattle.inventory_rules.specs.inventory_rows.State.{inv_of}
use Rattle.inventory_rules.specs.Versions.{object_refused}
use Rattle.item_refusals.proofs.Foremost.{foremost_done, foremost_next}
use Rattle.item_refusals.proofs.Lists.{flat_map_named}
use Rattle.item_refusals.proofs.arrivals.objects_refused.Goals as goal

pub items-preserved : goal.items-preserved
items-preserved g c =
    foremost_next [] (λ i. object_refused (inv_of c.args.tables.now) (g.T.Arrival.number i)) c.args.items.now c.items.item-index c.item-item.result c.items.found c.sooner_of-found.result c.items-test.true c.item-item.is c.items.invariant
    (c.sooner_of-found.ensures ∙ ap (sooner_of c.items.found) (c.object_refusal.ensures ∙ ap (λ n. foremost (object_refused (inv_of c.args.tables.now) n)) c.number.ensures))

pub returns : goal.returns
returns g c =
    foremost_done [] (λ i. object_refused (inv_of c.args.tables.now) (g.T.Arrival.number i)) c.args.items.now c.items.item-index c.items.found c.items-test.false c.items.invariant
    ∙ ap foremost (sym (flat_map_named (object_refused (inv_of c.args.tables.now)) g.T.Arrival.number c.args.items.now))
