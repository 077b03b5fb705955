use Rattle.std.proofs.Common.{ap, arith}
use Rattle.std.proofs.lemmas.List.{drop_all}
use Rattle.std.specs.List.{flat_map}
use Rattle.kept_index.specs.Steps.{of_object}
use Rattle.kept_index.proofs.Rows.{remains_list}
use Rattle.kept_index.proofs.following.put_items.Goals as goal

pub returns : goal.returns
returns g c = λ claims full is.
    remains_list c.items.index claims _ _ _ full c.args.pools.now (ap (flat_map (λ i. of_object (g.I.Brings.brought i))) (drop_all c.items.item-index c.args.items.now (omega arith))) (c.items.invariant claims full is)
