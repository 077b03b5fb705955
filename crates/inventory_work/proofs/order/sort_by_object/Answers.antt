use Rattle.std.proofs.Common.{rules, Ok, sym, ap}
use Rattle.std.proofs.lemmas.List.Sorted.{answers_always, IsNonDecreasingBy-from_sort}
use Rattle.inventory_work.proofs.Sorting.{by_object-from_sort}
use Rattle.inventory_work.proofs.order.sort_by_object.Goals as goal

pub returns : goal.returns
returns g c =
    let number = g.T.OfObject.number in
    let keys = answers_always _ _ _ (λ f a r next called. search rules) in
    let sorted = c.in_ok-sort_by_key.ensures.sorted number keys in
    let stable = c.in_ok-sort_by_key.ensures.stable number keys in
    ap Ok (sym (by_object-from_sort number c.args.lines.now.items c.sort_by_key.new.self.items (IsNonDecreasingBy-from_sort number c.sort_by_key.new.self.items sorted) stable))
