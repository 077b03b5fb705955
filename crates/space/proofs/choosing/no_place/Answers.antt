use Rattle.std.proofs.Common.{◌∙◌, sym}
use Rattle.space.proofs.Refused.{unforced_holds}
use Rattle.space.proofs.choosing.no_place.Goals as goal

pub returns : goal.returns
returns c =
    unforced_holds c.args.request.now c.args.pools.now c.args.space.now c.args.numbers.now c.as_slice.result.now c.next_file-next_file.result c.goes_to-start.result c.in_ok-counted.counted c.without_others-counted.result c.own_alone-counted.result c.in_ok-found.found c.in_ok-found-2.found
    c.unforced_in.result c.busy_by_unforced.result
    c.requires c.next_file-next_file.ensures c.in_ok-counted.ensures c.without_others-counted.ensures c.own_alone-counted.ensures
    c.in_ok-found.ensures (sym c.if-is_some.ensures) c.in_ok-found-2.ensures c.if-is_none.ensures
    (c.as_slice.ensures.value ∙ c.in_ok-random.ensures) c.goes_to-start.ensures c.unforced_in.ensures c.busy_by_unforced.ensures
