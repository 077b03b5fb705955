use Rattle.std.proofs.Common.{◌∙◌, ap}
use Rattle.inventory_rows.specs.State.{inv_of}
use Rattle.contents.specs.Reading.{segments_in}
use Rattle.hall.specs.Reading.{tally}
use Rattle.hall.proofs.Passing.{compared, is_gone, is_there, not_read}
use Rattle.hall.proofs.copying.is_clear.Goals as goal

pub returns-then-is_none : goal.returns-then-is_none
returns-then-is_none g c = λ before grew was.
    not_read (inv_of c.args.tables.now) c.args.offset c.args.count c.args.copy.now before (g.S.Store.faults_of c.args.store.now) grew c.args.tallied
    (is_gone c.args.tallied c.is_none.result c.is_none.ensures c.if-is_none.true) was

pub returns : goal.returns
returns g c = λ before grew was.
    let new = g.S.Store.faults_of c.args.store.now in
    let v = inv_of c.args.tables.now in
    compared v c.args.offset c.args.count c.args.copy.now before new grew c.args.tallied c.tally.result (is_there c.args.tallied c.is_none.result c.is_none.ensures c.if-is_none.false) was
    (c.tally.ensures ∙ ap (λ l. tally new v (segments_in 0 c.args.offset c.args.count l)) c.as_slice.ensures.value) c.eq.result c.eq.ensures
