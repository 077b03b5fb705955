use Rattle.std.proofs.Common.{◌∙◌, length, ap, subst, arith}
use Rattle.inventory_rows.specs.State.{inv_of}
use Rattle.contents.specs.Reading.{Lacks, segments_in}
use Rattle.hall.specs.Reading.{tally}
use Rattle.hall.proofs.Passing.{compared, is_gone, is_there, not_read, read_failed}
use Rattle.hall.proofs.reading.read_one.Goals as goal

pub returns-then-is_none-clause-ends : goal.returns-then-is_none-clause-ends
returns-then-is_none-clause-ends g c = λ before grew was.
    not_read (inv_of c.args.tables.now) c.args.offset (length c.args.into.now) c.args.copy.now before (g.S.Store.faults_of c.args.store.now) grew c.args.tallied
    (is_gone c.args.tallied c.is_none.result c.is_none.ensures c.if-is_none.true) was

pub returns-in-Ok-clause-ends : goal.returns-in-Ok-clause-ends
returns-in-Ok-clause-ends g c = λ before grew was.
    let new = g.S.Store.faults_of c.read_piece.new.store in
    let v = inv_of c.args.tables.now in
    compared v c.args.offset (length c.args.into.now) c.args.copy.now before new (λ file. let a = grew file in let b = c.in-Ok.ensures.counts file in omega (arith, a, b)) c.args.tallied c.tally.result
    (is_there c.args.tallied c.is_none.result c.is_none.ensures c.if-is_none.false) was
    (c.tally.ensures ∙ ap (λ n. tally new v (segments_in 0 c.args.offset n c.as_slice-segments.result.now)) c.in-Ok.ensures.len
    ∙ ap (λ l. tally new v (segments_in 0 c.args.offset (length c.args.into.now) l)) c.as_slice-segments.ensures.value) c.eq.result c.eq.ensures

pub returns-in-Err-clause-ends : goal.returns-in-Err-clause-ends
returns-in-Err-clause-ends g c = λ before grew was.
    let old = g.S.Store.faults_of c.args.store.now in
    let new = g.S.Store.faults_of c.read_piece.new.store in
    read_failed (inv_of c.args.tables.now) c.args.offset (length c.args.into.now) c.args.copy.now before old new grew c.in-Err.field-0
    (subst (λ l. Lacks (segments_in 0 c.args.offset (length c.args.into.now) l) old new c.in-Err.field-0) c.as_slice-segments.ensures.value c.in-Err.ensures.unread)
