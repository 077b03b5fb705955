use Rattle.std.proofs.Common.{◌-◌, ◌∙◌, length, sym, take, true}
use Rattle.inventory_rows.specs.State.{inv_of}
use Rattle.hall.proofs.Passing.{ends_after, ends_earlier, found_earlier, found_last, split_last}
use Rattle.hall.proofs.reading.+read_any.Goals as goal

pub returns-then-not-is_asked-clause-told : goal.returns-then-not-is_asked-clause-told
returns-then-not-is_asked-clause-told g t c =
    let all = c.args.copies.now in
    found_earlier all (take (length all - 1) all) c.copy-item.result c.args.offset c.read_any.new.into c.read_any.result _ _ (split_last all c.copy-item.result c.in-len1-up.len_at_least c.copy-item.is)
    c.read_any.ensures.told

pub returns-then-read_any-clause-told : goal.returns-then-read_any-clause-told
returns-then-read_any-clause-told g t c =
    let all = c.args.copies.now in
    found_earlier all (take (length all - 1) all) c.copy-item.result c.args.offset c.read_any-2.new.into true _ _ (split_last all c.copy-item.result c.in-len1-up.len_at_least c.copy-item.is)
    c.if-read_any.ensures.told

pub returns-then-read_any-clause-ends : goal.returns-then-read_any-clause-ends
returns-then-read_any-clause-ends g t c =
    let all = c.args.copies.now in
    ends_earlier (inv_of c.args.tables.now) c.args.offset (length c.args.into.now) c.args.from all (take (length all - 1) all) c.copy-item.result
    (split_last all c.copy-item.result c.in-len1-up.len_at_least c.copy-item.is) (g.S.Store.faults_of c.args.store.now) (g.S.Store.faults_of c.read_any-2.new.store) c.read_any-2.result c.if-read_any.true
    (sym c.is_asked.ensures ∙ c.if-not-is_asked.false) c.read_any-2.ensures.ends

pub returns-clause-told : goal.returns-clause-told
returns-clause-told g t c =
    let all = c.args.copies.now in
    found_last all (take (length all - 1) all) c.copy-item.result c.args.offset c.read_any-2.new.into c.read_one.new.into c.read_any-2.result c.read_one.result _ _ _
    (split_last all c.copy-item.result c.in-len1-up.len_at_least c.copy-item.is) c.read_any-2.ensures.told c.read_one.ensures.told

pub returns-clause-ends : goal.returns-clause-ends
returns-clause-ends g t c =
    let all = c.args.copies.now in
    ends_after (inv_of c.args.tables.now) c.args.offset (length c.args.into.now) c.args.from all (take (length all - 1) all) c.copy-item.result
    (split_last all c.copy-item.result c.in-len1-up.len_at_least c.copy-item.is) (length c.read_any-2.new.into) c.read_any-2.ensures.len c.as_slice.result.now c.as_slice.ensures.value
    (g.S.Store.faults_of c.args.store.now) (g.S.Store.faults_of c.read_any-2.new.store) (g.S.Store.faults_of c.read_one.new.store) c.tally-tallied.result c.tally-tallied.ensures
    c.read_any-2.result c.read_one.result c.if-read_any.false c.read_any-2.ensures.counts c.read_one.ensures.counts (sym c.is_asked.ensures ∙ c.if-not-is_asked.false) c.read_any-2.ensures.ends
    c.read_one.ensures.ends
