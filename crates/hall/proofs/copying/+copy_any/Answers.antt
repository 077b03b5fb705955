use Rattle.std.proofs.Common.{◌≡◌, ℕ, ◌-◌, length, subst, take}
use Rattle.store_api.specs.Cause.{NoneFell}
use Rattle.contents.specs.Reading.{segments_in}
use Rattle.machine.specs.Pieces.{IsCopyLost, RoseAt}
use Rattle.hall.specs.Reading.{EndsBy, tally}
use Rattle.inventory_rows.specs.State.{inv_of}
use Rattle.machine.specs.State.{object_of}
use Rattle.hall.specs.Frames.{segments_of}
use Rattle.hall.specs.Held.{purpose_of}
use Rattle.hall.specs.declared.copying.Copied.TheVariants.{Failed, Lost, Written}
use Rattle.hall.proofs.PieceCopying.{brief_for, copied_after, copies_clear, copies_last, copies_more, time_for}
use Rattle.hall.proofs.Passing.{split_last}
use Rattle.hall.proofs.copying.+copy_any.Goals as goal

pub copy_one-copied-requires-clause-time : goal.copy_one-copied-requires-clause-time
copy_one-copied-requires-clause-time g t c =
    let all = c.args.copies.now in
    time_for c.args.seat.now.count (length c.args.into.now) (length c.copy_any.new.into) (g.S.Store.moment_of c.args.store.now) (g.S.Store.moment_of c.copy_any.new.store) all (take (length all - 1) all)
    c.copy-item.result (split_last all c.copy-item.result c.in-len1-up.len_at_least c.copy-item.is) c.in-Unread.ensures.len c.in-Unread.ensures.brief c.requires.time

pub returns-in-Unread-clause-calls : goal.returns-in-Unread-clause-calls
returns-in-Unread-clause-calls g t c =
    let all = c.args.copies.now in
    let seat = c.args.seat.now in
    let is = split_last all c.copy-item.result c.in-len1-up.len_at_least c.copy-item.is in
    copies_clear g.S.Store.told g.S.Store.moment_of g.S.Store.faults_of all (take (length all - 1) all) c.copy-item.result is (object_of (purpose_of seat.purpose)) seat.count (segments_of seat.places)
    c.copy_one-copied.new.into c.copy_one-copied.result c.is_clear.result c.or_clear.result c.args.store.now c.copy_one-copied.new.store c.or_clear.ensures
    (copies_last g.S.Store.told g.S.Store.moment_of g.S.Store.faults_of all (take (length all - 1) all) c.copy-item.result is (object_of (purpose_of seat.purpose)) seat.count (segments_of seat.places)
    c.copy_one-copied.new.into c.copy_one-copied.result c.args.store.now c.copy_any.new.store c.copy_one-copied.new.store c.in-Unread.ensures.calls c.in-Unread.ensures.later c.in-Unread.ensures.counts
    c.copy_one-copied.ensures.calls)

pub returns-in-Unread-clause-ends : goal.returns-in-Unread-clause-ends
returns-in-Unread-clause-ends g t c =
    let all = c.args.copies.now in
    copied_after (inv_of c.args.tables.now) c.args.seat.now.count (length c.args.into.now) all (take (length all - 1) all) c.copy-item.result
    (split_last all c.copy-item.result c.in-len1-up.len_at_least c.copy-item.is) (segments_of c.args.seat.now.places) (length c.copy_any.new.into) c.in-Unread.ensures.len c.as_slice.result.now
    c.as_slice.ensures.value (g.S.Store.faults_of c.args.store.now) (g.S.Store.faults_of c.copy_any.new.store) (g.S.Store.faults_of c.copy_one-copied.new.store) c.tally-tallied.result
    c.tally-tallied.ensures c.copy_one-copied.result c.is_clear.result c.or_clear.result c.or_clear.ensures c.in-Unread.ensures.counts c.copy_one-copied.ensures.counts c.in-Unread.ensures.ends
    c.copy_one-copied.ensures.ends
    (subst (λ n. (b : ℕ → ℕ) → NoneFell b (g.S.Store.faults_of c.copy_one-copied.new.store) → c.tally-tallied.result ≡ tally b (inv_of c.args.tables.now) (segments_in 0 c.args.seat.now.count n c.copy-item.result.segments)
    → EndsBy (IsCopyLost (RoseAt b (g.S.Store.faults_of c.copy_one-copied.new.store)) (inv_of c.args.tables.now) c.args.seat.now.count n c.copy-item.result) c.is_clear.result) c.copy_one-copied.ensures.len
    c.is_clear.ensures)

pub returns-in-Unread-clause-brief : goal.returns-in-Unread-clause-brief
returns-in-Unread-clause-brief g t c =
    let all = c.args.copies.now in
    brief_for c.args.seat.now.count (length c.args.into.now) (length c.copy_any.new.into) (g.S.Store.moment_of c.args.store.now) (g.S.Store.moment_of c.copy_any.new.store)
    (g.S.Store.moment_of c.copy_one-copied.new.store) all (take (length all - 1) all) c.copy-item.result c.copy_one-copied.result c.is_clear.result c.or_clear.result
    (split_last all c.copy-item.result c.in-len1-up.len_at_least c.copy-item.is) c.in-Unread.ensures.len c.or_clear.ensures c.in-Unread.ensures.brief c.copy_one-copied.ensures.brief

pub returns-in-Lost-clause-calls : goal.returns-in-Lost-clause-calls
returns-in-Lost-clause-calls g t c =
    let all = c.args.copies.now in
    let seat = c.args.seat.now in
    let is = split_last all c.copy-item.result c.in-len1-up.len_at_least c.copy-item.is in
    copies_clear g.S.Store.told g.S.Store.moment_of g.S.Store.faults_of all (take (length all - 1) all) c.copy-item.result is (object_of (purpose_of seat.purpose)) seat.count (segments_of seat.places)
    c.copy_any.new.into Lost c.is_clear-in-Lost.result c.or_clear-in-Lost.result c.args.store.now c.copy_any.new.store c.or_clear-in-Lost.ensures
    (copies_more g.S.Store.told g.S.Store.moment_of g.S.Store.faults_of all (take (length all - 1) all) c.copy-item.result is (object_of (purpose_of seat.purpose)) seat.count (segments_of seat.places)
    c.copy_any.new.into Lost c.args.store.now c.copy_any.new.store c.in-Lost.ensures.calls)

pub returns-in-Written-clause-calls : goal.returns-in-Written-clause-calls
returns-in-Written-clause-calls g t c =
    let all = c.args.copies.now in
    let seat = c.args.seat.now in
    copies_more g.S.Store.told g.S.Store.moment_of g.S.Store.faults_of all (take (length all - 1) all) c.copy-item.result
    (split_last all c.copy-item.result c.in-len1-up.len_at_least c.copy-item.is) (object_of (purpose_of seat.purpose)) seat.count (segments_of seat.places) c.copy_any.new.into Written
    c.args.store.now c.copy_any.new.store c.in-Written.ensures.calls

pub returns-in-Failed-clause-calls : goal.returns-in-Failed-clause-calls
returns-in-Failed-clause-calls g t c =
    let all = c.args.copies.now in
    let seat = c.args.seat.now in
    copies_more g.S.Store.told g.S.Store.moment_of g.S.Store.faults_of all (take (length all - 1) all) c.copy-item.result
    (split_last all c.copy-item.result c.in-len1-up.len_at_least c.copy-item.is) (object_of (purpose_of seat.purpose)) seat.count (segments_of seat.places) c.copy_any.new.into (Failed c.in-Failed.file)
    c.args.store.now c.copy_any.new.store c.in-Failed.ensures.calls
