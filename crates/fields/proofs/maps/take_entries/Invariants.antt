use Rattle.std.proofs.Common.{◌≡◌, ◌-◌, None}
use Rattle.fields.specs.Forms.{pair, ascending_at, last_key}
use Rattle.fields.proofs.Times.{with_front}
use Rattle.fields.proofs.maps.take_entries.Given as goal

abbrev pub invariant-entries : goal.invariant-entries
invariant-entries g l =
    let read = (pair g.K.Formed.form g.D.Decoder.form).read in
    with_front l.map.entries (ascending_at g.K.Ord.cmp read (last_key l.map.entries) (l.count - l.counter) l.reader.rest) ≡ ascending_at g.K.Ord.cmp read None l.count l.fn.reader.rest
