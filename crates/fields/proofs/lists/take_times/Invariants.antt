use Rattle.std.proofs.Common.{◌≡◌, ◌-◌}
use Rattle.fields.specs.Forms.{times_at}
use Rattle.fields.proofs.Times.{with_front}
use Rattle.fields.proofs.lists.take_times.Given as goal

abbrev pub invariant-values : goal.invariant-values
invariant-values g l = with_front l.values.items (times_at g.D.Decoder.form.read (l.count - l.counter) l.reader.rest) ≡ times_at g.D.Decoder.form.read l.count l.fn.reader.rest
