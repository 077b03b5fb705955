use Rattle.std.proofs.Common.{List, ℕ, take, slice_range, sym, ap, ◌∙◌, arith}
use Rattle.script_loop.specs.Reading.{Held}
use Rattle.script_loop.proofs.Ranges.{filled, written_back, range-kept}
use Rattle.script_loop.proofs.reader.LineReader.take_piece.Goals as goal

pub returns-in-Ok-clause-bytes : goal.returns-in-Ok-clause-bytes
returns-in-Ok-clause-bytes g c =
    let was = ap (λ (r : Held). r.held) c.self.view_is in
    let same = written_back c.self.inside.buffer.len c.take_behind.new.buffer c.self.inside.buffer.items (omega (arith, c.take_behind.auto.buffer, c.deref_mut.ensures.len)) in
    filled c.self.inside.buffer.items c.take_behind.new.buffer _ c.args.self.now.held c.self.inside.from c.self.inside.to c.in-Ok.count _ _ same (sym was)
    (omega arith) (c.in-Ok.ensures.before ∙ ap (take c.self.inside.to) c.deref_mut.ensures.value) c.in-Ok.ensures.within c.in-Ok.ensures.bytes.0 c.in-Ok.ensures.bytes.1

pub returns-in-Err-clause-bytes : goal.returns-in-Err-clause-bytes
returns-in-Err-clause-bytes g c =
    let was = ap (λ (r : Held). r.held) c.self.view_is in
    let same = written_back c.self.inside.buffer.len c.take_behind.new.buffer c.self.inside.buffer.items (omega (arith, c.take_behind.auto.buffer, c.deref_mut.ensures.len)) in (
      ap (λ (l : List ℕ). slice_range l c.self.inside.from c.self.inside.to) same ∙ range-kept c.self.inside.buffer.items c.take_behind.new.buffer c.self.inside.from c.self.inside.to (omega arith) (c.in-Err.ensures.before ∙ ap (take c.self.inside.to) c.deref_mut.ensures.value) ∙ was,
      c.in-Err.ensures.bytes,
    )
