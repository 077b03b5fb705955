use Rattle.std.proofs.Common.{◌≡◌, List, ℕ, slice_range, take, get_or, subst, sym, ap, ◌∙◌, arith, length-take, length-drop}
use Rattle.std.specs.Str.Lines.{strip_carriage_return}
use Rattle.script_loop.specs.Reading.{Held}
use Rattle.script_loop.proofs.Ranges.{found_line, found_long, found_open, plain_on}
use Rattle.script_loop.proofs.reader.LineReader.find_line.Goals as goal

pub returns-then-at-self-ge-LINE_LIMIT : goal.returns-then-at-self-ge-LINE_LIMIT
returns-then-at-self-ge-LINE_LIMIT c =
    let is = ap (λ (r : Held). r.held) c.self.view_is in
    let plain = plain_on _ _ c.self.inside.from c.self.inside.scanned c.newline_place-at.result c.deref.ensures.value c.self.invariant.plain c.newline_place-at.ensures.before in
    found_long c.self.inside.buffer.items c.args.self.now.held c.self.inside.from c.newline_place-at.result c.self.inside.to (sym is)
    (omega arith) (omega arith) (omega arith) (omega arith) plain

pub returns-then-at-self : goal.returns-then-at-self
returns-then-at-self c =
    let is = ap (λ (r : Held). r.held) c.self.view_is in
    let plain = plain_on _ _ c.self.inside.from c.self.inside.scanned c.newline_place-at.result c.deref.ensures.value c.self.invariant.plain c.newline_place-at.ensures.before in
    found_open c.self.inside.buffer.items c.args.self.now.held c.self.inside.from c.self.inside.to (sym is)
    (omega arith) (omega arith) (omega arith) (λ k low high. plain k low (omega arith))

pub returns : goal.returns
returns c =
    let is = ap (λ (r : Held). r.held) c.self.view_is in
    let plain = plain_on _ _ c.self.inside.from c.self.inside.scanned c.newline_place-at.result c.deref.ensures.value c.self.invariant.plain c.newline_place-at.ensures.before in
    found_line c.self.inside.buffer.items c.args.self.now.held c.self.inside.from c.newline_place-at.result c.self.inside.to c.length_without_return.result (sym is)
    (omega arith) (omega arith) (omega arith) (omega arith) plain
    (ap (λ (l : List ℕ). get_or l c.newline_place-at.result 0) (sym c.deref.ensures.value) ∙ c.newline_place-at.ensures.found (omega arith))
    (omega (arith, length-take {A = ℕ}, length-drop {A = ℕ}, c.deref-2.ensures.len))
    (subst (λ (l : List ℕ). take c.length_without_return.result (slice_range l c.self.inside.from c.newline_place-at.result) ≡ strip_carriage_return (slice_range l c.self.inside.from c.newline_place-at.result)) c.deref-2.ensures.value c.length_without_return.ensures.stripped)
