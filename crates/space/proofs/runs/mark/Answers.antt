use Rattle.std.proofs.Common.{◌≡◌, ◌∙◌, ◌+◌, ◌-◌, ◌/◌, List, Bool, true, length, refl, ap, arith}
use Rattle.std.specs.Prelude.{min}
use Rattle.extent_map.specs.Blocks.{run, marked}
use Rattle.space.proofs.Used.{used_more, length-blocks_used}
use Rattle.space.proofs.runs.mark.Goals as goal

pub mark_used-requires : goal.mark_used-requires
mark_used-requires c = omega arith

pub returns : goal.returns
returns c = λ count segments h.
    let s = c.args.segment.now in
    let len : length c.args.extents.now ≡ count = ap length h ∙ length-blocks_used count segments in
    let blocks : c.blocks-count.result ≡ count = c.blocks-count.ensures ∙ len in
    let first-is : c.min-first.result ≡ min (s.offset / 4096) count = c.min-first.ensures ∙ ap (min (s.offset / 4096)) (c.from-3.ensures ∙ blocks) in
    let high : c.min-end.result ≡ min ((s.offset + 32 + s.len + 4095) / 4096) count = omega (arith, c.min-end.ensures, c.from.ensures, c.from-2.ensures, c.from-4.ensures, blocks) in
    let end-is : c.min-first.result + (c.min-end.result - c.min-first.result) ≡ min ((s.offset + 32 + s.len + 4095) / 4096) count = omega (arith, first-is, high) in
    c.mark_used.ensures
    ∙ ap (λ (u : List Bool). marked true (run c.min-first.result (c.min-end.result - c.min-first.result)) u) h
    ∙ used_more count (s.offset / 4096) ((s.offset + 32 + s.len + 4095) / 4096) c.min-first.result (c.min-end.result - c.min-first.result) segments s (λ k. refl) first-is end-is
