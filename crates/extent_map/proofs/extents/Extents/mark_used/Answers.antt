use Rattle.std.proofs.Common.{◌≡◌, ◌∙◌, ◌+◌, ◌<◌, ◌≤◌, List, Bool, length, get_or, true, arith, ap, sym}
use Rattle.extent_map.specs.Blocks.{end_of, marked}
use Rattle.extent_map.proofs.Marking.{marked_done, marked_over, marked_further, length-marked}
use Rattle.extent_map.proofs.extents.Extents.mark_used.Goals as goal
use Rattle.extent_map.proofs.extents.Extents.mark_used.Goals.{then-part-gt0, else-part-gt0}

pub parts-preserved : goal.parts-preserved
parts-preserved c =
    let part = c.free_within-part.result in
    let fits : end_of part ≤ length c.parts.self = omega arith in
    let now : c.if-part-gt0.self ≡ marked true part c.parts.self = elim c.if-part-gt0.branch [
      | then-part-gt0 w ↦ w.self-is ∙ w.occupy.ensures
      | else-part-gt0 w ↦ w.self-is ∙ sym (marked_done part c.parts.self fits (λ k low high. absurd (omega arith)))
    ] in
    record {
      low = omega arith;
      high = omega arith;
      within = omega (arith, ap length now, length-marked true part c.parts.self fits);
      so_far = λ k low high. ap (λ (u : List Bool). get_or u k true) now ∙ marked_further part c.args.run.first c.parts.at c.parts.self fits c.parts.invariant.so_far c.free_within-part.ensures.before k low high;
      whole = ap (marked true c.args.run) now ∙ marked_over true part c.args.run c.parts.self (omega arith) (omega arith) c.parts.invariant.within ∙ c.parts.invariant.whole;
    }

pub returns : goal.returns
returns c = sym (marked_done c.args.run c.parts.self c.parts.invariant.within (λ k low high. c.parts.invariant.so_far k low (omega arith))) ∙ c.parts.invariant.whole
