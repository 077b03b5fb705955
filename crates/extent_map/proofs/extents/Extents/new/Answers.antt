use Rattle.std.proofs.Common.{◌≡◌, ◌∙◌, ◌-◌, ◌*◌, List, Bool, true, false, arith, length, ap, map, not, sym, replicate}
use Rattle.std.proofs.lemmas.List.{length-replicate}
use Rattle.extent_map.specs.Blocks.{marked_from, total_room, free_runs}
use Rattle.extent_map.proofs.FreeRuns.{all_free, total_room-all_free}
use Rattle.extent_map.proofs.extents.Extents.new.Goals as goal
use Rattle.extent_map.proofs.extents.Extents.new.Goals.{then-blocks-eq0, else-blocks-eq0}

pub invariant_of-result : goal.invariant_of-result
invariant_of-result c =
    let used : c.in_ok-used.used ≡ replicate c.args.blocks false = c.in_ok-used.ensures in
    let len : length c.in_ok-used.used ≡ c.args.blocks = ap length used ∙ length-replicate c.args.blocks false in
    let whole : total_room (free_runs c.in_ok-used.used) ≡ 4096 * c.args.blocks - 32 = ap (λ (l : List Bool). total_room (free_runs l)) used ∙ total_room-all_free c.args.blocks in
    let room : c.if-blocks-eq0.room ≡ 4096 * c.args.blocks - 32 = elim c.if-blocks-eq0.branch [ then-blocks-eq0 w ↦ omega arith | else-blocks-eq0 w ↦ omega arith ] in (
      c.fill.ensures ∙ ap (λ (l : List Bool). marked_from true 0 c.args.blocks l) c.in_ok-free.ensures ∙ all_free c.args.blocks ∙ ap (map not) (sym used),
      room ∙ sym whole,
      omega arith,
    )
