use Rattle.std.proofs.Common.{[], ap, ◌∙◌}
use Rattle.kinds.specs.Refusals.{sooner_of}
use Rattle.inventory_rules.specs.change_items.declared.items.ScratchVolume.{ScratchVolume}
use Rattle.inventory_rules.specs.inventory_rows.State.{inv_of}
use Rattle.inventory_rules.specs.Common.{file_bound}
use Rattle.item_refusals.proofs.Foremost.{foremost_more}
use Rattle.item_refusals.proofs.scratch.file_bounds.Goals as goal

pub scratch-preserved : goal.scratch-preserved
scratch-preserved c =
    foremost_more [] (λ (s : ScratchVolume). file_bound s.file (inv_of c.args.tables.now)) c.args.scratch.now c.scratch.volume-index _ c.scratch.found c.sooner_of-found.result c.scratch-test.true c.scratch.invariant
    (c.sooner_of-found.ensures ∙ ap (sooner_of c.scratch.found) c.file_bound.ensures)
