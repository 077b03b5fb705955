use Rattle.std.proofs.Common.{◌∙◌, List, Bool, sym, ap, not, map}
use Rattle.extent_map.specs.Blocks.{marked_from}
use Rattle.extent_map.proofs.FreeRuns.{map-marked}
use Rattle.extent_map.proofs.extents.mark.Goals as goal

pub returns-clause-free : goal.returns-clause-free
returns-clause-free c =
    c.fill-2.ensures
    ∙ ap (λ (l : List Bool). marked_from (not c.args.in_use) c.args.run.first c.args.run.blocks l) c.requires.free
    ∙ sym (map-marked c.args.in_use c.args.run.first c.args.run.blocks c.args.used.now)
    ∙ ap (map not) (sym c.fill.ensures)
