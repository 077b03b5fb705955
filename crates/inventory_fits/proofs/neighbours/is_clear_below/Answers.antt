use Rattle.std.proofs.Common.{◌∙◌, sym}
use Rattle.inventory_fits.proofs.Ahead.{last_decides}
use Rattle.inventory_fits.proofs.neighbours.is_clear_below.Goals as goal

pub returns-in-Some : goal.returns-in-Some
returns-in-Some c =
    c.is_clear_or_leaves.ensures
    ∙ last_decides c.args.moved.now c.args.number c.args.sequential c.args.segment.now c.args.start c.args.held.now.entries _ (c.in-Some.last.now, c.in-Some.field-0-1.now) c.requires.start c.range.ensures.ordered c.requires.apart (sym (c.range.ensures.between tt) ∙ c.in-Some.ensures.steps)
