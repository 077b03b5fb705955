use Rattle.tsm_top.specs.Notes.{notes_of}
use Rattle.tsm_top.proofs.Noted.{one_more}
use Rattle.tsm_top.proofs.block.note_all.Goals as goal

pub said-preserved : goal.said-preserved
said-preserved c =
    one_more c.args.first c.args.before c.args.after c.args.said.now c.said.one-index c.one-item.result c.said.notes.items c.in_ok-notes.notes.items (notes_of c.args.first c.args.before c.args.after c.args.said.now) c.said-test.true c.one-item.is c.in_ok-notes.ensures c.said.invariant
