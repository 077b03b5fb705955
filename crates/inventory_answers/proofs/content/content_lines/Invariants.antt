use Rattle.std.proofs.Common.{◌≡◌, ◌++◌}
use Rattle.std.specs.Prelude.{map}
use Rattle.inventory_work.specs.inventory_rows.State.{inv_of}
use Rattle.inventory_answers.specs.Content.{content_line, content_lines}
use Rattle.inventory_answers.proofs.content.content_lines.Given as goal

abbrev pub invariant-counts : goal.invariant-counts
invariant-counts l =
    l.lines.items ++ map (content_line (inv_of l.tables) l.volume.name) l.object-iterator ≡ content_lines (inv_of l.tables) l.volume
