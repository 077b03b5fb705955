use Rattle.std.proofs.Common.{◌≡◌, map, drop}
use Rattle.command_words.specs.Rows.{given_view, slot_view, is_complete}
use Rattle.command_words.proofs.row.is_complete.Given as goal

abbrev pub invariant-slots : goal.invariant-slots
invariant-slots l =
    is_complete (map slot_view l.slots) (map given_view l.given) l.at (map slot_view (drop l.at l.slots)) ≡ is_complete (map slot_view l.slots) (map given_view l.given) 0 (map slot_view l.slots)
