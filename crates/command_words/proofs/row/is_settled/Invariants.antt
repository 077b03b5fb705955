use Rattle.std.proofs.Common.{◌≡◌, map, drop}
use Rattle.command_words.specs.Rows.{given_view, slot_view, is_settled}
use Rattle.command_words.proofs.row.is_settled.Given as goal

abbrev pub invariant-slots : goal.invariant-slots
invariant-slots l =
    is_settled l.need l.key (map given_view l.given) l.at (map slot_view (drop l.at l.slots)) ≡ is_settled l.need l.key (map given_view l.given) 0 (map slot_view l.slots)
