use Rattle.std.proofs.Common.{◌≡◌, ◌≤◌, [], length, map, drop}
use Rattle.command_words.specs.Words.{word_view}
use Rattle.command_words.specs.Rows.{given_view, place_view, places_from}
use Rattle.command_words.proofs.row.read_places.Given as goal

abbrev pub invariant-places : goal.invariant-places
invariant-places l = record {
  said : places_from l.end l.at (map place_view (drop l.at l.places)) (map given_view l.given.items) (map word_view (drop l.used l.words)) ≡ places_from l.end 0 (map place_view l.places) [] (map word_view l.words);
  within : l.used ≤ length l.words;
}
