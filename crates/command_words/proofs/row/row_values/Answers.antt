use Rattle.std.proofs.Common.{◌-◌, length, map, take, drop}
use Rattle.command_words.specs.Rows.{place_view, slot_view}
use Rattle.command_words.specs.Words.{word_view}
use Rattle.command_words.proofs.Fitting.{places_fit}
use Rattle.command_words.proofs.Keyed.{sure, keywords_fit, sides_apart}
use Rattle.command_words.proofs.row.row_values.Goals as goal

pub returns-clause-places_fit : goal.returns-clause-places_fit
returns-clause-places_fit c = places_fit (map place_view c.args.places.now) c.args.end _ _ c.in_ok-given.ensures.value

pub returns-clause-keywords_fit : goal.returns-clause-keywords_fit
returns-clause-keywords_fit c = keywords_fit (map slot_view c.args.slots.now) c.args.end (map word_view (take (length c.args.words.now - c.in_ok-given.used) (drop c.in_ok-given.used c.args.words.now))) _ c.in_ok-keys.ensures

pub returns-clause-complete : goal.returns-clause-complete
returns-clause-complete c = (sure (map slot_view c.args.slots.now) c.args.end (map word_view (take (length c.args.words.now - c.in_ok-given.used) (drop c.in_ok-given.used c.args.words.now))) _ c.in_ok-keys.ensures).complete

pub returns-clause-apart : goal.returns-clause-apart
returns-clause-apart c = sides_apart (map slot_view c.args.slots.now) c.args.end (map word_view (take (length c.args.words.now - c.in_ok-given.used) (drop c.in_ok-given.used c.args.words.now))) _ c.in_ok-keys.ensures
