use Rattle.std.proofs.Common.{map}
use Rattle.command_words.specs.Rows.{given_view}
use Rattle.command_words.specs.Words.{word_view}
use Rattle.admin_words.specs.Rows.{noun_view}
use Rattle.admin_words.proofs.Fitted.{row_fits}
use Rattle.admin_words.proofs.line.row_command.Goals as goal

pub returns-clause-legible : goal.returns-clause-legible
returns-clause-legible c =
    row_fits c.command_of.result c.args.end (noun_view c.args.noun) (map word_view c.args.words.now) (map given_view c.in_ok-places.places.items, map given_view c.in_ok-places.keys.items) c.in_ok-places.ensures.value (record {
      places = c.in_ok-places.ensures.places_fit;
      keywords = c.in_ok-places.ensures.keywords_fit;
      complete = c.in_ok-places.ensures.complete;
      apart = c.in_ok-places.ensures.apart;
    })
