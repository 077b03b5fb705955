use Rattle.std.proofs.Common.{arith, inr}
use Rattle.command_words.specs.Rows.{place_view}
use Rattle.command_words.proofs.Keys.{place_refused}
use Rattle.command_words.proofs.row.take_place.Goals as goal

pub returns-in-Err-clause-value : goal.returns-in-Err-clause-value
returns-in-Err-clause-value c =
    inr (place_refused (place_view c.args.place.now) c.args.end c.args.at _ c.args.words.now _ c.in-Err.refusal c.unquoted.result.now (omega arith) c.if-is_for_place.ensures c.unquoted.ensures c.in-Err.ensures)
