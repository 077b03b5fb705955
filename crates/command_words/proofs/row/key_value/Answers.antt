use Rattle.std.proofs.Common.{sym, map}
use Rattle.command_words.specs.Rows.{given_view}
use Rattle.command_words.proofs.Keys.{key_refused, key_said}
use Rattle.command_words.proofs.row.key_value.Goals as goal

pub returns-in-Err : goal.returns-in-Err
returns-in-Err c = key_refused c.args.slots.now _ c.args.column c.args.key.now c.args.value.now _ (sym c.if-is_empty.ensures) c.in-Err.ensures.value

pub returns-in-Ok : goal.returns-in-Ok
returns-in-Ok c = key_said c.args.slots.now (map given_view c.args.given.now) c.args.column c.args.key.now c.args.value.now c.in-Ok.at _ c.slot_value.result (sym c.if-is_empty.ensures) c.in-Ok.ensures.value c.in-Ok.ensures.within c.slot_value.ensures
