use Rattle.std.proofs.Common.{Option, IfNone, subst}
use Rattle.fields.specs.Editions.{Edition, first_form, second_form}
use Rattle.inventory_rows.specs.State.{Inv}
use Rattle.inventory.proofs.Forms.{IsNoneIn, none_then, none_in_both}
use Rattle.inventory.proofs.inventory.Inventory.decode.Goals as goal

pub returns-in-Ok-None-clause-none : goal.returns-in-Ok-None-clause-none
returns-in-Ok-None-clause-none c =
    let second : IsNoneIn second_form c.args.bytes.now = subst (λ (o : Option Inv). IfNone o (IsNoneIn second_form c.args.bytes.now)) c.in-Ok-None.field-0-is c.in-Ok-None.ensures.none in
    none_then (IsNoneIn first_form c.args.bytes.now) ((form : Edition) → IsNoneIn form c.args.bytes.now) (none_in_both c.args.bytes.now second) c.read-in-Ok-None.result c.read-in-Ok-None.ensures.none
