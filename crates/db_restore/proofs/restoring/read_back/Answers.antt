use Rattle.std.proofs.Common.{◌∙◌, Option, sym, subst}
use Rattle.std.specs.Option.{IfSome}
use Rattle.fields.specs.Editions.{second_form}
use Rattle.entries.specs.Meaning.{Spells}
use Rattle.inventory.specs.Meant.{meaning}
use Rattle.inventory.specs.Meaningful.{is_meaning}
use Rattle.inventory_rows.specs.State.{Inv, inv_of}
use Rattle.db_restore.proofs.restoring.read_back.Goals as goal

pub returns-in-Ok-Some : goal.returns-in-Ok-Some
returns-in-Ok-Some c =
    let found : Spells meaning second_form c.deref.result.now c.in-Ok-Some.inventory = subst (λ (o : Option Inv). IfSome o (λ d. Spells meaning second_form c.deref.result.now d)) c.in-Ok-Some.field-0-is c.in-Ok-Some.ensures.found in
    let bytes = c.in_ok-bytes.ensures.bytes in
    is_meaning.one second_form c.in-Ok-Some.inventory (inv_of c.args.tables.now) found.0 bytes.0 (sym found.1 ∙ c.deref.ensures.value ∙ bytes.1)
