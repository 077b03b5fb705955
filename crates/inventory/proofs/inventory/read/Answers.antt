use Rattle.std.proofs.Common.{◌≡◌, true, false, Option, Some, None, IfSome, IfNone, sym, ap, ◌∙◌, subst}
use Rattle.std.proofs.lemmas.Bool.{false≢true}
use Rattle.entries.specs.Meaning.{Spells}
use Rattle.inventory_laws.proofs.Facts.{facts_of}
use Rattle.inventory_bytes.specs.Payload.{AreSound, payload, unheld}
use Rattle.inventory_bytes.specs.Segments.{all_lie}
use Rattle.inventory_rows.specs.object_rows.HeldRows.{are_held_rows}
use Rattle.inventory_rows.specs.State.{Inv, inv_of}
use Rattle.inventory_rows.specs.declared.tables.Tables.{Tables}
use Rattle.inventory_rules.specs.Held.{IsTied}
use Rattle.inventory_rules.specs.Valid.{is_valid}
use Rattle.inventory.specs.Meaningful.{held_stand}
use Rattle.inventory.specs.Meant.{meaning}
use Rattle.inventory.proofs.Forms.{none_then}
use Rattle.inventory.proofs.Sound.{lie_there, sound}
use Rattle.inventory.proofs.inventory.read.Goals as goal

pub returns-in-Ok-Some-clause-none : goal.returns-in-Ok-Some-clause-none
returns-in-Ok-Some-clause-none g c =
    let Alone_in : Option Tables → Type 0 = λ o. IfSome o (λ t. (v : Inv) → (payload g.E.InEdition.edition).Fits (unheld v) → are_held_rows v.clients.held ≡ true → IsTied v → c.args.bytes.now ≡ (payload g.E.InEdition.edition).spell v → v ≡ inv_of t) in
    let alone : Alone_in (Some c.in-Ok-Some.tables) = subst Alone_in c.in-Ok-Some.field-0-is c.in-Ok-Some.ensures.alone in
    let none : is_valid (inv_of c.in-Ok-Some.tables) ≡ false → (d : Inv) → Spells meaning g.E.InEdition.edition c.args.bytes.now d → ⊥ =
    λ invalid d spells. false≢true (sym invalid ∙ (ap is_valid (sym (alone d spells.0.fits (held_stand d (facts_of d spells.0.valid)) spells.0.tied spells.1)) ∙ spells.0.valid)) in
    none_then (is_valid (inv_of c.in-Ok-Some.tables) ≡ false) ((d : Inv) → Spells meaning g.E.InEdition.edition c.args.bytes.now d → ⊥) none c.checked.result c.checked.ensures.none

pub returns-in-Ok-None-clause-none : goal.returns-in-Ok-None-clause-none
returns-in-Ok-None-clause-none g c d spells =
    let None_in : Option Tables → Type 0 = λ o. IfNone o ((v : Inv) → (payload g.E.InEdition.edition).Fits (unheld v) → AreSound v → all_lie v ≡ true → c.args.bytes.now ≡ (payload g.E.InEdition.edition).spell v → ⊥) in
    let none : None_in None = subst None_in c.in-Ok-None.field-0-is c.in-Ok-None.ensures.none in
    none d spells.0.fits (sound d (facts_of d spells.0.valid)) (lie_there d (facts_of d spells.0.valid)) spells.1
