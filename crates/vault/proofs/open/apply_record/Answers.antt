use Rattle.std.proofs.Common.{Option, IfSome, subst}
use Rattle.entries.specs.declared.entry.Entry.{Entry}
use Rattle.entries.specs.EntryForm.{SpellsIn}
use Rattle.vault.specs.Openings.{form_of}
use Rattle.vault.proofs.Replaying.{applied}
use Rattle.vault.proofs.open.apply_record.Goals as goal

pub returns-in-Ok-Some-clause-applies : goal.returns-in-Ok-Some-clause-applies
returns-in-Ok-Some-clause-applies g c =
    applied (form_of c.args.first) g.D.Database.meaning c.args.payload.now c.in-Ok-Some.entry c.args.database.now c.apply_legal-applied.new.database c.apply_legal-applied.result (subst (λ (o : Option Entry). IfSome o (λ e. SpellsIn (form_of c.args.first) c.args.payload.now e)) c.in-Ok-Some.field-0-is c.in-Ok-Some.ensures.found) c.apply_legal-applied.ensures.applies
