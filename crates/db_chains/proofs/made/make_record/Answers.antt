use Rattle.std.specs.Prelude.{Option, IfSome}
use Rattle.std.proofs.Common.{subst}
use Rattle.entries.specs.declared.entry.Entry.{Entry}
use Rattle.entries.specs.EntryForm.{Spells}
use Rattle.db_chains.proofs.Making.{made_one}
use Rattle.db_chains.proofs.made.make_record.Goals as goal

pub returns-in-Ok-Some-clause-makes : goal.returns-in-Ok-Some-clause-makes
returns-in-Ok-Some-clause-makes g c =
    made_one g.D.Database.meaning c.args.record.now c.in-Ok-Some.entry c.args.database.now c.make-made.new.database c.make-made.result (subst (λ (o : Option Entry). IfSome o (λ e. Spells c.args.record.now e)) c.in-Ok-Some.field-0-is c.in-Ok-Some.ensures.found) c.make-made.ensures.makes
