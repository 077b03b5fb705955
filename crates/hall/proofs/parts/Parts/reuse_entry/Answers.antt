use Rattle.std.proofs.Common.{rules, ◌∙◌, ap}
use Rattle.hall.specs.Held.{Held}
use Rattle.hall.proofs.Reusable.{refusal_listed}
use Rattle.hall.proofs.parts.Parts.reuse_entry.Goals as goal

pub returns-in-Some-clause-listed : goal.returns-in-Some-clause-listed
returns-in-Some-clause-listed c =
    refusal_listed c.stores_stay_valid.ensures.reuse c.args.actor c.args.file c.args.self.now c.database.result.now (c.database.ensures ∙ ap (λ (h : Held). h.vault.database) c.self.view_is) c.tables-tables.ensures.valid
    c.tables-tables.ensures.tied c.in-Some.refusal (search rules)
