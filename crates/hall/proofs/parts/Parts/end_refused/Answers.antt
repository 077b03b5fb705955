use Rattle.std.proofs.Common.{◌≡◌, ◌∙◌, ap, subst, sym}
use Rattle.std.specs.Prelude.{IfSome}
use Rattle.hall.specs.Held.{Held}
use Rattle.hall.proofs.BackupRefused.{end_said}
use Rattle.hall.proofs.parts.Parts.end_refused.Goals as goal

pub returns-clause-full : goal.returns-clause-full
returns-clause-full c = λ there.
    end_said c.args.file c.args.self.now c.database.result.now (c.database.ensures ∙ ap (λ (h : Held). h.vault.database) c.self.view_is) c.tables-tables.ensures.valid c.tables-tables.ensures.tied there c.illegal-cause.result
    (c.illegal-cause.ensures c.requires)
