use Rattle.std.proofs.Common.{None, Some}
use Rattle.inventory_rules.specs.Run.{journal_of}
use Rattle.run_past.specs.Told.{journal_from}
use Rattle.hall.proofs.PieceReads.{gone_by}
use Rattle.hall.proofs.parts.Parts.gone.Goals as goal

pub returns-in-Some : goal.returns-in-Some
returns-in-Some c =
    gone_by (journal_from c.past.result.now) (journal_of c.args.self.now.base c.args.self.now.vault.journal) c.args.object (Some c.in-Some.number) c.in-Some.ensures (c.past.ensures c.requires)

pub returns-in-None : goal.returns-in-None
returns-in-None c =
    gone_by (journal_from c.past.result.now) (journal_of c.args.self.now.base c.args.self.now.vault.journal) c.args.object None c.in-None.ensures (c.past.ensures c.requires)
