use Rattle.std.proofs.Common.{[], sym, ◌∙◌}
use Rattle.entries.specs.declared.change.Change.TheVariants as change
use Rattle.inventory_rules.specs.Journal.{no_journal}
use Rattle.inventory_rules.specs.Run.{journal_of}
use Rattle.inventory_rules.proofs.Journals.{not_refused}
use Rattle.hall.specs.Backing.{end_by}
use Rattle.hall.proofs.BackupJoins.{short_end}
use Rattle.hall.proofs.Committed.{joined_files}
use Rattle.hall.proofs.parts.Parts.end_backup.Goals as goal

pub join-requires-clause-legal : goal.join-requires-clause-legal
join-requires-clause-legal g c =
    not_refused (journal_of c.args.self.now.base c.args.self.now.vault.journal) no_journal (change.DbEnd c.args.file) c.args.self.now.vault.database (sym c.end_refused.ensures.said ∙ c.in_default.is)

pub join-requires-clause-short : goal.join-requires-clause-short
join-requires-clause-short g c = short_end c.args.actor c.args.file

pub returns-in-Ok-clause-files : goal.returns-in-Ok-clause-files
returns-in-Ok-clause-files g c =
    joined_files g.S.Store.told g.S.Store.faults_of c.args.self.now (end_by c.args.actor c.args.file) [] c.args.store.now c.join.new.store c.join.new.self c.join.result c.join.ensures.told c.join.ensures.err

pub returns-in-Err-clause-files : goal.returns-in-Err-clause-files
returns-in-Err-clause-files g c =
    joined_files g.S.Store.told g.S.Store.faults_of c.args.self.now (end_by c.args.actor c.args.file) [] c.args.store.now c.join.new.store c.join.new.self c.join.result c.join.ensures.told c.join.ensures.err
