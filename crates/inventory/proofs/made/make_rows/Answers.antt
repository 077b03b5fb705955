use Rattle.inventory_rows.specs.State.{inv_of}
use Rattle.inventory_rules.specs.Journal.{no_journal}
use Rattle.inventory.proofs.Stays.{kept, legal_can, legal_stays}
use Rattle.inventory.proofs.made.make_rows.Goals as goal

pub apply-requires : goal.apply-requires
apply-requires c = legal_can no_journal c.args.change.now (inv_of c.args.tables.now) c.requires.valid c.requires.tied c.requires.ascending c.requires.legal

pub returns-clause-valid : goal.returns-clause-valid
returns-clause-valid c =
    (kept c.apply.result c.args.change.now (inv_of c.args.tables.now) (inv_of c.apply.new.tables) c.apply.ensures (c.requires.valid, c.requires.tied)
    (legal_stays no_journal c.args.change.now (inv_of c.args.tables.now) c.requires.valid c.requires.tied c.requires.ascending c.is_day.ensures c.requires.legal)).0

pub returns-clause-tied : goal.returns-clause-tied
returns-clause-tied c =
    (kept c.apply.result c.args.change.now (inv_of c.args.tables.now) (inv_of c.apply.new.tables) c.apply.ensures (c.requires.valid, c.requires.tied)
    (legal_stays no_journal c.args.change.now (inv_of c.args.tables.now) c.requires.valid c.requires.tied c.requires.ascending c.is_day.ensures c.requires.legal)).1
