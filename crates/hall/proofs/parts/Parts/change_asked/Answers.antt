use Rattle.std.proofs.Common.{◌∙◌, sym, ap}
use Rattle.steps.specs.declared.asked.Asked.TheVariants.{Backup, Hold}
use Rattle.hall.specs.Sights.{sight_of}
use Rattle.hall.proofs.Deciding.{answers_made}
use Rattle.hall.proofs.Unfitting.{backup_few, backup_made, hold_few, hold_made, numbers_few, placed_made}
use Rattle.hall.proofs.parts.Parts.change_asked.Goals as goal

pub backup_of-requires : goal.backup_of-requires
backup_of-requires c =
    backup_few c.args.asked.now c.args.numbers.now (sight_of c.args.actor c.args.self.now) c.requires c.in-Backup.filespace c.as_slice.result.now
    (c.in-Backup.is ∙ ap (λ items. Backup c.in-Backup.filespace items) (sym c.as_slice.ensures))

pub hold_of-requires : goal.hold_of-requires
hold_of-requires c =
    hold_few c.args.asked.now c.args.numbers.now (sight_of c.args.actor c.args.self.now) c.requires c.in-Hold.filespace c.as_slice-in-Hold.result.now
    (c.in-Hold.is ∙ ap (λ items. Hold c.in-Hold.filespace items) (sym c.as_slice-in-Hold.ensures))

pub placed_of-requires : goal.placed_of-requires
placed_of-requires c = numbers_few c.args.asked.now c.args.numbers.now (sight_of c.args.actor c.args.self.now) c.requires

pub returns-in-Backup : goal.returns-in-Backup
returns-in-Backup c =
    answers_made c.backup_of.result _ _ c.backup_of.ensures
    (backup_made c.args.asked.now c.args.numbers.now (sight_of c.args.actor c.args.self.now) c.requires c.in-Backup.filespace c.as_slice.result.now
    (c.in-Backup.is ∙ ap (λ items. Backup c.in-Backup.filespace items) (sym c.as_slice.ensures)))

pub returns-in-Hold : goal.returns-in-Hold
returns-in-Hold c =
    answers_made c.hold_of.result _ _ c.hold_of.ensures
    (hold_made c.args.asked.now c.args.numbers.now (sight_of c.args.actor c.args.self.now) c.requires c.in-Hold.filespace c.as_slice-in-Hold.result.now
    (c.in-Hold.is ∙ ap (λ items. Hold c.in-Hold.filespace items) (sym c.as_slice-in-Hold.ensures)))

pub returns-in-Placed : goal.returns-in-Placed
returns-in-Placed c = answers_made c.placed_of.result _ _ c.placed_of.ensures (placed_made c.args.asked.now c.args.numbers.now (sight_of c.args.actor c.args.self.now) c.requires c.in-Placed.is)
