use Rattle.std.proofs.Common.{◌≡◌, Option, Ok, refl, subst, sym}
use Rattle.kinds.specs.declared.rule.BackupRule.{BackupRule}
use Rattle.policy_domains.specs.declared.classes.AnyGroup.{AnyGroup}
use Rattle.policy_domains.specs.declared.classes.ManagementClass.{ManagementClass}
use Rattle.policy_domains.specs.Groups.{group_changed, groups_changed}
use Rattle.policy_domains.specs.Makings.{IsAsSaid}
use Rattle.policy_domains.proofs.Parts.{within_said}
use Rattle.policy_domains.proofs.classes.ManagementClass.change.Goals as goal

pub returns-in-Backup : goal.returns-in-Backup
returns-in-Backup c =
    let new : ManagementClass = record { backup = c.left_by-self.result; archive = c.args.self.now.archive } in
    subst (λ (g : AnyGroup). IsAsSaid new (groups_changed c.args.verb g c.args.self.now)) (sym c.in-Backup.is)
    (within_said (λ (b : Option BackupRule). record { backup = b; archive = c.args.self.now.archive }) c.left_by-self.result new (group_changed c.args.verb c.in-Backup.group c.args.self.now.backup) refl c.left_by-self.ensures)
