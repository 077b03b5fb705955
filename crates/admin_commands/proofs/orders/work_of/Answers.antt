use Rattle.admin_commands.proofs.Causes.{lacking, misfitting}
use Rattle.admin_commands.proofs.Closed.{closed}
use Rattle.admin_commands.proofs.Hierarchies.{breaking}
use Rattle.admin_commands.proofs.orders.work_of.Goals as goal

pub returns-clause-closed : goal.returns-clause-closed
returns-clause-closed c = closed c.args.command.now c.args.answers.now c.work_by_family.result c.work_by_family.ensures

pub returns-clause-hierarchy : goal.returns-clause-hierarchy
returns-clause-hierarchy c = breaking c.args.command.now c.args.answers.now c.work_by_family.result c.work_by_family.ensures

pub returns-clause-lacking : goal.returns-clause-lacking
returns-clause-lacking c = lacking c.args.command.now c.args.answers.now c.work_by_family.result c.work_by_family.ensures

pub returns-clause-misfitting : goal.returns-clause-misfitting
returns-clause-misfitting c = misfitting c.args.command.now c.args.answers.now c.work_by_family.result c.work_by_family.ensures
