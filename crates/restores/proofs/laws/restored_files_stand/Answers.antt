use Rattle.restores.proofs.Standing.{each-stands, others-stay}
use Rattle.restores.proofs.laws.restored_files_stand.Goals as goal

pub returns-clause-files : goal.returns-clause-files
returns-clause-files c lines gave before after old new events apart h = each-stands lines gave before after old new events apart h

pub returns-clause-others : goal.returns-clause-others
returns-clause-others c lines gave before after old new events path none h = others-stay lines gave before after old new events path none h
