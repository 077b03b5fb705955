use Rattle.restores.proofs.Caused.{restores-caused, restores-reading}
use Rattle.restores.proofs.laws.restores_only_read.Goals as goal

pub returns-clause-steps : goal.returns-clause-steps
returns-clause-steps c node filespace which before after old new events result h = restores-reading node filespace which before after old new events result h

pub returns-clause-cause : goal.returns-clause-cause
returns-clause-cause c node filespace which before after old new events result h = restores-caused node filespace which before after old new events result h
