use Rattle.inventory_laws.proofs.VersionVolumes.{all_scratch_only, all_taken_only, facts_only, put_only, taken_only}
use Rattle.inventory_laws.proofs.version_steps.volumes_alone.Goals as goal

pub returns-clause-put : goal.returns-clause-put
returns-clause-put c object segments v = put_only object segments v

pub returns-clause-taken : goal.returns-clause-taken
returns-clause-taken c object segments v = taken_only object segments v

pub returns-clause-all_taken : goal.returns-clause-all_taken
returns-clause-all_taken c object copies v = all_taken_only object copies v

pub returns-clause-scratch : goal.returns-clause-scratch
returns-clause-scratch c scratch v = all_scratch_only scratch v

pub returns-clause-facts : goal.returns-clause-facts
returns-clause-facts c n v w o f = facts_only n v w o f
