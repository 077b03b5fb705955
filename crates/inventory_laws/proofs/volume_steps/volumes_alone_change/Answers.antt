use Rattle.inventory_laws.proofs.Keeping.{lies_kept, put_kept, sequential_kept, take_all_kept, take_kept}
use Rattle.inventory_laws.proofs.volume_steps.volumes_alone_change.Goals as goal

pub returns-clause-put : goal.returns-clause-put
returns-clause-put c object segments v = put_kept object segments v

pub returns-clause-take : goal.returns-clause-take
returns-clause-take c object segments v = take_kept object segments v

pub returns-clause-take_all : goal.returns-clause-take_all
returns-clause-take_all c object copies v = take_all_kept object copies v

pub returns-clause-sequential : goal.returns-clause-sequential
returns-clause-sequential c v w k file = sequential_kept v w k file

pub returns-clause-lies : goal.returns-clause-lies
returns-clause-lies c v w k n s = lies_kept v w k n s
