use Rattle.inventory_laws.proofs.Changing.{facts_reordered, put_one, take_copies, take_list, take_one}
use Rattle.inventory_laws.proofs.Keeping.{put_list}
use Rattle.inventory_laws.proofs.volume_steps.segments_keep_facts.Goals as goal

pub returns-clause-reorder : goal.returns-clause-reorder
returns-clause-reorder c p q v f r = facts_reordered p q v f r

pub returns-clause-put : goal.returns-clause-put
returns-clause-put c p v object n s f lies clear = put_one p v object n s f lies clear

pub returns-clause-put_all : goal.returns-clause-put_all
returns-clause-put_all c p object n segments v f lies clear apart = put_list p object n segments v f lies clear apart

pub returns-clause-take : goal.returns-clause-take
returns-clause-take c p v object s f = take_one p v object s f

pub returns-clause-take_list : goal.returns-clause-take_list
returns-clause-take_list c p object segments v f = take_list p object segments v f

pub returns-clause-take_copies : goal.returns-clause-take_copies
returns-clause-take_copies c p object copies v f = take_copies p object copies v f
