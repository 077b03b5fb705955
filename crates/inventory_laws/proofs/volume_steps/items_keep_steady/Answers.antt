use Rattle.inventory_laws.proofs.Steady.{add_steady, back_up_steady, drop_steady, hold_steady, move_cited, move_steady, remove_steady}
use Rattle.inventory_laws.proofs.volume_steps.items_keep_steady.Goals as goal

pub returns-clause-backed_up : goal.returns-clause-backed_up
returns-clause-backed_up c n p filespace item v rest m there versions r f cite = back_up_steady n p filespace item v rest m there versions r f cite

pub returns-clause-held : goal.returns-clause-held
returns-clause-held c n p filespace item v rest m there versions r f cite = hold_steady n p filespace item v rest m there versions r f cite

pub returns-clause-added : goal.returns-clause-added
returns-clause-added c n p item v rest m there versions r f cite = add_steady n p item v rest m there versions r f cite

pub returns-clause-moved : goal.returns-clause-moved
returns-clause-moved c n p item v w old found there new versions r f cite = move_steady n p item v w old found there new versions r f cite

pub returns-clause-others_cited : goal.returns-clause-others_cited
returns-clause-others_cited c item v e = move_cited item v e

pub returns-clause-dropped : goal.returns-clause-dropped
returns-clause-dropped c n p item v w old found there versions r f cite = drop_steady n p item v w old found there versions r f cite

pub returns-clause-removed : goal.returns-clause-removed
returns-clause-removed c n p step object v w found versions r f cite = remove_steady n p step object v w found versions r f cite
