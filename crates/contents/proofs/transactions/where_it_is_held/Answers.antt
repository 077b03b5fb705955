use Rattle.contents.proofs.Came.{all_clear, from_four, one_held_fits}
use Rattle.contents.proofs.transactions.where_it_is_held.Goals as goal

pub returns-clause-volumes : goal.returns-clause-volumes
returns-clause-volumes c change item v valid fit none one = from_four item.pool item.segments v valid (one_held_fits change item v fit none one)

pub returns-clause-clear : goal.returns-clause-clear
returns-clause-clear c change item v fit none one = all_clear item.pool item.segments v (one_held_fits change item v fit none one)

pub returns-clause-apart : goal.returns-clause-apart
returns-clause-apart c change item v fit none one = (one_held_fits change item v fit none one).apart
