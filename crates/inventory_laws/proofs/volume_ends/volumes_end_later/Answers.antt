use Rattle.inventory_laws.proofs.Rising.{all_below, ends_later}
use Rattle.inventory_laws.proofs.volume_ends.volumes_end_later.Goals as goal

pub returns-clause-later : goal.returns-clause-later
returns-clause-later k j c v file old new valid cause other before after = ends_later j c v file old new valid cause other before after

pub returns-clause-below : goal.returns-clause-below
returns-clause-below k v file volume valid there sequential = all_below v file volume valid there sequential
