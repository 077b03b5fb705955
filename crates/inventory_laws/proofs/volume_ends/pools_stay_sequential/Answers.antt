use Rattle.inventory_laws.proofs.Facts.{facts_of}
use Rattle.inventory_laws.proofs.Rising.{sequential_stays}
use Rattle.inventory_laws.proofs.volume_ends.pools_stay_sequential.Goals as goal

pub returns : goal.returns
returns k c v file volume valid there = sequential_stays v (facts_of v valid) file volume there c
