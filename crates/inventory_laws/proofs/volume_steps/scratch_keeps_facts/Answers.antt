use Rattle.std.proofs.Common.{refl}
use Rattle.inventory_laws.proofs.Steady.{scratch_steady}
use Rattle.inventory_laws.proofs.Scratch.{others_there, scratch_made, sequential_made}
use Rattle.inventory_laws.proofs.volume_steps.scratch_keeps_facts.Goals as goal

pub returns-clause-made : goal.returns-clause-made
returns-clause-made c p s v f free sequential below none = scratch_made p s v f free sequential below none

pub returns-clause-others : goal.returns-clause-others
returns-clause-others c s v file volume free found = others_there s v file volume free found

pub returns-clause-sequential : goal.returns-clause-sequential
returns-clause-sequential c s v n = sequential_made s v n

pub returns-clause-clients : goal.returns-clause-clients
returns-clause-clients c s v = refl

pub returns-clause-each : goal.returns-clause-each
returns-clause-each c n scratch v h fit s = scratch_steady n scratch v h fit s
