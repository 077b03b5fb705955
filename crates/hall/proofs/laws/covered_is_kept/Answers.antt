use Rattle.contents.specs.Contents.{InStore}
use Rattle.hall.specs.Covered.{left_open}
use Rattle.hall.proofs.Covering.{all_each}
use Rattle.hall.proofs.laws.covered_is_kept.Goals as goal

pub returns : goal.returns
returns c = λ contents h core kept. all_each (InStore h) contents (left_open core) kept
