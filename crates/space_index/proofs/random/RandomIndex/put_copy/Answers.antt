use Rattle.space_index.specs.Index.{shape_at, times_at}
use Rattle.space_index.proofs.Following.{missing_index, put_index}
use Rattle.space_index.proofs.random.RandomIndex.put_copy.Goals as goal

pub returns-clause-missing : goal.returns-clause-missing
returns-clause-missing c = λ s claims is absent. missing_index c.put.new.self s claims c.args.segment.now absent (c.in_ok-put.ensures (shape_at s) (times_at s claims) is)

pub returns-clause-comes : goal.returns-clause-comes
returns-clause-comes c = λ s t claims object is made. put_index c.put.new.self s t claims c.args.segment.now object made (c.in_ok-put.ensures (shape_at s) (times_at s claims) is)
