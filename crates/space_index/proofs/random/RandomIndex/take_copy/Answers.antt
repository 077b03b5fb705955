use Rattle.space_index.specs.Index.{shape_at, times_at}
use Rattle.space_index.proofs.Following.{missing_ready, take_ready}
use Rattle.space_index.proofs.random.RandomIndex.take_copy.Goals as goal

pub returns-clause-missing : goal.returns-clause-missing
returns-clause-missing c = λ s claims is absent. c.in_ok-take.ensures (shape_at s) (times_at s claims) (missing_ready c.args.self.now s claims c.args.segment.now absent is)

pub returns-clause-goes : goal.returns-clause-goes
returns-clause-goes c = λ s t claims object today is made. c.in_ok-take.ensures (shape_at t) (times_at t claims) (take_ready c.args.self.now s t claims c.args.segment.now object today made is)
