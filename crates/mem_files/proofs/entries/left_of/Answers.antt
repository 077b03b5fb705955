use Rattle.mem_store.specs.Mem.{history_of}
use Rattle.mem_files.proofs.Stores.{left_store}
use Rattle.mem_files.proofs.entries.left_of.Goals as goal

pub returns-then-keeps-clause-left : goal.returns-then-keeps-clause-left
returns-then-keeps-clause-left c = λ keeps. left_store (history_of c.args.store) (history_of c.stop.result) c.stop.ensures.told
