use Rattle.std.proofs.Common.{IsTrue}
use Rattle.log_file.proofs.Logs.{sure_beside, sure_since}
use Rattle.log_file.proofs.laws.other_files.Goals as goal

pub returns-clause-sure : goal.returns-clause-sure
returns-clause-sure c theirs old new file payloads end goes apart sure = sure_beside (λ f. IsTrue (theirs f)) old new file payloads end apart goes sure

pub returns-clause-images : goal.returns-clause-images
returns-clause-images c theirs old new file payloads end goes apart sure = sure_since (λ f. IsTrue (theirs f)) old new file payloads end apart goes sure
