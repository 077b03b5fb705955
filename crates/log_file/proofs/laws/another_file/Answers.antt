use Rattle.std.proofs.Common.{◌≡◌}
use Rattle.log_file.proofs.Logs.{sure_beside, sure_since}
use Rattle.log_file.proofs.laws.another_file.Goals as goal

pub returns-clause-sure : goal.returns-clause-sure
returns-clause-sure c other file old new payloads end goes apart sure = sure_beside (λ f. f ≡ other) old new file payloads end apart goes sure

pub returns-clause-images : goal.returns-clause-images
returns-clause-images c other file old new payloads end goes apart sure = sure_since (λ f. f ≡ other) old new file payloads end apart goes sure
