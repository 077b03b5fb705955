use Rattle.db_losses.proofs.Valid.{stays_valid}
use Rattle.db_losses.proofs.laws.restored_is_valid.Goals as goal

pub returns-clause-valid : goal.returns-clause-valid
returns-clause-valid c = λ losses file day v h t later bound small. (stays_valid losses file day v h t later bound small).0

pub returns-clause-tied : goal.returns-clause-tied
returns-clause-tied c = λ losses file day v h t later bound small. (stays_valid losses file day v h t later bound small).1
