use Rattle.std.proofs.Common.{inr, refl}
use Rattle.kept_index.proofs.following.follow_pool.Goals as goal

pub returns-then-is_unheld : goal.returns-then-is_unheld
returns-then-is_unheld c = record { index = refl; held = inr (λ s claims sites is file. c.is_unheld.ensures s claims sites is c.if-is_unheld.true file) }
