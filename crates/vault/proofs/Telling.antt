-- What is told of calls in a row.
use Rattle.std.proofs.Common.{Option}
use Rattle.store_api.specs.Told.{Told}
use Rattle.store_api.proofs.Runs.{told_then}

pub told_three : {A : Type 0} (w x y z : Option A) (R Q P O : A → A → Type 0) → ((a b c d : A) → R a b → Q b c → P c d → O a d) → Told w x R → Told x y Q → Told y z P → Told w z O
told_three {A} w x y z R Q P O f r q p =
    told_then w y z (λ a c. (b : A) × R a b × Q b c) P O (λ a c d both step. f a both.0 c d both.1 both.2 step) (told_then w x y R Q (λ a c. (b : A) × R a b × Q b c) (λ a b c first second. (b, first, second)) r q) p
