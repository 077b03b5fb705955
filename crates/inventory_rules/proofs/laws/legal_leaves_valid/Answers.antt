use Rattle.std.proofs.Common.{◌≡◌, Bool, true, false, Option, Some, None, refl, ◌++◌}
use Rattle.kinds.specs.declared.refusal.Refusal.{Refusal}
use Rattle.kinds.specs.Refusals.{foremost}
use Rattle.inventory_rules.specs.Transactions.{effect, causes, refused, sizes_refused, then_valid}
use Rattle.inventory_rules.specs.Valid.{is_valid}
use Rattle.inventory_rules.proofs.laws.legal_leaves_valid.Goals as goal

valid_then : (o : Option Refusal) (valid : Bool) → then_valid o valid ≡ None → valid ≡ true
valid_then (Some e) valid h = absurd cc
valid_then None true h = refl
valid_then None false h = absurd cc

pub returns-clause-valid : goal.returns-clause-valid
unfolding refused
returns-clause-valid c j change v h = valid_then (foremost (causes j change v ++ sizes_refused change v)) (is_valid (effect change v)) h
