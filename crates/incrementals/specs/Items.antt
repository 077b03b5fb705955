-- Which items the acknowledged transactions of an incremental backup have.
use Rattle.std.specs.Prelude.{◌≡◌, List, [], ◌∷◌, length}
use Rattle.client_plan.specs.Plans.{Lists}
use Rattle.client_batches.specs.Handling.{file_in}
use Rattle.client_batches.specs.Items.{ended_by, items_in, kept, rebound_by, stored_by}
use Rattle.client_batches.specs.Listings.{named, rebound}
use Rattle.steps.specs.Events.{Event}
use Rattle.steps.specs.Receipts.{receipts}
use Rattle.incrementals.specs.declared.answering.Outs.{Outs}

-- The acknowledged transactions have exactly the lines of the plan but those that failed; and each line is one or the other.
pub record IsWhole (plan : Lists) (o : Outs) (events : List Event) : Type 0 where
  pub sent : items_in stored_by (receipts events) ≡ kept (λ l. file_in l ∷ []) plan.send o.sent
  pub rebound : items_in rebound_by (receipts events) ≡ kept (λ l. rebound l ∷ []) plan.rebind o.rebound
  pub gone : items_in ended_by (receipts events) ≡ kept (λ l. named l ∷ []) plan.gone o.gone
  pub each_sent : length o.sent ≡ length plan.send
  pub each_rebound : length o.rebound ≡ length plan.rebind
  pub each_gone : length o.gone ≡ length plan.gone
