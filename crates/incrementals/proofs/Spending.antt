-- No ticket is left behind an incremental backup.
use Rattle.std.proofs.Common.{◌≡◌, ◌⊎◌, inl, inr, ℕ, Bool, true, false, List, [], ◌∷◌, ◌++◌, Option, Result, Ok, Err, refl, sym, ap, subst, ◌∙◌}
use Rattle.kinds.specs.declared.refusal.Refusal.{Refusal}
use Rattle.choosers.specs.declared.rule.Rule.{Rule}
use Rattle.client_batches.specs.Listings.{ending, rebinding}
use Rattle.client_batches.proofs.Ordering.{each-made}
use Rattle.client_batches.proofs.Spending.{all-held, runs-held}
use Rattle.client_files.proofs.Held.{lasts}
use Rattle.client_trees.specs.Files.{Files}
use Rattle.steps.specs.Events.{Deed, Event}
use Rattle.steps.specs.Events.Deed.{Force}
use Rattle.steps.specs.Spent.{AreSettled}
use Rattle.steps.proofs.Spending.{AreClosed, AreHeld, closed-held, closed-made, closed-none, held-both, held-settled, opens_one}
use Rattle.incrementals.specs.declared.answering.Outs.{Outs}
use Rattle.incrementals.specs.declared.answering.Sent.{Sent as Said}
use Rattle.incrementals.specs.declared.planning.Begun.{Begun}
use Rattle.incrementals.specs.Filespaces.{HasFilespace}
use Rattle.incrementals.specs.Planning.{Begins}
use Rattle.incrementals.specs.Process.{CarriesOut, CommitsLists, Finishes, Forces, Increments, Works, is_sending, may_leave}
use Rattle.incrementals.proofs.Ordering.{each-begins, each-filespace}

closed-filespace : (node : List ℕ) (number : ℕ) (filespace : List ℕ) (sends : Bool) (events : List Event) (result : Result ℕ Refusal) → HasFilespace node number filespace sends events result → AreClosed events
closed-filespace node number filespace sends events result h = each-filespace (λ d. opens_one d ≡ false) (λ q answer. refl) node number filespace (λ answer. refl) sends events result h

closed-begins : (node filespace : List ℕ) (choice : List Rule) (told : Option Files) (before after : ℕ) (events : List Event) (result : Result Begun Refusal) → Begins node filespace choice told before after events result → AreClosed events
closed-begins node filespace choice told before after events result h = each-begins (λ d. opens_one d ≡ false) (λ q answer. refl) node filespace choice told before after events result h

closed-forces : (events : List Event) (result : Result (Unit {0}) Refusal) → Forces events result → AreClosed events
closed-forces events result h = closed-made (Force h.0) events refl h.1

module _ (b : Begun) (told : Option Files) (filespace : ℕ) where
  lists-held : (sent : List (Option Refusal)) (events : List Event) (result : Result Outs Refusal) → CommitsLists filespace b.plan sent events result → AreHeld [] events
  lists-held sent events (Ok o) (same, (xs, ys, cut, binds, ends)) =
      held-both [] events xs ys cut (runs-held (rebinding filespace) b.plan.rebind xs (Ok o.rebound) binds.order) (runs-held (ending filespace) b.plan.gone ys (Ok o.gone) ends.order)
  lists-held sent events (Err e) (inl binds) = runs-held (rebinding filespace) b.plan.rebind events (Err e) binds.order
  lists-held sent events (Err e) (inr (outs, (xs, ys, cut, binds, ends))) =
      held-both [] events xs ys cut (runs-held (rebinding filespace) b.plan.rebind xs (Ok outs) binds.order) (runs-held (ending filespace) b.plan.gone ys (Err e) ends.order)

  carries-held : (before after : ℕ) (events : List Event) (result : Result Outs Refusal) → CarriesOut filespace b told before after events result → lasts result ≡ false → AreHeld [] events
  carries-held before after events result (inl (sent, (xs, ys, cut, sends, lists))) mild =
      held-both [] events xs ys cut (all-held b.classes told filespace b.plan.send before after xs (Ok sent) sends.order refl) (lists-held sent ys result lists)
  carries-held before after events result (inr (e, sends, is)) mild =
      all-held b.classes told filespace b.plan.send before after events (Err e) sends.order (ap (λ (r : Result Outs Refusal). lasts r) (sym is) ∙ mild)

module _ (node filespace : List ℕ) (b : Begun) (told : Option Files) where
  works-held : (before after : ℕ) (events : List Event) (result : Result Outs Refusal) → Works node filespace b told before after events result → lasts result ≡ false → AreHeld [] events
  works-held before after events result (inl h) mild = closed-held [] events (closed-none events h.1)
  works-held before after events result (inr (inl (busy, number, (xs, ys, cut, has, carries)))) mild =
      held-both [] events xs ys cut (closed-held [] xs (closed-filespace node b.node filespace (is_sending b.plan) xs (Ok number) has)) (carries-held b told number before after ys result carries mild)
  works-held before after events result (inr (inr (busy, e, has, same, is))) mild = closed-held [] events (closed-filespace node b.node filespace (is_sending b.plan) events (Err e) has)

  finishes-held : (before after : ℕ) (events : List Event) (result : Result Outs Refusal) → Finishes node filespace b told before after events result → lasts result ≡ false → AreHeld [] events
  finishes-held before after events (Ok o) (xs, ys, cut, works, forces) mild = held-both [] events xs ys cut (works-held before after xs (Ok o) works refl) (closed-held [] ys (closed-forces ys (Ok tt) forces))
  finishes-held before after events (Err e) (inl works) mild = works-held before after events (Err e) works mild
  finishes-held before after events (Err e) (inr (o, (xs, ys, cut, works, forces))) mild = held-both [] events xs ys cut (works-held before after xs (Ok o) works refl) (closed-held [] ys (closed-forces ys (Err e) forces))

-- it leaves none, unless the hall is halted or the run is full
pub increments-settled : (node filespace : List ℕ) (choice : List Rule) (told : Option Files) (before after : ℕ) (events : List Event) (result : Result Said Refusal) → Increments node filespace choice told before after events result
    → may_leave result ≡ false → AreSettled events
increments-settled node filespace choice told before after events result (inl (e, begins, is)) mild = held-settled events (closed-held [] events (closed-begins node filespace choice told before after events (Err e) begins))
increments-settled node filespace choice told before after events result (inr (inl (b, count, e, (xs, ys, cut, begins, finishes), is))) mild =
    held-settled events (held-both [] events xs ys cut (closed-held [] xs (closed-begins node filespace choice told before count xs (Ok b) begins))
    (finishes-held node filespace b told count after ys (Err e) finishes (ap (λ (r : Result Said Refusal). may_leave r) (sym is) ∙ mild)))
increments-settled node filespace choice told before after events result (inr (inr (b, count, o, (xs, ys, cut, begins, finishes), is))) mild =
    held-settled events (held-both [] events xs ys cut (closed-held [] xs (closed-begins node filespace choice told before count xs (Ok b) begins)) (finishes-held node filespace b told count after ys (Ok o) finishes refl))
