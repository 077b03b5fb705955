-- Where one actor has the machine alone, opening a ticket waits for nothing but a transaction that isn't forced yet.
use Rattle.std.proofs.Common.{◌≡◌, inl, inr, ℕ, ◌+◌, ◌^◌, nat_lt, Bool, true, false, List, [], ◌∷◌, ◌++◌, Option, None, Some, Result, Ok, Err, refl, subst}
use Rattle.std.specs.List.{AllByRecursion}
use Rattle.kinds.specs.Refusals.{foremost, unless}
use Rattle.kinds.specs.declared.refusal.Holder.{Holder}
use Rattle.kinds.specs.declared.refusal.Refusal.{Refusal}
use Rattle.kinds.specs.declared.refusal.Refusal.TheVariants as refused
use Rattle.entries.specs.declared.change.Change.{Change}
use Rattle.entries.specs.declared.entry.Entry.{Entry}
use Rattle.space.specs.declared.aim.Aim.TheVariants as aim
use Rattle.steps.specs.Events.{Deed, Event}
use Rattle.steps.specs.Events.Deed.{OpenNew}
use Rattle.machine.specs.Alone.{Alone}
use Rattle.machine.specs.Causes.{new_refused}
use Rattle.machine.specs.Machine.{Case, IsPlaced, Places, can_place_new, ended, halted, last_moment, placing_refused, space}
use Rattle.machine.specs.State.{Core, Machine, Place, Ticket, inventory, sight}
use Rattle.machine.proofs.Elsewhere.{append-all, foremost-all, unless-all}
use Rattle.line_results.specs.Resting.{NobodyHolds}
use Rattle.line_results.proofs.Runs.{onward-later}
use Rattle.line_results.proofs.Sending.{AllSend, AreNew, Stored, deed-stored, has-tickets}
use Rattle.line_results.proofs.Spent.{ticket-step}
use Rattle.line_results.proofs.Stopping.{AreFree, IsFree, IsUnforced}

-- a refusal for which nothing has to be waited for but such a transaction
abbrev IsMild : Refusal → Type 0
IsMild e = (h : Holder) → e ≡ refused.Busy h → IsUnforced h

mild-placed : (can : Bool) (Is : Result Place Refusal → Type 0) (placed : Result Place Refusal) → ((h : Holder) → Is (Err (refused.Busy h)) → IsUnforced h) → IsPlaced can Is placed → AllByRecursion IsMild (placing_refused can placed)
mild-placed true Is (Ok place) free h = tt
mild-placed true Is (Err e) free h = ((λ holder is. free holder (subst (λ (x : Refusal). Is (Err x)) is h)), tt)
mild-placed false Is placed free h = tt

mild-halted : (fault : Option (ℕ × ℕ)) → AllByRecursion IsMild (halted fault)
mild-halted None = tt
mild-halted (Some f) = ((λ h s. absurd cc), tt)

-- the tickets are the script's
own-tickets : (first : ℕ) (tickets : List Ticket) → AreNew first tickets → AllByRecursion (λ t. t.actor ≡ 0) tickets
own-tickets first [] h = tt
own-tickets first (t ∷ tickets) h = (h.0.0, own-tickets first tickets h.1)

module _ (places : Places) (nobody : NobodyHolds places) where
  opening-mild : (first pool size prefer : ℕ) (m : Machine) (placed : Result Place Refusal) → AreNew first m.core.tickets
      → IsPlaced (can_place_new pool size (sight 0 m.core)) (places (inventory m.core) (space m.core) 0 size (aim.New pool) prefer 0) placed
      → (e : Refusal)
      → foremost
      (ended m
      ++ (new_refused pool size (sight 0 m.core)
      ++ (placing_refused (can_place_new pool size (sight 0 m.core)) placed
      ++ (unless (nat_lt (m.core.next_object + 1) (2 ^ 62)) refused.InventoryFull
      ++ unless (nat_lt (m.core.next_ticket + 1) (2 ^ 62)) refused.InventoryFull)))) ≡ Some e
      → IsMild e
  opening-mild first pool size prefer m placed own is e why =
      let c : Core = m.core in
      foremost-all IsMild _
      (append-all IsMild (ended m) _
      (append-all IsMild (unless (nat_lt m.moment last_moment) refused.RunFull) _ (unless-all IsMild (nat_lt m.moment last_moment) refused.RunFull (λ h s. absurd cc)) (mild-halted c.fault))
      (append-all IsMild (new_refused pool size (sight 0 c)) _
      (append-all IsMild (unless (nat_lt size (2 ^ 44)) refused.TooLarge) _ (unless-all IsMild (nat_lt size (2 ^ 44)) refused.TooLarge (λ h s. absurd cc))
      (unless-all IsMild _ refused.NotFound (λ h s. absurd cc)))
      (append-all IsMild (placing_refused (can_place_new pool size (sight 0 c)) placed) _
      (mild-placed (can_place_new pool size (sight 0 c)) (places (inventory c) (space c) 0 size (aim.New pool) prefer 0) placed
      (λ h s. (nobody (inventory c) (space c) 0 size (aim.New pool) prefer 0 h (own-tickets first c.tickets own) s).0) is)
      (append-all IsMild (unless (nat_lt (c.next_object + 1) (2 ^ 62)) refused.InventoryFull) _
      (unless-all IsMild (nat_lt (c.next_object + 1) (2 ^ 62)) refused.InventoryFull (λ h s. absurd cc))
      (unless-all IsMild (nat_lt (c.next_ticket + 1) (2 ^ 62)) refused.InventoryFull (λ h s. absurd cc)))))) e why

  step-free : (first : ℕ) (d : Deed) (m next : Machine) → AreNew first m.core.tickets → Case places 0 d m next → IsFree d
  step-free first (OpenNew pool size prefer (Err (refused.Busy h))) m next own (placed, is, inl (inl why, stays)) = opening-mild first pool size prefer m placed own is (refused.Busy h) why h refl
  step-free first (OpenNew pool size prefer (Err (refused.Busy h))) m next own (placed, is, inl (inr memory, stays)) = absurd cc
  step-free first (OpenNew pool size prefer (Err (refused.Busy h))) m next own (placed, is, inr (none, never)) = absurd never
  step-free first d m next own h = tt

  -- along the steps of the script that stores new objects
  pub free-walk : (P : Change → Type 0) (whole : List Event) (trusted : Type 0) (first : List Entry) (events : List Event) (later : List Entry) (old m new : Machine) → AllSend P whole events
      → Stored P whole first later old m → Alone trusted places 0 events m new → AreFree events
  free-walk P whole trusted first [] later old m new all w f = tt
  free-walk P whole trusted first (e ∷ events) later old m new all w (next, moved, rest) =
      let s = ticket-step trusted places e m next (has-tickets P whole e.deed all.0) moved in
      let r = deed-stored P whole first later old m next w (onward-later m next s.0) places e.deed all.0 s.1 in
      (step-free old.core.next_object e.deed m next w.tickets s.1, free-walk P whole trusted first events r.0 old next new all.1 r.1 rest)
