-- Steps by which copies are made: none is refused for a bound where no bound stands in their way, nor as something isn't there.
use Rattle.std.proofs.Common.{◌≡◌, inl, inr, ℕ, ◌+◌, ◌^◌, ◌==◌, ◌&&◌, ◌||◌, not, is_some, nat_le, nat_lt, Bool, true, false, List, [], ◌∷◌, length, Option, None, Some, Result, refl, ap, subst, ◌∙◌}
use Rattle.std.proofs.lemmas.Bool.{lt-ltb}
use Rattle.std.specs.List.{AllByRecursion, find, list_all}
use Rattle.std.specs.Option.{option_map_or}
use Rattle.kinds.specs.Refusals.{bad_value, foremost, unless}
use Rattle.kinds.specs.declared.change.PoolChange.TheVariants as store
use Rattle.kinds.specs.declared.change.Verb.TheVariants as verb
use Rattle.kinds.specs.declared.refusal.Holder.TheVariants as holder
use Rattle.kinds.specs.declared.refusal.Refusal.{Refusal}
use Rattle.kinds.specs.declared.refusal.Refusal.TheVariants as refused
use Rattle.entries.specs.declared.change.Change.{Change}
use Rattle.entries.specs.declared.change.Change.TheVariants as change
use Rattle.inventory_rows.specs.pool_rows.PoolRows.{pool_named, volume_named}
use Rattle.inventory_rows.specs.version_groups.Entries.{is_nil}
use Rattle.inventory_rows.specs.version_groups.declared.copies.CopyRow.{CopyRow}
use Rattle.inventory_rows.specs.version_groups.declared.versions.Version.{Version}
use Rattle.inventory_rows.specs.Search.{copy_in, version}
use Rattle.inventory_rules.specs.Journal.{Journal}
use Rattle.inventory_rules.specs.Transactions.{refused as refused_by}
use Rattle.inventory_rules.specs.Versions.{gone_or_unknown, name_once, of_version}
use Rattle.space.specs.declared.aim.Aim.{Aim}
use Rattle.space.specs.declared.aim.Aim.TheVariants as aim
use Rattle.steps.specs.declared.asked.Asked.{Asked}
use Rattle.steps.specs.declared.asked.Asked.TheVariants.{Placed}
use Rattle.steps.specs.Events.{Deed}
use Rattle.steps.specs.Events.Deed.{Commit, CopyPiece, DropTicket, Force, OpenCopy, Seal}
use Rattle.machine.specs.Causes.{are_there, asked_refused, change_illegal, change_refused, copied_already, copy_refused_by, copying_refused, drop_refused, is_copy_pool, of_tickets, seal_refused, ticket_in_use}
use Rattle.machine.specs.Changes.{all_tickets, change_of, is_copied, is_moved}
use Rattle.machine.specs.Machine.{Places, asked_change, ended, has_file, held_by, held_refused, written_by}
use Rattle.machine.specs.State.{Core, Image as Picture, Machine, Sight, Ticket, inventory, sight, ticket}
use Rattle.machine.proofs.Elsewhere.{append-all, ended-all, foremost-all, unless-all}
use Rattle.line_results.specs.copy_attempts.Outcomes.{IsOf}
use Rattle.line_results.proofs.Bounds.{flat-all, listed-all}
use Rattle.line_results.proofs.Trying.{IsCalm, calm-bad, calm-copying, calm-drop, calm-missing, calm-open, calm-seal, calm-used}
use Rattle.block_results.specs.Processes.{HasNumbers, IsKnown}
use Rattle.block_results.specs.Refusing.{HasNoPlace, IsRefusedFor, IsUnended, bounds, held_reasons, own_reasons}

-- ---- refusals

abbrev IsOther : Refusal → Type 0
IsOther e = e ≡ refused.InventoryFull → ⊥

calm-others : (list : List Refusal) → AllByRecursion IsCalm list → AllByRecursion IsOther list
calm-others [] h = tt
calm-others (e ∷ list) h = (h.0.0, calm-others list h.1)

pub none-first : (e : Refusal) (list : List Refusal) → list ≡ [] → foremost list ≡ Some e → ⊥
none-first e list none h = (let odd : foremost [] ≡ Some e = subst (λ (x : List Refusal). foremost x ≡ Some e) none h in absurd cc)

pub none-full : (b : Bool) → b ≡ true → unless b refused.InventoryFull ≡ []
none-full true is = refl
none-full false is = absurd cc

-- ---- what others hold

ticket-other : (test : Ticket → Bool) (tickets : List Ticket) → AllByRecursion IsOther (held_by test tickets)
ticket-other test tickets = elim (find test tickets) as (λ o. AllByRecursion IsOther (option_map_or (λ t. refused.Busy (holder.Ticket t.number) ∷ []) o [])) [
  | None ↦ tt
  | Some t ↦ ((λ is. cc), tt)
]

tickets-other : (test : ℕ → Ticket → Bool) (tickets : List Ticket) (o : Option ℕ) → AllByRecursion IsOther (option_map_or (λ (it : ℕ). held_by (test it) tickets) o [])
tickets-other test tickets None = tt
tickets-other test tickets (Some it) = ticket-other (test it) tickets

image-other : (file : ℕ) (o : Option Picture) → AllByRecursion IsOther (written_by file o)
image-other file None = tt
image-other file (Some i) = unless-all IsOther (not (i.file == file)) (refused.Busy (holder.Image i.actor)) (λ is. cc)

held-other : (w : Change) (c : Core) → AllByRecursion IsOther (held_refused w c)
held-other (change.Pool (store.Volume verb.Delete name number file capacity access)) c = tickets-other has_file c.tickets (volume_named name (inventory c).stores)
held-other (change.Pool (store.Pool verb.Delete name class kind rule)) c = tickets-other (λ it t. t.place.pool == it) c.tickets (pool_named name (inventory c).stores)
held-other (change.DbDelete file) c = image-other file c.image
held-other w c = tt

others-other : (o : Option Change) (c : Core) → AllByRecursion IsOther (option_map_or (λ it. held_refused it c) o [])
others-other None c = tt
others-other (Some w) c = held-other w c

-- ---- bounds

module _ (places : Places) (actor : ℕ) (before after : Machine) where
  abbrev s : Sight
  s = sight actor before.core

  full-never : (d : Deed) → AllByRecursion IsOther (own_reasons actor d s) → (HasNoPlace places actor d before refused.InventoryFull → ⊥) → AllByRecursion IsOther (held_reasons actor d before.core) → bounds d before.core ≡ []
      → (IsUnended actor d before → ⊥) → IsRefusedFor places actor d before after refused.InventoryFull → ⊥
  full-never d own place held bound unended (inl h) = foremost-all IsOther (own_reasons actor d s) own refused.InventoryFull h refl
  full-never d own place held bound unended (inr (inl h)) = place h
  full-never d own place held bound unended (inr (inr (inl h))) = foremost-all IsOther (held_reasons actor d before.core) held refused.InventoryFull h refl
  full-never d own place held bound unended (inr (inr (inr (inl h)))) = none-first refused.InventoryFull (bounds d before.core) bound h
  full-never d own place held bound unended (inr (inr (inr (inr (inl h))))) = foremost-all IsOther (ended before) (ended-all IsOther (λ is. cc) (λ log count is. cc) before) refused.InventoryFull h refl
  full-never d own place held bound unended (inr (inr (inr (inr (inr (inl h)))))) = unended h
  full-never d own place held bound unended (inr (inr (inr (inr (inr (inr h)))))) = cc

  change-other : (o : Option Change) → ((c : Change) → o ≡ Some c → refused_by s.journal c s.inventory ≡ Some refused.InventoryFull → ⊥) → AllByRecursion IsOther (change_refused actor o s)
  change-other None free = tt
  change-other (Some c) free =
      append-all IsOther (change_illegal c s) _ (listed-all IsOther (refused_by s.journal c s.inventory) (λ x is full. free c refl (is ∙ ap (λ (y : Refusal). Some y) full))) (unless-all IsOther _ refused.RecordFull (λ is. cc))

  unsealed-other : (o : Option Ticket) → AllByRecursion IsOther (option_map_or (λ (t : Ticket). unless t.is_sealed (ticket_in_use t.number)) o [])
  unsealed-other None = tt
  unsealed-other (Some t) = unless-all IsOther t.is_sealed (ticket_in_use t.number) (calm-used t.number).0

  commit-other : (number : ℕ) (answer : Result ℕ Refusal) → ((c : Change) → asked_change actor Placed (number ∷ []) before.core ≡ Some c → refused_by s.journal c s.inventory ≡ Some refused.InventoryFull → ⊥)
      → AllByRecursion IsOther (own_reasons actor (Commit Placed (number ∷ []) answer) s)
  commit-other number answer free =
      let numbers : List ℕ = number ∷ [] in
      append-all IsOther (are_there numbers s) _ (flat-all IsOther (λ (k : ℕ). unless (is_some (ticket k s.tickets)) refused.NotFound) (λ k. unless-all IsOther (is_some (ticket k s.tickets)) refused.NotFound calm-missing.0) numbers)
      (append-all IsOther (unless (name_once numbers && nat_le (length numbers) 256) bad_value) _ (unless-all IsOther (name_once numbers && nat_le (length numbers) 256) bad_value calm-bad.0)
      (append-all IsOther (asked_refused Placed numbers s) _
      (append-all IsOther (unless (not (is_nil numbers)) bad_value) (unless (list_all is_moved (all_tickets numbers s) || list_all is_copied (all_tickets numbers s)) bad_value) (unless-all IsOther (not (is_nil numbers)) bad_value calm-bad.0)
      (unless-all IsOther (list_all is_moved (all_tickets numbers s) || list_all is_copied (all_tickets numbers s)) bad_value calm-bad.0))
      (append-all IsOther (of_tickets (λ t. unless t.is_sealed (ticket_in_use t.number)) numbers s) _
      (flat-all IsOther (λ (k : ℕ). option_map_or (λ (t : Ticket). unless t.is_sealed (ticket_in_use t.number)) (ticket k s.tickets) []) (λ k. unsealed-other (ticket k s.tickets)) numbers) (change-other (change_of Placed numbers s) free))))

  -- a step of an attempt isn't refused for a bound
  pub attempt-full : (object : ℕ) (a : Aim) (avoid : ℕ) (d : Deed) → IsOf object a avoid d → HasNumbers places actor a avoid before → IsRefusedFor places actor d before after refused.InventoryFull → ⊥
  attempt-full object a avoid (OpenCopy number to other answer) (same, is, none) free for =
      let opened : Deed = OpenCopy object a avoid answer in
      let mine : IsRefusedFor places actor opened before after refused.InventoryFull =
      subst (λ (x : ℕ). IsRefusedFor places actor (OpenCopy object a x answer) before after refused.InventoryFull) none
      (subst (λ (x : Aim). IsRefusedFor places actor (OpenCopy object x other answer) before after refused.InventoryFull) is
      (subst (λ (x : ℕ). IsRefusedFor places actor (OpenCopy x to other answer) before after refused.InventoryFull) same for)) in
      full-never opened (calm-others (copy_refused_by object a s) (calm-open object a s)) (λ h. (free.1 object refused.InventoryFull h).0 refl) tt
      (none-full (nat_lt (before.core.next_ticket + 1) (2 ^ 62)) (lt-ltb (before.core.next_ticket + 1) (2 ^ 62) free.0)) (λ h. h) mine
  attempt-full object a avoid (CopyPiece number answer) h free for = full-never (CopyPiece number answer) (calm-others (copying_refused number s) (calm-copying number s)) (λ h. h) tt refl (λ h. h) for
  attempt-full object a avoid (Seal number answer) h free for = full-never (Seal number answer) (calm-others (seal_refused number s) (calm-seal number s)) (λ h. h) tt refl (λ h. h) for
  attempt-full object a avoid (DropTicket number answer) h free for = full-never (DropTicket number answer) (calm-others (drop_refused number s) (calm-drop number s)) (λ h. h) tt refl (λ h. h) for
  attempt-full object a avoid (Force answer) h free for = full-never (Force answer) tt (λ h. h) tt refl (λ h. h) for
  attempt-full object a avoid (Commit asked tickets answer) (number, is, one) free for =
      let mine : IsRefusedFor places actor (Commit Placed (number ∷ []) answer) before after refused.InventoryFull =
      subst (λ (ts : List ℕ). IsRefusedFor places actor (Commit Placed ts answer) before after refused.InventoryFull) one (subst (λ (x : Asked). IsRefusedFor places actor (Commit x tickets answer) before after refused.InventoryFull) is for) in
      full-never (Commit Placed (number ∷ []) answer) (commit-other number answer (free.2 number)) (λ h. h) (others-other (asked_change actor Placed (number ∷ []) before.core) before.core) refl (λ h. h) mine
  attempt-full object a avoid d h free for = absurd h

  -- ---- what is there

  abbrev IsThere : Refusal → Type 0
  IsThere e = e ≡ refused.NotFound → ⊥

  known-there : (j : Journal) (object : ℕ) (rule : Version → List Refusal) → ((w : Version) → AllByRecursion IsThere (rule w)) → (found : Option Version) → (is_some found || is_some (j.removed object)) ≡ true
      → AllByRecursion IsThere (of_version j object rule found)
  known-there j object rule h None known = (gone-there (j.removed object) known, tt) where
    gone-there : (o : Option ℕ) → (false || is_some o) ≡ true → IsThere (gone_or_unknown o)
    gone-there None odd = absurd cc
    gone-there (Some n) is = λ odd. cc
  known-there j object rule h (Some w) known = h w

  already-there : (found : Option CopyRow) → AllByRecursion IsThere (copied_already found)
  already-there None = tt
  already-there (Some copy) = ((λ is. cc), tt)

  unless-there : (b : Bool) → b ≡ true → AllByRecursion IsThere (unless b refused.NotFound)
  unless-there true is = tt
  unless-there false is = absurd cc

  -- the database has no such reason against a ticket for a further copy of an object that is known
  pub further-there : (object copy : ℕ) → is_copy_pool copy s ≡ true → IsKnown actor object before → foremost (copy_refused_by object (aim.Copy copy) s) ≡ Some refused.NotFound → ⊥
  further-there object copy pool known h =
      foremost-all IsThere (copy_refused_by object (aim.Copy copy) s)
      (append-all IsThere (unless (is_copy_pool copy s) refused.NotFound) _ (unless-there (is_copy_pool copy s) pool)
      (known-there s.journal object (λ w. copied_already (copy_in copy w)) (λ w. already-there (copy_in copy w)) (version object s.inventory) known)) refused.NotFound h refl
