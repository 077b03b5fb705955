-- Why the machine refuses the steps by which copies are made, where one actor has it alone: as a database is full only for a bound, and as room is held only for a transaction that isn't forced yet.
use Rattle.std.proofs.Common.{◌≡◌, ◌⊎◌, inl, inr, ℕ, ◌+◌, ◌^◌, ◌==◌, ◌&&◌, ◌||◌, not, nat_le, nat_lt, is_some, Bool, true, false, if◌then◌else◌, List, [], ◌∷◌, ◌++◌, length, map, Option, None, Some, Result, Ok, Err, refl, sym, ap, subst, ◌∙◌}
use Rattle.std.proofs.lemmas.Bool.{ltb-false}
use Rattle.std.proofs.lemmas.Option.{same_Some}
use Rattle.std.specs.List.{AllByRecursion, flat_map, list_all}
use Rattle.std.specs.Option.{option_map_or}
use Rattle.kinds.specs.Refusals.{bad_value, unless}
use Rattle.kinds.specs.declared.refusal.Holder.{Holder}
use Rattle.kinds.specs.declared.refusal.Holder.TheVariants as holder
use Rattle.kinds.specs.declared.refusal.Refusal.{Refusal}
use Rattle.kinds.specs.declared.refusal.Refusal.TheVariants as refused
use Rattle.entries.specs.change_items.declared.items.MovedCopy.{MovedCopy}
use Rattle.entries.specs.change_items.declared.items.NewCopy.{NewCopy}
use Rattle.entries.specs.change_items.declared.items.ScratchVolume.{ScratchVolume}
use Rattle.entries.specs.declared.change.Change.{Change}
use Rattle.entries.specs.declared.entry.Entry.{Entry}
use Rattle.inventory_answers.specs.declared.query.Query.{Query}
use Rattle.inventory_answers.specs.declared.reply.Answer.{Answer}
use Rattle.inventory_rows.specs.Items.{count_items, most_items}
use Rattle.inventory_rows.specs.Search.{copy_in, pool, version}
use Rattle.inventory_rows.specs.State.{Inv}
use Rattle.inventory_rows.specs.version_groups.Entries.{is_nil}
use Rattle.inventory_rows.specs.version_groups.declared.copies.CopyRow.{CopyRow}
use Rattle.inventory_rows.specs.version_groups.declared.versions.Version.{Version}
use Rattle.inventory_rules.specs.Common.{file_bound, files_refused, full_at}
use Rattle.inventory_rules.specs.Copies.{copied_refused, copy_list_refused, copy_refused, move_refused, moved_refused, placed_by, stale_copy}
use Rattle.inventory_rules.specs.Journal.{Journal}
use Rattle.inventory_rules.specs.Segments.{scratch_refused}
use Rattle.inventory_rules.specs.Transactions.{causes, effect, sizes_refused}
use Rattle.inventory_rules.specs.Versions.{gone_or_unknown, name_once, of_version}
use Rattle.space.specs.declared.aim.Aim.{Aim}
use Rattle.space.specs.declared.aim.Aim.TheVariants as aim
use Rattle.steps.specs.declared.asked.Asked.{Asked}
use Rattle.steps.specs.declared.asked.Asked.TheVariants.{Placed}
use Rattle.steps.specs.Events.{Deed, Event, refusal}
use Rattle.steps.specs.Events.Deed.{Ask, Commit, CopyPiece, DropTicket, Force, OpenCopy, Seal}
use Rattle.command_steps.specs.copy_attempts.Outcomes.{IsOf, Met, MetBy}
use Rattle.command_steps.specs.copy_runs.Ends.{IsEnding, IsUnheld}
use Rattle.machine.specs.Alone.{Alone}
use Rattle.machine.specs.Causes.{are_there, asked_refused, change_illegal, change_refused, commit_refused, copied_already, copy_refused_by, copying_refused, drop_refused, is_copy_pool, listed, object_gone, of_ticket, of_tickets, seal_refused, ticket_in_use}
use Rattle.machine.specs.Changes.{all_tickets, change_of, is_copied, is_moved, is_moving}
use Rattle.machine.specs.Machine.{Asks, Case, Commits, CopiesPiece, Drops, Forces, IsPlaced, OpensCopy, Places, Seals, asked_change, can_place_copy, ended, held_refused, placing_refused, size_of, space}
use Rattle.machine.specs.State.{Core, Machine, Place, Sight, Ticket, inventory, is_storing, object_of, sight, ticket}
use Rattle.machine.proofs.Elsewhere.{append-all, ended-all, foremost-all, unless-all}
use Rattle.line_results.specs.Bounds.{illegal}
use Rattle.line_results.specs.Moving.{IsFullAt}
use Rattle.line_results.specs.Resting.{IsAtRest, NobodyHolds, database}
use Rattle.line_results.proofs.Bounds.{IsNoHolder, ask-other, ask-unheld, force-other, force-unheld, refused-all}
use Rattle.line_results.proofs.Copying.{AllCopy, AreFor, Copied, Copies, IsCopy, MayJoin, copied-none, copies-walk, found-copy, for-found, for-own}
use Rattle.line_results.proofs.Cutting.{CutAt, all-first, at-one, cut-at}
use Rattle.line_results.proofs.Spent.{HasTickets, all-same}
use Rattle.line_results.proofs.Walking.{Grew}

abbrev pub Refuses : Refusal → Deed → Type 0
Refuses e d = refusal d ≡ Some e

-- ---- the steps

-- it asks or forces, or makes an attempt for a copy that moves, or for a further one
abbrev pub IsTrying : (moves : Bool) → Deed → Type 0
IsTrying moves d = IsEnding d ⊎ ((object : ℕ) × (a : Aim) × (avoid : ℕ) × (is_moving a ≡ moves) × IsOf object a avoid d)

abbrev pub AreTrying : (moves : Bool) → List Event → Type 0
AreTrying moves events = AllByRecursion (λ e. IsTrying moves e.deed) events

abbrev pub NoOther : Change → Type 0
NoOther c = ⊥

ending-copies : (moves : Bool) (d : Deed) → IsEnding d → Copies moves NoOther d
ending-copies moves d (inl (q, answer, is)) = subst (λ (x : Deed). Copies moves NoOther x) (sym is) tt
ending-copies moves d (inr (answer, is)) = subst (λ (x : Deed). Copies moves NoOther x) (sym is) tt

trying-copies : (moves : Bool) (d : Deed) → IsTrying moves d → Copies moves NoOther d
trying-copies moves d (inl h) = ending-copies moves d h
trying-copies moves (OpenCopy number to other answer) (inr (object, a, avoid, so, (one, is, none))) = ap is_moving is ∙ so
trying-copies moves (CopyPiece number answer) (inr h) = tt
trying-copies moves (Seal number answer) (inr h) = tt
trying-copies moves (DropTicket number answer) (inr h) = tt
trying-copies moves (Force answer) (inr h) = tt
trying-copies moves (Commit asked tickets answer) (inr (object, a, avoid, so, (number, is, one))) = inl (number, is, one)
trying-copies moves d (inr (object, a, avoid, so, h)) = absurd h

ending-tickets : (d : Deed) → IsEnding d → HasTickets d
ending-tickets d (inl (q, answer, is)) = subst HasTickets (sym is) tt
ending-tickets d (inr (answer, is)) = subst HasTickets (sym is) tt

trying-tickets : (moves : Bool) (d : Deed) → IsTrying moves d → HasTickets d
trying-tickets moves d (inl h) = ending-tickets d h
trying-tickets moves (OpenCopy number to other answer) (inr h) = tt
trying-tickets moves (CopyPiece number answer) (inr h) = tt
trying-tickets moves (Seal number answer) (inr h) = tt
trying-tickets moves (DropTicket number answer) (inr h) = tt
trying-tickets moves (Force answer) (inr h) = tt
trying-tickets moves (Commit asked tickets answer) (inr h) = tt
trying-tickets moves d (inr (object, a, avoid, so, h)) = absurd h

pub all-copies : (moves : Bool) (events : List Event) → AreTrying moves events → AllCopy moves NoOther events
all-copies moves [] h = tt
all-copies moves (e ∷ events) h = (trying-copies moves e.deed h.0, all-copies moves events h.1)

pub all-tickets : (moves : Bool) (events : List Event) → AreTrying moves events → AllByRecursion (λ e. HasTickets e.deed) events
all-tickets moves [] h = tt
all-tickets moves (e ∷ events) h = (trying-tickets moves e.deed h.0, all-tickets moves events h.1)

-- ---- refusals

-- neither is the database full for it, nor has anything to be waited for
abbrev pub IsCalm : Refusal → Type 0
IsCalm e = (e ≡ refused.InventoryFull → ⊥) × IsNoHolder e

-- what holds where it says that the database is full, and where it says that something is held
abbrev IsSo : (Full : Type 0) → (Names : Holder → Type 0) → Refusal → Type 0
IsSo Full Names e = (e ≡ refused.InventoryFull → Full) × ((h : Holder) → e ≡ refused.Busy h → Names h)

calm-so : (Full : Type 0) (Names : Holder → Type 0) (e : Refusal) → IsCalm e → IsSo Full Names e
calm-so Full Names e c = ((λ full. absurd (c.0 full)), (λ h busy. absurd (c.1 h busy)))

all-so : (Full : Type 0) (Names : Holder → Type 0) (es : List Refusal) → AllByRecursion IsCalm es → AllByRecursion (IsSo Full Names) es
all-so Full Names [] h = tt
all-so Full Names (e ∷ es) h = (calm-so Full Names e h.0, all-so Full Names es h.1)

calm-full : IsCalm refused.RunFull
calm-full = ((λ is. absurd cc), (λ h is. absurd cc))

calm-fault : (file count : ℕ) → IsCalm (refused.LogFault file count)
calm-fault file count = ((λ is. absurd cc), (λ h is. absurd cc))

calm-memory : IsCalm refused.Memory
calm-memory = ((λ is. absurd cc), (λ h is. absurd cc))

pub calm-missing : IsCalm refused.NotFound
calm-missing = ((λ is. absurd cc), (λ h is. absurd cc))

pub calm-bad : IsCalm bad_value
calm-bad = ((λ is. absurd cc), (λ h is. absurd cc))

pub calm-used : (number : ℕ) → IsCalm (ticket_in_use number)
calm-used number = ((λ is. absurd cc), (λ h is. absurd cc))

calm-gone : (o : Option ℕ) → IsCalm (gone_or_unknown o)
calm-gone None = calm-missing
calm-gone (Some n) = ((λ is. absurd cc), (λ h is. absurd cc))

calm-stale : (n : ℕ) → IsCalm (refused.Stale n)
calm-stale n = ((λ is. absurd cc), (λ h is. absurd cc))

calm-stale-copy : (o : Option ℕ) (c : Option CopyRow) → IsCalm (stale_copy o c)
calm-stale-copy (Some n) c = calm-stale n
calm-stale-copy None (Some copy) = calm-stale copy.placed
calm-stale-copy None None = calm-missing

calm-ended : (m : Machine) → AllByRecursion IsCalm (ended m)
calm-ended m = ended-all IsCalm calm-full calm-fault m

calm-version : (j : Journal) (object : ℕ) (rule : Version → List Refusal) → ((w : Version) → AllByRecursion IsCalm (rule w)) → (found : Option Version) → AllByRecursion IsCalm (of_version j object rule found)
calm-version j object rule h None = (calm-gone (j.removed object), tt)
calm-version j object rule h (Some w) = h w

calm-already : (found : Option CopyRow) → AllByRecursion IsCalm (copied_already found)
calm-already None = tt
calm-already (Some copy) = (calm-stale copy.placed, tt)

pub calm-open : (object : ℕ) (a : Aim) (s : Sight) → AllByRecursion IsCalm (copy_refused_by object a s)
calm-open object (aim.New number) s = (calm-bad, tt)
calm-open object (aim.Move from placed to along) s =
    append-all IsCalm (unless (is_some (pool to s.inventory)) refused.NotFound) _ (unless-all IsCalm (is_some (pool to s.inventory)) refused.NotFound calm-missing)
    (calm-version s.journal object (copy_refused s.journal object from placed)
    (λ w. unless-all IsCalm (placed_by placed (copy_in from w)) (stale_copy (s.journal.copy_changed object from) (copy_in from w)) (calm-stale-copy (s.journal.copy_changed object from) (copy_in from w)))
    (version object s.inventory))
calm-open object (aim.Copy to) s =
    append-all IsCalm (unless (is_copy_pool to s) refused.NotFound) _ (unless-all IsCalm (is_copy_pool to s) refused.NotFound calm-missing)
    (calm-version s.journal object (λ w. copied_already (copy_in to w)) (λ w. calm-already (copy_in to w)) (version object s.inventory))

calm-ticket : (rule : Ticket → List Refusal) → ((t : Ticket) → AllByRecursion IsCalm (rule t)) → (o : Option Ticket) → AllByRecursion IsCalm (of_ticket rule o)
calm-ticket rule h None = (calm-missing, tt)
calm-ticket rule h (Some t) = h t

if-all : (b : Bool) (xs ys : List Refusal) → AllByRecursion IsCalm xs → AllByRecursion IsCalm ys → AllByRecursion IsCalm (if b then xs else ys)
if-all true xs ys h k = h
if-all false xs ys h k = k

pub calm-copying : (number : ℕ) (s : Sight) → AllByRecursion IsCalm (copying_refused number s)
calm-copying number s =
    calm-ticket (λ t. if is_storing t.purpose then ticket_in_use number ∷ [] else unless (not t.is_sealed) (ticket_in_use number) ++ object_gone (object_of t.purpose) s)
    (λ t. if-all (is_storing t.purpose) (ticket_in_use number ∷ []) (unless (not t.is_sealed) (ticket_in_use number) ++ object_gone (object_of t.purpose) s) (calm-used number, tt)
    (append-all IsCalm (unless (not t.is_sealed) (ticket_in_use number)) _ (unless-all IsCalm (not t.is_sealed) (ticket_in_use number) (calm-used number))
    (calm-version s.journal (object_of t.purpose) (λ w. []) (λ w. tt) (version (object_of t.purpose) s.inventory)))) (ticket number s.tickets)

pub calm-seal : (number : ℕ) (s : Sight) → AllByRecursion IsCalm (seal_refused number s)
calm-seal number s =
    calm-ticket (λ t. unless (length t.bytes == t.size) (refused.Changed t.size (length t.bytes)))
    (λ t. unless-all IsCalm (length t.bytes == t.size) (refused.Changed t.size (length t.bytes)) ((λ is. absurd cc), (λ h is. absurd cc))) (ticket number s.tickets)

pub calm-drop : (number : ℕ) (s : Sight) → AllByRecursion IsCalm (drop_refused number s)
calm-drop number s = calm-ticket (λ t. []) (λ t. tt) (ticket number s.tickets)

flat-all : {X : Type 0} (P : Refusal → Type 0) (f : X → List Refusal) → ((x : X) → AllByRecursion P (f x)) → (xs : List X) → AllByRecursion P (flat_map f xs)
flat-all P f h [] = tt
flat-all P f h (x ∷ xs) = append-all P (f x) (flat_map f xs) (h x) (flat-all P f h xs)

-- ---- the transaction of a copy

free-gone : (o : Option ℕ) → IsNoHolder (gone_or_unknown o)
free-gone o = (calm-gone o).1

free-version : (j : Journal) (object : ℕ) (rule : Version → List Refusal) → ((w : Version) → AllByRecursion IsNoHolder (rule w)) → (found : Option Version) → AllByRecursion IsNoHolder (of_version j object rule found)
free-version j object rule h None = (free-gone (j.removed object), tt)
free-version j object rule h (Some w) = h w

free-copied : (j : Journal) (v : Inv) (i : NewCopy) → AllByRecursion IsNoHolder (copied_refused j v i)
free-copied j v i =
    free-version j i.object (λ w. unless (not (is_some (copy_in i.pool w))) (stale_copy (j.copy_changed i.object i.pool) (copy_in i.pool w)))
    (λ w. unless-all IsNoHolder (not (is_some (copy_in i.pool w))) (stale_copy (j.copy_changed i.object i.pool) (copy_in i.pool w)) (calm-stale-copy (j.copy_changed i.object i.pool) (copy_in i.pool w)).1)
    (version i.object v)

free-moved : (j : Journal) (v : Inv) (i : MovedCopy) → AllByRecursion IsNoHolder (moved_refused j v i)
free-moved j v i =
    free-version j i.object (copy_refused j i.object i.from i.placed)
    (λ w. unless-all IsNoHolder (placed_by i.placed (copy_in i.from w)) (stale_copy (j.copy_changed i.object i.from) (copy_in i.from w)) (calm-stale-copy (j.copy_changed i.object i.from) (copy_in i.from w)).1)
    (version i.object v)

free-scratch : (scratch : List ScratchVolume) (v : Inv) → AllByRecursion IsNoHolder (scratch_refused scratch v)
free-scratch scratch v =
    append-all IsNoHolder (files_refused (map (λ s. s.file) scratch) v) (flat_map (λ s. file_bound s.file v) scratch) (unless-all IsNoHolder _ bad_value calm-bad.1)
    (flat-all IsNoHolder (λ (s : ScratchVolume). file_bound s.file v) (λ s. unless-all IsNoHolder _ refused.InventoryFull (λ h is. absurd cc)) scratch)

free-causes : (moves : Bool) (j : Journal) (c : Change) (v : Inv) → IsCopy moves c → AllByRecursion IsNoHolder (causes j c v)
free-causes true j c v (scratch, items, is) =
    subst (λ (x : Change). AllByRecursion IsNoHolder (causes j x v)) (sym is)
    (append-all IsNoHolder (move_refused j items v) (scratch_refused scratch v)
    (append-all IsNoHolder (unless (name_once (map (λ i. i.object) items)) bad_value) (flat_map (moved_refused j v) items) (unless-all IsNoHolder (name_once (map (λ i. i.object) items)) bad_value calm-bad.1)
    (flat-all IsNoHolder (moved_refused j v) (free-moved j v) items)) (free-scratch scratch v))
free-causes false j c v (scratch, items, is) =
    subst (λ (x : Change). AllByRecursion IsNoHolder (causes j x v)) (sym is)
    (append-all IsNoHolder (copy_list_refused j items v) (scratch_refused scratch v)
    (append-all IsNoHolder (unless (name_once (map (λ i. i.object) items)) bad_value) (flat_map (copied_refused j v) items) (unless-all IsNoHolder (name_once (map (λ i. i.object) items)) bad_value calm-bad.1)
    (flat-all IsNoHolder (copied_refused j v) (free-copied j v) items)) (free-scratch scratch v))

free-sizes : (c : Change) (v : Inv) → AllByRecursion IsNoHolder (sizes_refused c v)
free-sizes c v =
    append-all IsNoHolder (unless (nat_le (count_items (effect c v)) most_items) refused.InventoryFull) (full_at v.number (2 ^ 62))
    (unless-all IsNoHolder (nat_le (count_items (effect c v)) most_items) refused.InventoryFull (λ h is. absurd cc)) (unless-all IsNoHolder (nat_lt (v.number + 1) (2 ^ 62)) refused.InventoryFull (λ h is. absurd cc))

held-none : (moves : Bool) (c : Change) (core : Core) → IsCopy moves c → held_refused c core ≡ []
held-none true c core (scratch, items, is) = ap (λ (x : Change). held_refused x core) is
held-none false c core (scratch, items, is) = ap (λ (x : Change). held_refused x core) is

-- ---- steps

-- what is held is a transaction's that isn't forced yet
abbrev pub Unforced : Holder → Type 0
Unforced h = (number : ℕ) × (h ≡ holder.Unforced number)

module _ (places : Places) (nobody : NobodyHolds places) (moves : Bool) (m next : Machine) (own : AreFor moves m.core.tickets) (e : Refusal) where
  placing-so : (Full : Type 0) (can : Bool) (Is : Result Place Refusal → Type 0) (placed : Result Place Refusal) → IsPlaced can Is placed → ((x : Refusal) → Is (Err x) → IsSo Full Unforced x)
      → AllByRecursion (IsSo Full Unforced) (placing_refused can placed)
  placing-so Full true Is (Ok place) at so = tt
  placing-so Full true Is (Err x) at so = (so x at, tt)
  placing-so Full false Is placed at so = tt

  full-unless : (Full : Type 0) (b : Bool) → (b ≡ false → Full) → AllByRecursion (IsSo Full Unforced) (unless b refused.InventoryFull)
  full-unless Full true h = tt
  full-unless Full false h = (((λ is. h refl), (λ holder is. absurd cc)), tt)

  own-all : AllByRecursion (λ (t : Ticket). t.actor ≡ 0) m.core.tickets
  own-all = all-same _ (λ (t : Ticket). t.actor ≡ 0) (λ t h. h.0) m.core.tickets own

  open-so : (object : ℕ) (a : Aim) (avoid : ℕ) (answer : Result ℕ Refusal) → OpensCopy places 0 object a avoid m next (Err e) → IsSo (IsFullAt places (OpenCopy object a avoid answer) m) Unforced e
  open-so object a avoid answer (placed, at, inl (inl why, stays)) =
      let Full : Type 0 = IsFullAt places (OpenCopy object a avoid answer) m in
      foremost-all (IsSo Full Unforced) _
      (append-all (IsSo Full Unforced) (ended m) _ (all-so Full Unforced (ended m) (calm-ended m))
      (append-all (IsSo Full Unforced) (copy_refused_by object a (sight 0 m.core)) _ (all-so Full Unforced (copy_refused_by object a (sight 0 m.core)) (calm-open object a (sight 0 m.core)))
      (append-all (IsSo Full Unforced) (placing_refused (can_place_copy object a (inventory m.core)) placed) _
      (placing-so Full (can_place_copy object a (inventory m.core)) (places (inventory m.core) (space m.core) 0 (size_of object (inventory m.core)) a 0 avoid) placed at
      (λ x is. (
        (λ full. inl (subst (λ (y : Refusal). places (inventory m.core) (space m.core) 0 (size_of object (inventory m.core)) a 0 avoid (Err y)) full is)),
        (λ h busy. (nobody (inventory m.core) (space m.core) 0 (size_of object (inventory m.core)) a 0 avoid h own-all
            (subst (λ (y : Refusal). places (inventory m.core) (space m.core) 0 (size_of object (inventory m.core)) a 0 avoid (Err y)) busy is)).0),
      )))
      (full-unless Full (nat_lt (m.core.next_ticket + 1) (2 ^ 62)) (λ no. inr (ltb-false (m.core.next_ticket + 1) (2 ^ 62) no)))))) e why
  open-so object a avoid answer (placed, at, inl (inr memory, stays)) = calm-so _ Unforced e (subst IsCalm (sym memory) calm-memory)
  open-so object a avoid answer (placed, at, inr h) = absurd h.1

  piece-calm : (number : ℕ) → CopiesPiece 0 number m next (Err e) → IsCalm e
  piece-calm number (inl (inl why, stays)) = foremost-all IsCalm _ (append-all IsCalm (ended m) _ (calm-ended m) (calm-copying number (sight 0 m.core))) e why
  piece-calm number (inl (inr memory, stays)) = subst IsCalm (sym memory) calm-memory
  piece-calm number (inr (none, inl (t, is, why, cant, stays))) = subst IsCalm (sym why) ((λ is. absurd cc), (λ h is. absurd cc))
  piece-calm number (inr (none, inr (t, file, is, has, why, rose, becomes))) = subst IsCalm (sym why) ((λ is. absurd cc), (λ h is. absurd cc))

  seal-calm : (number : ℕ) → Seals 0 number m next (Err e) → IsCalm e
  seal-calm number (inl (inl why, stays)) = foremost-all IsCalm _ (append-all IsCalm (ended m) _ (calm-ended m) (calm-seal number (sight 0 m.core))) e why
  seal-calm number (inl (inr memory, stays)) = subst IsCalm (sym memory) calm-memory
  seal-calm number (inr (none, (t, file, is, has, why, rose, becomes))) = subst IsCalm (sym why) ((λ is. absurd cc), (λ h is. absurd cc))

  drop-calm : (number : ℕ) → Drops 0 number m next (Err e) → IsCalm e
  drop-calm number (inl (inl why, stays)) = foremost-all IsCalm _ (append-all IsCalm (ended m) _ (calm-ended m) (calm-drop number (sight 0 m.core))) e why
  drop-calm number (inl (inr memory, stays)) = subst IsCalm (sym memory) calm-memory
  drop-calm number (inr h) = absurd h.1

  -- the ticket's transaction is a copy's
  joins-copy : (number : ℕ) (c : Change) → asked_change 0 Placed (number ∷ []) m.core ≡ Some c → IsCopy moves c
  joins-copy number c is = found-copy moves (inventory m.core) (ticket number (sight 0 m.core).tickets) c (λ t found. for-found moves number (sight 0 m.core).tickets t (for-own moves m.core.tickets own) found) is

  illegal-so : (Full : Type 0) (c : Change) → IsCopy moves c → (illegal c m.core ≡ Some refused.InventoryFull → Full) → (o : Option Refusal) → illegal c m.core ≡ o → AllByRecursion (IsSo Full Unforced) (listed o)
  illegal-so Full c copies h None is = tt
  illegal-so Full c copies h (Some x) is = (
    (
      (λ full. h (is ∙ ap (λ (y : Refusal). Some y) full)),
      (λ holder busy. absurd (refused-all IsNoHolder (sight 0 m.core).journal c (inventory m.core) x calm-bad.1 (free-causes moves (sight 0 m.core).journal c (inventory m.core) copies) (free-sizes c (inventory m.core)) is holder busy)),
    ),
    tt,
  )

  joined-so : (Full : Type 0) (number : ℕ) → ((c : Change) → asked_change 0 Placed (number ∷ []) m.core ≡ Some c → illegal c m.core ≡ Some refused.InventoryFull → Full)
      → (o : Option Change) → asked_change 0 Placed (number ∷ []) m.core ≡ o → AllByRecursion (IsSo Full Unforced) (change_refused 0 o (sight 0 m.core))
  joined-so Full number h None is = tt
  joined-so Full number h (Some c) is =
      append-all (IsSo Full Unforced) (change_illegal c (sight 0 m.core)) _ (illegal-so Full c (joins-copy number c is) (h c is) (illegal c m.core) refl)
      (unless-all (IsSo Full Unforced) _ refused.RecordFull (calm-so Full Unforced refused.RecordFull ((λ is. absurd cc), (λ holder is. absurd cc))))

  others-so : (Full : Type 0) (number : ℕ) (o : Option Change) → asked_change 0 Placed (number ∷ []) m.core ≡ o → AllByRecursion (IsSo Full Unforced) (option_map_or (λ c. held_refused c m.core) o [])
  others-so Full number None is = tt
  others-so Full number (Some c) is = subst (λ (l : List Refusal). AllByRecursion (IsSo Full Unforced) l) (sym (held-none moves c m.core (joins-copy number c is))) tt

  commit-so : (number : ℕ) (answer : Result ℕ Refusal) → Commits 0 Placed (number ∷ []) m next (Err e) → IsSo (IsFullAt places (Commit Placed (number ∷ []) answer) m) Unforced e
  commit-so number answer (inl (inl why, stays)) =
      let Full : Type 0 = IsFullAt places (Commit Placed (number ∷ []) answer) m in
      let numbers : List ℕ = number ∷ [] in
      let s : Sight = sight 0 m.core in
      let S : Refusal → Type 0 = IsSo Full Unforced in
      foremost-all S _
      (append-all S (ended m) _ (all-so Full Unforced (ended m) (calm-ended m))
      (append-all S (commit_refused 0 Placed numbers s) _
      (append-all S (are_there numbers s) _ (all-so Full Unforced (are_there numbers s) (flat-all IsCalm (λ (k : ℕ). unless (is_some (ticket k s.tickets)) refused.NotFound) (λ k. unless-all IsCalm (is_some (ticket k s.tickets)) refused.NotFound calm-missing) numbers))
      (append-all S (unless (name_once numbers && nat_le (length numbers) 256) bad_value) _ (unless-all S (name_once numbers && nat_le (length numbers) 256) bad_value (calm-so Full Unforced bad_value calm-bad))
      (append-all S (asked_refused Placed numbers s) _
      (append-all S (unless (not (is_nil numbers)) bad_value) (unless (list_all is_moved (all_tickets numbers s) || list_all is_copied (all_tickets numbers s)) bad_value)
      (unless-all S (not (is_nil numbers)) bad_value (calm-so Full Unforced bad_value calm-bad))
      (unless-all S (list_all is_moved (all_tickets numbers s) || list_all is_copied (all_tickets numbers s)) bad_value (calm-so Full Unforced bad_value calm-bad)))
      (append-all S (of_tickets (λ t. unless t.is_sealed (ticket_in_use t.number)) numbers s) _
      (flat-all S (λ (k : ℕ). option_map_or (λ (t : Ticket). unless t.is_sealed (ticket_in_use t.number)) (ticket k s.tickets) []) (λ k. unsealed Full (ticket k s.tickets)) numbers)
      (joined-so Full number (λ c is full. (c, is, full)) (change_of Placed numbers s) refl)))))
      (others-so Full number (asked_change 0 Placed numbers m.core) refl))) e why
    where
      unsealed : (Full : Type 0) (o : Option Ticket) → AllByRecursion (IsSo Full Unforced) (option_map_or (λ (t : Ticket). unless t.is_sealed (ticket_in_use t.number)) o [])
      unsealed Full None = tt
      unsealed Full (Some t) = unless-all (IsSo Full Unforced) t.is_sealed (ticket_in_use t.number) (calm-so Full Unforced (ticket_in_use t.number) (calm-used t.number))
  commit-so number answer (inl (inr memory, stays)) = calm-so _ Unforced e (subst IsCalm (sym memory) calm-memory)
  commit-so number answer (inr (none, (c, file, count, is, why, fault, joins))) = calm-so _ Unforced e (subst IsCalm (sym why) (calm-fault file count))

-- what asks or forces is refused with neither
asks-calm : (q : Query) (answer : Result Answer Refusal) (m next : Machine) (e : Refusal) → Refuses e (Ask q answer) → Asks 0 q m next answer → IsCalm e
asks-calm q (Ok a) m next e is h = absurd cc
asks-calm q (Err x) m next e is h = subst IsCalm (same_Some x e is) (ask-other q m next x h, ask-unheld q m next x h)

forces-calm : (answer : Result ℕ Refusal) (m next : Machine) (e : Refusal) → Refuses e (Force answer) → Forces 0 m next answer → IsCalm e
forces-calm (Ok number) m next e is h = absurd cc
forces-calm (Err x) m next e is h = subst IsCalm (same_Some x e is) (force-other m next x h, force-unheld m next x h)

pub ending-calm : (places : Places) (m next : Machine) (e : Refusal) (d : Deed) → IsEnding d → Refuses e d → Case places 0 d m next → (e ≡ refused.InventoryFull → ⊥) × IsNoHolder e
ending-calm places m next e d (inl (q, answer, is)) why step = asks-calm q answer m next e (subst (Refuses e) is why) (subst (λ (x : Deed). Case places 0 x m next) is step)
ending-calm places m next e d (inr (answer, is)) why step = forces-calm answer m next e (subst (Refuses e) is why) (subst (λ (x : Deed). Case places 0 x m next) is step)

module _ (places : Places) (nobody : NobodyHolds places) (moves : Bool) (m next : Machine) (own : AreFor moves m.core.tickets) where
  trying-so : (e : Refusal) (d : Deed) → IsTrying moves d → Refuses e d → Case places 0 d m next → IsSo (IsFullAt places d m) Unforced e
  trying-so e d (inl h) why step = calm-so _ Unforced e (ending-calm places m next e d h why step)
  trying-so e (OpenCopy object a avoid (Err x)) (inr h) why step =
      subst (λ (y : Refusal). IsSo (IsFullAt places (OpenCopy object a avoid (Err x)) m) Unforced y) (same_Some x e why) (open-so places nobody moves m next own x object a avoid (Err x) step)
  trying-so e (OpenCopy object a avoid (Ok number)) (inr h) why step = absurd cc
  trying-so e (CopyPiece number (Err x)) (inr h) why step = calm-so _ Unforced e (subst IsCalm (same_Some x e why) (piece-calm places nobody moves m next own x number step))
  trying-so e (CopyPiece number (Ok count)) (inr h) why step = absurd cc
  trying-so e (Seal number (Err x)) (inr h) why step = calm-so _ Unforced e (subst IsCalm (same_Some x e why) (seal-calm places nobody moves m next own x number step))
  trying-so e (Seal number (Ok done)) (inr h) why step = absurd cc
  trying-so e (DropTicket number (Err x)) (inr h) why step = calm-so _ Unforced e (subst IsCalm (same_Some x e why) (drop-calm places nobody moves m next own x number step))
  trying-so e (DropTicket number (Ok done)) (inr h) why step = absurd cc
  trying-so e (Force answer) (inr h) why step = calm-so _ Unforced e (forces-calm answer m next e why step)
  trying-so e (Commit asked tickets (Ok n)) (inr h) why step = absurd cc
  trying-so e (Commit asked tickets (Err x)) (inr (object, a, avoid, so, (number, is, one))) why step = placed-so asked tickets is one step where
    placed-so : (asked : Asked) (tickets : List ℕ) → asked ≡ Placed → tickets ≡ number ∷ [] → Commits 0 asked tickets m next (Err x) → IsSo (IsFullAt places (Commit asked tickets (Err x)) m) Unforced e
    placed-so asked tickets is one h =
        subst (λ (k : Asked). IsSo (IsFullAt places (Commit k tickets (Err x)) m) Unforced e) (sym is)
        (subst (λ (ts : List ℕ). IsSo (IsFullAt places (Commit Placed ts (Err x)) m) Unforced e) (sym one)
        (subst (λ (y : Refusal). IsSo (IsFullAt places (Commit Placed (number ∷ []) (Err x)) m) Unforced y) (same_Some x e why)
        (commit-so places nobody moves m next own x number (Err x) (subst (λ (ts : List ℕ). Commits 0 Placed ts m next (Err x)) one (subst (λ (k : Asked). Commits 0 k tickets m next (Err x)) is h)))))
  trying-so e d (inr (object, a, avoid, so, h)) why step = absurd h

-- ---- all steps

module _ (trusted : Type 0) (places : Places) (nobody : NobodyHolds places) (moves : Bool) (events : List Event) (old new : Machine) (rest : IsAtRest old.core) (all : AreTrying moves events) (f : Alone trusted places 0 events old new) where
  walked : (Is : Deed → Type 0) → (c : CutAt places Is events old) → (more : List Entry) × Copied moves NoOther [] more old c.m
  walked Is c =
      let first : AreTrying moves c.first = all-first (λ (e : Event). IsTrying moves e.deed) c.first (c.at ∷ c.later) (subst (AreTrying moves) c.cut all) in
      copies-walk moves NoOther ⊥ places [] c.first [] old old c.m (all-copies moves c.first first) (copied-none moves NoOther old rest) c.made

  -- what was made before it
  pub grew-at : (Is : Deed → Type 0) → (c : CutAt places Is events old) → (more : List Entry) × Grew (MayJoin moves NoOther) [] more old c.m
  grew-at Is c = (let w = walked Is c in (w.0, w.1.grew))

  -- the tickets that it has where it comes to a step are its own, and for such copies
  pub tickets-at : (Is : Deed → Type 0) → (c : CutAt places Is events old) → AreFor moves c.m.core.tickets
  tickets-at Is c = (walked Is c).1.tickets

  pub kind-at : (Is : Deed → Type 0) → (c : CutAt places Is events old) → IsTrying moves c.at.deed
  kind-at Is c = at-one (λ (e : Event). IsTrying moves e.deed) c.first c.at c.later (subst (AreTrying moves) c.cut all)

  pub cut-of : (Is : Deed → Type 0) → MetBy Is events → CutAt places Is events old
  cut-of Is met = cut-at trusted places Is events old new (all-tickets moves events all) met f

  met-so : (e : Refusal) → (c : CutAt places (Refuses e) events old) → IsSo (IsFullAt places c.at.deed c.m) Unforced e
  met-so e c = trying-so places nobody moves c.m c.next (tickets-at (Refuses e) c) e c.at.deed (kind-at (Refuses e) c) c.is c.step

  -- nothing is waited for
  pub never-held : (e : Refusal) → IsUnheld events e → Met e events → (h : Holder) → e ≡ refused.Busy h → ⊥
  never-held e unheld met h busy =
      let c = cut-of (Refuses e) met in
      let names = (met-so e c).1 h busy in
      let d = cut-of (λ d. IsEnding d × (refusal d ≡ Some e)) (unheld names.0 (busy ∙ ap (λ (k : Holder). refused.Busy k) names.1)) in
      (ending-calm places d.m d.next e d.at.deed d.is.0 d.is.1 d.step).1 h busy

  -- where the database is full for it, that is for a bound
  pub full-at-step : (e : Refusal) → e ≡ refused.InventoryFull → (c : CutAt places (Refuses e) events old) → IsFullAt places c.at.deed c.m
  full-at-step e full c = (met-so e c).0 full
