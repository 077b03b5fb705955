-- New objects come one after the other, as versions of paths or held.
use Rattle.std.proofs.Common.{◌≡◌, ℕ, ◌+◌, ◌^◌, ◌<◌, ◌≤◌, true, not, List, [], ◌∷◌, length, sym, ap, subst, ◌∙◌, arith}
use Rattle.std.specs.Prelude.{⊤, is_some, nat_lt, ◌==◌}
use Rattle.std.specs.List.{list_all}
use Rattle.std.proofs.lemmas.Bool.{lt-leb, ltb-true}
use Rattle.inventory_rules.specs.entries.change_items.declared.items.NewHeldObject.{NewHeldObject}
use Rattle.inventory_rules.specs.entries.change_items.declared.items.NewVersion.{NewVersion}
use Rattle.inventory_rules.specs.inventory_rows.version_groups.Entries.{all_later}
use Rattle.inventory_rules.specs.inventory_rows.version_groups.Versions.{has_object}
use Rattle.inventory_rules.specs.inventory_rows.version_groups.declared.groups.Filespace.{Filespace}
use Rattle.inventory_rules.specs.inventory_rows.object_rows.Filespaces.{filespace_at}
use Rattle.inventory_rules.specs.inventory_rows.object_rows.Places.{AreAllOrderly}
use Rattle.inventory_rules.specs.inventory_rows.object_rows.Rows.{Rows, kept_of}
use Rattle.inventory_rules.specs.inventory_rows.pool_tables.Rows.{row_at}
use Rattle.inventory_rules.specs.inventory_rows.Search.{versions}
use Rattle.inventory_rules.specs.inventory_rows.State.{Inv}
use Rattle.inventory_rules.specs.Common.{CanEach}
use Rattle.inventory_rules.specs.Segments.{put, put_step, has_room, CanPut}
use Rattle.inventory_rules.specs.Versions.{back_up, hold, held_too, inserted, AreGroupsOrdered, CanBackUp, CanHold, CanInsert}
use Rattle.inventory_laws.proofs.Arriving.{Comes, NewObject, held_arrived, length_arrived, number_arrived, other_arrived, there_arrived}
use Rattle.inventory_laws.proofs.Causes.{not_false}
use Rattle.inventory_laws.proofs.Facts.{first, rest}
use Rattle.inventory_laws.proofs.Kept.{is_held_there}
use Rattle.inventory_laws.proofs.MadeItems.{others_hold}
use Rattle.inventory_laws.specs.Volumes.{OnlyVolumes}
use Rattle.inventory_laws.proofs.VersionVolumes.{put_only}
use Rattle.inventory_laws.proofs.MadeVolumes.{all_roomy, can_put_all, roomy_items, roomy_puts}
use Rattle.inventory_laws.proofs.Ordered.{paths_inserted}
use Rattle.inventory_laws.proofs.PutSteps.{held_object_comes, of_held, of_version, version_comes}
use Rattle.inventory_laws.proofs.VersionArrivals.{Coming, GoesOn}

-- The objects of the items are new, each its own; their filespace is there, as is that of each held object; there is room for all of them, and
-- for the numbers behind theirs and behind the transaction's; and their segments have room.
pub record AreNew {X : Type 0} (what : X → NewObject) (filespace : ℕ) (items : List X) (v : Inv) : Type 0 where
  pub held : list_all (is_held_there v.clients.filespaces) v.clients.held ≡ true
  pub new : list_all (λ i. not (has_object (what i).object (versions v))) items ≡ true
  pub apart : all_later (λ a b. not ((what a).object == (what b).object)) items ≡ true
  pub there : is_some (filespace_at filespace v.clients.filespaces) ≡ true
  pub room : length (versions v) + length items ≤ 2 ^ 20
  pub next : list_all (λ i. nat_lt ((what i).object + 1) (2 ^ 64)) items ≡ true
  pub number : v.number + 1 < 2 ^ 64
  pub roomy : list_all (λ i. all_roomy (what i).object (what i).segments v) items ≡ true

module _ {X : Type 0} (what : X → NewObject) (rows : X → Inv → Inv) (filespace : ℕ) (Between : Inv → Type 0) (comes : Coming what rows filespace Between) (goes_on : GoesOn rows Between) where
  abbrev step : X → Inv → Inv
  step x v = put (what x).object (what x).segments (rows x v)

  -- the first object, and those behind it once it and its segments have come
  first_can : (item : X) (items : List X) (v : Inv) → AreNew what filespace (item ∷ items) v → CanInsert filespace (what item).object v
  first_can item items v n = record {
    new = not_false (has_object (what item).object (versions v)) (first (not (has_object (what item).object (versions v))) (list_all (λ i. not (has_object (what i).object (versions v))) items) n.new);
    there = n.there;
    room = lt-leb (2 ^ 20) (length (versions v)) (omega (arith, n.room));
    next = ltb-true ((what item).object + 1) (2 ^ 64) (first (nat_lt ((what item).object + 1) (2 ^ 64)) (list_all (λ i. nat_lt ((what i).object + 1) (2 ^ 64)) items) n.next);
    number = n.number;
  }

  behind_one : (item : X) (items : List X) (v : Inv) → AreNew what filespace (item ∷ items) v → Comes (what item) v (rows item v) → AreNew what filespace items (step item v)
  behind_one item items v n c =
      let one : NewObject = what item in
      let mid : Inv = rows item v in
      let only : OnlyVolumes mid (step item v) = put_only one.object one.segments mid in
      let apart : list_all (λ b. not (one.object == (what b).object)) items ≡ true = first (list_all (λ b. not (one.object == (what b).object)) items) (all_later (λ a b. not ((what a).object == (what b).object)) items) n.apart in
      let count : length (versions (step item v)) ≡ length (versions v) + 1 = ap (λ (r : Rows). length (kept_of r)) only.clients ∙ length_arrived one v mid c in
      record {
        held = ap (λ (r : Rows). list_all (is_held_there r.filespaces) r.held) only.clients ∙ held_arrived one v mid c n.held;
        new = ap (λ (r : Rows). list_all (λ i. not (has_object (what i).object (kept_of r))) items) only.clients
            ∙ others_hold (λ i. (what i).object) one.object (λ i. not (has_object (what i).object (versions v))) (λ i. not (has_object (what i).object (versions mid)))
            (λ i away h. ap not (other_arrived (what i).object one v mid c away) ∙ h) items apart
            (rest (not (has_object one.object (versions v))) (list_all (λ i. not (has_object (what i).object (versions v))) items) n.new);
        apart = rest (list_all (λ b. not (one.object == (what b).object)) items) (all_later (λ a b. not ((what a).object == (what b).object)) items) n.apart;
        there = ap (λ (r : Rows). is_some (filespace_at filespace r.filespaces)) only.clients ∙ there_arrived filespace one v mid c ∙ n.there;
        room = omega (arith, n.room, count);
        next = rest (nat_lt (one.object + 1) (2 ^ 64)) (list_all (λ i. nat_lt ((what i).object + 1) (2 ^ 64)) items) n.next;
        number = subst (λ (k : ℕ). k + 1 < 2 ^ 64) (sym (only.number ∙ number_arrived one v mid c)) n.number;
        roomy = roomy_items (λ i. (what i).object) (λ i. (what i).segments) items v (step item v)
            (λ h f. roomy_puts one.object one.segments mid h f ∙ ap (λ (u : Inv). has_room h (row_at f u.stores.volumes)) c.is)
            (rest (all_roomy one.object one.segments v) (list_all (λ i. all_roomy (what i).object (what i).segments v) items) n.roomy);
      }

  -- one after the other
  come_all : (Can : X → Inv → Type 0) → ((i : X) (v : Inv) → CanInsert filespace (what i).object v → CanEach (CanPut (what i).object) (put_step (what i).object) (what i).segments (rows i v) → Can i v)
      → (items : List X) (v : Inv) → Between v → AreNew what filespace items v → CanEach Can step items v
  come_all Can made [] v b n = tt
  come_all Can made (item ∷ items) v b n =
      let one : NewObject = what item in
      let can : CanInsert filespace one.object v = first_can item items v n in
      let c : Comes one v (rows item v) = comes item v b n.held n.there can.new in
      let room : all_roomy one.object one.segments (rows item v) ≡ true =
      ap (λ (u : Inv). all_roomy one.object one.segments u) c.is ∙ first (all_roomy one.object one.segments v) (list_all (λ i. all_roomy (what i).object (what i).segments v) items) n.roomy in (
        made item v can (can_put_all one.object one.segments (rows item v) room),
        come_all Can made items (step item v) (goes_on item v (step item v) (put_only one.object one.segments (rows item v)).clients b) (behind_one item items v n c),
      )

paths_of : (fs : List (ℕ × Filespace)) → AreAllOrderly fs → AreGroupsOrdered fs
paths_of [] a = tt
paths_of (f ∷ fs) a = (a.0.0, paths_of fs a.1)

pub can_back_up_all : (filespace : ℕ) (items : List NewVersion) (v : Inv) → AreAllOrderly v.clients.filespaces → AreNew of_version filespace items v → CanEach (CanBackUp filespace) (back_up filespace) items v
can_back_up_all filespace items v orderly n =
    come_all of_version (inserted filespace) filespace (λ u. AreGroupsOrdered u.clients.filespaces) (λ i u paths _ there _. version_comes filespace i u paths there)
    (λ i u w same paths. subst (λ (r : Rows). AreGroupsOrdered r.filespaces) (sym same) (paths_inserted filespace i u paths)) (CanBackUp filespace) (λ i u can puts. record { insert = can; segments = puts }) items v
    (paths_of v.clients.filespaces orderly) n

pub can_hold_all : (filespace : ℕ) (items : List NewHeldObject) (v : Inv) → AreNew of_held filespace items v → CanEach (CanHold filespace) (hold filespace) items v
can_hold_all filespace items v n =
    come_all of_held (held_too filespace) filespace (λ _. ⊤) (λ i u _ held there fresh. held_object_comes filespace i u held there fresh) (λ i u w same _. tt) (CanHold filespace)
    (λ i u can puts. record { insert = can; segments = puts }) items v tt n
