-- What transactions make of the rows of volumes.
use Rattle.std.proofs.Common.{◌≡◌, ℕ, List, [], ◌∷◌, ◌++◌, map, Bool, true, false, cond, eqb, Option, None, Some, Result, Ok, Err, refl, sym, ap, ◌∙◌}
use Rattle.std.specs.Prelude.{if◌then◌else◌, OnOk}
use Rattle.std.specs.List.{flat_map}
use Rattle.kinds.specs.declared.change.DefineOrDelete.TheVariants as two
use Rattle.kinds.specs.declared.change.ObjectChange.{ObjectChange}
use Rattle.kinds.specs.declared.change.ObjectChange.TheVariants as client
use Rattle.kinds.specs.Refusals.{foremost, sooner_of}
use Rattle.kinds.specs.declared.refusal.Refusal.{Refusal}
use Rattle.kinds.specs.declared.segment.Segment.{Segment}
use Rattle.entries.specs.declared.change.Change.{Change}
use Rattle.entries.specs.change_items.declared.items.DroppedCopy.{DroppedCopy}
use Rattle.entries.specs.change_items.declared.items.MovedCopy.{MovedCopy}
use Rattle.entries.specs.change_items.declared.items.NamedVersion.{NamedVersion}
use Rattle.entries.specs.change_items.declared.items.NewCopy.{NewCopy}
use Rattle.entries.specs.change_items.declared.items.NewHeldObject.{NewHeldObject}
use Rattle.entries.specs.change_items.declared.items.NewVersion.{NewVersion}
use Rattle.entries.specs.change_items.declared.items.Rebinding.{Rebinding}
use Rattle.entries.specs.change_items.declared.items.ScratchVolume.{ScratchVolume}
use Rattle.inventory_rows.specs.version_groups.declared.copies.CopyRow.{CopyRow}
use Rattle.inventory_rows.specs.version_groups.declared.versions.Version.{Version}
use Rattle.inventory_rows.specs.Search.{version}
use Rattle.inventory_rows.specs.State.{Inv}
use Rattle.inventory_rules.specs.Clients.{client_changed}
use Rattle.inventory_rules.specs.Common.{each, or_same, with_stores}
use Rattle.inventory_rules.specs.Copies.{add_copy, added, change_copy, put_moved}
use Rattle.inventory_rules.specs.Journal.{Journal}
use Rattle.inventory_rules.specs.Segments.{make_scratch, put}
use Rattle.inventory_rules.specs.Transactions.{causes, changed, effect, refused, sizes_refused, then_valid}
use Rattle.inventory_rules.specs.Valid.{is_valid}
use Rattle.inventory_rules.specs.Versions.{back_up, copies_at, copies_of, held_too, hold, inserted, mark_gone, rebind}
use Rattle.inventory_laws.proofs.Causes.{front_nil}
use Rattle.pool_rows.specs.PoolRows.{PoolRows}
use Rattle.pool_rows.specs.Segments.{put_segment}
use Rattle.kept_index.specs.Steps.{goes_from, left_by, of_object, puts, scratches, with_put}
use Rattle.kept_index.proofs.Dropped.{in_the_pool, what_drops}
use Rattle.kept_index.proofs.Going.{of_copies}

pub puts_append : (es others : List (ℕ × Segment)) (s : PoolRows) → puts (es ++ others) s ≡ puts others (puts es s)
puts_append [] others s = refl
puts_append (e ∷ es) others s = puts_append es others (with_put e s)

pub put_stores : (object : ℕ) (segments : List Segment) (v : Inv) → (put object segments v).stores ≡ puts (of_object (object, segments)) v.stores
put_stores object [] v = refl
put_stores object (x ∷ segments) v = put_stores object segments (with_stores (or_same v.stores (put_segment object x v.stores)) v)

pub scratch_stores : (xs : List ScratchVolume) (v : Inv) → (each make_scratch xs v).stores ≡ scratches xs v.stores
scratch_stores [] v = refl
scratch_stores (x ∷ xs) v = scratch_stores xs (make_scratch x v)

-- items of which each brings a copy
module _ {X : Type 0} (step : X → Inv → Inv) (what : X → ℕ × List Segment) (brings : (x : X) (v : Inv) → (step x v).stores ≡ puts (of_object (what x)) v.stores) where
  pub each_brings : (items : List X) (v : Inv) → (each step items v).stores ≡ puts (flat_map (λ i. of_object (what i)) items) v.stores
  each_brings [] v = refl
  each_brings (x ∷ items) v =
      each_brings items (step x v) ∙ ap (puts (flat_map (λ i. of_object (what i)) items)) (brings x v) ∙ sym (puts_append (of_object (what x)) (flat_map (λ i. of_object (what i)) items) v.stores)

  pub all_bring : (xs : List ScratchVolume) (items : List X) (v : Inv) → (each step items (each make_scratch xs v)).stores ≡ puts (flat_map (λ i. of_object (what i)) items) (scratches xs v.stores)
  all_bring xs items v = each_brings items (each make_scratch xs v) ∙ ap (puts (flat_map (λ i. of_object (what i)) items)) (scratch_stores xs v)

pub backup_brings : (filespace : ℕ) (xs : List ScratchVolume) (items : List NewVersion) (v : Inv)
    → (each (back_up filespace) items (each make_scratch xs v)).stores ≡ puts (flat_map (λ (i : NewVersion). of_object (i.object, i.segments)) items) (scratches xs v.stores)
backup_brings filespace xs items v = all_bring (back_up filespace) (λ (i : NewVersion). (i.object, i.segments)) (λ x u. put_stores x.object x.segments (inserted filespace x u)) xs items v

pub hold_brings : (filespace : ℕ) (xs : List ScratchVolume) (items : List NewHeldObject) (v : Inv)
    → (each (hold filespace) items (each make_scratch xs v)).stores ≡ puts (flat_map (λ (i : NewHeldObject). of_object (i.object, i.segments)) items) (scratches xs v.stores)
hold_brings filespace xs items v = all_bring (hold filespace) (λ (i : NewHeldObject). (i.object, i.segments)) (λ x u. put_stores x.object x.segments (held_too filespace x u)) xs items v

pub copy_brings : (xs : List ScratchVolume) (items : List NewCopy) (v : Inv)
    → (each add_copy items (each make_scratch xs v)).stores ≡ puts (flat_map (λ (i : NewCopy). of_object (i.object, i.segments)) items) (scratches xs v.stores)
copy_brings xs items v = all_bring add_copy (λ (i : NewCopy). (i.object, i.segments)) (λ x u. put_stores x.object x.segments (change_copy x.object (added x u) u)) xs items v

pub moves_bring : (xs : List ScratchVolume) (items : List MovedCopy) (v : Inv) → (each put_moved items (each make_scratch xs v)).stores ≡ puts (flat_map (λ (i : MovedCopy). of_object (i.object, i.segments)) items) (scratches xs v.stores)
moves_bring xs items v = all_bring put_moved (λ (i : MovedCopy). (i.object, i.segments)) (λ x u. put_stores x.object x.segments u) xs items v

-- ---- what leaves the volumes as they are

pub each_stays : {X : Type 0} (step : X → Inv → Inv) → ((x : X) (v : Inv) → (step x v).stores ≡ v.stores) → (items : List X) (v : Inv) → (each step items v).stores ≡ v.stores
each_stays step same [] v = refl
each_stays step same (x ∷ items) v = each_stays step same items (step x v) ∙ same x v

pub client_stays : (c : ObjectChange) (v : Inv) → (client_changed c v).stores ≡ v.stores
client_stays (client.Node two.Define name domain) v = refl
client_stays (client.Node two.Delete name domain) v = refl
client_stays (client.Filespace two.Define node name filespace) v = refl
client_stays (client.Filespace two.Delete node name filespace) v = refl

pub rebind_stays : (filespace : ℕ) (items : List Rebinding) (v : Inv) → (each (rebind filespace) items v).stores ≡ v.stores
rebind_stays filespace items v = each_stays (rebind filespace) (λ x u. refl) items v

pub gone_stays : (filespace : ℕ) (items : List NamedVersion) (v : Inv) → (each (mark_gone filespace) items v).stores ≡ v.stores
gone_stays filespace items v = each_stays (mark_gone filespace) (λ x u. refl) items v

-- ---- which segments go

pub map_append : (es others : List (ℕ × Segment)) → map (λ (e : ℕ × Segment). e.1) (es ++ others) ≡ map (λ (e : ℕ × Segment). e.1) es ++ map (λ (e : ℕ × Segment). e.1) others
map_append [] others = refl
map_append (e ∷ es) others = ap (λ (l : List Segment). e.1 ∷ l) (map_append es others)

pub segments_back : (object : ℕ) (segments : List Segment) → map (λ (e : ℕ × Segment). e.1) (of_object (object, segments)) ≡ segments
segments_back object [] = refl
segments_back object (x ∷ segments) = ap (λ (l : List Segment). x ∷ l) (segments_back object segments)

copies_back : (object : ℕ) (cs : List CopyRow) → map (λ (e : ℕ × Segment). e.1) (of_copies object cs) ≡ flat_map (λ (r : CopyRow). r.segments) cs
copies_back object [] = refl
copies_back object (r ∷ cs) =
    map_append (of_object (object, r.segments)) (of_copies object cs) ∙ ap (λ (l : List Segment). l ++ map (λ (e : ℕ × Segment). e.1) (of_copies object cs)) (segments_back object r.segments)
    ∙ ap (λ (l : List Segment). r.segments ++ l) (copies_back object cs)

-- all copies of an object go
left_back : (object : ℕ) (o : Option Version) → map (λ (e : ℕ × Segment). e.1) (of_copies object (copies_of o)) ≡ left_by None o
left_back object None = refl
left_back object (Some w) = copies_back object w.copies

pub items_back : {X : Type 0} (object : X → ℕ) (items : List X) (v : Inv)
    → map (λ (e : ℕ × Segment). e.1) (flat_map (λ i. of_copies (object i) (copies_at (object i) v)) items) ≡ flat_map (λ i. left_by None (version (object i) v)) items
items_back object [] v = refl
items_back object (i ∷ items) v =
    map_append (of_copies (object i) (copies_at (object i) v)) (flat_map (λ j. of_copies (object j) (copies_at (object j) v)) items)
    ∙ ap (λ (l : List Segment). l ++ map (λ (e : ℕ × Segment). e.1) (flat_map (λ j. of_copies (object j) (copies_at (object j) v)) items)) (left_back (object i) (version (object i) v))
    ∙ ap (λ (l : List Segment). left_by None (version (object i) v) ++ l) (items_back object items v)

-- the copies of an object in a pool go
pub filtered_back : (pool : ℕ) (cs : List CopyRow) → flat_map (λ (r : CopyRow). r.segments) (in_the_pool pool cs) ≡ flat_map (λ (r : CopyRow). if goes_from (Some pool) r then r.segments else []) cs
filtered_back pool [] = refl
filtered_back pool (r ∷ cs) =
    elim (eqb r.pool pool) as (λ b. flat_map (λ (c : CopyRow). c.segments) (cond {A = List CopyRow} b (r ∷ in_the_pool pool cs) (in_the_pool pool cs))
    ≡ (cond {A = List Segment} b r.segments []) ++ flat_map (λ (c : CopyRow). if goes_from (Some pool) c then c.segments else []) cs) [
      | true ↦ ap (λ (l : List Segment). r.segments ++ l) (filtered_back pool cs)
      | false ↦ filtered_back pool cs
    ]

left_in_back : (object pool : ℕ) (o : Option Version) → map (λ (e : ℕ × Segment). e.1) (of_copies object (in_the_pool pool (copies_of o))) ≡ left_by (Some pool) o
left_in_back object pool None = refl
left_in_back object pool (Some w) = copies_back object (in_the_pool pool w.copies) ∙ filtered_back pool w.copies

pub drops_back : (items : List DroppedCopy) (v : Inv) → map (λ (e : ℕ × Segment). e.1) (flat_map (λ i. what_drops i v) items) ≡ flat_map (λ i. left_by (Some i.pool) (version i.object v)) items
drops_back [] v = refl
drops_back (i ∷ items) v =
    map_append (what_drops i v) (flat_map (λ j. what_drops j v) items) ∙ ap (λ (l : List Segment). l ++ map (λ (e : ℕ × Segment). e.1) (flat_map (λ j. what_drops j v) items)) (left_in_back i.object i.pool (version i.object v))
    ∙ ap (λ (l : List Segment). left_by (Some i.pool) (version i.object v) ++ l) (drops_back items v)

-- ---- nothing refuses a legal transaction

sooner_some : (a : Refusal) (o : Option Refusal) → sooner_of (Some a) o ≡ None → ⊥
sooner_some a None h = cc
sooner_some a (Some b) h = cc

none_held : (refusals : List Refusal) → foremost refusals ≡ None → refusals ≡ []
none_held [] h = refl
none_held (e ∷ refusals) h = absurd (sooner_some e (foremost refusals) h)

no_cause : (o : Option Refusal) (valid : Bool) → then_valid o valid ≡ None → o ≡ None
no_cause None valid h = refl
no_cause (Some e) valid h = absurd cc

pub legal_causes : (j : Journal) (c : Change) (v : Inv) → refused j c v ≡ None → causes j c v ≡ []
unfolding refused
legal_causes j c v h = front_nil (causes j c v) (sizes_refused c v) (none_held (causes j c v ++ sizes_refused c v) (no_cause (foremost (causes j c v ++ sizes_refused c v)) (is_valid (effect c v)) h))

valid_then : (o : Option Refusal) (valid : Bool) → then_valid o valid ≡ None → valid ≡ true
valid_then None true h = refl
valid_then None false h = absurd cc
valid_then (Some e) valid h = absurd cc

-- and what it leaves is valid
pub legal_after : (j : Journal) (c : Change) (v : Inv) → refused j c v ≡ None → is_valid (effect c v) ≡ true
unfolding refused
legal_after j c v h = valid_then (foremost (causes j c v ++ sizes_refused c v)) (is_valid (effect c v)) h

-- ---- in all

pub effect_stores : (c : Change) (v : Inv) → (effect c v).stores ≡ (changed c v).stores
unfolding effect
effect_stores c v = refl

pub on_ok_then : {T E P Q : Type 0} (r : Result T E) → (P → Q) → OnOk r P → OnOk r Q
on_ok_then (Ok x) f p = f p
on_ok_then (Err e) f p = tt
