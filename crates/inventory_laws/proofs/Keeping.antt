-- What stays where segments come on volumes and go from them; a list of segments that comes.
use Rattle.std.proofs.Common.{◌≡◌, ℕ, ◌+◌, ◌%◌, Bool, true, false, cond, not, ◌&&◌, ◌||◌, List, [], ◌∷◌, ◌++◌, map, Option, Some, None, is_some, Result, Ok, Err, refl, sym, ap, subst, ◌∙◌}
use Rattle.std.specs.Prelude.{◌==◌, nat_le}
use Rattle.std.specs.List.{list_all}
use Rattle.std.specs.BTreeMap.{is_at}
use Rattle.std.specs.Ordering.{nat_cmp}
use Rattle.std.proofs.lemmas.Bool.{and_parts, and_from, eqb-true}
use Rattle.std.proofs.lemmas.Option.{same_Some}
use Rattle.kinds.specs.declared.refusal.Refusal.{Refusal}
use Rattle.kinds.specs.declared.refusal.Refusal.TheVariants.{NotFound}
use Rattle.kinds.specs.declared.segment.Segment.{Segment}
use Rattle.inventory_rules.specs.inventory_rows.version_groups.declared.copies.CopyRow.{CopyRow}
use Rattle.inventory_rules.specs.inventory_rows.volume_rows.declared.volume.Volume.{Volume}
use Rattle.inventory_rules.specs.inventory_rows.volume_rows.Held.{held_of}
use Rattle.inventory_rules.specs.inventory_rows.volume_rows.Holdings.{is_held}
use Rattle.inventory_rules.specs.inventory_rows.volume_rows.Volumes.{put_on, take_from}
use Rattle.inventory_rules.specs.inventory_rows.pool_tables.Rows.{row_at, set_row, changed, row_set}
use Rattle.inventory_rules.specs.inventory_rows.pool_tables.RowChanges as row
use Rattle.inventory_rules.specs.inventory_rows.pool_rows.PoolRows.{PoolRows, is_sequential, is_sequential_row, is_sequential_at}
use Rattle.inventory_rules.specs.inventory_rows.pool_rows.Segments.{with_volumes}
use Rattle.inventory_rules.specs.inventory_rows.Search.{segments_on}
use Rattle.inventory_rules.specs.inventory_rows.State.{Inv}
use Rattle.inventory_rules.specs.Common.{or_same, with_stores}
use Rattle.inventory_rules.specs.Segments.{put, take_all, take_away, are_all_clear, are_clear, lies_rightly}
use Rattle.inventory_rules.specs.Halfway.{lying, pending_on, VolumeFacts}
use Rattle.inventory_laws.specs.Kept.{shape_of, OnlyVolumes}
use Rattle.inventory_laws.proofs.Changing.{facts_reordered, put_is, put_one, renewed, take_is, take_none}
use Rattle.inventory_laws.proofs.VolumeFacts.{capacity_kept}
use Rattle.inventory_laws.proofs.Orders.{list_all-there, reordered_front}
use Rattle.inventory_laws.proofs.VolumeRows.{all_both, all_later-same, all_same}
use Rattle.inventory_laws.proofs.Volume.{clear-flips}

-- ---- all but the volumes, and their pools and capacities

pub kept_same : (v : Inv) → OnlyVolumes v v
kept_same v = record { only = refl; shapes = λ file. refl }

pub kept_then : (a b c : Inv) → OnlyVolumes a b → OnlyVolumes b c → OnlyVolumes a c
kept_then a b c s t = record {
  only = t.only ∙ ap (λ (x : Inv). renewed c.stores.volumes x) s.only;
  shapes = λ file. t.shapes file ∙ s.shapes file;
}

shapes_set : (k file : ℕ) (old new : Volume) (rows : List (ℕ × Volume)) → row_at k rows ≡ Some old → shape_of (Some new) ≡ shape_of (Some old) → shape_of (row_at file (set_row k new rows)) ≡ shape_of (row_at file rows)
shapes_set k file old new [] found same = absurd cc
shapes_set k file old new (e ∷ rows) found same =
    elim (is_at (nat_cmp k) e.0) as (λ b. cond b (Some e.1) (row_at k rows) ≡ Some old → shape_of (row_at file (cond b ((e.0, new) ∷ rows) (e ∷ set_row k new rows))) ≡ shape_of (row_at file (e ∷ rows))) [
      | true ↦ λ h. here (is_at (nat_cmp file) e.0) (same ∙ sym (ap (λ (w : Volume). shape_of (Some w)) (same_Some e.1 old h)))
      | false ↦ λ h. further (is_at (nat_cmp file) e.0) (shapes_set k file old new rows h same)
    ] found
  where
    here : (b : Bool) → shape_of (Some new) ≡ shape_of (Some e.1) → shape_of (cond b (Some new) (row_at file rows)) ≡ shape_of (cond b (Some e.1) (row_at file rows))
    here true h = h
    here false h = refl

    further : (b : Bool) → shape_of (row_at file (set_row k new rows)) ≡ shape_of (row_at file rows) → shape_of (cond b (Some e.1) (row_at file (set_row k new rows))) ≡ shape_of (cond b (Some e.1) (row_at file rows))
    further true h = refl
    further false h = h

kept_set : (v : Inv) (k : ℕ) (old new : Volume) → row_at k v.stores.volumes ≡ Some old → shape_of (Some new) ≡ shape_of (Some old) → OnlyVolumes v (renewed (set_row k new v.stores.volumes) v)
kept_set v k old new found same = record { only = refl; shapes = λ file. shapes_set k file old new v.stores.volumes found same }

put_shape : (b : Bool) (object : ℕ) (s : Segment) (volume : Volume) → shape_of (Some (put_on b (held_of object s) volume)) ≡ shape_of (Some volume)
put_shape true object s volume = refl
put_shape false object s volume = refl

pub put_none : (object : ℕ) (s : Segment) (v : Inv) → row_at s.file v.stores.volumes ≡ None → put object (s ∷ []) v ≡ v
put_none object s v absent =
    ap (λ (o : Option Volume). with_stores (or_same v.stores (with_volumes v.stores (changed s.file (row.put (is_sequential_row v.stores o) (held_of object s)) v.stores.volumes o))) v) absent

put_kept_one : (object : ℕ) (s : Segment) (v : Inv) → OnlyVolumes v (put object (s ∷ []) v)
put_kept_one object s v = go (row_at s.file v.stores.volumes) refl where
  go : (o : Option Volume) → row_at s.file v.stores.volumes ≡ o → OnlyVolumes v (put object (s ∷ []) v)
  go None absent = subst (OnlyVolumes v) (sym (put_none object s v absent)) (kept_same v)
  go (Some volume) found =
      subst (OnlyVolumes v) (sym (put_is object s v volume found))
      (kept_set v s.file volume (put_on (is_sequential volume.pool v.stores) (held_of object s) volume) found (put_shape (is_sequential volume.pool v.stores) object s volume))

pub put_kept : (object : ℕ) (segments : List Segment) (v : Inv) → OnlyVolumes v (put object segments v)
put_kept object [] v = kept_same v
put_kept object (s ∷ segments) v = kept_then v (put object (s ∷ []) v) (put object (s ∷ segments) v) (put_kept_one object s v) (put_kept object segments (put object (s ∷ []) v))

take_absent : (object : ℕ) (s : Segment) (v : Inv) (volume : Volume) → row_at s.file v.stores.volumes ≡ Some volume → is_held (held_of object s) volume.segments ≡ false → take_away object (s ∷ []) v ≡ v
take_absent object s v volume found held =
    ap (λ (o : Option Volume). with_stores (or_same v.stores (with_volumes v.stores (changed s.file (row.take (is_sequential_row v.stores o) (held_of object s) v.today) v.stores.volumes o))) v) found
    ∙ ap (λ b. with_stores (or_same v.stores (with_volumes v.stores (row_set s.file v.stores.volumes (cond {A = Result Volume Refusal} b (Ok (take_from (is_sequential volume.pool v.stores) (held_of object s) v.today volume)) (Err NotFound))))) v) held

take_kept_one : (object : ℕ) (s : Segment) (v : Inv) → OnlyVolumes v (take_away object (s ∷ []) v)
take_kept_one object s v = go (row_at s.file v.stores.volumes) refl where
  go : (o : Option Volume) → row_at s.file v.stores.volumes ≡ o → OnlyVolumes v (take_away object (s ∷ []) v)
  go None absent = subst (OnlyVolumes v) (sym (take_none object s v absent)) (kept_same v)
  go (Some volume) found = held (is_held (held_of object s) volume.segments) refl where
    held : (b : Bool) → is_held (held_of object s) volume.segments ≡ b → OnlyVolumes v (take_away object (s ∷ []) v)
    held true h =
        subst (OnlyVolumes v) (sym (take_is object s v volume found h))
        (kept_set v s.file volume (take_from (is_sequential volume.pool v.stores) (held_of object s) v.today volume) found refl)
    held false h = subst (OnlyVolumes v) (sym (take_absent object s v volume found h)) (kept_same v)

pub take_kept : (object : ℕ) (segments : List Segment) (v : Inv) → OnlyVolumes v (take_away object segments v)
take_kept object [] v = kept_same v
take_kept object (s ∷ segments) v = kept_then v (take_away object (s ∷ []) v) (take_away object (s ∷ segments) v) (take_kept_one object s v) (take_kept object segments (take_away object (s ∷ []) v))

pub take_all_kept : (object : ℕ) (copies : List CopyRow) (v : Inv) → OnlyVolumes v (take_all object copies v)
take_all_kept object [] v = kept_same v
take_all_kept object (c ∷ copies) v = kept_then v (take_away object c.segments v) (take_all object (c ∷ copies) v) (take_kept object c.segments v) (take_all_kept object copies (take_away object c.segments v))

-- ---- what is said of a volume by its pool and its capacity

abbrev sequential_of : PoolRows → Option (ℕ × ℕ) → Bool
sequential_of s None = false
sequential_of s (Some t) = is_sequential t.0 s

sequential_is : (s : PoolRows) (rows : List (ℕ × Volume)) (o : Option Volume) → is_sequential_row (record s { volumes = rows }) o ≡ sequential_of s (shape_of o)
sequential_is s rows None = refl
sequential_is s rows (Some w) = ap is_some (capacity_kept w.pool rows s)

pub sequential_kept : (v w : Inv) → OnlyVolumes v w → (file : ℕ) → is_sequential_at file w.stores ≡ is_sequential_at file v.stores
sequential_kept v w k file =
    ap (λ (x : Inv). is_sequential_row x.stores (row_at file w.stores.volumes)) k.only
    ∙ sequential_is v.stores w.stores.volumes (row_at file w.stores.volumes)
    ∙ ap (sequential_of v.stores) (k.shapes file)
    ∙ sym (sequential_is v.stores v.stores.volumes (row_at file v.stores.volumes))

abbrev lies_of : Bool → ℕ → Segment → Option (ℕ × ℕ) → Bool
lies_of b n s None = false
lies_of b n s (Some t) = t.0 == n && (nat_le (s.offset + 32 + s.len) t.1 && (b || s.offset % 4096 == 0))

lies_is : (b : Bool) (n : ℕ) (s : Segment) (o : Option Volume) → lies_rightly b n s o ≡ lies_of b n s (shape_of o)
lies_is b n s None = refl
lies_is b n s (Some w) = refl

pub lies_kept : (v w : Inv) → OnlyVolumes v w → (n : ℕ) (s : Segment) → lies_rightly (is_sequential_at s.file w.stores) n s (row_at s.file w.stores.volumes) ≡ lies_rightly (is_sequential_at s.file v.stores) n s (row_at s.file v.stores.volumes)
lies_kept v w k n s =
    ap (λ b. lies_rightly b n s (row_at s.file w.stores.volumes)) (sequential_kept v w k s.file)
    ∙ lies_is (is_sequential_at s.file v.stores) n s (row_at s.file w.stores.volumes)
    ∙ ap (lies_of (is_sequential_at s.file v.stores) n s) (k.shapes s.file)
    ∙ sym (lies_is (is_sequential_at s.file v.stores) n s (row_at s.file v.stores.volumes))

-- ---- a list of segments comes

abbrev pub clear_of : Inv → List (ℕ × Segment) → Segment → Bool
clear_of v p s = list_all (λ e. are_clear (is_sequential_at s.file v.stores) s e.1) (lying p s.file v)

-- clear of what lies there, and of one that came
pub clear_more : (v : Inv) (p : List (ℕ × Segment)) (object : ℕ) (s t : Segment) → clear_of v p t ≡ true → (not (s.file == t.file) || are_clear (is_sequential_at s.file v.stores) s t) ≡ true → clear_of v ((object, s) ∷ p) t ≡ true
clear_more v p object s t clear apart = go (s.file == t.file) refl apart where
  test : ℕ × Segment → Bool
  test e = are_clear (is_sequential_at t.file v.stores) t e.1

  go : (b : Bool) → (s.file == t.file) ≡ b → (not b || are_clear (is_sequential_at s.file v.stores) s t) ≡ true
      → list_all (λ e. are_clear (is_sequential_at t.file v.stores) t e.1) (segments_on t.file v ++ cond (s.file == t.file) ((object, s) ∷ pending_on t.file p) (pending_on t.file p)) ≡ true
  go true e h =
      let same : s.file ≡ t.file = eqb-true s.file t.file e in
      let this : are_clear (is_sequential_at t.file v.stores) t s ≡ true =
      clear-flips (is_sequential_at t.file v.stores) t s ∙ ap (λ file. are_clear (is_sequential_at file v.stores) s t) (sym same) ∙ h in
      ap (λ b. list_all (λ e. are_clear (is_sequential_at t.file v.stores) t e.1) (segments_on t.file v ++ cond b ((object, s) ∷ pending_on t.file p) (pending_on t.file p))) e
      ∙ list_all-there (λ e. are_clear (is_sequential_at t.file v.stores) t e.1) (object, s) (segments_on t.file v) (pending_on t.file p)
      ∙ and_from (are_clear (is_sequential_at t.file v.stores) t s) (clear_of v p t) this clear
  go false e h =
      ap (λ b. list_all (λ e. are_clear (is_sequential_at t.file v.stores) t e.1) (segments_on t.file v ++ cond b ((object, s) ∷ pending_on t.file p) (pending_on t.file p))) e ∙ clear

pub clear_kept : (v w : Inv) → OnlyVolumes v w → (p : List (ℕ × Segment)) (t : Segment) → clear_of w p t ≡ clear_of v p t
clear_kept v w k p t =
    ap (λ b. list_all (λ e. are_clear b t e.1) (lying p t.file w)) (sequential_kept v w k t.file)
    ∙ ap (λ (x : Inv). list_all (λ e. are_clear (is_sequential_at t.file v.stores) t e.1) (lying p t.file x)) k.only

pub put_list : (p : List (ℕ × Segment)) (object n : ℕ) (segments : List Segment) (v : Inv) → VolumeFacts p v
    → list_all (λ s. lies_rightly (is_sequential_at s.file v.stores) n s (row_at s.file v.stores.volumes)) segments ≡ true → list_all (clear_of v p) segments ≡ true → are_all_clear v segments ≡ true
    → VolumeFacts (map (λ s. (object, s)) segments ++ p) (put object segments v)
put_list p object n [] v f lies clear apart = f
put_list p object n (s ∷ segments) v f lies clear apart =
    let w : Inv = put object (s ∷ []) v in
    let k : OnlyVolumes v w = put_kept object (s ∷ []) v in
    let lie = and_parts (lies_rightly (is_sequential_at s.file v.stores) n s (row_at s.file v.stores.volumes)) (list_all (λ t. lies_rightly (is_sequential_at t.file v.stores) n t (row_at t.file v.stores.volumes)) segments) lies in
    let free = and_parts (clear_of v p s) (list_all (clear_of v p) segments) clear in
    let far = and_parts (list_all (λ t. not (s.file == t.file) || are_clear (is_sequential_at s.file v.stores) s t) segments) (are_all_clear v segments) apart in
    facts_reordered (map (λ t. (object, t)) segments ++ (object, s) ∷ p) ((object, s) ∷ (map (λ t. (object, t)) segments ++ p)) (put object segments w)
    (put_list ((object, s) ∷ p) object n segments w (put_one p v object n s f lie.0 free.0)
    (all_same (λ t. lies_rightly (is_sequential_at t.file w.stores) n t (row_at t.file w.stores.volumes)) (λ t. lies_rightly (is_sequential_at t.file v.stores) n t (row_at t.file v.stores.volumes)) (lies_kept v w k n) segments ∙ lie.1)
    (all_both (clear_of v p) (λ t. not (s.file == t.file) || are_clear (is_sequential_at s.file v.stores) s t) (clear_of w ((object, s) ∷ p))
    (λ t a b. clear_kept v w k ((object, s) ∷ p) t ∙ clear_more v p object s t a b) segments free.1 far.0)
    (all_later-same (λ a b. not (a.file == b.file) || are_clear (is_sequential_at a.file w.stores) a b) (λ a b. not (a.file == b.file) || are_clear (is_sequential_at a.file v.stores) a b)
    (λ a b. ap (λ c. not (a.file == b.file) || are_clear c a b) (sequential_kept v w k a.file)) segments ∙ far.1))
    (reordered_front (map (λ t. (object, t)) segments) (object, s) p)
