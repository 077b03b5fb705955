-- Segments that come on the volumes of the database, and that go.
use Rattle.std.proofs.Common.{◌≡◌, ℕ, ◌+◌, ◌%◌, Bool, true, cond, not, ◌&&◌, ◌||◌, List, [], ◌∷◌, ◌++◌, map, Option, Some, None, is_some, Result, Ok, Err, refl, sym, ap, subst, ◌∙◌, append_assoc}
use Rattle.std.specs.Prelude.{◌==◌, nat_le}
use Rattle.std.specs.List.{list_all}
use Rattle.std.specs.Map.{keys_of}
use Rattle.std.specs.Ordering.{nat_cmp}
use Rattle.std.specs.BTreeMap.{is_at}
use Rattle.std.proofs.lemmas.Bool.{and_parts, and_from, eq-eqb, ne_eqb}
use Rattle.std.proofs.lemmas.Map.{keys-set_value}
use Rattle.kinds.specs.declared.refusal.Refusal.{Refusal}
use Rattle.kinds.specs.declared.refusal.Refusal.TheVariants.{NotFound}
use Rattle.kinds.specs.declared.segment.Segment.{Segment}
use Rattle.inventory_rules.specs.inventory_rows.version_groups.declared.copies.CopyRow.{CopyRow}
use Rattle.inventory_rules.specs.inventory_rows.version_groups.Entries.{all_later}
use Rattle.inventory_rules.specs.inventory_rows.volume_rows.declared.volume.Volume.{Volume}
use Rattle.inventory_rules.specs.inventory_rows.volume_rows.Held.{held_of}
use Rattle.inventory_rules.specs.inventory_rows.volume_rows.Holdings.{is_held}
use Rattle.inventory_rules.specs.inventory_rows.volume_rows.Volumes.{put_on, take_from}
use Rattle.inventory_rules.specs.inventory_rows.pool_tables.Rows.{row_at, set_row, changed, row_set}
use Rattle.inventory_rules.specs.inventory_rows.pool_tables.RowChanges as row
use Rattle.inventory_rules.proofs.of_inventory_rows.of_pool_tables.Counting.{each_there}
use Rattle.inventory_rules.proofs.of_inventory_rows.of_pool_tables.Sound.{Keeps, put_keeps, take_keeps}
use Rattle.inventory_rules.specs.inventory_rows.pool_rows.PoolRows.{PoolRows, is_sequential, is_sequential_row, is_sequential_at, pool_capacity}
use Rattle.inventory_rules.specs.inventory_rows.pool_rows.Segments.{with_volumes}
use Rattle.inventory_rules.specs.inventory_rows.Search.{segments_on}
use Rattle.inventory_rules.specs.inventory_rows.State.{Inv}
use Rattle.inventory_rules.specs.Common.{or_same, with_stores}
use Rattle.inventory_rules.specs.Segments.{put, take_all, take_away, are_clear, lies_rightly}
use Rattle.inventory_rules.specs.Held.{holding}
use Rattle.inventory_rules.specs.Valid.{is_named_soundly}
use Rattle.inventory_rules.specs.inventory_rows.pool_tables.Scratch.{scratch_name, is_scratch_name}
use Rattle.kinds.specs.Names.{is_same_name}
use Rattle.inventory_rules.specs.Halfway.{lying, pending_on, segments_of, VolumeFacts}
use Rattle.inventory_rules.specs.Reordered.{IsReordered}
use Rattle.inventory_laws.proofs.VolumeFacts.{capacity_kept, without_volumes, IsRow, IsRowOf, IsTable, facts_from, files_of, names_of, primary_at, row_reordered, rows_of, table_of}
use Rattle.inventory_laws.proofs.Holding.{is_held-with}
use Rattle.inventory_laws.proofs.Orders.{reordered_behind, reordered_back, reordered-filter, reordered_front}
use Rattle.inventory_laws.proofs.VolumeRows.{each_but, each_other, each_so, map-set_row}
use Rattle.inventory_laws.proofs.Volume.{Fits, put_by, put_fits, put_holds, take_by, take_fits, take_holds}

-- ---- what is pending in another order

pub lying_reordered : (p q : List (ℕ × Segment)) (v : Inv) → IsReordered p q → (file : ℕ) → IsReordered (lying p file v) (lying q file v)
lying_reordered p q v r file = reordered_behind (segments_on file v) (pending_on file p) (pending_on file q) (reordered-filter (λ e. e.1.file == file) p q r)

pub facts_reordered : (p q : List (ℕ × Segment)) (v : Inv) → VolumeFacts p v → IsReordered p q → VolumeFacts q v
facts_reordered p q v f r =
    facts_from q v (table_of p v f)
    (each_so (IsRowOf v (λ file. lying p file v)) (IsRowOf v (λ file. lying q file v))
    (λ e h. row_reordered (without_volumes v.stores) v.today (lying p e.0 v) (lying q e.0 v) e (lying_reordered p q v r e.0) h) v.stores.volumes (rows_of p v f))

-- ---- one volume changes

-- the numbers of which no two are the same are so in front of others, too
pub apart_front : (xs ys : List ℕ) → all_later (λ a b. not (a == b)) (xs ++ ys) ≡ true → all_later (λ a b. not (a == b)) xs ≡ true
apart_front [] ys h = refl
apart_front (x ∷ xs) ys h =
    let parts = and_parts (list_all (λ b. not (x == b)) (xs ++ ys)) (all_later (λ a b. not (a == b)) (xs ++ ys)) h in
    and_from (list_all (λ b. not (x == b)) xs) (all_later (λ a b. not (a == b)) xs) (front xs parts.0) (apart_front xs ys parts.1)
  where
    front : (zs : List ℕ) → list_all (λ b. not (x == b)) (zs ++ ys) ≡ true → list_all (λ b. not (x == b)) zs ≡ true
    front [] g = refl
    front (z ∷ zs) g =
        let sides = and_parts (not (x == z)) (list_all (λ b. not (x == b)) (zs ++ ys)) g in
        and_from (not (x == z)) (list_all (λ b. not (x == b)) zs) sides.0 (front zs sides.1)

-- the database with other rows of volumes
abbrev pub renewed : List (ℕ × Volume) → Inv → Inv
renewed rows v = with_stores (record v.stores { volumes = rows }) v

pub one_changed : (p q : List (ℕ × Segment)) (v : Inv) (k : ℕ) (old new : Volume) → row_at k v.stores.volumes ≡ Some old → Keeps old new
    → ((file : ℕ) → (file ≡ k → ⊥) → lying p file v ≡ lying q file v)
    → (IsRow (without_volumes v.stores) v.today (lying p k v) (k, old) → IsRow (without_volumes v.stores) v.today (lying q k v) (k, new))
    → VolumeFacts p v → VolumeFacts q (renewed (set_row k new v.stores.volumes) v)
one_changed p q v k old new found keeps others change f =
    let t : IsTable v.next_file (files_of v) (names_of v) = table_of p v f in
    let keys : keys_of (set_row k new v.stores.volumes) ≡ keys_of v.stores.volumes = keys-set_value (is_at (nat_cmp k)) v.stores.volumes new in
    let names : map (λ (e : ℕ × Volume). e.1.name) (set_row k new v.stores.volumes) ≡ names_of v = map-set_row (λ (w : Volume). w.name) k old new v.stores.volumes found keeps.name in
    let whole : IsTable v.next_file (keys_of (set_row k new v.stores.volumes) ++ keys_of v.backups) (map (λ (e : ℕ × Volume). e.1.name) (set_row k new v.stores.volumes)) =
    subst (λ (l : List ℕ). IsTable v.next_file (l ++ keys_of v.backups) (map (λ (e : ℕ × Volume). e.1.name) (set_row k new v.stores.volumes))) (sym keys)
    (subst (λ (l : List (List ℕ)). IsTable v.next_file (files_of v) l) (sym names) t) in
    facts_from q (renewed (set_row k new v.stores.volumes) v) whole
    (each_but (IsRowOf v (λ file. lying p file v)) (IsRowOf v (λ file. lying q file v)) k old new
    (λ e other h. subst (λ (l : List (ℕ × Segment)). IsRow (without_volumes v.stores) v.today l e) (others e.0 other) h) change v.stores.volumes found
    (apart_front (keys_of v.stores.volumes) (keys_of v.backups) t.apart) (rows_of p v f))

pub named_still : (k : ℕ) (old new : Volume) → Keeps old new → is_named_soundly (k, old) ≡ true → is_named_soundly (k, new) ≡ true
named_still k old new keeps h =
    ap (λ b. cond b (is_same_name new.name (scratch_name k)) (not (is_scratch_name new.name))) keeps.scratch
    ∙ ap (λ n. cond old.scratch (is_same_name n (scratch_name k)) (not (is_scratch_name n))) keeps.name ∙ h

-- ---- what lies on a volume, with one segment more

lying_other : (object : ℕ) (s : Segment) (p : List (ℕ × Segment)) (v : Inv) (file : ℕ) → (file ≡ s.file → ⊥) → lying p file v ≡ lying ((object, s) ∷ p) file v
lying_other object s p v file ne = ap (λ b. segments_on file v ++ cond b ((object, s) ∷ pending_on file p) (pending_on file p)) (sym (ne_eqb s.file file (λ e. ne (sym e))))

lying_here : (object : ℕ) (s : Segment) (p : List (ℕ × Segment)) (v : Inv) → IsReordered (lying ((object, s) ∷ p) s.file v) ((object, s) ∷ lying p s.file v)
lying_here object s p v =
    subst (λ b. IsReordered (segments_on s.file v ++ cond b ((object, s) ∷ pending_on s.file p) (pending_on s.file p)) ((object, s) ∷ lying p s.file v)) (sym (eq-eqb s.file s.file refl))
    (reordered_front (segments_on s.file v) (object, s) (pending_on s.file p))

-- ---- a segment comes

pub put_is : (object : ℕ) (s : Segment) (v : Inv) (volume : Volume) → row_at s.file v.stores.volumes ≡ Some volume
    → put object (s ∷ []) v ≡ renewed (set_row s.file (put_on (is_sequential volume.pool v.stores) (held_of object s) volume) v.stores.volumes) v
put_is object s v volume found =
    ap (λ (o : Option Volume). with_stores (or_same v.stores (with_volumes v.stores (changed s.file (row.put (is_sequential_row v.stores o) (held_of object s)) v.stores.volumes o))) v) found

pub put_row : (t : PoolRows) (today : ℕ) (there : List (ℕ × Segment)) (object : ℕ) (s : Segment) (k : ℕ) (volume : Volume) (b : Bool) → is_sequential volume.pool t ≡ b
    → nat_le (s.offset + 32 + s.len) volume.capacity ≡ true → (b || s.offset % 4096 == 0) ≡ true → list_all (λ e. are_clear b s e.1) there ≡ true
    → IsRow t today there (k, volume) → IsRow t today ((object, s) ∷ there) (k, put_on b (held_of object s) volume)
put_row t today there object s k volume b is within block clear h =
    let new : Volume = put_on b (held_of object s) volume in
    let keeps : Keeps volume new = put_keeps b (held_of object s) volume in
    let before : Fits b (pool_capacity volume.pool t) (primary_at volume.pool t) there volume = subst (λ c. Fits c (pool_capacity volume.pool t) (primary_at volume.pool t) there volume) is h.fits in
    let after : Fits b (pool_capacity volume.pool t) (primary_at volume.pool t) ((object, s) ∷ there) new = put_fits b (pool_capacity volume.pool t) (primary_at volume.pool t) there object s volume within block clear before in
    let here : Fits (is_sequential volume.pool t) (pool_capacity volume.pool t) (primary_at volume.pool t) ((object, s) ∷ there) new =
    subst (λ c. Fits c (pool_capacity volume.pool t) (primary_at volume.pool t) ((object, s) ∷ there) new) (sym is) after in
    record {
      cite = subst (λ n. is_some (row_at n t.pools) ≡ true) (sym keeps.pool) h.cite;
      soundly = named_still k volume new keeps h.soundly;
      by_today = put_by b (held_of object s) today volume h.by_today;
      fits = subst (λ n. Fits (is_sequential n t) (pool_capacity n t) (primary_at n t) ((object, s) ∷ there) new) (sym keeps.pool) here;
      tied = put_holds b there object s volume h.tied;
    }

pub put_one : (p : List (ℕ × Segment)) (v : Inv) (object n : ℕ) (s : Segment) → VolumeFacts p v → lies_rightly (is_sequential_at s.file v.stores) n s (row_at s.file v.stores.volumes) ≡ true
    → list_all (λ e. are_clear (is_sequential_at s.file v.stores) s e.1) (lying p s.file v) ≡ true → VolumeFacts ((object, s) ∷ p) (put object (s ∷ []) v)
put_one p v object n s f lies clear = go (row_at s.file v.stores.volumes) refl lies clear where
  go : (o : Option Volume) → row_at s.file v.stores.volumes ≡ o → lies_rightly (is_sequential_row v.stores o) n s o ≡ true → list_all (λ e. are_clear (is_sequential_row v.stores o) s e.1) (lying p s.file v) ≡ true
      → VolumeFacts ((object, s) ∷ p) (put object (s ∷ []) v)
  go None found l c = absurd cc
  go (Some volume) found l c =
      let b : Bool = is_sequential volume.pool v.stores in
      let one = and_parts (volume.pool == n) (nat_le (s.offset + 32 + s.len) volume.capacity && (b || s.offset % 4096 == 0)) l in
      let two = and_parts (nat_le (s.offset + 32 + s.len) volume.capacity) (b || s.offset % 4096 == 0) one.1 in
      subst (VolumeFacts ((object, s) ∷ p)) (sym (put_is object s v volume found))
      (one_changed p ((object, s) ∷ p) v s.file volume (put_on b (held_of object s) volume) found (put_keeps b (held_of object s) volume) (lying_other object s p v)
      (λ h.
      row_reordered (without_volumes v.stores) v.today ((object, s) ∷ lying p s.file v) (lying ((object, s) ∷ p) s.file v) (s.file, put_on b (held_of object s) volume)
      (reordered_back (lying ((object, s) ∷ p) s.file v) ((object, s) ∷ lying p s.file v) (lying_here object s p v))
      (put_row (without_volumes v.stores) v.today (lying p s.file v) object s s.file volume b (ap is_some (capacity_kept volume.pool [] v.stores)) two.0 two.1 c h)) f)

-- ---- a segment goes

pub take_row : (t : PoolRows) (today : ℕ) (there : List (ℕ × Segment)) (object : ℕ) (s : Segment) (k : ℕ) (volume : Volume) (b : Bool) → is_sequential volume.pool t ≡ b
    → IsRow t today ((object, s) ∷ there) (k, volume) → IsRow t today there (k, take_from b (held_of object s) today volume)
take_row t today there object s k volume b is h =
    let new : Volume = take_from b (held_of object s) today volume in
    let keeps : Keeps volume new = take_keeps b (held_of object s) today volume in
    let before : Fits b (pool_capacity volume.pool t) (primary_at volume.pool t) ((object, s) ∷ there) volume = subst (λ c. Fits c (pool_capacity volume.pool t) (primary_at volume.pool t) ((object, s) ∷ there) volume) is h.fits in
    let after : Fits b (pool_capacity volume.pool t) (primary_at volume.pool t) there new = take_fits b (pool_capacity volume.pool t) (primary_at volume.pool t) there object s today volume h.tied before in
    record {
      cite = h.cite;
      soundly = named_still k volume new keeps h.soundly;
      by_today = take_by b (held_of object s) today volume h.by_today;
      fits = subst (λ c. Fits c (pool_capacity volume.pool t) (primary_at volume.pool t) there new) (sym is) after;
      tied = take_holds b there object s today volume h.tied;
    }

pub take_none : (object : ℕ) (s : Segment) (v : Inv) → row_at s.file v.stores.volumes ≡ None → take_away object (s ∷ []) v ≡ v
take_none object s v absent =
    ap (λ (o : Option Volume). with_stores (or_same v.stores (with_volumes v.stores (changed s.file (row.take (is_sequential_row v.stores o) (held_of object s) v.today) v.stores.volumes o))) v) absent

pub take_is : (object : ℕ) (s : Segment) (v : Inv) (volume : Volume) → row_at s.file v.stores.volumes ≡ Some volume → is_held (held_of object s) volume.segments ≡ true
    → take_away object (s ∷ []) v ≡ renewed (set_row s.file (take_from (is_sequential volume.pool v.stores) (held_of object s) v.today volume) v.stores.volumes) v
take_is object s v volume found held =
    ap (λ (o : Option Volume). with_stores (or_same v.stores (with_volumes v.stores (changed s.file (row.take (is_sequential_row v.stores o) (held_of object s) v.today) v.stores.volumes o))) v) found
    ∙ ap (λ b. with_stores (or_same v.stores (with_volumes v.stores (row_set s.file v.stores.volumes (cond {A = Result Volume Refusal} b (Ok (take_from (is_sequential volume.pool v.stores) (held_of object s) v.today volume)) (Err NotFound))))) v) held

pub take_one : (p : List (ℕ × Segment)) (v : Inv) (object : ℕ) (s : Segment) → VolumeFacts ((object, s) ∷ p) v → VolumeFacts p (take_away object (s ∷ []) v)
take_one p v object s f = go (row_at s.file v.stores.volumes) refl where
  go : (o : Option Volume) → row_at s.file v.stores.volumes ≡ o → VolumeFacts p (take_away object (s ∷ []) v)
  go None absent =
      subst (VolumeFacts p) (sym (take_none object s v absent))
      (facts_from p v (table_of ((object, s) ∷ p) v f)
      (each_other (IsRowOf v (λ file. lying ((object, s) ∷ p) file v)) (IsRowOf v (λ file. lying p file v)) s.file
      (λ e other h. subst (λ (l : List (ℕ × Segment)). IsRow (without_volumes v.stores) v.today l e) (sym (lying_other object s p v e.0 other)) h) v.stores.volumes absent (rows_of ((object, s) ∷ p) v f)))
  go (Some volume) found =
      let b : Bool = is_sequential volume.pool v.stores in
      let old : IsRow (without_volumes v.stores) v.today (lying ((object, s) ∷ p) s.file v) (s.file, volume) =
      each_there (IsRowOf v (λ file. lying ((object, s) ∷ p) file v)) s.file volume v.stores.volumes found (rows_of ((object, s) ∷ p) v f) in
      let first : IsRow (without_volumes v.stores) v.today ((object, s) ∷ lying p s.file v) (s.file, volume) =
      row_reordered (without_volumes v.stores) v.today (lying ((object, s) ∷ p) s.file v) ((object, s) ∷ lying p s.file v) (s.file, volume) (lying_here object s p v) old in
      let held : is_held (held_of object s) volume.segments ≡ true = ap (is_held (held_of object s)) first.tied ∙ is_held-with (held_of object s) (holding (lying p s.file v)) in
      subst (VolumeFacts p) (sym (take_is object s v volume found held))
      (one_changed ((object, s) ∷ p) p v s.file volume (take_from b (held_of object s) v.today volume) found (take_keeps b (held_of object s) v.today volume)
      (λ file other. sym (lying_other object s p v file other))
      (λ h. take_row (without_volumes v.stores) v.today (lying p s.file v) object s s.file volume b (ap is_some (capacity_kept volume.pool [] v.stores)) first) f)

pub take_list : (p : List (ℕ × Segment)) (object : ℕ) (segments : List Segment) (v : Inv) → VolumeFacts (map (λ s. (object, s)) segments ++ p) v → VolumeFacts p (take_away object segments v)
take_list p object [] v f = f
take_list p object (s ∷ segments) v f = take_list p object segments (take_away object (s ∷ []) v) (take_one (map (λ s. (object, s)) segments ++ p) v object s f)

pub take_copies : (p : List (ℕ × Segment)) (object : ℕ) (copies : List CopyRow) (v : Inv) → VolumeFacts (segments_of (map (λ c. (object, c)) copies) ++ p) v → VolumeFacts p (take_all object copies v)
take_copies p object [] v f = f
take_copies p object (c ∷ copies) v f =
    take_copies p object copies (take_away object c.segments v)
    (take_list (segments_of (map (λ (d : CopyRow). (object, d)) copies) ++ p) object c.segments v
    (subst (λ (l : List (ℕ × Segment)). VolumeFacts l v) (append_assoc (map (λ (s : Segment). (object, s)) c.segments) (segments_of (map (λ (d : CopyRow). (object, d)) copies)) p) f))
