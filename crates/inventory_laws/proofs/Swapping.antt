-- Segments whose copies come into the rows, or go from them, while the segments lie where they were.
use Rattle.std.proofs.Common.{◌≡◌, ℕ, Bool, true, false, cond, List, [], ◌∷◌, ◌++◌, map, refl, sym, ap, subst, ◌∙◌, append_assoc}
use Rattle.std.specs.Prelude.{◌==◌}
use Rattle.std.specs.List.{flat_map, filter, AllByRecursion}
use Rattle.std.specs.Map.{keys_of}
use Rattle.std.proofs.lemmas.List.Concat.{flat_map-append}
use Rattle.kinds.specs.declared.segment.Segment.{Segment}
use Rattle.inventory_rules.specs.inventory_rows.version_groups.declared.copies.CopyRow.{CopyRow}
use Rattle.inventory_rules.specs.inventory_rows.volume_rows.declared.volume.Volume.{Volume}
use Rattle.inventory_rules.specs.inventory_rows.pool_rows.PoolRows.{PoolRows}
use Rattle.inventory_rules.specs.inventory_rows.Search.{copies}
use Rattle.inventory_rules.specs.inventory_rows.State.{Inv}
use Rattle.inventory_rules.specs.Halfway.{lying, pending_on, segments_of, VolumeFacts}
use Rattle.inventory_rules.specs.Reordered.{IsReordered}
use Rattle.inventory_laws.proofs.VolumeFacts.{without_volumes, IsRow, IsRowOf, IsTable, facts_from, files_of, names_of, row_reordered, rows_of, table_of}
use Rattle.inventory_laws.proofs.Orders.{filter-append, reordered_back, reordered_before, reordered_first, reordered_then, reordered-flat_map}
use Rattle.inventory_laws.proofs.VolumeRows.{each_so}

-- the segments of these copies on one volume
abbrev pub on_file : ℕ → List (ℕ × CopyRow) → List (ℕ × Segment)
on_file file cs = flat_map (λ e. map (λ s. (e.0, s)) (filter (λ s. s.file == file) e.1.segments)) cs

abbrev tagged : ℕ → Segment → ℕ × Segment
tagged object s = (object, s)

filter-mapped : (file object : ℕ) (ss : List Segment) → filter (λ (e : ℕ × Segment). e.1.file == file) (map (tagged object) ss) ≡ map (tagged object) (filter (λ s. s.file == file) ss)
filter-mapped file object [] = refl
filter-mapped file object (s ∷ ss) =
    ap (λ (l : List (ℕ × Segment)). cond (s.file == file) (tagged object s ∷ l) l) (filter-mapped file object ss) ∙ go (s.file == file) (filter (λ t. t.file == file) ss)
  where
    go : (b : Bool) (ts : List Segment) → cond b (tagged object s ∷ map (tagged object) ts) (map (tagged object) ts) ≡ map (tagged object) (cond b (s ∷ ts) ts)
    go true ts = refl
    go false ts = refl

pub pending-segments_of : (file : ℕ) (cs : List (ℕ × CopyRow)) → pending_on file (segments_of cs) ≡ on_file file cs
pending-segments_of file [] = refl
pending-segments_of file (c ∷ cs) =
    filter-append (λ (e : ℕ × Segment). e.1.file == file) (map (λ s. (c.0, s)) c.1.segments) (segments_of cs)
    ∙ ap (λ (l : List (ℕ × Segment)). l ++ pending_on file (segments_of cs)) (filter-mapped file c.0 c.1.segments)
    ∙ ap (λ (l : List (ℕ × Segment)). map (λ s. (c.0, s)) (filter (λ s. s.file == file) c.1.segments) ++ l) (pending-segments_of file cs)

-- what lies on a volume, by the copies that are in the rows and those whose segments are pending
gathered : (a : List (ℕ × CopyRow)) (p : List (ℕ × Segment)) (file : ℕ) (v : Inv) → IsReordered (lying (segments_of a ++ p) file v) (on_file file (a ++ copies v) ++ pending_on file p)
gathered a p file v =
    let whole : lying (segments_of a ++ p) file v ≡ on_file file (copies v) ++ (on_file file a ++ pending_on file p) =
    ap (λ (l : List (ℕ × Segment)). on_file file (copies v) ++ l)
    (filter-append (λ (e : ℕ × Segment). e.1.file == file) (segments_of a) p ∙ ap (λ (l : List (ℕ × Segment)). l ++ pending_on file p) (pending-segments_of file a)) in
    let front : IsReordered (on_file file (copies v) ++ (on_file file a ++ pending_on file p)) (on_file file a ++ (on_file file (copies v) ++ pending_on file p)) =
    reordered_first (on_file file (copies v)) (on_file file a) (pending_on file p) in
    let joined : on_file file a ++ (on_file file (copies v) ++ pending_on file p) ≡ on_file file (a ++ copies v) ++ pending_on file p =
    sym (append_assoc (on_file file a) (on_file file (copies v)) (pending_on file p))
    ∙ ap (λ (l : List (ℕ × Segment)). l ++ pending_on file p) (sym (flat_map-append (λ (e : ℕ × CopyRow). map (λ s. (e.0, s)) (filter (λ s. s.file == file) e.1.segments)) a (copies v))) in
    subst (λ (l : List (ℕ × Segment)). IsReordered l (on_file file (a ++ copies v) ++ pending_on file p)) (sym whole)
    (subst (λ (l : List (ℕ × Segment)). IsReordered (on_file file (copies v) ++ (on_file file a ++ pending_on file p)) l) joined front)

pub swapped : (a b : List (ℕ × CopyRow)) (p : List (ℕ × Segment)) (file : ℕ) (v w : Inv) → IsReordered (a ++ copies v) (b ++ copies w) → IsReordered (lying (segments_of a ++ p) file v) (lying (segments_of b ++ p) file w)
swapped a b p file v w r =
    let one : IsReordered (on_file file (a ++ copies v) ++ pending_on file p) (on_file file (b ++ copies w) ++ pending_on file p) =
    reordered_before (on_file file (a ++ copies v)) (on_file file (b ++ copies w)) (pending_on file p)
    (reordered-flat_map (λ (e : ℕ × CopyRow). map (λ s. (e.0, s)) (filter (λ s. s.file == file) e.1.segments)) (a ++ copies v) (b ++ copies w) r) in
    let two : IsReordered (lying (segments_of a ++ p) file v) (on_file file (b ++ copies w) ++ pending_on file p) =
    reordered_then (lying (segments_of a ++ p) file v) (on_file file (a ++ copies v) ++ pending_on file p) (on_file file (b ++ copies w) ++ pending_on file p) (gathered a p file v) one in
    reordered_then (lying (segments_of a ++ p) file v) (on_file file (b ++ copies w) ++ pending_on file p) (lying (segments_of b ++ p) file w) two
    (reordered_back (lying (segments_of b ++ p) file w) (on_file file (b ++ copies w) ++ pending_on file p) (gathered b p file w))

abbrev RowsAt : (ℕ → List (ℕ × Segment)) → PoolRows → ℕ → Type 0
RowsAt there s today = AllByRecursion (λ (f : ℕ × Volume). IsRow (without_volumes s) today (there f.0) f) s.volumes

-- copies come into the rows and go from them: their segments are pending no longer, or now
pub facts_swapped : (a b : List (ℕ × CopyRow)) (p : List (ℕ × Segment)) (v w : Inv) → w.stores ≡ v.stores → w.backups ≡ v.backups → w.next_file ≡ v.next_file → w.today ≡ v.today
    → IsReordered (a ++ copies v) (b ++ copies w) → VolumeFacts (segments_of a ++ p) v → VolumeFacts (segments_of b ++ p) w
facts_swapped a b p v w stores backups next today r f =
    let table : IsTable v.next_file (files_of v) (names_of v) = table_of (segments_of a ++ p) v f in
    let rows : RowsAt (λ file. lying (segments_of b ++ p) file w) v.stores v.today =
    each_so (IsRowOf v (λ file. lying (segments_of a ++ p) file v)) (IsRowOf v (λ file. lying (segments_of b ++ p) file w))
    (λ e h. row_reordered (without_volumes v.stores) v.today (lying (segments_of a ++ p) e.0 v) (lying (segments_of b ++ p) e.0 w) e (swapped a b p e.0 v w r) h) v.stores.volumes (rows_of (segments_of a ++ p) v f) in
    facts_from (segments_of b ++ p) w
    (subst (λ (n : ℕ). IsTable n (files_of w) (names_of w)) (sym next)
    (subst (λ (s : PoolRows). IsTable v.next_file (keys_of s.volumes ++ keys_of w.backups) (map (λ f. f.1.name) s.volumes)) (sym stores)
    (subst (λ bs. IsTable v.next_file (keys_of v.stores.volumes ++ keys_of bs) (names_of v)) (sym backups) table)))
    (subst (λ (n : ℕ). RowsAt (λ file. lying (segments_of b ++ p) file w) w.stores n) (sym today)
    (subst (λ (s : PoolRows). RowsAt (λ file. lying (segments_of b ++ p) file w) s v.today) (sym stores) rows))
