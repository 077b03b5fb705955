-- A valid database has parts such as tables hold them.
use Rattle.std.proofs.Common.{◌≡◌, ℕ, Bool, true, false, not, cond, ◌&&◌, List, [], ◌∷◌, ◌++◌, map, Option, Some, None, refl, sym, ap, ◌∙◌}
use Rattle.std.proofs.lemmas.Bool.{eq-eqb, eqb-true}
use Rattle.std.specs.Prelude.{◌==◌, ◌||◌, is_none, is_some, if◌then◌else◌}
use Rattle.std.specs.BTreeMap.{is_at}
use Rattle.std.specs.Cmp.Lexicographic.{slice_cmp}
use Rattle.std.specs.List.{list_all}
use Rattle.std.specs.Map.{lookup}
use Rattle.std.specs.Ordering.{nat_cmp}
use Rattle.kinds.specs.declared.segment.Segment.{Segment}
use Rattle.inventory_rows.specs.version_groups.declared.copies.CopyRow.{CopyRow}
use Rattle.inventory_rows.specs.version_groups.declared.groups.Filespace.{Filespace}
use Rattle.inventory_rows.specs.version_groups.Entries.{all_later}
use Rattle.inventory_rows.specs.object_rows.declared.place.Node.{Node}
use Rattle.inventory_rows.specs.object_rows.Index.{AreDistinct}
use Rattle.inventory_rows.specs.object_rows.Names.{named, named_of}
use Rattle.inventory_rows.specs.object_rows.Places.{are_all_full, are_full}
use Rattle.inventory_rows.specs.pool_tables.Names.{are_apart, pool_name, row_named}
use Rattle.kinds.specs.Names.{is_same_name}
use Rattle.inventory_rows.specs.pool_tables.Rows.{row_at}
use Rattle.inventory_rows.specs.pool_tables.Scratch.{are_rightly_named, volume_name}
use Rattle.inventory_rows.proofs.of_pool_tables.Names.{at_name, same_flips}
use Rattle.inventory_rows.specs.volume_rows.declared.volume.Volume.{Volume}
use Rattle.inventory_rows.specs.Search.{copies, pool}
use Rattle.inventory_rows.specs.State.{Inv}
use Rattle.inventory_rules.specs.Facts.{Facts}
use Rattle.inventory_laws.proofs.Facts.{both, first, rest}
use Rattle.inventory_laws.proofs.Others.{full_groups}
use Rattle.inventory_rules.specs.Valid.{is_of_pool, is_orderly, names_apart}
use Rattle.inventory_bytes.specs.Payload.{AreSound}
use Rattle.inventory_bytes.specs.Segments.{all_lie, is_there}
use Rattle.inventory.specs.Meaningful.{held_stand}

-- a name that none of the others is isn't found among them
unnamed_behind : {V : Type 0} (name_of : V → List ℕ) (name : List ℕ) (e : ℕ × V) (es : List (ℕ × V)) → not (is_same_name name (name_of e.1)) ≡ true → is_none (row_named name_of name es) ≡ true → (b : Bool) → is_same_name (name_of e.1) name ≡ b → is_none (cond b (Some e.0) (row_named name_of name es)) ≡ true
unnamed_behind name_of name e es apart none true same =
    absurd (let x : true ≡ false = sym apart ∙ ap not (same_flips name (name_of e.1) ∙ same) in cc)
unnamed_behind name_of name e es apart none false same = none

unnamed : {V : Type 0} (name_of : V → List ℕ) (name : List ℕ) (es : List (ℕ × V)) → list_all (λ b. not (is_same_name name b)) (map (λ e. name_of e.1) es) ≡ true → is_none (row_named name_of name es) ≡ true
unnamed name_of name [] h = refl
unnamed name_of name (e ∷ es) h =
    unnamed_behind name_of name e es (first (not (is_same_name name (name_of e.1))) (list_all (λ b. not (is_same_name name b)) (map (λ e. name_of e.1) es)) h)
    (unnamed name_of name es (rest (not (is_same_name name (name_of e.1))) (list_all (λ b. not (is_same_name name b)) (map (λ e. name_of e.1) es)) h))
    (is_same_name (name_of e.1) name) refl

rows_apart : {V : Type 0} (name_of : V → List ℕ) (es : List (ℕ × V)) → names_apart (map (λ e. name_of e.1) es) ≡ true → are_apart name_of es ≡ true
rows_apart name_of [] h = refl
rows_apart name_of (e ∷ es) h =
    let here : list_all (λ b. not (is_same_name (name_of e.1) b)) (map (λ e. name_of e.1) es) ≡ true = first (list_all (λ b. not (is_same_name (name_of e.1) b)) (map (λ e. name_of e.1) es)) (names_apart (map (λ e. name_of e.1) es)) h in
    both (is_none (row_named name_of (name_of e.1) es)) (are_apart name_of es) (unnamed name_of (name_of e.1) es here)
    (rows_apart name_of es (rest (list_all (λ b. not (is_same_name (name_of e.1) b)) (map (λ e. name_of e.1) es)) (names_apart (map (λ e. name_of e.1) es)) h))

-- the nodes' names are given once
absent_behind : (name : List ℕ) (e : ℕ × Node) (es : List (ℕ × Node)) → not (is_same_name name e.1.name) ≡ true → lookup (is_at (slice_cmp nat_cmp name)) (named es) ≡ None → (b : Bool) → is_same_name name e.1.name ≡ b → cond b (Some e.0) (lookup (is_at (slice_cmp nat_cmp name)) (named es)) ≡ None
absent_behind name e es apart none true same = absurd (let x : true ≡ false = sym apart ∙ ap not same in cc)
absent_behind name e es apart none false same = none

absent : (name : List ℕ) (es : List (ℕ × Node)) → list_all (λ b. not (is_same_name name b)) (map (λ e. e.1.name) es) ≡ true → lookup (is_at (slice_cmp nat_cmp name)) (named es) ≡ None
absent name [] h = refl
absent name (e ∷ es) h =
    ap (λ b. cond b (Some e.0) (lookup (is_at (slice_cmp nat_cmp name)) (named es))) (at_name name e.1.name)
    ∙ absent_behind name e es (first (not (is_same_name name e.1.name)) (list_all (λ b. not (is_same_name name b)) (map (λ e. e.1.name) es)) h)
    (absent name es (rest (not (is_same_name name e.1.name)) (list_all (λ b. not (is_same_name name b)) (map (λ e. e.1.name) es)) h))
    (is_same_name name e.1.name) refl

nodes_distinct : (es : List (ℕ × Node)) → names_apart (map (λ e. e.1.name) es) ≡ true → AreDistinct (slice_cmp nat_cmp) (named es)
nodes_distinct [] h = tt
nodes_distinct (e ∷ es) h = (
  absent e.1.name es (first (list_all (λ b. not (is_same_name e.1.name b)) (map (λ e. e.1.name) es)) (names_apart (map (λ e. e.1.name) es)) h),
  nodes_distinct es (rest (list_all (λ b. not (is_same_name e.1.name b)) (map (λ e. e.1.name) es)) (names_apart (map (λ e. e.1.name) es)) h),
)

-- the names of the filespaces of one node are given once
space_behind : (node : ℕ) (name : List ℕ) (g : ℕ × Filespace) (fs : List (ℕ × Filespace)) → (not (node == g.1.node) || not (is_same_name name g.1.name)) ≡ true → lookup (is_at (slice_cmp nat_cmp name)) (named_of node fs) ≡ None
    → (b : Bool) → (g.1.node == node) ≡ b → lookup (is_at (slice_cmp nat_cmp name)) ((if b then (g.1.name, g.0) ∷ [] else []) ++ named_of node fs) ≡ None
space_behind node name g fs apart none false same = none
space_behind node name g fs apart none true same =
    ap (λ b. cond b (Some g.0) (lookup (is_at (slice_cmp nat_cmp name)) (named_of node fs))) (at_name name g.1.name)
    ∙ differs (is_same_name name g.1.name) (ap (λ b. not b || not (is_same_name name g.1.name)) (sym (eq-eqb node g.1.node (sym (eqb-true g.1.node node same)))) ∙ apart) where
      differs : (b : Bool) → (not true || not b) ≡ true → cond b (Some g.0) (lookup (is_at (slice_cmp nat_cmp name)) (named_of node fs)) ≡ None
      differs true h = absurd (cc)
      differs false h = none

space_absent : (node : ℕ) (name : List ℕ) (fs : List (ℕ × Filespace)) → list_all (λ g. not (node == g.1.node) || not (is_same_name name g.1.name)) fs ≡ true → lookup (is_at (slice_cmp nat_cmp name)) (named_of node fs) ≡ None
space_absent node name [] h = refl
space_absent node name (g ∷ fs) h =
    space_behind node name g fs (first (not (node == g.1.node) || not (is_same_name name g.1.name)) (list_all (λ g. not (node == g.1.node) || not (is_same_name name g.1.name)) fs) h)
    (space_absent node name fs (rest (not (node == g.1.node) || not (is_same_name name g.1.name)) (list_all (λ g. not (node == g.1.node) || not (is_same_name name g.1.name)) fs) h))
    (g.1.node == node) refl

space_before : (node : ℕ) (f : ℕ × Filespace) (fs : List (ℕ × Filespace)) → list_all (λ g. not (f.1.node == g.1.node) || not (is_same_name f.1.name g.1.name)) fs ≡ true → AreDistinct (slice_cmp nat_cmp) (named_of node fs)
    → (b : Bool) → (f.1.node == node) ≡ b → AreDistinct (slice_cmp nat_cmp) ((if b then (f.1.name, f.0) ∷ [] else []) ++ named_of node fs)
space_before node f fs h d false same = d
space_before node f fs h d true same = (
  space_absent node f.1.name fs (ap (λ n. list_all (λ (g : ℕ × Filespace). not (n == g.1.node) || not (is_same_name f.1.name g.1.name)) fs) (sym (eqb-true f.1.node node same)) ∙ h),
  d,
)

spaces_distinct : (fs : List (ℕ × Filespace)) → all_later (λ f g. not (f.1.node == g.1.node) || not (is_same_name f.1.name g.1.name)) fs ≡ true → (node : ℕ) → AreDistinct (slice_cmp nat_cmp) (named_of node fs)
spaces_distinct [] h node = tt
spaces_distinct (f ∷ fs) h node =
    let here : list_all (λ g. not (f.1.node == g.1.node) || not (is_same_name f.1.name g.1.name)) fs ≡ true =
    first (list_all (λ g. not (f.1.node == g.1.node) || not (is_same_name f.1.name g.1.name)) fs) (all_later (λ f g. not (f.1.node == g.1.node) || not (is_same_name f.1.name g.1.name)) fs) h in
    space_before node f fs here
    (spaces_distinct fs (rest (list_all (λ g. not (f.1.node == g.1.node) || not (is_same_name f.1.name g.1.name)) fs) (all_later (λ f g. not (f.1.node == g.1.node) || not (is_same_name f.1.name g.1.name)) fs) h) node)
    (f.1.node == node) refl

all_full : (filespaces : List (ℕ × Filespace)) → list_all (λ f. list_all (λ g. is_orderly g.1) f.1.groups) filespaces ≡ true → are_all_full filespaces ≡ true
all_full [] h = refl
all_full (f ∷ filespaces) h =
    both (are_full f.1.groups) (are_all_full filespaces)
    (full_groups f.1.groups (first (list_all (λ g. is_orderly g.1) f.1.groups) (list_all (λ f. list_all (λ g. is_orderly g.1) f.1.groups) filespaces) h))
    (all_full filespaces (rest (list_all (λ g. is_orderly g.1) f.1.groups) (list_all (λ f. list_all (λ g. is_orderly g.1) f.1.groups) filespaces) h))

pub sound : (v : Inv) → Facts v → AreSound v
sound v f = record {
  clients = record {
    names = nodes_distinct v.clients.nodes f.node_names;
    spaces = spaces_distinct v.clients.filespaces f.filespace_names;
    objects = f.objects_apart;
    full = all_full v.clients.filespaces f.groups_orderly;
    held = held_stand v f;
  };
  stores =
      ap (λ b. if b then Some v.stores else None)
      (both (are_apart pool_name v.stores.pools) _ (rows_apart pool_name v.stores.pools f.pool_names)
      (both (are_apart volume_name v.stores.volumes) (are_rightly_named v.stores.volumes) (rows_apart volume_name v.stores.volumes f.volume_names) f.named_soundly));
}

-- a volume of a pool is there
volume_there : (number : ℕ) (o : Option Volume) → is_of_pool number o ≡ true → is_some o ≡ true
volume_there number None h = absurd cc
volume_there number (Some w) h = refl

segments_there : (number : ℕ) (volumes : List (ℕ × Volume)) (segments : List Segment) → list_all (λ s. is_of_pool number (row_at s.file volumes)) segments ≡ true → list_all (is_there volumes) segments ≡ true
segments_there number volumes [] h = refl
segments_there number volumes (s ∷ segments) h =
    both (is_there volumes s) (list_all (is_there volumes) segments)
    (volume_there number (row_at s.file volumes) (first (is_of_pool number (row_at s.file volumes)) (list_all (λ s. is_of_pool number (row_at s.file volumes)) segments) h))
    (segments_there number volumes segments (rest (is_of_pool number (row_at s.file volumes)) (list_all (λ s. is_of_pool number (row_at s.file volumes)) segments) h))

copies_there : (v : Inv) (es : List (ℕ × CopyRow)) → list_all (λ e. is_some (pool e.1.pool v) && list_all (λ s. is_of_pool e.1.pool (row_at s.file v.stores.volumes)) e.1.segments) es ≡ true
    → list_all (λ e. list_all (is_there v.stores.volumes) e.1.segments) es ≡ true
copies_there v [] h = refl
copies_there v (e ∷ es) h =
    let here : (is_some (pool e.1.pool v) && list_all (λ s. is_of_pool e.1.pool (row_at s.file v.stores.volumes)) e.1.segments) ≡ true =
    first (is_some (pool e.1.pool v) && list_all (λ s. is_of_pool e.1.pool (row_at s.file v.stores.volumes)) e.1.segments) (list_all (λ e. is_some (pool e.1.pool v) && list_all (λ s. is_of_pool e.1.pool (row_at s.file v.stores.volumes)) e.1.segments) es) h in
    both (list_all (is_there v.stores.volumes) e.1.segments) (list_all (λ e. list_all (is_there v.stores.volumes) e.1.segments) es)
    (segments_there e.1.pool v.stores.volumes e.1.segments (rest (is_some (pool e.1.pool v)) (list_all (λ s. is_of_pool e.1.pool (row_at s.file v.stores.volumes)) e.1.segments) here))
    (copies_there v es (rest (is_some (pool e.1.pool v) && list_all (λ s. is_of_pool e.1.pool (row_at s.file v.stores.volumes)) e.1.segments) (list_all (λ e. is_some (pool e.1.pool v) && list_all (λ s. is_of_pool e.1.pool (row_at s.file v.stores.volumes)) e.1.segments) es) h))

-- each segment lies on a volume that is there
pub lie_there : (v : Inv) → Facts v → all_lie v ≡ true
lie_there v f = copies_there v (copies v) f.copies_cite
