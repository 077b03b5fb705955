-- Copies that move: the new segments of all are on their volumes, and those that the copies leave go, one after the other. New segments may overlap those that go.
use Rattle.std.proofs.Common.{◌≡◌, ℕ, ◌+◌, true, false, cond, eqb, not, List, [], ◌∷◌, ◌++◌, map, Option, Some, None, refl, sym, ap, subst, ◌∙◌, append_assoc, append-nil}
use Rattle.std.specs.Prelude.{IfSome}
use Rattle.std.specs.List.{find, flat_map, list_all}
use Rattle.std.specs.Option.{option_map_or}
use Rattle.std.proofs.lemmas.Bool.{and_parts, eq-eqb}
use Rattle.std.proofs.lemmas.List.Concat.{flat_map-append}
use Rattle.kinds.specs.Refusals.{bad_value, unless}
use Rattle.kinds.specs.declared.segment.Segment.{Segment}
use Rattle.entries.specs.change_items.declared.items.MovedCopy.{MovedCopy}
use Rattle.entries.specs.change_items.declared.lists.MovedCopies.{MovedCopies}
use Rattle.entries.specs.declared.change.Change.TheVariants as change
use Rattle.inventory_rows.specs.version_groups.declared.copies.CopyRow.{CopyRow}
use Rattle.inventory_rows.specs.version_groups.declared.versions.Version.{Version}
use Rattle.inventory_rows.specs.version_groups.Copies.{are_by_pool}
use Rattle.inventory_rows.specs.volume_rows.declared.volume.Volume.{Volume}
use Rattle.inventory_rows.specs.volume_rows.Held.{held_of}
use Rattle.inventory_rows.specs.volume_rows.Holdings.{is_held}
use Rattle.inventory_rows.specs.object_rows.Rows.{Rows}
use Rattle.inventory_rows.specs.Search.{copies, copy_in, is_primary, version}
use Rattle.inventory_rows.specs.State.{Inv}
use Rattle.pool_tables.specs.Rows.{row_at}
use Rattle.pool_tables.proofs.Counting.{each_there}
use Rattle.inventory_rules.specs.Common.{each}
use Rattle.inventory_rules.specs.Copies.{move_copy, move_refused, moved, moved_refused, put_moved, segments_in}
use Rattle.inventory_rules.specs.Facts.{Facts}
use Rattle.inventory_rules.specs.Halfway.{lying, pending_on, segments_of, VolumeFacts}
use Rattle.inventory_rules.specs.Held.{holding, IsTied}
use Rattle.inventory_rules.specs.Journal.{Journal}
use Rattle.inventory_rules.specs.Reordered.{IsReordered}
use Rattle.inventory_rules.specs.Segments.{make_scratch, put, scratch_fits, scratch_refused, take_away}
use Rattle.inventory_rules.specs.Transactions.{causes, changed, effect}
use Rattle.inventory_rules.specs.Valid.{is_valid, volumes_are}
use Rattle.inventory_rules.specs.Versions.{name_once}
use Rattle.inventory_laws.specs.Coming.{of_object as in_object}
use Rattle.inventory_laws.specs.Kept.{OnlyVolumes, nothing}
use Rattle.inventory_laws.specs.Steady.{IsSteady}
use Rattle.inventory_laws.proofs.Assembled.{steady_begins}
use Rattle.inventory_laws.proofs.Copied.{own_of}
use Rattle.inventory_laws.proofs.CopyLists.{sound_by_pool}
use Rattle.inventory_laws.proofs.Facts.{facts_of}
use Rattle.inventory_laws.proofs.FitBack.{move_shapes, shapes_of, shapes_then}
use Rattle.inventory_laws.proofs.Holding.{is_held-with}
use Rattle.inventory_laws.proofs.Laid.{SameShapes}
use Rattle.inventory_laws.proofs.MovedRows.{left_of, staying}
use Rattle.inventory_laws.proofs.Moves.{copies_parted}
use Rattle.inventory_laws.proofs.Orders.{reordered-flat_map, reordered_back, reordered_front, reordered_itself}
use Rattle.inventory_laws.proofs.Others.{other_copied}
use Rattle.inventory_laws.proofs.ScratchBack.{scratch_back}
use Rattle.inventory_laws.proofs.ScratchList.{none_of_both, unless_not}
use Rattle.inventory_laws.proofs.Steady.{scratch_steady}
use Rattle.inventory_laws.proofs.Swapping.{facts_swapped}
use Rattle.inventory_laws.proofs.Tests.{before_next, named_once}
use Rattle.inventory_laws.proofs.Turned.{Bears, bears_put, bears_reordered, bears_take, bears_taken}
use Rattle.inventory_laws.proofs.VersionVolumes.{all_scratch_only}
use Rattle.inventory_laws.proofs.VolumeItems.{moved_kept, moves_kept}
use Rattle.kept_index.specs.Steps.{AllLie, left_by, LiesOn, of_object}
use Rattle.kept_index.proofs.Dropped.{in_the_pool, one_there}
use Rattle.kept_index.proofs.Effects.{filtered_back, map_append, segments_back}
use Rattle.kept_index.proofs.Going.{Took, away_stores, away_today, took_then, turned}

-- the segments of the copy that moves, where they were
abbrev pub what_moves : MovedCopy → Inv → List (ℕ × Segment)
what_moves i v = of_object (i.object, segments_in i.from (version i.object v))

abbrev pub all_moving : List MovedCopy → Inv → List (ℕ × Segment)
all_moving items v = flat_map (λ i. what_moves i v) items

-- ---- they lie on their volumes

lies : (object : ℕ) (x : Segment) (rest : List (ℕ × Segment)) (v : Inv) → Bears ((object, x) ∷ rest) v → LiesOn (object, x) v.stores
lies object x rest v bears = go (row_at x.file v.stores.volumes) refl where
  first : pending_on x.file ((object, x) ∷ rest) ≡ (object, x) ∷ pending_on x.file rest
  first = ap (λ b. cond {A = List (ℕ × Segment)} b ((object, x) ∷ pending_on x.file rest) (pending_on x.file rest)) (eq-eqb x.file x.file refl)

  go : (o : Option Volume) → row_at x.file v.stores.volumes ≡ o → IfSome o (λ (w : Volume). is_held (held_of object x) w.segments ≡ true)
  go None absent = tt
  go (Some w) found = ap (is_held (held_of object x)) (bears x.file w found ∙ ap holding first) ∙ is_held-with (held_of object x) (holding (pending_on x.file rest))

list_lies : (object : ℕ) (segments : List Segment) (rest : List (ℕ × Segment)) (v : Inv) → Bears (in_object object segments ++ rest) v → AllLie v.today (of_object (object, segments)) v.stores
list_lies object [] rest v bears = tt
list_lies object (x ∷ segments) rest v bears = (
  lies object x (in_object object segments ++ rest) v bears,
  list_lies object segments rest (take_away object (x ∷ []) v) (bears_take object x (in_object object segments ++ rest) v bears),
)

-- a copy of another object is where it was
others_stay : (i : MovedCopy) (other : ℕ) (v : Inv) → eqb other i.object ≡ false → version other (move_copy i v) ≡ version other v
others_stay i other v ne = ap (version other) (moves_kept i v).only ∙ other_copied i.object other (moved i v) v ne

still : (i : MovedCopy) (v : Inv) (items : List MovedCopy) → list_all (λ b. not (eqb i.object b)) (map (λ (k : MovedCopy). k.object) items) ≡ true → all_moving items (move_copy i v) ≡ all_moving items v
still i v [] apart = refl
still i v (k ∷ items) apart =
    let parts = and_parts (not (eqb i.object k.object)) (list_all (λ b. not (eqb i.object b)) (map (λ (k : MovedCopy). k.object) items)) apart in
    ap (λ (o : Option Version). of_object (k.object, segments_in k.from o) ++ all_moving items (move_copy i v)) (others_stay i k.object v (turned i.object k.object parts.0))
    ∙ ap (λ (l : List (ℕ × Segment)). what_moves k v ++ l) (still i v items parts.1)

one_took : (i : MovedCopy) (rest : List (ℕ × Segment)) (v : Inv) → Bears (what_moves i v ++ rest) v → Took (what_moves i v) v (move_copy i v)
one_took i rest v bears =
    let segments = segments_in i.from (version i.object v) in
    record { lie = list_lies i.object segments rest v bears; stores = away_stores i.object segments v; today = away_today i.object segments v }

moves_took : (items : List MovedCopy) (rest : List (ℕ × Segment)) (v : Inv) → name_once (map (λ (i : MovedCopy). i.object) items) ≡ true → Bears (all_moving items v ++ rest) v → Took (all_moving items v) v (each move_copy items v)
moves_took [] rest v once bears = record { lie = tt; stores = refl; today = refl }
moves_took (i ∷ items) rest v once bears =
    let parts = and_parts (list_all (λ b. not (eqb i.object b)) (map (λ (k : MovedCopy). k.object) items)) (name_once (map (λ (k : MovedCopy). k.object) items)) once in
    let segments = segments_in i.from (version i.object v) in
    let more = all_moving items v in
    let w : Inv = move_copy i v in
    let first : Bears (what_moves i v ++ (more ++ rest)) v = subst (λ (l : List (ℕ × Segment)). Bears l v) (append_assoc (what_moves i v) more rest) bears in
    let left : Bears (more ++ rest) w = bears_taken i.object segments (more ++ rest) v first in
    let same : all_moving items w ≡ more = still i v items parts.0 in
    let next : Took (all_moving items w) w (each move_copy items w) = moves_took items rest w parts.1 (subst (λ (l : List (ℕ × Segment)). Bears (l ++ rest) w) (sym same) left) in
    subst (λ (l : List (ℕ × Segment)). Took (what_moves i v ++ l) v (each move_copy items w)) same (took_then (what_moves i v) (all_moving items w) v w (each move_copy items w) (one_took i (more ++ rest) v first) next)

-- ---- so they do once the new ones came

-- the volumes' rows hold these segments, and others
abbrev BearAlso : List (ℕ × Segment) → Inv → Type 0
BearAlso these v = (rest : List (ℕ × Segment)) × Bears (these ++ rest) v

put_one : (these : List (ℕ × Segment)) (object : ℕ) (x : Segment) (v : Inv) → BearAlso these v → BearAlso these (put object (x ∷ []) v)
put_one these object x v h = (
  (object, x) ∷ h.0,
  bears_reordered ((object, x) ∷ (these ++ h.0)) (these ++ (object, x) ∷ h.0) (put object (x ∷ []) v)
      (reordered_back (these ++ (object, x) ∷ h.0) ((object, x) ∷ (these ++ h.0)) (reordered_front these (object, x) h.0)) (bears_put object x (these ++ h.0) v h.1),
)

put_list : (these : List (ℕ × Segment)) (object : ℕ) (segments : List Segment) (v : Inv) → BearAlso these v → BearAlso these (put object segments v)
put_list these object [] v h = h
put_list these object (x ∷ segments) v h = put_list these object segments (put object (x ∷ []) v) (put_one these object x v h)

put_all : (these : List (ℕ × Segment)) (items : List MovedCopy) (v : Inv) → BearAlso these v → BearAlso these (each put_moved items v)
put_all these [] v h = h
put_all these (i ∷ items) v h = put_all these items (put_moved i v) (put_list these i.object i.segments v h)

-- ---- and before

both_segments : (a b : List (ℕ × CopyRow)) → segments_of (a ++ b) ≡ segments_of a ++ segments_of b
both_segments a b = flat_map-append (λ (e : ℕ × CopyRow). map (λ s. (e.0, s)) e.1.segments) a b

row_moves : (i : MovedCopy) (o : Option Version) → segments_of (left_of i o) ≡ of_object (i.object, segments_in i.from o)
row_moves i None = refl
row_moves i (Some w) = go (copy_in i.from w) where
  go : (c : Option CopyRow) → segments_of (option_map_or (λ c. (i.object, c) ∷ []) c []) ≡ of_object (i.object, option_map_or (λ (c : CopyRow). c.segments) c [])
  go None = refl
  go (Some c) = append-nil (of_object (i.object, c.segments))

abbrev moving_rows : List MovedCopy → Inv → List (ℕ × CopyRow)
moving_rows items v = flat_map (λ (i : MovedCopy). left_of i (version i.object v)) items

rows_move : (items : List MovedCopy) (v : Inv) → segments_of (moving_rows items v) ≡ all_moving items v
rows_move [] v = refl
rows_move (i ∷ items) v =
    both_segments (left_of i (version i.object v)) (moving_rows items v) ∙ ap (λ (l : List (ℕ × Segment)). l ++ segments_of (moving_rows items v)) (row_moves i (version i.object v))
    ∙ ap (λ (l : List (ℕ × Segment)). what_moves i v ++ l) (rows_move items v)

begun : (n : ℕ) (items : List MovedCopy) (u : Inv) → IsSteady n [] u → name_once (map (λ (i : MovedCopy). i.object) items) ≡ true → BearAlso (all_moving items u) u
begun n items u s once =
    let stay = segments_of (staying items (copies u)) in
    let bare : Inv = record u { clients = nothing } in
    let whole : VolumeFacts (segments_of (copies u) ++ []) bare = facts_swapped [] (copies u) [] u bare refl refl refl refl (subst (IsReordered (copies u)) (sym (append-nil (copies u))) (reordered_itself (copies u))) s.volumes in
    let order : IsReordered (segments_of (copies u)) (all_moving items u ++ stay) =
    subst (IsReordered (segments_of (copies u))) (both_segments (moving_rows items u) (staying items (copies u)) ∙ ap (λ (l : List (ℕ × Segment)). l ++ stay) (rows_move items u))
    (reordered-flat_map (λ (e : ℕ × CopyRow). map (λ s. (e.0, s)) e.1.segments) (copies u) (moving_rows items u ++ staying items (copies u)) (copies_parted n u items s.versions (named_once (λ (i : MovedCopy). i.object) items once))) in
    let all : Bears (segments_of (copies u)) u =
    subst (λ (l : List (ℕ × Segment)). Bears l u) (append-nil (segments_of (copies u)))
    (λ file w found. each_there (λ (e : ℕ × Volume). e.1.segments ≡ holding (lying (segments_of (copies u) ++ []) e.0 bare)) file w u.stores.volumes found whole.tied) in
    (stay, bears_reordered (segments_of (copies u)) (all_moving items u ++ stay) u order all)

-- ---- which segments they are

none_there : (pool : ℕ) (cs : List CopyRow) → find (λ (c : CopyRow). eqb c.pool pool) cs ≡ None → in_the_pool pool cs ≡ []
none_there pool [] h = refl
none_there pool (c ∷ cs) h =
    elim (eqb c.pool pool) as (λ b. cond {A = Option CopyRow} b (Some c) (find (λ (d : CopyRow). eqb d.pool pool) cs) ≡ None → cond {A = List CopyRow} b (c ∷ in_the_pool pool cs) (in_the_pool pool cs) ≡ []) [
      | true ↦ λ t. absurd cc
      | false ↦ λ t. none_there pool cs t
    ] h

segments_left : (pool : ℕ) (cs : List CopyRow) (o : Option CopyRow) → are_by_pool cs ≡ true → find (λ (c : CopyRow). eqb c.pool pool) cs ≡ o → option_map_or (λ (c : CopyRow). c.segments) o [] ≡ flat_map (λ (r : CopyRow). r.segments) (in_the_pool pool cs)
segments_left pool cs None by found = sym (ap (flat_map (λ (r : CopyRow). r.segments)) (none_there pool cs found))
segments_left pool cs (Some old) by found = sym (append-nil old.segments) ∙ sym (ap (flat_map (λ (r : CopyRow). r.segments)) (one_there pool cs old by found))

version_left : (n : ℕ) (i : MovedCopy) (v : Inv) → IsSteady n [] v → segments_in i.from (version i.object v) ≡ left_by (Some i.from) (version i.object v)
version_left n i v s = go (version i.object v) refl where
  go : (o : Option Version) → version i.object v ≡ o → segments_in i.from o ≡ left_by (Some i.from) o
  go None found = refl
  go (Some w) found =
      segments_left i.from w.copies (copy_in i.from w) (sound_by_pool (λ (c : CopyRow). is_primary c.pool v) w.size w.copies (own_of n i.object v w s.versions found).copied) refl ∙ filtered_back i.from w.copies

all_left : (n : ℕ) (items : List MovedCopy) (v : Inv) → IsSteady n [] v → map (λ (e : ℕ × Segment). e.1) (all_moving items v) ≡ flat_map (λ (i : MovedCopy). left_by (Some i.from) (version i.object v)) items
all_left n [] v s = refl
all_left n (i ∷ items) v s =
    map_append (what_moves i v) (all_moving items v) ∙ ap (λ (l : List Segment). l ++ map (λ (e : ℕ × Segment). e.1) (all_moving items v)) (segments_back i.object (segments_in i.from (version i.object v)) ∙ version_left n i v s)
    ∙ ap (λ (l : List Segment). left_by (Some i.from) (version i.object v) ++ l) (all_left n items v s)

-- ---- the transaction

pub record Moved (c : MovedCopies) (v : Inv) : Type 0 where
  pub segments : map (λ (e : ℕ × Segment). e.1) (all_moving c.items v) ≡ flat_map (λ (i : MovedCopy). left_by (Some i.from) (version i.object v)) c.items
  pub took : Took (all_moving c.items v) (each put_moved c.items (each make_scratch c.scratch v)) (changed (change.Move c) v)

sites_fit : (c : MovedCopies) (v : Inv) → scratch_refused c.scratch v ≡ [] → volumes_are (effect (change.Move c) v) ≡ true → scratch_fits v c.scratch ≡ true
unfolding effect
sites_fit c v refused are =
    let u : Inv = each make_scratch c.scratch v in
    let x : Inv = each put_moved c.items u in
    let w : Inv = each move_copy c.items x in
    let same : SameShapes u w = shapes_then u x w (shapes_of u x (moved_kept c.items u)) (move_shapes c.items x) in
    scratch_back c.scratch v (effect (change.Move c) v) refused (record { stores = same.stores; shapes = same.shapes }) are

pub all_moved : (j : Journal) (c : MovedCopies) (v : Inv) → is_valid v ≡ true → IsTied v → causes j (change.Move c) v ≡ [] → is_valid (effect (change.Move c) v) ≡ true → Moved c v
all_moved j c v valid tied cause after =
    let n : ℕ = v.number + 1 in
    let f : Facts v = facts_of v valid in
    let why = none_of_both (move_refused j c.items v) (scratch_refused c.scratch v) cause in
    let asked = none_of_both (unless (name_once (map (λ (i : MovedCopy). i.object) c.items)) bad_value) (flat_map (moved_refused j v) c.items) why.0 in
    let once : name_once (map (λ (i : MovedCopy). i.object) c.items) ≡ true = unless_not (name_once (map (λ (i : MovedCopy). i.object) c.items)) bad_value asked.0 in
    let u : Inv = each make_scratch c.scratch v in
    let x : Inv = each put_moved c.items u in
    let only = all_scratch_only c.scratch v in
    let kept : OnlyVolumes u x = moved_kept c.items u in
    let start : IsSteady n [] v = steady_begins n v f tied (before_next v.number) in
    let s : IsSteady n [] u = scratch_steady n c.scratch v why.1 (sites_fit c v why.1 (facts_of (effect (change.Move c) v) after).volumes_are) start in
    let to_u : all_moving c.items u ≡ all_moving c.items v = ap (λ (rows : Rows). all_moving c.items (record v { clients = rows })) only.clients in
    let to_x : all_moving c.items x ≡ all_moving c.items u = ap (λ (z : Inv). all_moving c.items z) kept.only in
    let bear : BearAlso (all_moving c.items u) x = put_all (all_moving c.items u) c.items u (begun n c.items u s once) in
    let took : Took (all_moving c.items x) x (each move_copy c.items x) = moves_took c.items bear.0 x once (subst (λ (l : List (ℕ × Segment)). Bears (l ++ bear.0) x) (sym to_x) bear.1) in
    record {
      segments = all_left n c.items v start;
      took = subst (λ (l : List (ℕ × Segment)). Took l x (each move_copy c.items x)) (to_x ∙ to_u) took;
    }
