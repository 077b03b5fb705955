-- What holds within a transaction on data is kept by the step of each item.
use Rattle.std.proofs.Common.{◌≡◌, ℕ, true, List, [], ◌∷◌, ◌++◌, map, Some, Result, is_some, refl, sym, subst, ◌∙◌, append-nil}
use Rattle.std.specs.List.{flat_map}
use Rattle.std.proofs.lemmas.Bool.{and_from}
use Rattle.kinds.specs.declared.refusal.Refusal.{Refusal}
use Rattle.kinds.specs.declared.segment.Segment.{Segment}
use Rattle.inventory_rules.specs.entries.change_items.declared.items.DroppedCopy.{DroppedCopy}
use Rattle.inventory_rules.specs.entries.change_items.declared.items.MovedCopy.{MovedCopy}
use Rattle.inventory_rules.specs.entries.change_items.declared.items.NewCopy.{NewCopy}
use Rattle.inventory_rules.specs.entries.change_items.declared.items.NewHeldObject.{NewHeldObject}
use Rattle.inventory_rules.specs.entries.change_items.declared.items.NewVersion.{NewVersion}
use Rattle.inventory_rules.specs.entries.change_items.declared.items.ScratchVolume.{ScratchVolume}
use Rattle.inventory_rules.specs.inventory_rows.version_groups.declared.copies.CopyRow.{CopyRow}
use Rattle.inventory_rules.specs.inventory_rows.version_groups.declared.versions.Version.{Version}
use Rattle.inventory_rules.specs.inventory_rows.object_rows.Rows.{Rows}
use Rattle.inventory_rules.specs.inventory_rows.Search.{copies, copy_in, pool, version}
use Rattle.inventory_rules.specs.inventory_rows.State.{Inv}
use Rattle.inventory_rules.specs.Common.{each}
use Rattle.inventory_rules.specs.Copies.{added, add_copy, change_copy, drop_copy, dropped, move_copy, moved, placed_now, put_moved}
use Rattle.inventory_rules.specs.Segments.{make_scratch, put, scratch_refused, scratch_fits}
use Rattle.inventory_rules.specs.Versions.{back_up, held_too, hold, inserted, take_versions}
use Rattle.inventory_rules.specs.Valid.{copies_cite}
use Rattle.inventory_rules.specs.Halfway.{VersionFacts, VolumeFacts}
use Rattle.inventory_rules.specs.Reordered.{IsReordered}
use Rattle.inventory_laws.specs.Coming.{Came, in_pool, in_pools, MayCome, of_object}
use Rattle.inventory_laws.specs.Kept.{clients_after, is_cited, OnlyVolumes}
use Rattle.inventory_laws.specs.Steady.{IsSteady}
use Rattle.inventory_laws.proofs.Cited.{cite_kept, cite_swapped, cited_kept, cited_new}
use Rattle.inventory_laws.proofs.Coming.{lie_first}
use Rattle.inventory_laws.proofs.VolumeItems.{adds, copy_comes, copy_drops, drops_kept, moved_come, moved_kept, moves, moves_kept, removes, removes_kept, versions_kept, with_rows}
use Rattle.inventory_laws.proofs.Keeping.{put_kept}
use Rattle.inventory_laws.proofs.ScratchList.{scratch_come}
use Rattle.inventory_laws.proofs.VersionVolumes.{all_scratch_only, facts_only}

-- ---- copies go

pub drop_steady : (n : ℕ) (p : List (ℕ × Segment)) (item : DroppedCopy) (v : Inv) (w : Version) (old : CopyRow) → version item.object v ≡ Some w → copy_in item.pool w ≡ Some old
    → VersionFacts n (change_copy item.object (dropped item) v) → IsReordered (copies v) ((item.object, old) ∷ copies (change_copy item.object (dropped item) v)) → VolumeFacts p v → copies_cite v ≡ true → IsSteady n p (drop_copy item v)
drop_steady n p item v w old found there versions r f cite =
    let u : Inv = change_copy item.object (dropped item) v in
    let k : OnlyVolumes u (drop_copy item v) = drops_kept item v in
    record {
      versions = versions_kept n u (drop_copy item v) k versions;
      volumes = copy_drops p item v w old found there r f;
      cite = cite_kept u (drop_copy item v) k ∙ (cite_swapped [] ((item.object, old) ∷ []) v u refl r refl cite).1;
    }

-- an object goes from the rows, and its copies with it
pub remove_steady : (n : ℕ) (p : List (ℕ × Segment)) (step : Rows → Result Rows Refusal) (object : ℕ) (v : Inv) (w : Version) → version object v ≡ Some w
    → VersionFacts n (clients_after step v) → IsReordered (copies v) (map (λ c. (object, c)) w.copies ++ copies (clients_after step v)) → VolumeFacts p v → copies_cite v ≡ true
    → IsSteady n p (clients_after step (take_versions object v))
remove_steady n p step object v w found versions r f cite =
    let u : Inv = clients_after step v in
    let k : OnlyVolumes u (clients_after step (take_versions object v)) = removes_kept step object v in
    record {
      versions = versions_kept n u (clients_after step (take_versions object v)) k versions;
      volumes = removes p step object v w found r f;
      cite = cite_kept u (clients_after step (take_versions object v)) k ∙ (cite_swapped [] (map (λ c. (object, c)) w.copies) v u refl r refl cite).1;
    }

-- ---- copies come

pub add_steady : (n : ℕ) (p : List (ℕ × Segment)) (item : NewCopy) (v : Inv) (rest : List (ℕ × Segment)) → MayCome p v (in_pool item.pool item.segments ++ rest) → is_some (pool item.pool v) ≡ true
    → VersionFacts n (change_copy item.object (added item v) v) → IsReordered ((item.object, placed_now item.pool item.segments v) ∷ copies v) (copies (change_copy item.object (added item v) v)) → VolumeFacts p v → copies_cite v ≡ true
    → IsSteady n p (add_copy item v) × MayCome p (add_copy item v) rest
add_steady n p item v rest m there versions r f cite =
    let u : Inv = change_copy item.object (added item v) v in
    let k : OnlyVolumes u (add_copy item v) = put_kept item.object item.segments u in
    let came : Came p (add_copy item v) rest = adds p item v rest f m r in
    let new : is_cited v (item.object, placed_now item.pool item.segments v) ≡ true = cited_new v item.object (placed_now item.pool item.segments v) there (lie_first p v item.pool item.segments rest m) in (
      record {
        versions = versions_kept n u (add_copy item v) k versions;
        volumes = came.facts;
        cite = cite_kept u (add_copy item v) k ∙ (cite_swapped ((item.object, placed_now item.pool item.segments v) ∷ []) [] v u refl r (and_from (is_cited v (item.object, placed_now item.pool item.segments v)) true new refl) cite).1;
      },
      came.rest,
    )

-- a new object in the rows, and then its segments
pub arrival_steady : (n : ℕ) (p : List (ℕ × Segment)) (object pool_number : ℕ) (segments : List Segment) (clients : Rows) (next : ℕ) (v : Inv) (rest : List (ℕ × Segment)) → MayCome p v (in_pool pool_number segments ++ rest) → is_some (pool pool_number v) ≡ true
    → VersionFacts n (with_rows clients next v) → IsReordered ((object, placed_now pool_number segments v) ∷ copies v) (copies (with_rows clients next v)) → VolumeFacts p v → copies_cite v ≡ true
    → IsSteady n p (put object segments (with_rows clients next v)) × MayCome p (put object segments (with_rows clients next v)) rest
arrival_steady n p object pool_number segments clients next v rest m there versions r f cite =
    let row : CopyRow = placed_now pool_number segments v in
    let u : Inv = with_rows clients next v in
    let w : Inv = put object segments u in
    let k : OnlyVolumes u w = put_kept object segments u in
    let came : Came p w rest = copy_comes p object pool_number row clients next v rest f m r in
    let new : is_cited v (object, row) ≡ true = cited_new v object row there (lie_first p v pool_number segments rest m) in (
      record {
        versions = versions_kept n u w k versions;
        volumes = came.facts;
        cite = cite_kept u w k ∙ (cite_swapped ((object, row) ∷ []) [] v u refl r (and_from (is_cited v (object, row)) true new refl) cite).1;
      },
      came.rest,
    )

pub back_up_steady : (n : ℕ) (p : List (ℕ × Segment)) (filespace : ℕ) (item : NewVersion) (v : Inv) (rest : List (ℕ × Segment)) → MayCome p v (in_pool item.pool item.segments ++ rest) → is_some (pool item.pool v) ≡ true
    → VersionFacts n (inserted filespace item v) → IsReordered ((item.object, placed_now item.pool item.segments v) ∷ copies v) (copies (inserted filespace item v)) → VolumeFacts p v → copies_cite v ≡ true
    → IsSteady n p (back_up filespace item v) × MayCome p (back_up filespace item v) rest
back_up_steady n p filespace item v rest m there versions r f cite =
    arrival_steady n p item.object item.pool item.segments (inserted filespace item v).clients (inserted filespace item v).next_object v rest m there versions r f cite

pub hold_steady : (n : ℕ) (p : List (ℕ × Segment)) (filespace : ℕ) (item : NewHeldObject) (v : Inv) (rest : List (ℕ × Segment)) → MayCome p v (in_pool item.pool item.segments ++ rest) → is_some (pool item.pool v) ≡ true
    → VersionFacts n (held_too filespace item v) → IsReordered ((item.object, placed_now item.pool item.segments v) ∷ copies v) (copies (held_too filespace item v)) → VolumeFacts p v → copies_cite v ≡ true
    → IsSteady n p (hold filespace item v) × MayCome p (hold filespace item v) rest
hold_steady n p filespace item v rest m there versions r f cite =
    arrival_steady n p item.object item.pool item.segments (held_too filespace item v).clients (held_too filespace item v).next_object v rest m there versions r f cite

-- ---- a copy moves, whose new segments have come

pub move_steady : (n : ℕ) (p : List (ℕ × Segment)) (item : MovedCopy) (v : Inv) (w : Version) (old : CopyRow) → version item.object v ≡ Some w → copy_in item.from w ≡ Some old
    → is_cited v (item.object, placed_now item.pool item.segments v) ≡ true → VersionFacts n (change_copy item.object (moved item v) v)
    → IsReordered ((item.object, placed_now item.pool item.segments v) ∷ copies v) ((item.object, old) ∷ copies (change_copy item.object (moved item v) v)) → VolumeFacts (of_object item.object item.segments ++ p) v → copies_cite v ≡ true
    → IsSteady n p (move_copy item v)
move_steady n p item v w old found there new versions r f cite =
    let row : CopyRow = placed_now item.pool item.segments v in
    let u : Inv = change_copy item.object (moved item v) v in
    let k : OnlyVolumes u (move_copy item v) = moves_kept item v in
    record {
      versions = versions_kept n u (move_copy item v) k versions;
      volumes = moves p item v w old found there r f;
      cite = cite_kept u (move_copy item v) k ∙ (cite_swapped ((item.object, row) ∷ []) ((item.object, old) ∷ []) v u refl r (and_from (is_cited v (item.object, row)) true new refl) cite).1;
    }

-- all new segments come before
pub puts_steady : (n : ℕ) (items : List MovedCopy) (v : Inv) → IsSteady n [] v → MayCome [] v (in_pools (λ (i : MovedCopy). i.pool) (λ i. i.segments) items) → IsSteady n (flat_map (λ (i : MovedCopy). of_object i.object i.segments) items) (each put_moved items v)
puts_steady n items v s m =
    let k : OnlyVolumes v (each put_moved items v) = moved_kept items v in
    let new : List (ℕ × Segment) = flat_map (λ (i : MovedCopy). of_object i.object i.segments) items in
    let came : Came (new ++ []) (each put_moved items v) [] = moved_come [] items v [] s.volumes (subst (MayCome [] v) (sym (append-nil (in_pools (λ (i : MovedCopy). i.pool) (λ i. i.segments) items))) m) in
    subst (λ (p : List (ℕ × Segment)). IsSteady n p (each put_moved items v)) (append-nil new)
    (record { versions = versions_kept n v (each put_moved items v) k s.versions; volumes = came.facts; cite = cite_kept v (each put_moved items v) k ∙ s.cite })

-- what else lies on volumes of its pool does so still
pub move_cited : (item : MovedCopy) (v : Inv) (e : ℕ × CopyRow) → is_cited (move_copy item v) e ≡ is_cited v e
move_cited item v e = cited_kept (change_copy item.object (moved item v) v) (move_copy item v) (moves_kept item v) e

-- ---- scratch volumes

pub scratch_steady : (n : ℕ) (scratch : List ScratchVolume) (v : Inv) → scratch_refused scratch v ≡ [] → scratch_fits v scratch ≡ true → IsSteady n [] v → IsSteady n [] (each make_scratch scratch v)
scratch_steady n scratch v h fit s =
    let came = scratch_come scratch v s.volumes s.cite h fit in
    record { versions = facts_only n v (each make_scratch scratch v) (all_scratch_only scratch v) s.versions; volumes = came.0; cite = came.1 }
