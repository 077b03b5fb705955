-- A transaction on data, each of whose items finds what it names: what holds within it is kept by each step, one after the other.
use Rattle.std.proofs.Common.{◌≡◌, ℕ, ◌+◌, true, List, [], ◌∷◌, ◌++◌, Result, refl, ◌∙◌}
use Rattle.std.specs.List.{list_all, flat_map}
use Rattle.std.proofs.lemmas.Bool.{and_parts}
use Rattle.kinds.specs.declared.refusal.Refusal.{Refusal}
use Rattle.kinds.specs.declared.segment.Segment.{Segment}
use Rattle.inventory_rules.specs.entries.change_items.declared.items.MovedCopy.{MovedCopy}
use Rattle.inventory_rules.specs.inventory_rows.version_groups.declared.group.GroupChange.{GroupChange}
use Rattle.inventory_rules.specs.inventory_rows.object_rows.Rows.{Rows}
use Rattle.inventory_rules.specs.inventory_rows.State.{Inv}
use Rattle.inventory_rules.specs.Common.{each}
use Rattle.inventory_rules.specs.Copies.{move_copy, moved_copy_fits, put_moved}
use Rattle.inventory_rules.specs.Segments.{are_all_clear, items_fit}
use Rattle.inventory_rules.specs.Versions.{change_group, take_versions}
use Rattle.inventory_rules.specs.Held.{IsTied}
use Rattle.inventory_rules.specs.Facts.{Facts}
use Rattle.inventory_laws.specs.Chains.{EachCan, Moves, Removes, Rewrites}
use Rattle.inventory_laws.specs.Coming.{in_pool, in_pools, MayCome}
use Rattle.inventory_laws.specs.Kept.{clients_after}
use Rattle.inventory_laws.specs.Steady.{IsSteady}
use Rattle.inventory_laws.proofs.Assembled.{steady_begins}
use Rattle.inventory_laws.proofs.Cited.{cite_swapped, cited_kept}
use Rattle.inventory_laws.proofs.Moves as moves
use Rattle.inventory_laws.proofs.Steady.{move_cited, move_steady, remove_steady}
use Rattle.inventory_laws.proofs.Swapping.{facts_swapped}
use Rattle.inventory_laws.proofs.Tests.{before_next}
use Rattle.inventory_laws.proofs.VolumeItems.{moved_kept}
use Rattle.inventory_laws.proofs.VolumeRows.{all_same, all_so}

-- ---- one after the other

pub each_steady : {X : Type 0} (n : ℕ) (Can : X → Inv → Type 0) (step : X → Inv → Inv) → ((i : X) (v : Inv) → Can i v → IsSteady n [] v → IsSteady n [] (step i v))
    → (items : List X) (v : Inv) → EachCan Can step items v → IsSteady n [] v → IsSteady n [] (each step items v)
each_steady n Can step keeps [] v c s = s
each_steady n Can step keeps (i ∷ items) v c s = each_steady n Can step keeps items (step i v) c.1 (keeps i v c.0 s)

-- where each brings segments
pub each_comes : {X : Type 0} (n : ℕ) (number : X → ℕ) (segments : X → List Segment) (Can : X → Inv → Type 0) (step : X → Inv → Inv)
    → ((i : X) (v : Inv) (rest : List (ℕ × Segment)) → Can i v → MayCome [] v (in_pool (number i) (segments i) ++ rest) → IsSteady n [] v → IsSteady n [] (step i v) × MayCome [] (step i v) rest)
    → (items : List X) (v : Inv) → EachCan Can step items v → MayCome [] v (in_pools number segments items) → IsSteady n [] v → IsSteady n [] (each step items v)
each_comes n number segments Can step comes [] v c m s = s
each_comes n number segments Can step comes (i ∷ items) v c m s =
    let one = comes i v (in_pools number segments items) c.0 m s in
    each_comes n number segments Can step comes items (step i v) c.1 one.1 one.0

-- ---- a valid database

pub start : (v : Inv) → Facts v → IsTied v → IsSteady (v.number + 1) [] v
start v f t = steady_begins (v.number + 1) v f t (before_next v.number)

-- ---- an object goes

pub remove_one : (n : ℕ) (step : Rows → Result Rows Refusal) (object : ℕ) (v : Inv) → Removes n step object v → IsSteady n [] v → IsSteady n [] (clients_after step (take_versions object v))
remove_one n step object v d s = remove_steady n [] step object v d.old d.found d.facts d.order s.volumes s.cite

-- ---- no copy comes or goes

pub rewrite_one : (n filespace : ℕ) (path : List ℕ) (step : GroupChange) (v : Inv) → Rewrites n v (change_group filespace path step v) → IsSteady n [] v → IsSteady n [] (change_group filespace path step v)
rewrite_one n filespace path step v r s = record {
  versions = r.facts;
  volumes = facts_swapped [] [] [] v (change_group filespace path step v) refl refl refl refl r.order s.volumes;
  cite = (cite_swapped [] [] v (change_group filespace path step v) refl r.order refl s.cite).1;
}

-- ---- copies move, whose new segments have come

pub each_moves : (n : ℕ) (items : List MovedCopy) (v : Inv) → EachCan (Moves n) move_copy items v → list_all (moves.lies v) items ≡ true → IsSteady n (moves.new_segments items) v → IsSteady n [] (each move_copy items v)
each_moves n [] v c lie s = s
each_moves n (i ∷ items) v c lie s =
    let m : Moves n i v = c.0 in
    let parts = and_parts (moves.lies v i) (list_all (moves.lies v) items) lie in
    each_moves n items (move_copy i v) c.1 (all_same (moves.lies (move_copy i v)) (moves.lies v) (λ k. move_cited i v (moves.row_of v k)) items ∙ parts.1)
    (move_steady n (moves.new_segments items) i v m.old m.copy m.found m.there parts.0 m.facts m.order s.volumes s.cite)

pub they_lie : (items : List MovedCopy) (v : Inv) → items_fit (moved_copy_fits []) (λ i. i.segments) items v ≡ true → list_all (moves.lies (each put_moved items v)) items ≡ true
they_lie items v fit =
    all_so (moved_copy_fits [] v) (moves.lies (each put_moved items v)) (λ i h. cited_kept v (each put_moved items v) (moved_kept items v) (moves.row_of v i) ∙ moves.new_lies [] v i h) items
    (and_parts (list_all (moved_copy_fits [] v) items) (are_all_clear v (flat_map (λ (i : MovedCopy). i.segments) items)) fit).0
