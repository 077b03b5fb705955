-- What isn't refused of a transaction that brings one object.
use Rattle.std.proofs.Common.{◌≡◌, ℕ, ◌≤◌, eqb, Bool, true, false, not, ◌&&◌, List, [], ◌∷◌, ◌++◌, map, is_some, nat_le, Option, Some, None, refl, ap, subst, ◌∙◌}
use Rattle.std.specs.List.{AllByRecursion, list_all, sum_by}
use Rattle.std.specs.Map.{keys_of}
use Rattle.std.proofs.lemmas.Bool.{and_parts, not-true}
use Rattle.std.proofs.lemmas.List.{append-nil}
use Rattle.kinds.specs.declared.segment.Segment.{Segment}
use Rattle.inventory_laws.specs.entries.change_items.declared.items.NewHeldObject.{NewHeldObject}
use Rattle.inventory_laws.specs.entries.change_items.declared.items.NewVersion.{NewVersion}
use Rattle.inventory_laws.specs.entries.change_items.declared.items.ScratchVolume.{ScratchVolume}
use Rattle.inventory_laws.specs.entries.change_items.declared.lists.NewHeldObjects.{NewHeldObjects}
use Rattle.inventory_laws.specs.entries.change_items.declared.lists.NewVersions.{NewVersions}
use Rattle.inventory_laws.specs.entries.declared.change.Change.{Change}
use Rattle.inventory_laws.specs.entries.declared.change.Change.TheVariants as change
use Rattle.inventory_laws.specs.inventory_rows.version_groups.Versions.{has_object}
use Rattle.inventory_laws.specs.inventory_rows.volume_rows.declared.volume.Volume.{Volume}
use Rattle.inventory_laws.specs.inventory_rows.pool_rows.PoolRows.{is_sequential}
use Rattle.inventory_laws.specs.inventory_rows.pool_tables.Rows.{row_at}
use Rattle.inventory_laws.specs.inventory_rows.Search.{pool, segments_on, versions}
use Rattle.inventory_laws.specs.inventory_rows.State.{Inv}
use Rattle.inventory_laws.specs.inventory_rules.Valid.{is_valid, lie_in}
use Rattle.inventory_laws.proofs.Facts.{facts_of, first, rest}
use Rattle.inventory_laws.specs.inventory_rules.Segments.{are_all_clear, are_clear, copy_fits, lies_rightly, scratch_refused, segment_fits}
use Rattle.inventory_laws.specs.inventory_rules.Journal.{Journal}
use Rattle.inventory_laws.specs.inventory_rules.Transactions.{causes, parts_fit}
use Rattle.inventory_laws.specs.inventory_rules.Versions.{is_new_object, new_refused, object_refused, objects_refused}
use Rattle.kinds.specs.Refusals.{bad_value, unless}
use Rattle.inventory_laws.proofs.Tests.{both_none, unless_holds}
use Rattle.contents.proofs.Segments.{all_weaker, drawn_row, each_passes, front_lies}

-- the change that brings one version of a filespace
abbrev pub one_version : ℕ → NewVersion → Change
one_version filespace item = change.Backup (record { filespace = filespace; scratch = []; items = item ∷ [] })

pub is_one : (c : NewVersions) (item : NewVersion) → c.scratch ≡ [] → c.items ≡ item ∷ [] → change.Backup c ≡ one_version c.filespace item
is_one c item none one = ap (λ s. change.Backup (record { filespace = c.filespace; scratch = s; items = c.items })) none ∙ ap (λ l. change.Backup (record { filespace = c.filespace; scratch = []; items = l })) one

-- the change that brings one archived object of a filespace
abbrev pub one_held : ℕ → NewHeldObject → Change
one_held filespace item = change.Hold (record { filespace = filespace; scratch = []; items = item ∷ [] })

pub is_one_held : (c : NewHeldObjects) (item : NewHeldObject) → c.scratch ≡ [] → c.items ≡ item ∷ [] → change.Hold c ≡ one_held c.filespace item
is_one_held c item none one = ap (λ s. change.Hold (record { filespace = c.filespace; scratch = s; items = c.items })) none ∙ ap (λ l. change.Hold (record { filespace = c.filespace; scratch = []; items = l })) one

-- the segments of a copy in the pool lie where nothing else does, and they don't overlap one another
pub record Fits (number : ℕ) (segments : List Segment) (v : Inv) : Type 0 where
  pub each : list_all (segment_fits v number) segments ≡ true
  pub apart : are_all_clear v segments ≡ true

-- so it is of one copy
fits_of : (number size : ℕ) (segments : List Segment) (v : Inv) → ((copy_fits v number size segments && true) && are_all_clear v (segments ++ [])) ≡ true → Fits number segments v
fits_of number size segments v h =
    let whole : copy_fits v number size segments ≡ true = first (copy_fits v number size segments) true (first (copy_fits v number size segments && true) (are_all_clear v (segments ++ [])) h) in
    let full : (eqb (sum_by (λ s. s.len) segments) size && list_all (segment_fits v number) segments) ≡ true = rest (is_some (pool number v)) (eqb (sum_by (λ s. s.len) segments) size && list_all (segment_fits v number) segments) whole in
    record {
      each = rest (eqb (sum_by (λ s. s.len) segments) size) (list_all (segment_fits v number) segments) full;
      apart = subst (λ (l : List Segment). are_all_clear v l ≡ true) (append-nil segments) (rest (copy_fits v number size segments && true) (are_all_clear v (segments ++ [])) h);
    }

version_fits : (filespace : ℕ) (item : NewVersion) (v : Inv) → parts_fit (one_version filespace item) v ≡ true → Fits item.pool item.segments v
unfolding parts_fit
version_fits filespace item v h = fits_of item.pool item.size item.segments v h

held_fits : (filespace : ℕ) (item : NewHeldObject) (v : Inv) → parts_fit (one_held filespace item) v ≡ true → Fits item.pool item.segments v
unfolding parts_fit
held_fits filespace item v h = fits_of item.pool item.size item.segments v h

pub one_fits : (c : NewVersions) (item : NewVersion) (v : Inv) → parts_fit (change.Backup c) v ≡ true → c.scratch ≡ [] → c.items ≡ item ∷ [] → Fits item.pool item.segments v
one_fits c item v fit none one = version_fits c.filespace item v (subst (λ (x : Change). parts_fit x v ≡ true) (is_one c item none one) fit)

pub one_held_fits : (c : NewHeldObjects) (item : NewHeldObject) (v : Inv) → parts_fit (change.Hold c) v ≡ true → c.scratch ≡ [] → c.items ≡ item ∷ [] → Fits item.pool item.segments v
one_held_fits c item v fit none one = held_fits c.filespace item v (subst (λ (x : Change). parts_fit x v ≡ true) (is_one_held c item none one) fit)

-- no cause refuses it, so its object is new
new_of : (filespace object : ℕ) (scratch : List ScratchVolume) (v : Inv) → new_refused filespace (object ∷ []) v ++ (scratch_refused scratch v ++ objects_refused (object ∷ []) v) ≡ [] → has_object object (versions v) ≡ false
new_of filespace object scratch v h =
    let drawn = both_none (scratch_refused scratch v) (objects_refused (object ∷ []) v) (both_none (new_refused filespace (object ∷ []) v) (scratch_refused scratch v ++ objects_refused (object ∷ []) v) h).1 in
    let new = both_none (unless (is_new_object v object) bad_value) _ (both_none (object_refused v object) [] drawn.1).0 in
    not-true (has_object object (versions v)) (and_parts (nat_le 1 object) (not (has_object object (versions v))) (unless_holds (is_new_object v object) bad_value new.0)).1

pub one_new : (j : Journal) (c : NewVersions) (item : NewVersion) (v : Inv) → causes j (change.Backup c) v ≡ [] → c.items ≡ item ∷ [] → has_object item.object (versions v) ≡ false
one_new j c item v h one =
    new_of c.filespace item.object c.scratch v
    (subst (λ (l : List NewVersion). new_refused c.filespace (map (λ (i : NewVersion). i.object) l) v ++ (scratch_refused c.scratch v ++ objects_refused (map (λ (i : NewVersion). i.object) l) v) ≡ []) one h)

pub one_held_new : (j : Journal) (c : NewHeldObjects) (item : NewHeldObject) (v : Inv) → causes j (change.Hold c) v ≡ [] → c.items ≡ item ∷ [] → has_object item.object (versions v) ≡ false
one_held_new j c item v h one =
    new_of c.filespace item.object c.scratch v
    (subst (λ (l : List NewHeldObject). new_refused c.filespace (map (λ (i : NewHeldObject). i.object) l) v ++ (scratch_refused c.scratch v ++ objects_refused (map (λ (i : NewHeldObject). i.object) l) v) ≡ []) one h)

-- what each segment passes by lying rightly
lies_from : (q : Bool) (number bound : ℕ) (s : Segment) (volumes : List (ℕ × Volume)) (o : Option Volume) → lie_in 4 bound (keys_of volumes) ≡ true → row_at s.file volumes ≡ o → lies_rightly q number s o ≡ true → 4 ≤ s.file
lies_from q number bound s volumes None drawn there h = absurd cc
lies_from q number bound s volumes (Some volume) drawn there h = drawn_row 4 bound s.file volume volumes drawn there

pub from_four : (number : ℕ) (segments : List Segment) (v : Inv) → is_valid v ≡ true → Fits number segments v → AllByRecursion (λ (s : Segment). 4 ≤ s.file) segments
from_four number segments v valid f =
    let q : Bool = is_sequential number v.stores in
    let drawn = front_lies 4 v.next_file (keys_of v.stores.volumes) (keys_of v.backups) (facts_of v valid).files_drawn in
    all_weaker (λ (s : Segment). segment_fits v number s ≡ true) (λ (s : Segment). 4 ≤ s.file)
    (λ s h. lies_from q number v.next_file s v.stores.volumes (row_at s.file v.stores.volumes) drawn refl (first (lies_rightly q number s (row_at s.file v.stores.volumes)) (list_all (λ e. are_clear q s e.1) (segments_on s.file v)) h))
    segments (each_passes (segment_fits v number) segments f.each)

pub all_clear : (number : ℕ) (segments : List Segment) (v : Inv) → Fits number segments v → AllByRecursion (λ (s : Segment). list_all (λ e. are_clear (is_sequential number v.stores) s e.1) (segments_on s.file v) ≡ true) segments
all_clear number segments v f =
    let q : Bool = is_sequential number v.stores in
    all_weaker (λ (s : Segment). segment_fits v number s ≡ true) (λ (s : Segment). list_all (λ e. are_clear q s e.1) (segments_on s.file v) ≡ true)
    (λ s h. rest (lies_rightly q number s (row_at s.file v.stores.volumes)) (list_all (λ e. are_clear q s e.1) (segments_on s.file v)) h)
    segments (each_passes (segment_fits v number) segments f.each)
