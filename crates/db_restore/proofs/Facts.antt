-- What a valid database says of its volumes, copies and versions, as a restore needs it.
use Rattle.std.proofs.Common.{◌≡◌, ℕ, ◌≤◌, Bool, true, false, ◌&&◌, cond, is_some, List, [], ◌∷◌, ◌++◌, length, map, Option, Some, None, refl, sym, ap, subst, ◌∙◌, arith}
use Rattle.std.specs.Prelude.{nat_le, nat_lt, not}
use Rattle.std.specs.BTreeMap.{is_at}
use Rattle.std.specs.List.{AllByRecursion, list_all, flat_map, sum_by}
use Rattle.std.specs.Map.{keys_of}
use Rattle.std.specs.Ordering.{nat_cmp}
use Rattle.std.specs.Prelude.{◌==◌}
use Rattle.std.proofs.lemmas.Bool.{and_parts, eqb-true, leb-true}
use Rattle.std.proofs.lemmas.Bool.Decides.{nat_tests}
use Rattle.kinds.specs.declared.segment.Segment.{Segment}
use Rattle.inventory_rows.specs.pool_tables.Rows.{row_at}
use Rattle.inventory_rows.specs.volume_rows.declared.volume.Volume.{Volume}
use Rattle.inventory_rows.specs.version_groups.declared.copies.CopyRow.{CopyRow}
use Rattle.inventory_rows.specs.version_groups.declared.versions.Version.{Version}
use Rattle.inventory_rows.specs.version_groups.Copies.{are_by_pool}
use Rattle.inventory_rows.specs.version_groups.Entries.{is_nil}
use Rattle.inventory_rows.specs.version_groups.Versions.{are_distinct}
use Rattle.inventory_rows.specs.Search.{copies, pool, versions}
use Rattle.inventory_rows.specs.State.{Inv}
use Rattle.inventory_rules.specs.Facts.{Facts}
use Rattle.inventory_rules.specs.Valid.{is_copied, is_of_pool, is_valid, primary_copies}
use Rattle.inventory_laws.proofs.Facts.{facts_of}
use Rattle.inventory_laws.proofs.Lists.{all_also}
use Rattle.inventory_laws.proofs.VolumeRows.{list_all-parts}
use Rattle.db_restore.specs.Settling.{has_volume}

same_number : (x y : ℕ) → is_at (nat_cmp x) y ≡ (x == y)
same_number x y = grind (arith, nat_tests)

pub possible : (v : Inv) → is_valid v ≡ true → list_all (λ file. nat_le 4 file) (keys_of v.stores.volumes) ≡ true
possible v valid =
    let f : Facts v = facts_of v valid in
    all_also (λ n. nat_le 4 n && nat_lt n v.next_file) (λ n. nat_le 4 n) (keys_of v.stores.volumes) (λ n h. (and_parts (nat_le 4 n) (nat_lt n v.next_file) h).0)
    (list_all-parts (λ n. nat_le 4 n && nat_lt n v.next_file) (keys_of v.stores.volumes) (keys_of v.backups) f.files_drawn).0

-- a file that a volume has is from 4 on
at_least : (file : ℕ) (rows : List (ℕ × Volume)) → list_all (λ n. nat_le 4 n) (keys_of rows) ≡ true → has_volume file rows ≡ true → 4 ≤ file
at_least file [] h there = absurd (cc)
at_least file (e ∷ rows) h there =
    let parts = and_parts (nat_le 4 e.0) (list_all (λ n. nat_le 4 n) (keys_of rows)) h in
    go (leb-true 4 e.0 parts.0) (at_least file rows parts.1) (is_at (nat_cmp file) e.0) refl there
  where
    go : 4 ≤ e.0 → (has_volume file rows ≡ true → 4 ≤ file) → (b : Bool) → is_at (nat_cmp file) e.0 ≡ b → is_some (cond b (Some e.1) (row_at file rows)) ≡ true → 4 ≤ file
    go low rest true here some = (let same : file ≡ e.0 = eqb-true file e.0 (sym (same_number file e.0) ∙ here) in omega (arith, same, low))
    go low rest false apart some = rest some

of_pool_there : (number : ℕ) (volume : Option Volume) → is_of_pool number volume ≡ true → is_some volume ≡ true
of_pool_there number None h = absurd (cc)
of_pool_there number (Some volume) h = refl

-- each segment of each copy of some versions lies on a volume that is there
abbrev IsThere : List (ℕ × Volume) → Segment → Type 0
IsThere volumes s = (4 ≤ s.file) × (has_volume s.file volumes ≡ true)

segments_there : (volumes : List (ℕ × Volume)) (number : ℕ) (segments : List Segment) → list_all (λ n. nat_le 4 n) (keys_of volumes) ≡ true → list_all (λ s. is_of_pool number (row_at s.file volumes)) segments ≡ true → AllByRecursion (IsThere volumes) segments
segments_there volumes number [] low h = tt
segments_there volumes number (s ∷ segments) low h =
    let parts = and_parts (is_of_pool number (row_at s.file volumes)) (list_all (λ x. is_of_pool number (row_at x.file volumes)) segments) h in
    let there = of_pool_there number (row_at s.file volumes) parts.0 in
    ((at_least s.file volumes low there, there), segments_there volumes number segments low parts.1)

module _ (v : Inv) (low : list_all (λ n. nat_le 4 n) (keys_of v.stores.volumes) ≡ true) where
  abbrev cites : ℕ × CopyRow → Bool
  cites e = is_some (pool e.1.pool v) && list_all (λ s. is_of_pool e.1.pool (row_at s.file v.stores.volumes)) e.1.segments

  copies_there : (object : ℕ) (cs : List CopyRow) → list_all cites (map (λ c. (object, c)) cs) ≡ true → AllByRecursion (λ c. AllByRecursion (IsThere v.stores.volumes) c.segments) cs
  copies_there object [] h = tt
  copies_there object (c ∷ cs) h =
      let parts = and_parts (cites (object, c)) (list_all cites (map (λ (d : CopyRow). (object, d)) cs)) h in
      let here = and_parts (is_some (pool c.pool v)) (list_all (λ s. is_of_pool c.pool (row_at s.file v.stores.volumes)) c.segments) parts.0 in
      (segments_there v.stores.volumes c.pool c.segments low here.1, copies_there object cs parts.1)

  versions_there : (ws : List Version) → list_all cites (flat_map (λ (w : Version). map (λ (c : CopyRow). (w.object, c)) w.copies) ws) ≡ true → AllByRecursion (λ w. AllByRecursion (λ c. AllByRecursion (IsThere v.stores.volumes) c.segments) w.copies) ws
  versions_there [] h = tt
  versions_there (w ∷ ws) h =
      let parts = list_all-parts cites (map (λ (c : CopyRow). (w.object, c)) w.copies) (flat_map (λ (u : Version). map (λ (c : CopyRow). (u.object, c)) u.copies) ws) h in
      (copies_there w.object w.copies parts.0, versions_there ws parts.1)

pub all_there : (v : Inv) → is_valid v ≡ true → AllByRecursion (λ w. AllByRecursion (λ c. AllByRecursion (λ s. (4 ≤ s.file) × (has_volume s.file v.stores.volumes ≡ true)) c.segments) w.copies) (versions v)
all_there v valid = versions_there v (possible v valid) (versions v) (let f : Facts v = facts_of v valid in f.copies_cite)

pub by_pools : (v : Inv) → is_valid v ≡ true → list_all (λ w. are_by_pool w.copies) (versions v) ≡ true
by_pools v valid =
    let f : Facts v = facts_of v valid in
    all_also (is_copied v) (λ w. are_by_pool w.copies) (versions v) (λ w h.
    let a = and_parts (not (is_nil w.copies)) (nat_le (length (primary_copies v w)) 1 && (are_by_pool w.copies && list_all (λ (c : CopyRow). sum_by (λ (s : Segment). s.len) c.segments == w.size) w.copies)) h in
    let b = and_parts (nat_le (length (primary_copies v w)) 1) (are_by_pool w.copies && list_all (λ (c : CopyRow). sum_by (λ (s : Segment). s.len) c.segments == w.size) w.copies) a.1 in
    (and_parts (are_by_pool w.copies) (list_all (λ (c : CopyRow). sum_by (λ (s : Segment). s.len) c.segments == w.size) w.copies) b.1).0)
    f.versions_copied

pub apart : (v : Inv) → is_valid v ≡ true → are_distinct (versions v) ≡ true
apart v valid = (let f : Facts v = facts_of v valid in f.objects_apart)
