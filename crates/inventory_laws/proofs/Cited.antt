-- Copies whose segments lie on volumes of their pools, as volumes change, and copies come and go.
use Rattle.std.proofs.Common.{◌≡◌, ℕ, ◌+◌, ◌%◌, Bool, true, false, ◌&&◌, ◌||◌, List, [], ◌∷◌, ◌++◌, Option, Some, None, is_some, refl, sym, ap, subst, ◌∙◌}
use Rattle.std.specs.Prelude.{◌==◌, nat_le}
use Rattle.std.specs.List.{list_all}
use Rattle.std.proofs.lemmas.Bool.{and_parts, and_from}
use Rattle.kinds.specs.declared.segment.Segment.{Segment}
use Rattle.inventory_rules.specs.inventory_rows.version_groups.declared.copies.CopyRow.{CopyRow}
use Rattle.inventory_rules.specs.inventory_rows.volume_rows.declared.volume.Volume.{Volume}
use Rattle.inventory_rules.specs.inventory_rows.pool_tables.Rows.{row_at}
use Rattle.inventory_rules.specs.inventory_rows.pool_rows.PoolRows.{PoolRows, is_sequential_at}
use Rattle.inventory_rules.specs.inventory_rows.Search.{copies, pool}
use Rattle.inventory_rules.specs.inventory_rows.State.{Inv}
use Rattle.inventory_rules.specs.Valid.{copies_cite, is_of_pool}
use Rattle.inventory_rules.specs.Segments.{lies_rightly}
use Rattle.inventory_rules.specs.Reordered.{IsReordered}
use Rattle.inventory_laws.specs.Kept.{is_cited, OnlyVolumes, shape_of}
use Rattle.inventory_laws.proofs.Orders.{list_all-reordered}
use Rattle.inventory_laws.proofs.VolumeRows.{all_same, all_so, list_all-parts}

-- ---- volumes change

of_pool_by : ℕ → Option (ℕ × ℕ) → Bool
of_pool_by n o = elim o as (λ p. Bool) [ None ↦ false | Some t ↦ t.0 == n ]

of_pool_is : (n : ℕ) (o : Option Volume) → is_of_pool n o ≡ of_pool_by n (shape_of o)
unfolding of_pool_by
of_pool_is n None = refl
of_pool_is n (Some w) = refl

pub cited_kept : (v w : Inv) → OnlyVolumes v w → (e : ℕ × CopyRow) → is_cited w e ≡ is_cited v e
cited_kept v w k e =
    ap (λ (x : Inv). is_some (pool e.1.pool x) && list_all (λ s. is_of_pool e.1.pool (row_at s.file w.stores.volumes)) e.1.segments) k.only
    ∙ ap (λ b. is_some (pool e.1.pool v) && b)
    (all_same (λ s. is_of_pool e.1.pool (row_at s.file w.stores.volumes)) (λ s. is_of_pool e.1.pool (row_at s.file v.stores.volumes))
    (λ s. of_pool_is e.1.pool (row_at s.file w.stores.volumes) ∙ ap (of_pool_by e.1.pool) (k.shapes s.file) ∙ sym (of_pool_is e.1.pool (row_at s.file v.stores.volumes))) e.1.segments)

pub cite_kept : (v w : Inv) → OnlyVolumes v w → copies_cite w ≡ copies_cite v
cite_kept v w k = all_same (is_cited w) (is_cited v) (cited_kept v w k) (copies w) ∙ ap (λ (x : Inv). list_all (is_cited v) (copies x)) k.only

-- ---- copies come and go

-- the pools and volumes are as they were
pub cite_swapped : (a b : List (ℕ × CopyRow)) (v w : Inv) → w.stores ≡ v.stores → IsReordered (a ++ copies v) (b ++ copies w) → list_all (is_cited v) a ≡ true → copies_cite v ≡ true → (list_all (is_cited w) b ≡ true) × (copies_cite w ≡ true)
cite_swapped a b v w same r new old =
    let whole : list_all (is_cited v) (a ++ copies v) ≡ true = both a new in
    list_all-parts (is_cited w) b (copies w)
    (subst (λ (t : PoolRows). list_all (λ (e : ℕ × CopyRow). is_some (row_at e.1.pool t.pools) && list_all (λ s. is_of_pool e.1.pool (row_at s.file t.volumes)) e.1.segments) (b ++ copies w) ≡ true) (sym same)
    (sym (list_all-reordered (is_cited v) (a ++ copies v) (b ++ copies w) r) ∙ whole))
  where
    both : (l : List (ℕ × CopyRow)) → list_all (is_cited v) l ≡ true → list_all (is_cited v) (l ++ copies v) ≡ true
    both [] h = old
    both (e ∷ l) h =
        let parts = and_parts (is_cited v e) (list_all (is_cited v) l) h in
        and_from (is_cited v e) (list_all (is_cited v) (l ++ copies v)) parts.0 (both l parts.1)

lies_of_pool : (b : Bool) (n : ℕ) (s : Segment) (o : Option Volume) → lies_rightly b n s o ≡ true → is_of_pool n o ≡ true
lies_of_pool b n s None h = h
lies_of_pool b n s (Some w) h = (and_parts (w.pool == n) (nat_le (s.offset + 32 + s.len) w.capacity && (b || s.offset % 4096 == 0)) h).0

-- a copy whose segments lie rightly
pub cited_new : (v : Inv) (object : ℕ) (row : CopyRow) → is_some (pool row.pool v) ≡ true → list_all (λ s. lies_rightly (is_sequential_at s.file v.stores) row.pool s (row_at s.file v.stores.volumes)) row.segments ≡ true → is_cited v (object, row) ≡ true
cited_new v object row there lie =
    and_from (is_some (pool row.pool v)) (list_all (λ s. is_of_pool row.pool (row_at s.file v.stores.volumes)) row.segments) there
    (all_so (λ s. lies_rightly (is_sequential_at s.file v.stores) row.pool s (row_at s.file v.stores.volumes)) (λ s. is_of_pool row.pool (row_at s.file v.stores.volumes))
    (λ s h. lies_of_pool (is_sequential_at s.file v.stores) row.pool s (row_at s.file v.stores.volumes) h) row.segments lie)
