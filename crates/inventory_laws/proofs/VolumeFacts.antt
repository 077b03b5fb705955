-- The facts of the volumes as facts of the table and facts of each row.
use Rattle.std.proofs.Common.{◌≡◌, ℕ, ◌-◌, ◌^◌, Bool, true, false, ◌&&◌, List, [], ◌∷◌, ◌++◌, map, Option, Some, None, is_some, refl, sym, subst, ◌∙◌}
use Rattle.std.specs.Prelude.{nat_le}
use Rattle.std.specs.List.{list_all, AllByRecursion}
use Rattle.std.specs.Map.{keys_of}
use Rattle.std.specs.Option.{option_map_or}
use Rattle.std.proofs.lemmas.Bool.{and_parts, and_from}
use Rattle.kinds.specs.declared.segment.Segment.{Segment}
use Rattle.inventory_rules.specs.inventory_rows.volume_rows.declared.volume.Volume.{Volume}
use Rattle.inventory_rules.specs.inventory_rows.pool_tables.declared.pool.Pool.{Pool}
use Rattle.inventory_rules.specs.inventory_rows.pool_tables.Rows.{row_at}
use Rattle.inventory_rules.specs.inventory_rows.pool_rows.PoolRows.{PoolRows, is_sequential, pool_capacity, pool_class_capacity}
use Rattle.inventory_rules.specs.inventory_rows.Search.{is_primary_kind, pool}
use Rattle.inventory_rules.specs.inventory_rows.State.{Inv}
use Rattle.inventory_rules.specs.Held.{holding}
use Rattle.inventory_rules.specs.Valid.{are_apart, are_disjoint, is_emptied_rightly, is_named_soundly, is_placed, is_sized, lie_in, may_have, names_apart}
use Rattle.inventory_rules.specs.Halfway.{is_volume_with, lying, VolumeFacts}
use Rattle.inventory_rules.specs.Reordered.{IsReordered}
use Rattle.inventory_laws.proofs.Holding.{holding-reordered}
use Rattle.inventory_laws.proofs.VolumeRows.{each_of_all, all_of_each, each_so}
use Rattle.inventory_laws.proofs.Volume.{sized, Fits, fits_reordered}

-- the device classes and pools alone
abbrev pub without_volumes : PoolRows → PoolRows
without_volumes s = record s { volumes = [] }

abbrev pub primary_at : ℕ → PoolRows → Bool
primary_at number s = option_map_or (λ p. is_primary_kind p.kind) (row_at number s.pools) false

-- what is asked of each row
pub record IsRow (s : PoolRows) (today : ℕ) (there : List (ℕ × Segment)) (f : ℕ × Volume) : Type 0 where
  pub cite : is_some (row_at f.1.pool s.pools) ≡ true
  pub soundly : is_named_soundly f ≡ true
  pub by_today : option_map_or (λ day. nat_le day today) f.1.emptied true ≡ true
  pub fits : Fits (is_sequential f.1.pool s) (pool_capacity f.1.pool s) (primary_at f.1.pool s) there f.1
  pub tied : f.1.segments ≡ holding there

pub record IsTable (next : ℕ) (files : List ℕ) (names : List (List ℕ)) : Type 0 where
  pub drawn : lie_in 4 next files ≡ true
  pub bounded : lie_in 4 (2 ^ 32 - 1) (next ∷ []) ≡ true
  pub apart : are_apart files ≡ true
  pub named : names_apart names ≡ true

-- ---- one row

pub capacity_kept : (n : ℕ) (rows : List (ℕ × Volume)) (s : PoolRows) → pool_capacity n (record s { volumes = rows }) ≡ pool_capacity n s
capacity_kept n rows s = go (row_at n s.pools) where
  go : (o : Option Pool) → pool_class_capacity (record s { volumes = rows }) o ≡ pool_class_capacity s o
  go None = refl
  go (Some p) = refl

sized_is : (b : Bool) (v : Inv) (volume : Volume) → is_sized b v volume ≡ sized b (pool_capacity volume.pool v.stores) volume
sized_is true v volume = refl
sized_is false v volume = refl

pub fits_of : (v : Inv) (there : List (ℕ × Segment)) (f : ℕ × Volume) → is_volume_with v there f ≡ true → Fits (is_sequential f.1.pool v.stores) (pool_capacity f.1.pool v.stores) (primary_at f.1.pool v.stores) there f.1
fits_of v there f h = go (is_sequential f.1.pool v.stores) (sized_is (is_sequential f.1.pool v.stores) v f.1) h where
  go : (b : Bool) → is_sized b v f.1 ≡ sized b (pool_capacity f.1.pool v.stores) f.1
      → (is_sized b v f.1 && (may_have f.1.access (primary_at f.1.pool v.stores) && (are_disjoint b there && (list_all (λ e. is_placed b f.1 e.1) there && is_emptied_rightly b f.1 there)))) ≡ true
      → Fits b (pool_capacity f.1.pool v.stores) (primary_at f.1.pool v.stores) there f.1
  go b is t =
      let one = and_parts (is_sized b v f.1) (may_have f.1.access (primary_at f.1.pool v.stores) && (are_disjoint b there && (list_all (λ e. is_placed b f.1 e.1) there && is_emptied_rightly b f.1 there))) t in
      let two = and_parts (may_have f.1.access (primary_at f.1.pool v.stores)) (are_disjoint b there && (list_all (λ e. is_placed b f.1 e.1) there && is_emptied_rightly b f.1 there)) one.1 in
      let three = and_parts (are_disjoint b there) (list_all (λ e. is_placed b f.1 e.1) there && is_emptied_rightly b f.1 there) two.1 in
      let four = and_parts (list_all (λ e. is_placed b f.1 e.1) there) (is_emptied_rightly b f.1 there) three.1 in
      record { sized = sym is ∙ one.0; access = two.0; disjoint = three.0; placed = four.0; emptied = four.1 }

pub of_fits : (v : Inv) (there : List (ℕ × Segment)) (f : ℕ × Volume) → Fits (is_sequential f.1.pool v.stores) (pool_capacity f.1.pool v.stores) (primary_at f.1.pool v.stores) there f.1 → is_volume_with v there f ≡ true
of_fits v there f h = go (is_sequential f.1.pool v.stores) (sized_is (is_sequential f.1.pool v.stores) v f.1) h where
  go : (b : Bool) → is_sized b v f.1 ≡ sized b (pool_capacity f.1.pool v.stores) f.1 → Fits b (pool_capacity f.1.pool v.stores) (primary_at f.1.pool v.stores) there f.1
      → (is_sized b v f.1 && (may_have f.1.access (primary_at f.1.pool v.stores) && (are_disjoint b there && (list_all (λ e. is_placed b f.1 e.1) there && is_emptied_rightly b f.1 there)))) ≡ true
  go b is t =
      and_from (is_sized b v f.1) (may_have f.1.access (primary_at f.1.pool v.stores) && (are_disjoint b there && (list_all (λ e. is_placed b f.1 e.1) there && is_emptied_rightly b f.1 there))) (is ∙ t.sized)
      (and_from (may_have f.1.access (primary_at f.1.pool v.stores)) (are_disjoint b there && (list_all (λ e. is_placed b f.1 e.1) there && is_emptied_rightly b f.1 there)) t.access
      (and_from (are_disjoint b there) (list_all (λ e. is_placed b f.1 e.1) there && is_emptied_rightly b f.1 there) t.disjoint
      (and_from (list_all (λ e. is_placed b f.1 e.1) there) (is_emptied_rightly b f.1 there) t.placed t.emptied)))

-- with and without the volumes
abbrev fits_at : Volume → List (ℕ × Segment) → PoolRows → Option ℕ → Type 0
fits_at volume there s class = Fits (is_some class) class (primary_at volume.pool s) there volume

bare_fits : (s : PoolRows) (there : List (ℕ × Segment)) (volume : Volume) → fits_at volume there s (pool_capacity volume.pool s) → fits_at volume there s (pool_capacity volume.pool (without_volumes s))
bare_fits s there volume h = subst (fits_at volume there s) (sym (capacity_kept volume.pool [] s)) h

whole_fits : (s : PoolRows) (there : List (ℕ × Segment)) (volume : Volume) → fits_at volume there s (pool_capacity volume.pool (without_volumes s)) → fits_at volume there s (pool_capacity volume.pool s)
whole_fits s there volume h = subst (fits_at volume there s) (capacity_kept volume.pool [] s) h

pub row_reordered : (s : PoolRows) (today : ℕ) (xs ys : List (ℕ × Segment)) (f : ℕ × Volume) → IsReordered xs ys → IsRow s today xs f → IsRow s today ys f
row_reordered s today xs ys f r h = record {
  cite = h.cite;
  soundly = h.soundly;
  by_today = h.by_today;
  fits = fits_reordered (is_sequential f.1.pool s) (pool_capacity f.1.pool s) (primary_at f.1.pool s) xs ys f.1 r h.fits;
  tied = h.tied ∙ holding-reordered xs ys r;
}

-- ---- all rows

abbrev pub IsRowOf : Inv → (ℕ → List (ℕ × Segment)) → ℕ × Volume → Type 0
IsRowOf v there f = IsRow (without_volumes v.stores) v.today (there f.0) f

module _ (v : Inv) (there : ℕ → List (ℕ × Segment)) where
  rows_from : (rows : List (ℕ × Volume)) → AllByRecursion (λ f. is_some (pool f.1.pool v) ≡ true) rows → AllByRecursion (λ f. is_named_soundly f ≡ true) rows
      → AllByRecursion (λ (f : ℕ × Volume). option_map_or (λ day. nat_le day v.today) f.1.emptied true ≡ true) rows → AllByRecursion (λ f. is_volume_with v (there f.0) f ≡ true) rows
      → AllByRecursion (λ (f : ℕ × Volume). f.1.segments ≡ holding (there f.0)) rows → AllByRecursion (IsRowOf v there) rows
  rows_from [] a b c d e = tt
  rows_from (f ∷ rows) a b c d e = (
    record { cite = a.0; soundly = b.0; by_today = c.0; fits = bare_fits v.stores (there f.0) f.1 (fits_of v (there f.0) f d.0); tied = e.0 },
    rows_from rows a.1 b.1 c.1 d.1 e.1,
  )

pub rows_of : (p : List (ℕ × Segment)) (v : Inv) → VolumeFacts p v → AllByRecursion (IsRowOf v (λ file. lying p file v)) v.stores.volumes
rows_of p v f =
    rows_from v (λ file. lying p file v) v.stores.volumes
    (each_of_all (λ f. is_some (pool f.1.pool v)) v.stores.volumes f.cite)
    (each_of_all is_named_soundly v.stores.volumes f.soundly)
    (each_of_all (λ f. option_map_or (λ day. nat_le day v.today) f.1.emptied true) v.stores.volumes f.by_today)
    (each_of_all (λ f. is_volume_with v (lying p f.0 v) f) v.stores.volumes f.are)
    f.tied

abbrev pub files_of : Inv → List ℕ
files_of v = keys_of v.stores.volumes ++ keys_of v.backups

abbrev pub names_of : Inv → List (List ℕ)
names_of v = map (λ f. f.1.name) v.stores.volumes

pub table_of : (p : List (ℕ × Segment)) (v : Inv) → VolumeFacts p v → IsTable v.next_file (files_of v) (names_of v)
table_of p v f = record { drawn = f.drawn; bounded = f.bounded; apart = f.apart; named = f.names }

pub facts_from : (p : List (ℕ × Segment)) (v : Inv) → IsTable v.next_file (files_of v) (names_of v) → AllByRecursion (IsRowOf v (λ file. lying p file v)) v.stores.volumes → VolumeFacts p v
facts_from p v t rows = record {
  cite = all_of_each (λ f. is_some (pool f.1.pool v)) v.stores.volumes (each_so (IsRowOf v (λ file. lying p file v)) (λ f. is_some (pool f.1.pool v) ≡ true) (λ f r. r.cite) v.stores.volumes rows);
  drawn = t.drawn;
  bounded = t.bounded;
  apart = t.apart;
  names = t.named;
  soundly = all_of_each is_named_soundly v.stores.volumes (each_so (IsRowOf v (λ file. lying p file v)) (λ f. is_named_soundly f ≡ true) (λ f r. r.soundly) v.stores.volumes rows);
  by_today =
      all_of_each (λ f. option_map_or (λ day. nat_le day v.today) f.1.emptied true) v.stores.volumes
      (each_so (IsRowOf v (λ file. lying p file v)) (λ f. option_map_or (λ day. nat_le day v.today) f.1.emptied true ≡ true) (λ f r. r.by_today) v.stores.volumes rows);
  are =
      all_of_each (λ f. is_volume_with v (lying p f.0 v) f) v.stores.volumes
      (each_so (IsRowOf v (λ file. lying p file v)) (λ f. is_volume_with v (lying p f.0 v) f ≡ true) (λ f r. of_fits v (lying p f.0 v) f (whole_fits v.stores (lying p f.0 v) f.1 r.fits)) v.stores.volumes rows);
  tied = each_so (IsRowOf v (λ file. lying p file v)) (λ f. f.1.segments ≡ holding (lying p f.0 v)) (λ f r. r.tied) v.stores.volumes rows;
}
