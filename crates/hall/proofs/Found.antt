-- The free space that placing finds, piece by piece.
use Rattle.std.proofs.Common.{◌≡◌, ◌⊎◌, inl, inr, ℕ, suc, zero, ◌+◌, ◌-◌, ◌<◌, ◌≤◌, Bool, true, false, cond, not, ◌&&◌, List, [], ◌∷◌, ◌++◌, map, Option, Some, None, refl, sym, ap, subst, ◌∙◌, arith}
use Rattle.std.specs.Prelude.{◌==◌, IfSome, if◌then◌else◌, nat_le, unwrap_or}
use Rattle.std.specs.BTreeMap.{is_at}
use Rattle.std.specs.Cmp.{nat_cmp_total}
use Rattle.std.specs.List.{AllByRecursion, flat_map}
use Rattle.std.specs.List.Sorted.{IsStrictlySortedBy}
use Rattle.std.specs.Map.{keys_of}
use Rattle.std.specs.Ordering.{match_ordering, nat_cmp}
use Rattle.std.specs.declared.cmp.Ordering.TheVariants.{Less, Equal, Greater}
use Rattle.std.proofs.lemmas.Bool.{and_parts, cases_eq, eqb-false, eqb-true, leb-true, not-true}
use Rattle.std.proofs.lemmas.Map.Keys.{sorted_head, sorted_tail}
use Rattle.extent_map.specs.declared.extents.Run.{Run}
use Rattle.extent_map.specs.Blocks.{free_runs}
use Rattle.extent_map.proofs.FreeRuns.{HaveBlocks, HaveBlocks-free_runs}
use Rattle.inventory_rows.specs.volume_rows.declared.volume.Volume.{Volume}
use Rattle.inventory_rows.specs.pool_rows.PoolRows.{PoolRows, pool_capacity}
use Rattle.inventory_rows.specs.pool_tables.Rows.{row_at, with_row}
use Rattle.inventory_rows.proofs.of_policy_domains.Sorted.{sorted-insert}
use Rattle.inventory_rows.proofs.of_pool_tables.Counting.{apart_at}
use Rattle.inventory_laws.proofs.Lists.{each_both}
use Rattle.inventory_laws.proofs.ScratchBack.{own_row}
use Rattle.inventory_laws.proofs.Stays.{row_at-inserted_other}
use Rattle.inventory_laws.proofs.StoreRows.{nat_itself}
use Rattle.space.specs.declared.counted.Counted.{Counted}
use Rattle.space.specs.declared.piece.Piece.{Piece}
use Rattle.space.specs.declared.places.Placed.{Placed}
use Rattle.space.specs.declared.site.Site.{Site}
use Rattle.space.specs.declared.turn.Turn.{Turn}
use Rattle.space.specs.declared.turn.Turn.TheVariants.{Empty, Filling, Preferred}
use Rattle.space.specs.Lawful.{IsFree}
use Rattle.space.specs.Pieces.{cut, filled, free_pieces, is_in_turn, open_pieces, other_pieces, pieces, pieces_by, preferred_pieces, random_pieces, run_piece, scratch_left, scratch_pieces, sequential_pieces, tail_in, tail_piece, tails, tails_in, used_on}
use Rattle.space.specs.Volumes.{claim, claim_all, claimed_site, drawn_site, has_tail, is_held, is_open, is_writable, seen, site_of, sites, with_claim}
use Rattle.space.proofs.Free.{pieces_free}
use Rattle.hall.proofs.Apart.{both_joined}

-- ---- rows by number

-- where numbers ascend each row is found under its own
pub each_found : {V : Type 0} (rows : List (ℕ × V)) → IsStrictlySortedBy nat_cmp (keys_of rows) → AllByRecursion (λ f. row_at f.0 rows ≡ Some f.1) rows
each_found [] sorted = tt
each_found {V} (e ∷ rows) sorted = (
  ap (λ b. cond b (Some e.1) (row_at e.0 rows)) (nat_itself e.0),
  each_both (λ f. nat_cmp e.0 f.0 ≡ Less) (λ f. row_at f.0 rows ≡ Some f.1) (λ f. row_at f.0 (e ∷ rows) ≡ Some f.1) rows
      (λ f above at. ap (λ b. cond b (Some e.1) (row_at f.0 rows)) (apart_at f.0 e.0 (λ same. less_apart e.0 f.0 above (sym same))) ∙ at)
      (by_key rows (sorted_head nat_cmp e.0 (keys_of rows) sorted)) (each_found rows (sorted_tail nat_cmp e.0 (keys_of rows) sorted)),
)
  where
    less_apart : (a b : ℕ) → nat_cmp a b ≡ Less → a ≡ b → ⊥
    less_apart a b less same = grind (arith, less, same)

    by_key : (es : List (ℕ × V)) → AllByRecursion (λ k. nat_cmp e.0 k ≡ Less) (keys_of es) → AllByRecursion (λ f. nat_cmp e.0 f.0 ≡ Less) es
    by_key [] all = tt
    by_key (x ∷ es) all = (all.0, by_key es all.1)

pub keys_more : {V : Type 0} (P : ℕ → Type 0) (k : ℕ) (x : V) (rows : List (ℕ × V)) → P k → AllByRecursion P (keys_of rows) → AllByRecursion P (keys_of (with_row k x rows))
keys_more P k x [] new all = (new, tt)
keys_more P k x (e ∷ rows) new all =
    elim (nat_cmp k e.0) as (λ o. AllByRecursion P (keys_of (match_ordering o ((k, x) ∷ e ∷ rows) ((e.0, x) ∷ rows) (e ∷ with_row k x rows)))) [
      | Less ↦ (new, all)
      | Equal ↦ all
      | Greater ↦ (all.0, keys_more P k x rows new all.1)
    ]

-- ---- volumes as they are seen

sorted_seen : (volumes : List (ℕ × Volume)) → keys_of (seen volumes) ≡ keys_of volumes
sorted_seen [] = refl
sorted_seen (f ∷ volumes) = ap (λ (l : List ℕ). f.0 ∷ l) (sorted_seen volumes)

sorted_claims : (s : PoolRows) (places : List Placed) (volumes : List (ℕ × Site)) → IsStrictlySortedBy nat_cmp (keys_of volumes) → IsStrictlySortedBy nat_cmp (keys_of (claim_all s places volumes))
sorted_claims s [] volumes sorted = sorted
sorted_claims s (p ∷ places) volumes sorted =
    sorted_claims s places (claim s p volumes) (sorted-insert nat_cmp_total p.segment.file (with_claim p.segment (claimed_site s p volumes)) volumes sorted)

pub sorted_sites : (s : PoolRows) (c : Counted) → IsStrictlySortedBy nat_cmp (keys_of s.volumes) → IsStrictlySortedBy nat_cmp (keys_of (sites s c))
sorted_sites s c sorted =
    sorted_claims s c.others (claim_all s c.own (seen s.volumes))
    (sorted_claims s c.own (seen s.volumes) (subst (λ (l : List ℕ). IsStrictlySortedBy nat_cmp l) (sym (sorted_seen s.volumes)) sorted))

module _ (P : ℕ → Type 0) (s : PoolRows) where
  keys_claims : (places : List Placed) (volumes : List (ℕ × Site)) → AllByRecursion (λ p. P p.segment.file) places → AllByRecursion P (keys_of volumes) → AllByRecursion P (keys_of (claim_all s places volumes))
  keys_claims [] volumes on all = all
  keys_claims (p ∷ places) volumes on all =
      keys_claims places (claim s p volumes) on.1 (keys_more P p.segment.file (with_claim p.segment (claimed_site s p volumes)) volumes on.0 all)

  -- what holds of the files of the volumes and of the places holds of those that are seen
  pub keys_sites : (c : Counted) → AllByRecursion (λ p. P p.segment.file) c.own → AllByRecursion (λ p. P p.segment.file) c.others → AllByRecursion P (keys_of s.volumes) → AllByRecursion P (keys_of (sites s c))
  keys_sites c own others all =
      keys_claims c.others (claim_all s c.own (seen s.volumes)) others
      (keys_claims c.own (seen s.volumes) own (subst (λ (l : List ℕ). AllByRecursion P l) (sym (sorted_seen s.volumes)) all))

-- the volume, as it is seen, is of this pool and ends no earlier
abbrev pub SiteIn : (number end : ℕ) → Option Site → Type 0
SiteIn number end None = end ≤ 0
SiteIn number end (Some site) = (site.pool ≡ number) × (end ≤ site.end)

abbrev pub OfPool : (number file : ℕ) → Placed → Type 0
OfPool number file p = p.segment.file ≡ file → p.pool ≡ number

module _ (number end file : ℕ) (s : PoolRows) where
  claimed_in : (p : Placed) (o : Option Site) → p.pool ≡ number → SiteIn number end o → SiteIn number end (Some (with_claim p.segment (unwrap_or o (drawn_site p.pool (unwrap_or (pool_capacity p.pool s) 0)))))
  claimed_in p None is in_ = (is, omega (arith, in_))
  claimed_in p (Some site) is in_ = (in_.0, omega (arith, in_.1))

  claim_in : (p : Placed) (volumes : List (ℕ × Site)) → OfPool number file p → SiteIn number end (row_at file volumes) → SiteIn number end (row_at file (claim s p volumes))
  claim_in p volumes of there =
      let x : Site = with_claim p.segment (claimed_site s p volumes) in
      elim (cases_eq p.segment.file file) [
        | inl same ↦
            let at : row_at file (with_row p.segment.file x volumes) ≡ Some x = ap (λ (n : ℕ). row_at n (with_row p.segment.file x volumes)) (sym same) ∙ own_row p.segment.file x volumes in
            let before : SiteIn number end (row_at p.segment.file volumes) = subst (λ (n : ℕ). SiteIn number end (row_at n volumes)) (sym same) there in
            subst (SiteIn number end) (sym at) (claimed_in p (row_at p.segment.file volumes) (of same) before)
        | inr other ↦ subst (SiteIn number end) (sym (row_at-inserted_other p.segment.file file x volumes other)) there
      ]

  claims_in : (places : List Placed) (volumes : List (ℕ × Site)) → AllByRecursion (OfPool number file) places → SiteIn number end (row_at file volumes) → SiteIn number end (row_at file (claim_all s places volumes))
  claims_in [] volumes of there = there
  claims_in (p ∷ places) volumes of there = claims_in places (claim s p volumes) of.1 (claim_in p volumes of.0 there)

  abbrev pub VolumeIn : Option Volume → Type 0
  VolumeIn None = end ≤ 0
  VolumeIn (Some volume) = (volume.pool ≡ number) × (end ≤ volume.end)

  seen_in : (volumes : List (ℕ × Volume)) → VolumeIn (row_at file volumes) → SiteIn number end (row_at file (seen volumes))
  seen_in [] there = there
  seen_in (f ∷ volumes) there =
      elim (is_at (nat_cmp file) f.0) as (λ b. VolumeIn (cond b (Some f.1) (row_at file volumes)) → SiteIn number end (cond b (Some (site_of f.1)) (row_at file (seen volumes)))) [
        | true ↦ λ h. h
        | false ↦ λ h. seen_in volumes h
      ] there

  pub site_in : (c : Counted) → AllByRecursion (OfPool number file) c.own → AllByRecursion (OfPool number file) c.others → VolumeIn (row_at file s.volumes) → SiteIn number end (row_at file (sites s c))
  site_in c own others there = claims_in c.others (claim_all s c.own (seen s.volumes)) others (claims_in c.own (seen s.volumes) own (seen_in s.volumes there))

-- ---- pieces

-- free blocks on a volume of random access
pub record IsRandom (number : ℕ) (c : Counted) (s : PoolRows) (p : Piece) : Type 0 where
  pub volume : Volume
  pub row : row_at p.file s.volumes ≡ Some volume
  pub pool : volume.pool ≡ number
  pub free : IsFree c (p.file, volume) p

-- the space behind the end of a sequential volume on which no other actor has any
pub record IsTail (number : ℕ) (c : Counted) (s : PoolRows) (p : Piece) : Type 0 where
  pub site : Site
  pub row : row_at p.file (sites s c) ≡ Some site
  pub pool : site.pool ≡ number
  pub unheld : is_held p.file c.others ≡ false
  pub begins : p.offset ≡ site.end

-- a new scratch volume
pub record IsScratch (next_file : ℕ) (p : Piece) : Type 0 where
  pub drawn : next_file ≤ p.file
  pub begins : p.offset ≡ 0

abbrev pub IsFound : Option ℕ → (number next_file : ℕ) → Counted → PoolRows → Piece → Type 0
IsFound None number next_file c s p = IsRandom number c s p
IsFound (Some capacity) number next_file c s p = IsTail number c s p ⊎ IsScratch next_file p

-- with room in it
pub record HasRoom (P : Piece → Type 0) (p : Piece) : Type 0 where
  pub is : P p
  pub some : 0 < p.room

module _ {V : Type 0} (P : Piece → Type 0) (all : List (ℕ × V)) (g : ℕ × V → List Piece) (each : (f : ℕ × V) → row_at f.0 all ≡ Some f.1 → AllByRecursion P (g f)) where
  of_rows : (rows : List (ℕ × V)) → AllByRecursion (λ f. row_at f.0 all ≡ Some f.1) rows → AllByRecursion P (flat_map g rows)
  of_rows [] found = tt
  of_rows (f ∷ rows) found = both_joined P (g f) (flat_map g rows) (each f found.0) (of_rows rows found.1)

rooms : (file : ℕ) (runs : List Run) → HaveBlocks runs → AllByRecursion (λ p. 0 < p.room) (map (run_piece file) runs)
rooms file [] have = tt
rooms file (r ∷ runs) have = (omega (arith, have.0), rooms file runs have.1)

module _ (number prefer avoid : ℕ) (c : Counted) (s : PoolRows) where
  abbrev Random : Piece → Type 0
  Random p = HasRoom (IsRandom number c s) p

  random_open : (f : ℕ × Volume) → row_at f.0 s.volumes ≡ Some f.1 → AllByRecursion Random (open_pieces number avoid c f)
  random_open f row =
      elim (is_open number avoid (f.0, site_of f.1)) as (λ b. is_open number avoid (f.0, site_of f.1) ≡ b → AllByRecursion Random (if b then free_pieces c f else [])) [
        | true ↦ λ is.
            let t = and_parts (f.1.pool == number) (is_writable f.1.access && not (f.0 == avoid)) is in
            each_both (IsFree c f) (λ p. 0 < p.room) Random (free_pieces c f)
            (λ p free some. record {
              is = record {
                volume = f.1;
                row = ap (λ (n : ℕ). row_at n s.volumes) free.on ∙ row;
                pool = eqb-true f.1.pool number t.0;
                free = subst (λ (n : ℕ). IsFree c (n, f.1) p) (sym free.on) free;
              };
              some = some;
            })
            (pieces_free c f) (rooms f.0 (free_runs (used_on c f)) (HaveBlocks-free_runs 0 (used_on c f)))
        | false ↦ λ isnt. tt
      ] refl

  random_preferred : (f : ℕ × Volume) → row_at f.0 s.volumes ≡ Some f.1 → AllByRecursion Random (preferred_pieces number prefer avoid c f)
  random_preferred f row = elim (f.0 == prefer) as (λ b. AllByRecursion Random (if b then open_pieces number avoid c f else [])) [ true ↦ random_open f row | false ↦ tt ]

  random_other : (f : ℕ × Volume) → row_at f.0 s.volumes ≡ Some f.1 → AllByRecursion Random (other_pieces number prefer avoid c f)
  random_other f row = elim (f.0 == prefer) as (λ b. AllByRecursion Random (if b then [] else open_pieces number avoid c f)) [ true ↦ tt | false ↦ random_open f row ]

  random_found : IsStrictlySortedBy nat_cmp (keys_of s.volumes) → AllByRecursion Random (random_pieces number prefer avoid c s)
  random_found sorted =
      both_joined Random (flat_map (preferred_pieces number prefer avoid c) s.volumes) (flat_map (other_pieces number prefer avoid c) s.volumes)
      (of_rows Random s.volumes (preferred_pieces number prefer avoid c) random_preferred s.volumes (each_found s.volumes sorted))
      (of_rows Random s.volumes (other_pieces number prefer avoid c) random_other s.volumes (each_found s.volumes sorted))

  module _ (next_file : ℕ) where
    abbrev Sequential : Piece → Type 0
    Sequential p = HasRoom (λ q. IsTail number c s q ⊎ IsScratch next_file q) p

    tail_found : (turn : Turn) (f : ℕ × Site) → row_at f.0 (sites s c) ≡ Some f.1 → AllByRecursion Sequential (tail_in turn number prefer avoid c.others f)
    tail_found turn f row = go (is_open number avoid f && (not (is_held f.0 c.others) && (is_in_turn turn prefer f && has_tail f.1))) refl where
      go : (b : Bool) → (is_open number avoid f && (not (is_held f.0 c.others) && (is_in_turn turn prefer f && has_tail f.1))) ≡ b → AllByRecursion Sequential (if b then tail_piece f ∷ [] else [])
      go false isnt = tt
      go true is =
          let t = and_parts (is_open number avoid f) (not (is_held f.0 c.others) && (is_in_turn turn prefer f && has_tail f.1)) is in
          let u = and_parts (not (is_held f.0 c.others)) (is_in_turn turn prefer f && has_tail f.1) t.1 in
          let w = and_parts (is_in_turn turn prefer f) (has_tail f.1) u.1 in
          let o = and_parts (f.1.pool == number) (f.1.is_writable && not (f.0 == avoid)) t.0 in
          let left : 4096 ≤ f.1.capacity - f.1.end = leb-true 4096 (f.1.capacity - f.1.end) w.1 in
          (record { is = inl (record { site = f.1; row = row; pool = eqb-true f.1.pool number o.0; unheld = not-true (is_held f.0 c.others) u.0; begins = refl }); some = omega (arith, left) }, tt)

    scratch_found : (capacity count file : ℕ) → 4096 ≤ capacity → next_file ≤ file → AllByRecursion Sequential (scratch_pieces capacity count file)
    scratch_found capacity zero file large drawn = tt
    scratch_found capacity (suc count) file large drawn =
        (record { is = inr (record { drawn = drawn; begins = refl }); some = omega (arith, large) }, scratch_found capacity count (file + 1) large (omega (arith, drawn)))

    sequential_found : (capacity : ℕ) → IsStrictlySortedBy nat_cmp (keys_of s.volumes) → 4096 ≤ capacity → AllByRecursion Sequential (sequential_pieces number capacity prefer avoid next_file c s)
    sequential_found capacity sorted large =
        let all : List (ℕ × Site) = sites s c in
        let rows : AllByRecursion (λ (f : ℕ × Site). row_at f.0 all ≡ Some f.1) all = each_found all (sorted_sites s c sorted) in
        let turn : (t : Turn) → AllByRecursion Sequential (tails_in t number prefer avoid c.others all) = λ t. of_rows Sequential all (tail_in t number prefer avoid c.others) (tail_found t) all rows in
        both_joined Sequential (tails number prefer avoid c.others all) (scratch_pieces capacity (scratch_left number s all) next_file)
        (both_joined Sequential (tails_in Preferred number prefer avoid c.others all ++ tails_in Filling number prefer avoid c.others all) (tails_in Empty number prefer avoid c.others all)
        (both_joined Sequential (tails_in Preferred number prefer avoid c.others all) (tails_in Filling number prefer avoid c.others all) (turn Preferred) (turn Filling)) (turn Empty))
        (scratch_found capacity (scratch_left number s all) next_file large (omega arith))

    pieces_found : (o : Option ℕ) → IsStrictlySortedBy nat_cmp (keys_of s.volumes) → IfSome o (λ capacity. 4096 ≤ capacity)
        → AllByRecursion (HasRoom (IsFound o number next_file c s)) (pieces_by o number prefer avoid next_file c s)
    pieces_found None sorted large = random_found sorted
    pieces_found (Some capacity) sorted large = sequential_found capacity sorted large

-- ---- what is filled of them

-- a piece is the front of such a one, and not empty
pub record IsCut (P : Piece → Type 0) (q : Piece) : Type 0 where
  pub piece : Piece
  pub is : P piece
  pub front : q ≡ cut piece q.room
  pub within : q.room ≤ piece.room
  pub some : 0 < q.room

module _ (P : Piece → Type 0) where
  pub filled_cuts : (size : ℕ) (free : List Piece) → AllByRecursion (HasRoom P) free → AllByRecursion (IsCut P) (filled size free)
  filled_cuts size [] all = tt
  filled_cuts size (p ∷ free) all =
      elim (size == 0) as (λ b. (size == 0) ≡ b → AllByRecursion (IsCut P) (if b then [] else if nat_le size p.room then cut p size ∷ [] else p ∷ filled (size - p.room) free)) [
        | true ↦ λ none. tt
        | false ↦ λ some. elim (nat_le size p.room) as (λ b. nat_le size p.room ≡ b → AllByRecursion (IsCut P) (if b then cut p size ∷ [] else p ∷ filled (size - p.room) free)) [
          | true ↦ λ fits.
              (record { piece = p; is = all.0.is; front = refl; within = leb-true size p.room fits; some = let ne : size ≡ 0 → ⊥ = eqb-false size 0 some in omega (arith, ne) }, tt)
          | false ↦ λ more. (record { piece = p; is = all.0.is; front = refl; within = omega arith; some = all.0.some }, filled_cuts (size - p.room) free all.1)
        ] refl
      ] refl

-- what is found in a pool for so many bytes
pub cuts_found : (size number prefer avoid next_file : ℕ) (c : Counted) (s : PoolRows) → IsStrictlySortedBy nat_cmp (keys_of s.volumes) → IfSome (pool_capacity number s) (λ capacity. 4096 ≤ capacity)
    → AllByRecursion (IsCut (IsFound (pool_capacity number s) number next_file c s)) (filled size (pieces number prefer avoid next_file c s))
cuts_found size number prefer avoid next_file c s sorted large =
    filled_cuts (IsFound (pool_capacity number s) number next_file c s) size (pieces number prefer avoid next_file c s) (pieces_found number prefer avoid c s next_file (pool_capacity number s) sorted large)
