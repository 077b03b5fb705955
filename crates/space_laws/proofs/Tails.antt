-- A segment behind what is seen of a sequential volume fits there.
use Rattle.std.proofs.Common.{◌≡◌, ℕ, ◌+◌, ◌-◌, ◌≤◌, Bool, true, false, cond, List, [], ◌∷◌, Option, Some, None, refl, sym, ap, subst, ◌∙◌, arith, inl, inr}
use Rattle.std.specs.Prelude.{◌==◌, ◌&&◌, ◌||◌, nat_le, unwrap_or}
use Rattle.std.specs.List.{list_all}
use Rattle.std.specs.Option.{option_map}
use Rattle.std.specs.BTreeMap.{is_at}
use Rattle.std.specs.Ordering.{nat_cmp}
use Rattle.std.proofs.lemmas.Bool.{eq-eqb, le-leb, leb-true, and_parts, cases_eq}
use Rattle.kinds.specs.declared.segment.Segment.{Segment}
use Rattle.entries.specs.change_items.declared.items.MovedCopy.{MovedCopy}
use Rattle.volume_rows.specs.declared.volume.Volume.{Volume}
use Rattle.pool_tables.specs.Rows.{row_at, with_row}
use Rattle.pool_tables.proofs.Ascending.{both}
use Rattle.inventory_rows.specs.pool_rows.PoolRows.{PoolRows, is_sequential, pool_capacity}
use Rattle.inventory_rows.specs.Search.{segments_on}
use Rattle.inventory_rows.specs.State.{Inv}
use Rattle.inventory_rules.specs.Segments.{are_clear, leaves, lies_rightly}
use Rattle.inventory_rules.specs.Valid.{is_placed, is_volume, volumes_are}
use Rattle.inventory_laws.proofs.Rising.{placed_part}
use Rattle.inventory_laws.proofs.ScratchBack.{own_row}
use Rattle.inventory_laws.proofs.Stays.{row_at-inserted_other}
use Rattle.inventory_laws.proofs.StoreRows.{all_there}
use Rattle.space.specs.declared.counted.Counted.{Counted}
use Rattle.space.specs.declared.places.Placed.{Placed}
use Rattle.space.specs.declared.piece.Piece.{Piece}
use Rattle.space.specs.declared.site.Site.{Site}
use Rattle.space.specs.Pieces.{tail_piece}
use Rattle.space.specs.Volumes.{site_of, seen, with_claim, claimed_site, claim, claim_all, drawn_site, sites, has_tail}
use Rattle.space_laws.specs.Fitting.{FitsThere}

-- ---- what is seen of a volume's row

-- it has the row's pool and capacity, and ends no earlier
record Sees (volume : Volume) (site : Site) : Type 0 where
  pool : site.pool ≡ volume.pool
  capacity : site.capacity ≡ volume.capacity
  end : volume.end ≤ site.end

abbrev SeesAt : Volume → Option Site → Type 0
SeesAt volume None = ⊥
SeesAt volume (Some site) = Sees volume site

abbrev AllSeen : List (ℕ × Volume) → List (ℕ × Site) → Type 0
AllSeen volumes sites = (k : ℕ) (volume : Volume) → row_at k volumes ≡ Some volume → SeesAt volume (row_at k sites)

row_at-seen : (k : ℕ) (volumes : List (ℕ × Volume)) → row_at k (seen volumes) ≡ option_map site_of (row_at k volumes)
row_at-seen k [] = refl
row_at-seen k (f ∷ volumes) =
    elim (is_at (nat_cmp k) f.0) as (λ b. cond b (Some (site_of f.1)) (row_at k (seen volumes)) ≡ option_map site_of (cond b (Some f.1) (row_at k volumes))) [ true ↦ refl | false ↦ row_at-seen k volumes ]

seen_first : (volumes : List (ℕ × Volume)) → AllSeen volumes (seen volumes)
seen_first volumes k volume row =
    let e : row_at k (seen volumes) ≡ Some (site_of volume) = row_at-seen k volumes ∙ ap (λ (o : Option Volume). option_map site_of o) row in
    subst (SeesAt volume) (sym e) (record { pool = refl; capacity = refl; end = omega arith })

claimed_sees : (volume : Volume) (segment : Segment) (other : Site) (found : Option Site) → SeesAt volume found → Sees volume (with_claim segment (unwrap_or found other))
claimed_sees volume segment other None sees = absurd sees
claimed_sees volume segment other (Some site) sees = record {
  pool = sees.pool;
  capacity = sees.capacity;
  end = omega (arith, sees.end);
}

claim_sees : (s : PoolRows) (volumes : List (ℕ × Volume)) (p : Placed) (sites : List (ℕ × Site)) → AllSeen volumes sites → AllSeen volumes (claim s p sites)
claim_sees s volumes p sites all k volume row =
    let x : Site = with_claim p.segment (claimed_site s p sites) in
    elim (cases_eq p.segment.file k) [
      | inl same ↦
          let at : row_at k (with_row p.segment.file x sites) ≡ Some x = ap (λ (n : ℕ). row_at n (with_row p.segment.file x sites)) (sym same) ∙ own_row p.segment.file x sites in
          let before : SeesAt volume (row_at p.segment.file sites) = subst (λ (n : ℕ). SeesAt volume (row_at n sites)) (sym same) (all k volume row) in
          subst (SeesAt volume) (sym at) (claimed_sees volume p.segment (drawn_site p.pool (unwrap_or (pool_capacity p.pool s) 0)) (row_at p.segment.file sites) before)
      | inr other ↦ subst (SeesAt volume) (sym (row_at-inserted_other p.segment.file k x sites other)) (all k volume row)
    ]

claims_see : (s : PoolRows) (volumes : List (ℕ × Volume)) (places : List Placed) (sites : List (ℕ × Site)) → AllSeen volumes sites → AllSeen volumes (claim_all s places sites)
claims_see s volumes [] sites all = all
claims_see s volumes (p ∷ places) sites all = claims_see s volumes places (claim s p sites) (claim_sees s volumes p sites all)

sites_see : (s : PoolRows) (c : Counted) → AllSeen s.volumes (sites s c)
sites_see s c = claims_see s s.volumes c.others (claim_all s c.own (seen s.volumes)) (claims_see s s.volumes c.own (seen s.volumes) (seen_first s.volumes))

-- ---- a segment behind it

or_true : (b : Bool) → (b || true) ≡ true
or_true true = refl
or_true false = refl

all_before : (moved : List MovedCopy) (number : ℕ) (a : Segment) (volume : Volume) (xs : List (ℕ × Segment)) → volume.end ≤ a.offset → list_all (λ e. is_placed true volume e.1) xs ≡ true → list_all (λ e. leaves moved number e.0 || are_clear true a e.1) xs ≡ true
all_before moved number a volume [] behind placed = refl
all_before moved number a volume (x ∷ xs) behind placed =
    let parts = and_parts (is_placed true volume x.1) (list_all (λ e. is_placed true volume e.1) xs) placed in
    let ends = and_parts (nat_le (x.1.offset + 32 + x.1.len) volume.end) true parts.0 in
    let le : x.1.offset + 32 + x.1.len ≤ volume.end = leb-true (x.1.offset + 32 + x.1.len) volume.end ends.0 in
    let clear : are_clear true a x.1 ≡ true =
    ap (λ (b : Bool). nat_le (a.offset + 32 + a.len) x.1.offset || b) (le-leb (x.1.offset + 32 + x.1.len) a.offset (omega (arith, le, behind))) ∙ or_true (nat_le (a.offset + 32 + a.len) x.1.offset) in
    both (leaves moved number x.0 || are_clear true a x.1) (list_all (λ e. leaves moved number e.0 || are_clear true a e.1) xs)
    (ap (λ (b : Bool). leaves moved number x.0 || b) clear ∙ or_true (leaves moved number x.0))
    (all_before moved number a volume xs behind parts.1)

some_sees : (volume : Volume) (found : Option Site) (site : Site) → found ≡ Some site → SeesAt volume found → Sees volume site
some_sees volume found site e sees = subst (SeesAt volume) e sees

pub tail_fits : (v : Inv) (c : Counted) (k : ℕ) (volume : Volume) (site : Site) → volumes_are v ≡ true → row_at k v.stores.volumes ≡ Some volume → is_sequential volume.pool v.stores ≡ true → row_at k (sites v.stores c) ≡ Some site → has_tail site ≡ true → FitsThere v volume.pool (tail_piece (k, site))
tail_fits v c k volume site are row sequential seen-at tail moved len fits =
    let a : Segment = record { file = k; offset = site.end; len = len } in
    let sees : Sees volume site = some_sees volume (row_at k (sites v.stores c)) site seen-at (sites_see v.stores c k volume row) in
    let left : 4096 ≤ site.capacity - site.end = leb-true 4096 (site.capacity - site.end) tail in
    let within : site.end + 32 + len ≤ volume.capacity = omega (arith, left, fits, sees.capacity) in
    let whole : is_volume v (k, volume) ≡ true = all_there (is_volume v) k volume v.stores.volumes row are in
    let placed : list_all (λ e. is_placed true volume e.1) (segments_on k v) ≡ true =
    sym (ap (λ (b : Bool). list_all (λ e. is_placed b volume e.1) (segments_on k v)) sequential) ∙ placed_part v k volume whole in
    ap (λ (b : Bool). lies_rightly b volume.pool a (row_at k v.stores.volumes) && list_all (λ e. leaves moved volume.pool e.0 || are_clear b a e.1) (segments_on k v)) sequential
    ∙ ap (λ (o : Option Volume). lies_rightly true volume.pool a o && list_all (λ e. leaves moved volume.pool e.0 || are_clear true a e.1) (segments_on k v)) row
    ∙ both (lies_rightly true volume.pool a (Some volume)) (list_all (λ e. leaves moved volume.pool e.0 || are_clear true a e.1) (segments_on k v))
    (both (volume.pool == volume.pool) (nat_le (site.end + 32 + len) volume.capacity && true) (eq-eqb volume.pool volume.pool refl)
    (both (nat_le (site.end + 32 + len) volume.capacity) true (le-leb (site.end + 32 + len) volume.capacity within) refl))
    (all_before moved volume.pool a volume (segments_on k v) sees.end placed)

abbrev piece_of : ℕ → ℕ → ℕ → Piece
piece_of file end room = record { file = file; offset = end; room = room - 32 }

-- the same at the beginning of a volume on which nothing was written
pub new_fits : (v : Inv) (file : ℕ) (volume : Volume) → volumes_are v ≡ true → row_at file v.stores.volumes ≡ Some volume → is_sequential volume.pool v.stores ≡ true → volume.end ≡ 0 → 4096 ≤ volume.capacity
    → FitsThere v volume.pool (record { file = file; offset = 0; room = volume.capacity - 32 })
new_fits v file volume are row sequential bare large =
    let nothing : Counted = record { own = []; others = []; freed = [] } in
    let seen-at : row_at file (seen v.stores.volumes) ≡ Some (site_of volume) = row_at-seen file v.stores.volumes ∙ ap (λ (o : Option Volume). option_map site_of o) row in
    let left : volume.capacity - volume.end ≡ volume.capacity = omega (arith, bare) in
    let tail : has_tail (site_of volume) ≡ true = le-leb 4096 (volume.capacity - volume.end) (omega (arith, large, left)) in
    subst (λ (p : Piece). FitsThere v volume.pool p) (ap (λ (n : ℕ). piece_of file n (volume.capacity - volume.end)) bare ∙ ap (λ (n : ℕ). piece_of file 0 n) left)
    (tail_fits v nothing file volume (site_of volume) are row sequential seen-at tail)
